-- An answer that is given without a read.
use Rattle.std.proofs.Common.{ℕ, Option, None, Some}
use Rattle.store_api.specs.declared.answer.StoreAnswer.{StoreAnswer}
use Rattle.store_api.specs.declared.answer.StoreAnswer.TheVariants as answers
use Rattle.store_api.specs.Volumes.{VolumeKeeper}
use Rattle.region_plan.specs.Plans.{IsDecided}
use Rattle.region_plan.specs.Reading.{IfGarbled, ReadsOnly}
use Rattle.region_plan.proofs.ReadLemmas.{reads_no_memory, reads_not_found, reads_refused}

pub decided_told : (why : Option StoreAnswer) (P : ℕ → Type 0) → IsDecided why → IfGarbled why P
decided_told None P decided = tt
decided_told (Some answers.NotFound) P decided = tt
decided_told (Some answers.Exists) P decided = tt
decided_told (Some answers.NoSpace) P decided = tt
decided_told (Some answers.Lost) P decided = tt
decided_told (Some answers.Failed) P decided = tt
decided_told (Some (answers.Corrupt tags)) P decided = tt
decided_told (Some (answers.Garbled leaf)) P decided = absurd decided
decided_told (Some answers.NoMemory) P decided = tt

module _ {S : Type 0} (K : VolumeKeeper S) (region : S → ℕ) where
  -- a run of reads behind which an answer is given without one
  pub decided_reads : (why : Option StoreAnswer) (old new : S) → IsDecided why → ReadsOnly K region None old new → ReadsOnly K region why old new
  decided_reads None old new decided run = run
  decided_reads (Some answers.NotFound) old new decided run = reads_not_found K region old new run
  decided_reads (Some answers.Exists) old new decided run = reads_refused K region (Some answers.Exists) old new (λ c. c) (λ P. tt) (λ P p. p) run
  decided_reads (Some answers.NoSpace) old new decided run = reads_refused K region (Some answers.NoSpace) old new (λ c. c) (λ P. tt) (λ P p. p) run
  decided_reads (Some answers.Lost) old new decided run = absurd decided
  decided_reads (Some answers.Failed) old new decided run = absurd decided
  decided_reads (Some (answers.Corrupt tags)) old new decided run = absurd decided
  decided_reads (Some (answers.Garbled leaf)) old new decided run = absurd decided
  decided_reads (Some answers.NoMemory) old new decided run = reads_no_memory K region old new run
