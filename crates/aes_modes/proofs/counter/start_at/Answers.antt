use Rattle.std.proofs.Common.{◌∙◌, List, ℕ, subst, arith}
use Rattle.aes_core.specs.Shared.{IsSharedStart}
use Rattle.aes_modes.proofs.CounterLemmas.{counter_block_below}
use Rattle.aes_modes.proofs.counter.start_at.Goals as goal

pub returns : goal.returns
returns c =
    let e = c.block_of_number.ensures ∙ counter_block_below c.args.counter (omega arith) in
    subst (λ (b : List ℕ). IsSharedStart c.args.key.now b c.shared_start.result) e c.shared_start.ensures
