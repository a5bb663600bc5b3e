-- Blocks that are left alone, by one call and by one run of calls after another.
use Rattle.std.proofs.Common.{◌≡◌, ◌≢◌, ◌<◌, ◌+◌, ◌%◌, ◌==◌, ◌∙◌, ℕ, Bool, not, true, false, List, refl, sym, ap, subst, ⊎_elim, arith}
use Rattle.std.proofs.lemmas.Bool.{cases_eq}
use Rattle.tee_base.proofs.Crash.{joined, weaker}
use Rattle.board.specs.Moment.{IsConsistent, View, left_since, moment}
use Rattle.board.specs.Runs.{LeavesBase, RunsOver}
use Rattle.board.specs.Steps.{Answered, SameBlocks, Synced, Wrote}
use Rattle.board.proofs.Runs.{goes_on, run_starts, starts}
use Rattle.epoch.specs.Alone.{LeavesAlone}
use Rattle.epoch.specs.Gates.{gate_at, header_at}
use Rattle.epoch.specs.Reading.{OnlyReads}
use Rattle.epoch.proofs.CommitStages.{Carries, OpensGate, OpensHeader}

at : {A : Type 0} {f g : ℕ → A} → f ≡ g → (k : ℕ) → f k ≡ g k
at {A} same k = ap (λ (h : ℕ → A). h k) same

-- all blocks but this
abbrev pub all_but : ℕ → ℕ → Bool
all_but k block = not (block == k)

pub but_other : (k block : ℕ) → k ≢ block → all_but k block ≡ true
but_other k block ne = let t : (block == k) ≡ false = grind arith in rw t refl

but_itself : (k block : ℕ) → all_but k block ≡ false → block ≡ k
but_itself k block shut =
    ⊎_elim
    (λ (e : block ≡ k). e)
    (λ (ne : block ≢ k). absurd (let t : all_but k block ≡ true = but_other k block (λ e. ne (sym e)) in let f : true ≡ false = sym t ∙ shut in cc))
    (cases_eq block k)

-- a gate and a header stand in the slots
pub before_gate : (slot k : ℕ) → slot < 2 → 3 < k → k ≢ gate_at slot
before_gate slot k below behind = λ e. absurd (omega arith)

pub before_header : (slot k : ℕ) → slot < 2 → 3 < k → k ≢ header_at slot
before_header slot k below behind = λ e. absurd (omega arith)

module _ (P : ℕ → Type 0) where
  -- no call
  pub alone_none : (v : View) → IsConsistent v → LeavesAlone P v v
  alone_none v whole = record {
    reads = λ k is. refl;
    pending = λ k is none. none;
    crash = λ k is none. starts v (λ c. c.image k ≡ v.state.reads k) (λ c left. left.kept k none ∙ sym (whole.as_read k none));
  }

  -- one run after another
  pub alone_more : (old mid new : View) → LeavesAlone P old mid → LeavesAlone P mid new → LeavesAlone P old new
  alone_more old mid new one two = record {
    reads = λ k is. two.reads k is ∙ one.reads k is;
    pending = λ k is none. two.pending k is (one.pending k is none);
    crash = λ k is none.
        joined moment left_since old mid new (λ c. c.image k ≡ old.state.reads k) (one.crash k is none)
        (weaker moment left_since mid new (λ c. c.image k ≡ mid.state.reads k) (λ c. c.image k ≡ old.state.reads k) (λ c same. same ∙ one.reads k is)
        (two.crash k is (one.pending k is none)));
  }

  -- one call
  pub alone_once : (old new : View) → IsConsistent old → Answered old new → ((k : ℕ) → P k → new.state.reads k ≡ old.state.reads k)
      → ((k : ℕ) → P k → old.state.pending k ≡ false → (new.state.pending k ≡ false) × (new.state.durable k ≡ old.state.reads k))
      → LeavesAlone P old new
  alone_once old new whole answered reads settled = record {
    reads = reads;
    pending = λ k is none. (settled k is none).0;
    crash = λ k is none.
        goes_on old old new (λ c. c.image k ≡ old.state.reads k) ((alone_none old whole).crash k is none) answered.time
        (λ c left. left.kept k (settled k is none).0 ∙ (settled k is none).1);
  }

  pub alone_wrote : (block : ℕ) (bytes : List ℕ) (ok : Bool) (old new : View) → IsConsistent old → Answered old new → ((k : ℕ) → P k → k ≢ block)
      → Wrote block bytes ok old.state new.state → LeavesAlone P old new
  alone_wrote block bytes ok old new whole answered other wrote =
      alone_once old new whole answered (λ k is. wrote.elsewhere k (other k is))
      (λ k is none. (wrote.pending k (other k is) ∙ none, at wrote.durable k ∙ sym (whole.as_read k none)))

  pub alone_synced : (ok : Bool) (old new : View) → IsConsistent old → Answered old new → Synced ok old.state new.state → LeavesAlone P old new
  alone_synced true old new whole answered synced =
      alone_once old new whole answered (λ k is. at synced.reads k) (λ k is none. (synced.settled refl k, synced.durable refl k))
  alone_synced false old new whole answered synced =
      alone_once old new whole answered (λ k is. at synced.reads k)
      (λ k is none. (at (synced.failed_pending refl) k ∙ none, at (synced.failed_durable refl) k ∙ sym (whole.as_read k none)))

  pub alone_blocks : (old new : View) → IsConsistent old → Answered old new → SameBlocks old.state new.state → LeavesAlone P old new
  alone_blocks old new whole answered same =
      alone_once old new whole answered (λ k is. at same.reads k) (λ k is none. (at same.pending k ∙ none, at same.durable k ∙ sym (whole.as_read k none)))

  -- a run that goes on with all blocks open but one, whichever of these it is
  pub alone_run : (Opens : (ℕ → Bool) → Type 0) (old new : View) → IsConsistent old → ((k : ℕ) → P k → Opens (all_but k))
      → ((k : ℕ) → P k → new.state.reads k ≡ old.state.reads k)
      → ((open_at : ℕ → Bool) (base : ℕ → List ℕ) (low high : ℕ) (first : View) → Opens open_at → RunsOver open_at base low high first old → RunsOver open_at base low high first new)
      → LeavesAlone P old new
  alone_run Opens old new whole opens reads goes = record {
    reads = reads;
    pending = λ k is none. (run k is none).now.pending k (shut k);
    crash = λ k is none.
        weaker moment left_since old new (LeavesBase (all_but k) old.state.reads old.state.counter (old.state.counter + old.state.slack)) (λ c. c.image k ≡ old.state.reads k)
        (λ c leaves. leaves.image k (shut k)) (run k is none).leaves;
  } where
    shut : (k : ℕ) → all_but k k ≡ false
    shut k = let t : (k == k) ≡ true = grind arith in rw t refl

    run : (k : ℕ) → P k → old.state.pending k ≡ false → RunsOver (all_but k) old.state.reads old.state.counter (old.state.counter + old.state.slack) old new
    run k is none =
        goes (all_but k) old.state.reads old.state.counter (old.state.counter + old.state.slack) old (opens k is)
        (run_starts (all_but k) old.state.reads old.state.counter (old.state.counter + old.state.slack) old (record {
          reads = λ j same. refl;
          durable = λ j same. sym (whole.as_read j (subst (λ (i : ℕ). old.state.pending i ≡ false) (sym (but_itself k j same)) none));
          pending = λ j same. subst (λ (i : ℕ). old.state.pending i ≡ false) (sym (but_itself k j same)) none;
          least = omega arith;
          greatest = omega arith;
        }))

  -- calls that write no block
  pub alone_still : (old new : View) → IsConsistent old → SameBlocks old.state new.state
      → ((open_at : ℕ → Bool) (base : ℕ → List ℕ) (low high : ℕ) (first : View) → RunsOver open_at base low high first old → RunsOver open_at base low high first new)
      → LeavesAlone P old new
  alone_still old new whole same goes =
      alone_run (λ open_at. Unit {0}) old new whole (λ k is. tt) (λ k is. at same.reads k) (λ open_at base low high first opens run. goes open_at base low high first run)

  -- calls that only read
  pub alone_read : (old new : View) → IsConsistent old → OnlyReads old new → LeavesAlone P old new
  alone_read old new whole only =
      alone_run (λ open_at. Unit {0}) old new whole (λ k is. tt) (λ k is. at only.state.reads k) (λ open_at base low high first opens run. only.run open_at base low high first run)

-- fewer blocks
pub alone_fewer : (P Q : ℕ → Type 0) (old new : View) → ((k : ℕ) → Q k → P k) → LeavesAlone P old new → LeavesAlone Q old new
alone_fewer P Q old new among alone = record {
  reads = λ k is. alone.reads k (among k is);
  pending = λ k is none. alone.pending k (among k is) none;
  crash = λ k is none. alone.crash k (among k is) none;
}

-- behind the slots, over the steps of a commit
module _ (U : ℕ → Type 0) where
  abbrev Behind : ℕ → Type 0
  Behind k = (3 < k) × U k

  pub shut_alone : (slot : ℕ) (old new : View) → slot < 2 → IsConsistent old → ((k : ℕ) → k ≢ gate_at slot → new.state.reads k ≡ old.state.reads k)
      → Carries (OpensGate slot old) old new → LeavesAlone (λ k. (3 < k) × U k) old new
  shut_alone slot old new below whole elsewhere goes =
      alone_run Behind (OpensGate slot old) old new whole (λ k is opened. but_other k (gate_at slot) (before_gate slot k below is.0)) (λ k is. elsewhere k (before_gate slot k below is.0)) goes

  pub written_alone : (old mid new : View) → LeavesAlone (λ k. (3 < k) × U k) old mid → LeavesAlone U mid new → LeavesAlone (λ k. (3 < k) × U k) old new
  written_alone old mid new one two = alone_more Behind old mid new one (alone_fewer U Behind mid new (λ k is. is.1) two)

  pub laid_alone : (sequence : ℕ) (old mid new : View) → LeavesAlone (λ k. (3 < k) × U k) old mid → IsConsistent mid
      → ((k : ℕ) → k ≢ header_at (sequence % 2) → new.state.reads k ≡ mid.state.reads k) → Carries (OpensHeader (sequence % 2)) mid new → LeavesAlone (λ k. (3 < k) × U k) old new
  laid_alone sequence old mid new one whole elsewhere goes =
      let below : sequence % 2 < 2 = omega arith in
      alone_more Behind old mid new one
      (alone_run Behind (OpensHeader (sequence % 2)) mid new whole (λ k is. but_other k (header_at (sequence % 2)) (before_header (sequence % 2) k below is.0))
      (λ k is. elsewhere k (before_header (sequence % 2) k below is.0)) goes)

  pub flipped_alone : (slot : ℕ) (old mid new : View) → slot < 2 → LeavesAlone (λ k. (3 < k) × U k) old mid → LeavesAlone (λ k. k ≢ gate_at slot) mid new
      → LeavesAlone (λ k. (3 < k) × U k) old new
  flipped_alone slot old mid new below one two =
      alone_more Behind old mid new one (alone_fewer (λ k. k ≢ gate_at slot) Behind mid new (λ k is. before_gate slot k below is.0) two)
