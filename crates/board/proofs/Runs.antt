-- How a run of calls goes on, one call at a time.
use Rattle.std.proofs.Common.{◌≡◌, ◌≢◌, ◌≤◌, ◌+◌, ◌⊎◌, ℕ, Bool, true, false, List, [], ◌∷◌, length, Result, Ok, Err, refl, sym, ◌∙◌, ap, subst, inl, inr, ⊎_elim, arith}
use Rattle.tee_base.specs.Crash.{LeavesOnly}
use Rattle.board.specs.declared.BoardFailed.{BoardFailed}
use Rattle.board.specs.Moment.{CrashImage, Moment, View, IsLeft, WasLeft, moment, left_since}
use Rattle.board.specs.Steps.{Passes, Unchanged, Wrote, Synced, SameBlocks, Counted, Advanced}
use Rattle.board.specs.Runs.{IsBase, LeavesBase, RunsOver, Rests}

at : {A : Type 0} {f g : ℕ → A} → f ≡ g → (k : ℕ) → f k ≡ g k
at {A} same k = ap (λ (h : ℕ → A). h k) same

-- no moment was at or after the number of moments
none_left : (past : List Moment) (t : ℕ) (c : CrashImage) → length past ≤ t → WasLeft past t c → ⊥
none_left [] t c late was = was
none_left (m ∷ past) t c late was =
    ⊎_elim (λ (here : (t ≤ length past) × IsLeft m c). absurd (let le = here.0 in omega arith)) (none_left past t c (omega arith)) was

-- before the first call
pub starts : (v : View) (P : CrashImage → Type 0) → ((c : CrashImage) → IsLeft v.state c → P c) → LeavesOnly moment left_since v v P
starts v P now = record {
  later = omega arith;
  each = λ c left. ⊎_elim (now c) (λ was. absurd (none_left v.past (length v.past) c (omega arith) was)) left;
  before = λ t c le left. inl left;
}

-- one call more
pub goes_on : (first old new : View) (P : CrashImage → Type 0) → LeavesOnly moment left_since first old P → Passes old new → ((c : CrashImage) → IsLeft new.state c → P c) →
    LeavesOnly moment left_since first new P
goes_on first old new P run time now =
    let count : moment new ≡ moment old + 1 = ap length time.past ∙ omega arith in
    let back : (t : ℕ) (c : CrashImage) → left_since new t c → left_since old t c ⊎ P c =
    λ t c left. ⊎_elim (λ (l : IsLeft new.state c). inr (now c l)) (λ (w : WasLeft new.past t c). inl
    (⊎_elim (λ (h : (t ≤ length old.past) × IsLeft old.state c). inl h.1) (λ (w' : WasLeft old.past t c). inr w')
    (subst (λ (past : List Moment). WasLeft past t c) time.past w))) left in
    record {
      later = omega (arith, run.later, count);
      each = λ c left. ⊎_elim (run.each c) (λ (p : P c). p) (back (moment first) c left);
      before = λ t c le left. ⊎_elim (run.before t c le) (λ (p : P c). inr p) (back t c left);
    }

module _ (open_at : ℕ → Bool) (base : ℕ → List ℕ) (low high : ℕ) where
  -- what a crash leaves then
  pub leaves_base : (m : Moment) (c : CrashImage) → IsBase open_at base low high m → IsLeft m c → LeavesBase open_at base low high c
  leaves_base m c is left = record {
    image = λ k shut. left.kept k (is.pending k shut) ∙ is.durable k shut;
    least = omega (arith, is.least, left.counter.least);
    greatest = omega (arith, is.greatest, left.counter.greatest);
  }

  pub run_starts : (v : View) → IsBase open_at base low high v.state → RunsOver open_at base low high v v
  run_starts v is = record { leaves = starts v (LeavesBase open_at base low high) (λ c. leaves_base v.state c is); now = is }

  pub run_goes_on : (first old new : View) → RunsOver open_at base low high first old → Passes old new → IsBase open_at base low high new.state → RunsOver open_at base low high first new
  run_goes_on first old new run time is = record { leaves = goes_on first old new (LeavesBase open_at base low high) run.leaves time (λ c. leaves_base new.state c is); now = is }

  module _ (old new : Moment) (is : IsBase open_at base low high old) where
    pub base-unchanged : Unchanged old new → IsBase open_at base low high new
    base-unchanged same = record {
      reads = λ k shut. at same.reads k ∙ is.reads k shut;
      durable = λ k shut. at same.durable k ∙ is.durable k shut;
      pending = λ k shut. at same.pending k ∙ is.pending k shut;
      least = omega (arith, is.least, same.counter);
      greatest = omega (arith, is.greatest, same.counter, same.slack);
    }

    -- a write to an open block
    pub base-wrote : (block : ℕ) (bytes : List ℕ) (ok : Bool) → open_at block ≡ true → Wrote block bytes ok old new → IsBase open_at base low high new
    base-wrote block bytes ok opened wrote =
        let other : (k : ℕ) → open_at k ≡ false → k ≢ block = λ k shut e. absurd (let no : true ≡ false = sym opened ∙ sym (ap open_at e) ∙ shut in cc) in
        record {
          reads = λ k shut. wrote.elsewhere k (other k shut) ∙ is.reads k shut;
          durable = λ k shut. at wrote.durable k ∙ is.durable k shut;
          pending = λ k shut. wrote.pending k (other k shut) ∙ is.pending k shut;
          least = omega (arith, is.least, wrote.counter);
          greatest = omega (arith, is.greatest, wrote.counter, wrote.slack);
        }

    pub base-synced : (ok : Bool) → Synced ok old new → IsBase open_at base low high new
    base-synced true synced = record {
      reads = λ k shut. at synced.reads k ∙ is.reads k shut;
      durable = λ k shut. synced.durable refl k ∙ is.reads k shut;
      pending = λ k shut. synced.settled refl k;
      least = omega (arith, is.least, synced.counter);
      greatest = omega (arith, is.greatest, synced.counter, synced.slack);
    }
    base-synced false synced = record {
      reads = λ k shut. at synced.reads k ∙ is.reads k shut;
      durable = λ k shut. at (synced.failed_durable refl) k ∙ is.durable k shut;
      pending = λ k shut. at (synced.failed_pending refl) k ∙ is.pending k shut;
      least = omega (arith, is.least, synced.counter);
      greatest = omega (arith, is.greatest, synced.counter, synced.slack);
    }

    same_blocks : SameBlocks old new → low ≤ new.counter → new.counter + new.slack ≤ high → IsBase open_at base low high new
    same_blocks same least greatest = record {
      reads = λ k shut. at same.reads k ∙ is.reads k shut;
      durable = λ k shut. at same.durable k ∙ is.durable k shut;
      pending = λ k shut. at same.pending k ∙ is.pending k shut;
      least = least;
      greatest = greatest;
    }

    pub base-counted : (result : Result ℕ BoardFailed) → Counted result old new → IsBase open_at base low high new
    base-counted (Ok n) counted =
        let told = counted.counter in
        same_blocks counted.blocks (omega (arith, is.least, told.among.least, told.counter)) (omega (arith, is.greatest, told.among.greatest, told.counter, told.slack))
    base-counted (Err e) counted =
        let told = counted.counter in same_blocks counted.blocks (omega (arith, is.least, told.0)) (omega (arith, is.greatest, told.0, told.1))

-- within and after an advance the counter may be one greater
pub base-advanced : (open_at : ℕ → Bool) (base : ℕ → List ℕ) (low high : ℕ) (old new : Moment) (result : Result ℕ BoardFailed) → IsBase open_at base low high old →
    Advanced result old new → IsBase open_at base low (high + 1) new
base-advanced open_at base low high old new (Ok n) is advanced =
    let raised = advanced.counter in
    record {
      reads = λ k shut. at advanced.blocks.reads k ∙ is.reads k shut;
      durable = λ k shut. at advanced.blocks.durable k ∙ is.durable k shut;
      pending = λ k shut. at advanced.blocks.pending k ∙ is.pending k shut;
      least = omega (arith, is.least, raised.positive, raised.among.least, raised.counter);
      greatest = omega (arith, is.greatest, raised.positive, raised.among.greatest, raised.counter, raised.slack);
    }
base-advanced open_at base low high old new (Err e) is advanced =
    let failed = advanced.counter in
    record {
      reads = λ k shut. at advanced.blocks.reads k ∙ is.reads k shut;
      durable = λ k shut. at advanced.blocks.durable k ∙ is.durable k shut;
      pending = λ k shut. at advanced.blocks.pending k ∙ is.pending k shut;
      least = omega (arith, is.least, failed.0);
      greatest = omega (arith, is.greatest, failed.0, failed.1);
    }

-- more open blocks, and more room for the counter
pub base-wider : (open_at open_at' : ℕ → Bool) (base : ℕ → List ℕ) (low high high' : ℕ) (m : Moment) → ((k : ℕ) → open_at' k ≡ false → open_at k ≡ false) → high ≤ high' →
    IsBase open_at base low high m → IsBase open_at' base low high' m
base-wider open_at open_at' base low high high' m more room is = record {
  reads = λ k shut. is.reads k (more k shut);
  durable = λ k shut. is.durable k (more k shut);
  pending = λ k shut. is.pending k (more k shut);
  least = is.least;
  greatest = omega (arith, is.greatest, room);
}

-- at rest nothing needs to be open
pub rests_base : (n : ℕ) (m : Moment) → Rests n m → (open_at : ℕ → Bool) → IsBase open_at m.reads n n m
rests_base n m rests open_at = record {
  reads = λ k shut. refl;
  durable = λ k shut. sym (rests.as_read k);
  pending = λ k shut. rests.pending k;
  least = omega (arith, rests.counter);
  greatest = omega (arith, rests.counter, rests.slack);
}

-- after a sync a board rests, if its counter is settled
pub synced_rests : (n : ℕ) (old new : Moment) → old.counter ≡ n → old.slack ≡ 0 → Synced true old new → Rests n new
synced_rests n old new counter slack synced = record {
  as_read = λ k. at synced.reads k ∙ sym (synced.durable refl k);
  pending = λ k. synced.settled refl k;
  counter = synced.counter ∙ counter;
  slack = synced.slack ∙ slack;
}
