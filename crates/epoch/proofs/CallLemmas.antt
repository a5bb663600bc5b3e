-- Calls of a board, one after another, as a run.
use Rattle.std.proofs.Common.{◌≡◌, ◌≤◌, ◌<◌, ◌-◌, ◌^◌, ◌∙◌, ℕ, Bool, true, false, Result, Ok, Err, is_ok, refl, sym, ap, subst, inl, inr, ⊎_elim, arith}
use Rattle.std.specs.Prelude.{IsErr}
use Rattle.std.proofs.lemmas.Bool.{false≢true}
use Rattle.tee_base.specs.Faults.{Rose}
use Rattle.board.specs.Fuse.{fuse_after_call}
use Rattle.board.specs.Moment.{View}
use Rattle.board.specs.Steps.{Called, CallRun}
use Rattle.store_api.specs.declared.leaves.LeafAnswer.{LeafAnswer}
use Rattle.store_api.specs.declared.leaves.LeafAnswer.TheVariants as answers
use Rattle.epoch.specs.Opening.{no_failure}
use Rattle.epoch.specs.Reading.{no_fault}
use Rattle.epoch.specs.declared.answer.OpenAnswer.{OpenAnswer}
use Rattle.epoch.specs.declared.answer.OpenAnswer.TheVariants.{Ahead, BadHeader, Failed, NoMemory, NoVolume, OldGarbled, OldMismatch, Rollback, TooSmall, UnknownVersion}

-- a fault that rose later rose
pub rose_later : (a b c : ℕ) → a ≤ b → Rose b c → Rose a c
rose_later a b c le rose = ⊎_elim (λ (h : b < c). inl (omega arith)) (λ (h : c ≡ 2 ^ 64 - 1). inr h) rose

-- before the first call
pub run_none : (v : View) → CallRun true v v
run_none v = record {
  size = refl;
  key = refl;
  orders = refl;
  ordered = refl;
  faults = omega arith;
  cause = λ e. absurd (let f : true ≡ false = e in cc);
  steady = λ made. refl;
  unset = λ none. none;
}

-- a call alone
pub run_once : (ok : Bool) (old new : View) → Called ok old new → CallRun ok old new
run_once ok old new called = record {
  size = called.size;
  key = called.key;
  orders = called.orders;
  ordered = called.ordered;
  faults = called.faults;
  cause = called.cause;
  steady = called.steady;
  unset = λ none. called.fuse ∙ ap fuse_after_call none;
}

-- a run behind another
pub run_more : (ok : Bool) (first old new : View) → CallRun true first old → CallRun ok old new → CallRun ok first new
run_more ok first old new run more = record {
  size = more.size ∙ run.size;
  key = more.key ∙ run.key;
  orders = more.orders ∙ run.orders;
  ordered = more.ordered ∙ run.ordered;
  faults = omega (arith, more.faults, run.faults);
  cause = λ e. rose_later first.state.faults old.state.faults new.state.faults run.faults (more.cause e);
  steady = λ made. more.steady made ∙ run.steady refl;
  unset = λ none. more.unset (run.unset none);
}

-- a call behind a run
pub call_more : (ok : Bool) (first old new : View) → CallRun true first old → Called ok old new → CallRun ok first new
call_more ok first old new run called = run_more ok first old new run (run_once ok old new called)

-- a run that ends in an error
pub run_stops : {A E : Type 0} (r : Result A E) (old new : View) → IsErr r → CallRun false old new → CallRun (is_ok r) old new
run_stops (Ok x) old new fails run = absurd (false≢true fails)
run_stops (Err e) old new fails run = run

-- a run that is told otherwise
pub run_as : (made told : Bool) (old new : View) → told ≡ made → CallRun made old new → CallRun told old new
run_as made told old new same run = subst (λ (ok : Bool). CallRun ok old new) (sym same) run

-- a run of which a call failed, as an opening tells it
pub run_failed : {A : Type 0} (r : Result A OpenAnswer) (old new : View) → r ≡ Err Failed → CallRun false old new → CallRun (no_failure r) old new
run_failed r old new is run = run_as false (no_failure r) old new (ap no_failure is) run

-- the same of leaves
pub run_lost : {A : Type 0} (r : Result A LeafAnswer) (old new : View) → r ≡ Err answers.Failed → CallRun false old new → CallRun (no_fault r) old new
run_lost r old new is run = run_as false (no_fault r) old new (ap no_fault is) run

-- a call of the board failed only where that is answered
pub failed_is : {A : Type 0} (r : Result A OpenAnswer) → no_failure r ≡ false → r ≡ Err Failed
failed_is (Ok done) failed = absurd (false≢true (sym failed))
failed_is (Err Failed) failed = refl
failed_is (Err NoMemory) failed = absurd (false≢true (sym failed))
failed_is (Err (TooSmall blocks)) failed = absurd (false≢true (sym failed))
failed_is (Err (NoVolume counter)) failed = absurd (false≢true (sym failed))
failed_is (Err (BadHeader slot found kept)) failed = absurd (false≢true (sym failed))
failed_is (Err (UnknownVersion version)) failed = absurd (false≢true (sym failed))
failed_is (Err (Rollback sequence counter)) failed = absurd (false≢true (sym failed))
failed_is (Err (Ahead sequence counter)) failed = absurd (false≢true (sym failed))
failed_is (Err (OldMismatch tags)) failed = absurd (false≢true (sym failed))
failed_is (Err (OldGarbled region leaf)) failed = absurd (false≢true (sym failed))
