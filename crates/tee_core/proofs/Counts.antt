-- What calls and cancellations leave of the counts of an application: its turns, and its losses of the power.
use Rattle.std.proofs.Common.{◌≡◌, ◌≢◌, ◌<◌, ◌+◌, ◌==◌, ℕ, zero, suc, Bool, true, false, List, [], ◌∷◌, None, Some, get_or, length, map, set, refl, sym, subst, ◌∙◌, ap}
use Rattle.std.specs.Prelude.{slice_get}
use Rattle.std.proofs.lemmas.Bool.{eqb-true, eqb-false}
use Rattle.app_api.specs.declared.call.Call.{Call}
use Rattle.alone.specs.Machine.{Machine}
use Rattle.alone.specs.Step.{after_call, after_cancellation}
use Rattle.alone.proofs.Booted.{call_boots_none, cancellation_boots_none}
use Rattle.alone.proofs.Counted.{call_counts_none, cancellation_counts_none}
use Rattle.app_side.specs.Represents.{Represents as Runs_as, boot_of, is_lost, turns_of}
use Rattle.app_side.specs.declared.side.AppSide.{AppSide}
use Rattle.tee_core.specs.Sides.{AreBooted, AreLost, AreSides, turns_in}
use Rattle.tee_core.specs.World.{World}
use Rattle.tee_core.proofs.SideLemmas.{booted_at, booted_set, lost_at, lost_set, some_machine, turns_here, turns_mapped, turns_others, turns_then}

module _ {A : Type 0} where
  -- ---- of values

  -- one that stands for what another stood for
  pub same_turns : (old new : AppSide A) → ((m : Machine A) → Runs_as old m → Runs_as new m) → turns_of new ≡ turns_of old
  same_turns old new keeps = sym (ap (λ (x : Machine A). x.turns) (keeps _ (some_machine old)).parts)

  pub same_boot : (old new : AppSide A) → ((m : Machine A) → Runs_as old m → Runs_as new m) → boot_of new ≡ boot_of old
  same_boot old new keeps = sym (ap (λ (x : Machine A). x.boot) (keeps _ (some_machine old)).parts)

  pub called_turns : (old new : AppSide A) (client : ℕ) (call : Call) → ((m : Machine A) → Runs_as old m → Runs_as new (after_call m client call).machine) → turns_of new ≡ turns_of old
  called_turns old new client call moves = sym (ap (λ (x : Machine A). x.turns) (moves _ (some_machine old)).parts) ∙ call_counts_none _ client call

  pub called_boot : (old new : AppSide A) (client : ℕ) (call : Call) → ((m : Machine A) → Runs_as old m → Runs_as new (after_call m client call).machine) → boot_of new ≡ boot_of old
  called_boot old new client call moves = sym (ap (λ (x : Machine A). x.boot) (moves _ (some_machine old)).parts) ∙ call_boots_none _ client call

  pub cancelled_turns : (old new : AppSide A) (op : ℕ) → ((m : Machine A) → Runs_as old m → Runs_as new (after_cancellation m op).machine) → turns_of new ≡ turns_of old
  cancelled_turns old new op moves = sym (ap (λ (x : Machine A). x.turns) (moves _ (some_machine old)).parts) ∙ cancellation_counts_none _ op

  pub cancelled_boot : (old new : AppSide A) (op : ℕ) → ((m : Machine A) → Runs_as old m → Runs_as new (after_cancellation m op).machine) → boot_of new ≡ boot_of old
  cancelled_boot old new op moves = sym (ap (λ (x : Machine A). x.boot) (moves _ (some_machine old)).parts) ∙ cancellation_boots_none _ op

  -- ---- of all of them, where one at a place is replaced

  pub lost_kept : (lost : Bool) (ss : List (AppSide A)) (i : ℕ) (old d new : AppSide A) → AreLost lost ss → i < length ss → old ≡ get_or ss i d → is_lost new ≡ is_lost old →
      AreLost lost (set ss i new)
  lost_kept lost ss i old d new are lt value same =
      lost_set lost ss i new are (same ∙ ap (λ (s : AppSide A). is_lost s) value ∙ lost_at lost ss i d are lt)

  pub booted_kept : (boots : ℕ) (ss : List (AppSide A)) (i : ℕ) (old d new : AppSide A) → AreBooted boots ss → i < length ss → old ≡ get_or ss i d → boot_of new ≡ boot_of old →
      AreBooted boots (set ss i new)
  booted_kept boots ss i old d new are lt value same =
      booted_set boots ss i new are (same ∙ ap (λ (s : AppSide A). boot_of s) value ∙ booted_at boots ss i d are lt)

  pub turns_kept : (ss : List (AppSide A)) (i : ℕ) (old d new : AppSide A) → i < length ss → old ≡ get_or ss i d → turns_of new ≡ turns_of old → (j : ℕ) →
      turns_in (slice_get (set ss i new) j) ≡ turns_in (slice_get ss j)
  turns_kept ss i old d new lt value same j =
      elim (j == i) as (λ b. (j == i) ≡ b → turns_in (slice_get (set ss i new) j) ≡ turns_in (slice_get ss j)) [
        | true ↦ λ e. subst (λ k. turns_in (slice_get (set ss i new) k) ≡ turns_in (slice_get ss k)) (sym (eqb-true j i e)) (turns_then ss i new lt ∙ same ∙ sym (turns_here ss i old d lt value))
        | false ↦ λ e. turns_others ss i j new (eqb-false j i e)
      ] refl

  -- one more turn of the one at the place, and then a loss of all
  pub turns_one : (ss ts : List (AppSide A)) (i : ℕ) (old d new : AppSide A) → i < length ss → old ≡ get_or ss i d → turns_of new ≡ turns_of old + 1 →
      map (λ s. turns_of s) ts ≡ map (λ s. turns_of s) (set ss i new)
      → turns_in (slice_get ts i) ≡ turns_in (slice_get ss i) + 1
  turns_one ss ts i old d new lt value more same =
      turns_mapped ts (set ss i new) same i ∙ turns_then ss i new lt ∙ more ∙ ap (λ n. n + 1) (sym (turns_here ss i old d lt value))

  pub turns_apart : (ss ts : List (AppSide A)) (i j : ℕ) (new : AppSide A) → j ≢ i → map (λ s. turns_of s) ts ≡ map (λ s. turns_of s) (set ss i new) →
      turns_in (slice_get ts j) ≡ turns_in (slice_get ss j)
  turns_apart ss ts i j new other same = turns_mapped ts (set ss i new) same j ∙ turns_others ss i j new other

  pub mapped_length : (ss ts : List (AppSide A)) → map (λ s. turns_of s) ss ≡ map (λ s. turns_of s) ts → length ss ≡ length ts
  mapped_length [] [] same = refl
  mapped_length [] (t ∷ ts) same = absurd (let e : [] ≡ turns_of t ∷ map (λ s. turns_of s) ts = same in cc)
  mapped_length (s ∷ ss) [] same = absurd (let e : turns_of s ∷ map (λ s. turns_of s) ss ≡ [] = same in cc)
  mapped_length (s ∷ ss) (t ∷ ts) same = ap (λ n. suc n) (mapped_length ss ts (let e : turns_of s ∷ map (λ s. turns_of s) ss ≡ turns_of t ∷ map (λ s. turns_of s) ts = same in cc))

  pub set_length : (ss : List (AppSide A)) (i : ℕ) (s : AppSide A) → length (set ss i s) ≡ length ss
  set_length [] i s = refl
  set_length (x ∷ ss) zero s = refl
  set_length (x ∷ ss) (suc i) s = ap (λ n. suc n) (set_length ss i s)

  -- the turns of the application at a place are those of the machine there
  pub machine_turns : (ss : List (AppSide A)) (world : World A) (i : ℕ) (m : Machine A) → AreSides ss world → slice_get world i ≡ Some m → turns_in (slice_get ss i) ≡ m.turns
  machine_turns [] [] i m are here = absurd (let e : None ≡ Some m = here in cc)
  machine_turns [] (n ∷ world) i m are here = absurd are
  machine_turns (s ∷ ss) [] i m are here = absurd are
  machine_turns (s ∷ ss) (n ∷ world) zero m are here =
      let is : n ≡ m = let e : Some n ≡ Some m = here in cc in
      sym (ap (λ (x : Machine A). x.turns) are.0.parts) ∙ ap (λ (x : Machine A). x.turns) is
  machine_turns (s ∷ ss) (n ∷ world) (suc i) m are here = machine_turns ss world i m are.1 here
