-- Each turn counts, however it goes; no call and no cancellation does.
use Rattle.app_api.specs.Behaviours.{Behaviour}
use Rattle.std.proofs.Common.{ℕ, ◌≡◌, ◌+◌, Option, refl}
use Rattle.app_api.specs.declared.call.Call.{Call}
use Rattle.object_asks.specs.Asks.{Serving, Serves, Fails, Damaged}
use Rattle.store_api.specs.Stores.{Store}
use Rattle.alone.specs.Machine.{Machine}
use Rattle.alone.specs.Step.{after_call, after_cancellation, turned_as}
use Rattle.alone.proofs.Aside.{Rests, rests_by_calls, rests_kept}
use Rattle.alone.proofs.Kept.{IsKeptAs, cancelled_kept, turned_kept}
use Rattle.alone.proofs.KeptByCalls.{called_kept}

-- so many turns were made
abbrev HasMade : ℕ → ℕ → ℕ → Option Store → Type 0
HasMade turns made booted doubt = made ≡ turns

-- a loss of the storage is no turn
made_kept_as : (A : Type 0) (serving : Serving) (turns : ℕ) → IsKeptAs serving (λ (m : Machine A). m.turns ≡ turns)
made_kept_as A Serves turns = tt
made_kept_as A Fails turns = λ m doubt same. same
made_kept_as A Damaged turns = tt

module _ {A : Type 0} where
  pub turn_counts : (behaviour : Behaviour A) (serving : Serving) (m : Machine A) (i : ℕ) → (turned_as behaviour serving m i).machine.turns ≡ m.turns + 1
  turn_counts behaviour serving m i =
      let P = HasMade (m.turns + 1) in
      turned_kept (Rests P) (rests_kept P) behaviour serving (made_kept_as A serving (m.turns + 1)) m i refl

  pub call_counts_none : (m : Machine A) (client : ℕ) (call : Call) → (after_call m client call).machine.turns ≡ m.turns
  call_counts_none m client call = let P = HasMade m.turns in called_kept (Rests P) (Rests P) (rests_by_calls P) m client call refl

  pub cancellation_counts_none : (m : Machine A) (op : ℕ) → (after_cancellation m op).machine.turns ≡ m.turns
  cancellation_counts_none m op = let P = HasMade m.turns in cancelled_kept (Rests P) (rests_kept P) m op refl
