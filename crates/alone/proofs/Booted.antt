-- No call, no cancellation and no turn is a restart.
use Rattle.app_api.specs.Behaviours.{Behaviour}
use Rattle.std.proofs.Common.{ℕ, ◌≡◌, Option, refl}
use Rattle.app_api.specs.declared.call.Call.{Call}
use Rattle.object_asks.specs.Asks.{Serving, Serves, Fails, Damaged}
use Rattle.store_api.specs.Stores.{Store}
use Rattle.alone.specs.Machine.{Machine}
use Rattle.alone.specs.Step.{after_call, after_cancellation, turned_as}
use Rattle.alone.proofs.Aside.{Rests, rests_by_calls, rests_kept}
use Rattle.alone.proofs.Kept.{IsKeptAs, cancelled_kept, turned_kept}
use Rattle.alone.proofs.KeptByCalls.{called_kept}

-- it was restarted so often
abbrev HasBooted : ℕ → ℕ → ℕ → Option Store → Type 0
HasBooted boot made booted doubt = booted ≡ boot

-- nor is a loss of the storage
boot_kept_as : (A : Type 0) (serving : Serving) (boot : ℕ) → IsKeptAs serving (λ (m : Machine A). m.boot ≡ boot)
boot_kept_as A Serves boot = tt
boot_kept_as A Fails boot = λ m doubt same. same
boot_kept_as A Damaged boot = tt

module _ {A : Type 0} where
  pub turn_boots_none : (behaviour : Behaviour A) (serving : Serving) (m : Machine A) (i : ℕ) → (turned_as behaviour serving m i).machine.boot ≡ m.boot
  turn_boots_none behaviour serving m i =
      let P = HasBooted m.boot in
      turned_kept (Rests P) (rests_kept P) behaviour serving (boot_kept_as A serving m.boot) m i refl

  pub call_boots_none : (m : Machine A) (client : ℕ) (call : Call) → (after_call m client call).machine.boot ≡ m.boot
  call_boots_none m client call = let P = HasBooted m.boot in called_kept (Rests P) (Rests P) (rests_by_calls P) m client call refl

  pub cancellation_boots_none : (m : Machine A) (op : ℕ) → (after_cancellation m op).machine.boot ≡ m.boot
  cancellation_boots_none m op = let P = HasBooted m.boot in cancelled_kept (Rests P) (rests_kept P) m op refl
