-- What steps leave of the storage.
use Rattle.app_api.specs.Behaviours.{Behaviour}
use Rattle.std.proofs.Common.{ℕ, ◌≡◌, Bool, Option, None, Some, refl}
use Rattle.std.proofs.lemmas.Bool.{cond_both}
use Rattle.app_api.specs.declared.call.Call.{Call}
use Rattle.instances.specs.Instances.{session_removed}
use Rattle.op_queue.specs.declared.operation.Cancelled.{Cancelled as Cancellation}
use Rattle.op_queue.specs.declared.operation.Cancelled.TheVariants.{Dropped, Flagged, Nothing}
use Rattle.op_queue.specs.Queue.{after_cancel, cancel_of, operation_of}
use Rattle.object_asks.specs.Asks.{Serves, Damaged}
use Rattle.store_api.specs.Stores.{Store}
use Rattle.alone.specs.Laws.{StorageStays}
use Rattle.alone.specs.Machine.{Machine, instance_at}
use Rattle.alone.specs.Step.{after_call, after_cancellation, cancelled_by, after_dropped_open, instance_gone, is_unused, turned_as, unless_unused, waiting_open}
use Rattle.alone.proofs.Aside.{Rests, rests_kept}
use Rattle.alone.proofs.Kept.{turned_kept}
use Rattle.alone.proofs.KeptByCalls.{IsKeptByCalls, called_kept}

-- this store is in doubt, or none
abbrev IsInDoubt : Option Store → ℕ → ℕ → Option Store → Type 0
IsInDoubt store made booted doubt = doubt ≡ store

module _ {A : Type 0} where
  -- a turn in which no call of the store fails leaves the change in doubt
  pub turn_leaves_doubt : (behaviour : Behaviour A) (m : Machine A) (i : ℕ) → (turned_as behaviour Serves m i).machine.in_doubt ≡ m.in_doubt
  turn_leaves_doubt behaviour m i = let P = IsInDoubt m.in_doubt in turned_kept (Rests P) (rests_kept P) behaviour Serves tt m i refl

  -- nor does one in which what it reads is damaged
  pub damage_leaves_doubt : (behaviour : Behaviour A) (m : Machine A) (i : ℕ) → (turned_as behaviour Damaged m i).machine.in_doubt ≡ m.in_doubt
  damage_leaves_doubt behaviour m i = let P = IsInDoubt m.in_doubt in turned_kept (Rests P) (rests_kept P) behaviour Damaged tt m i refl

  -- the storage is in the state in which it was
  abbrev IsSame : Store → Option Store → Bool → Machine A → Type 0
  IsSame store doubt lost m = (m.store ≡ store) × (m.in_doubt ≡ doubt) × (m.lost ≡ lost)

  calls_same : (store : Store) (doubt : Option Store) (lost : Bool) → IsKeptByCalls (IsSame store doubt lost) (IsSame store doubt lost)
  calls_same store doubt lost = record {
    at_once = λ m same. same;
    dead_gone = λ m session same. same;
    waits = λ m client i session call usable same. same;
    closes = λ m client i session call usable same. same;
    opens = λ m client label login a call usable same. same;
    shared = λ m blocks change same. same;
  }

  pub call_leaves_storage : (m : Machine A) (client : ℕ) (call : Call) → StorageStays m (after_call m client call).machine
  call_leaves_storage m client call =
      let same = called_kept (IsSame m.store m.in_doubt m.lost) (IsSame m.store m.in_doubt m.lost) (calls_same m.store m.in_doubt m.lost) m client call (refl, refl, refl) in
      record { store = same.0; in_doubt = same.1; lost = same.2 }

  -- ---- cancellation

  unless_same : (store : Store) (doubt : Option Store) (lost : Bool) (m : Machine A) (i : ℕ) → IsSame store doubt lost m → IsSame store doubt lost (unless_unused m i)
  unless_same store doubt lost m i same = cond_both (is_unused m i (instance_at m i)) (instance_gone m i) m (IsSame store doubt lost) (λ _. same) (λ _. same)

  dropped_same : (store : Store) (doubt : Option Store) (lost : Bool) (m : Machine A) (o : Option (ℕ × ℕ)) → IsSame store doubt lost m → IsSame store doubt lost (after_dropped_open m o)
  dropped_same store doubt lost m None same = same
  dropped_same store doubt lost m (Some o) same = unless_same store doubt lost (record m { table = session_removed m.table o.0 }) o.1 same

  cancelled_same : (store : Store) (doubt : Option Store) (lost : Bool) (m : Machine A) (op : ℕ) (o : Option (ℕ × ℕ)) (c : Cancellation)
      → IsSame store doubt lost m → IsSame store doubt lost (cancelled_by m op o c).machine
  cancelled_same store doubt lost m op o Dropped same = dropped_same store doubt lost m o same
  cancelled_same store doubt lost m op o Flagged same = same
  cancelled_same store doubt lost m op o Nothing same = same

  pub cancellation_leaves_storage : (m : Machine A) (op : ℕ) → StorageStays m (after_cancellation m op).machine
  unfolding after_cancellation
  cancellation_leaves_storage m op =
      let o = operation_of m.queue op in
      let c = cancel_of o in
      let same = cancelled_same m.store m.in_doubt m.lost (record m { queue = after_cancel m.queue op c }) op (waiting_open o) c (refl, refl, refl) in
      record { store = same.0; in_doubt = same.1; lost = same.2 }
