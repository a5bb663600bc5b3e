-- Turns that need no store.
use Rattle.std.specs.Prelude.{◌≡◌, Bool, true, false, Result, Err, find}
use Rattle.store_api.specs.declared.answer.StoreAnswer.{StoreAnswer}
use Rattle.store_api.specs.declared.answer.StoreAnswer.TheVariants.{Lost as LostStore, NoMemory}
use Rattle.store_api.specs.Foundations.{no_foundation}
use Rattle.store_api.specs.Keeping.{Status}
use Rattle.object_asks.specs.Asks.{may_need_store}
use Rattle.alone.specs.declared.turn.TurnKind.{TurnKind}
use Rattle.alone.specs.declared.turn.TurnKind.TheVariants.{Plain, Lost, Starved, Corrupted}
use Rattle.alone.specs.Machine.{is_number}
use Rattle.alone.specs.Step.{of_instance}
use Rattle.app_side.specs.declared.no_store.NoStore.{NoStore}
use Rattle.app_side.specs.declared.side.AppSide.{AppSide}
use Rattle.tee_base.specs.Words.{InstanceNumber}

-- how a store that serves nothing stands: no call of it failed, and none told of damage
abbrev pub status_of : NoStore → Status
status_of s = record { lost = s.lost; faults = 0; foundation = no_foundation; damage_reports = 0; change_attempts = s.change_attempts }

-- the answer of a store that serves nothing
abbrev pub IsRefusalOf : {A : Type 0} → Bool → Result A StoreAnswer → Type 0
IsRefusalOf true result = result ≡ Err LostStore
IsRefusalOf false result = result ≡ Err NoMemory

-- an ask waits in the instance that may need the store
abbrev pub wants_store : {A : Type 0} → AppSide A → InstanceNumber → Bool
wants_store side i = of_instance (λ r ask. may_need_store ask) (find (is_number i) side.instances.items)

-- the store had no part in a turn of this kind
abbrev pub IsStoreless : TurnKind → Type 0
IsStoreless Plain = Unit {0}
IsStoreless (Lost changes) = ⊥
IsStoreless Starved = Unit {0}
IsStoreless Corrupted = ⊥
