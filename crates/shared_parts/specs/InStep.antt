-- An application beside its log: the value, the log, and its part of the storage agree, and the log has the places that are reserved.
use Rattle.app_api.specs.Behaviours.{Behaviour}
use Rattle.std.specs.Prelude.{ℕ, ◌≡◌, ◌+◌, ◌≤◌, Bool, true, List, Option, length}
use Rattle.app_api.specs.declared.call.Call.{Call}
use Rattle.store_api.specs.Stores.{Store}
use Rattle.alone.specs.declared.reply.TheConstants.{REPLIES}
use Rattle.alone.specs.Laws.{live}
use Rattle.alone.specs.Logs.{IsLegal, KeptLog, Logged, is_full, machine_by, replies_in}
use Rattle.alone.specs.Machine.{Machine}
use Rattle.alone.specs.Step.{after_call}
use Rattle.app_side.specs.Represents.{Represents, is_lost, machine_of, turns_of}
use Rattle.app_side.specs.declared.side.AppSide.{AppSide}
use Rattle.shared_parts.specs.declared.recorded.Posted.{Posted}
use Rattle.shared_parts.specs.declared.recorded.SharedAnswer.{SharedAnswer}
use Rattle.shared_parts.specs.declared.recorded.SharedAnswer.TheVariants as answers

-- an application's part of the storage: its objects, and those in doubt where a change is
pub record StoragePart : Type 0 where
  pub store : Store
  pub in_doubt : Option Store

-- the part that a machine has of the storage
abbrev pub part_of : {A : Type 0} → Machine A → StoragePart
part_of m = record { store = m.store; in_doubt = m.in_doubt }

-- the log has a place for each live operation and each live instance and one for a loss, and a place for a reply of each of them
pub record HasPlaces {A : Type 0} (m : Machine A) (log : KeptLog) : Type 0 where
  pub entries : length log.entries + live m + 1 ≤ log.room
  pub replies : length (replies_in log.entries) + live m ≤ log.reply_room

-- the log has the same entries, and no less room
pub record HasGrown (old new : KeptLog) : Type 0 where
  pub entries : new.entries ≡ old.entries
  pub room : old.room ≤ new.room
  pub reply_room : old.reply_room ≤ new.reply_room

-- it has so many places more than there is alive, and places for the replies of one event and for all that may live afterwards
pub record IsReserved {A : Type 0} (spare : ℕ) (side : AppSide A) (log : KeptLog) : Type 0 where
  pub entries : length log.entries + live (machine_of side) + spare ≤ log.room
  pub replies : length (replies_in log.entries) + live (machine_of side) + REPLIES + 2 ≤ log.reply_room

-- behaviour has the application's two stated functions
module _ {A : Type 0} (behaviour : Behaviour A) where
  -- the log is legal from the origin's machine on, and the value represents the machine that it leads to
  pub record IsInStep (origin : Machine A) (side : AppSide A) (log : List Logged) : Type 0 where
    pub legal : IsLegal behaviour origin log
    pub stands : Represents side (machine_by behaviour origin log)

  -- besides the part of the storage is that machine's, and what lives has its places
  pub record IsKeptBy (origin : Machine A) (side : AppSide A) (log : KeptLog) (own : StoragePart) : Type 0 where
    pub in_step : IsInStep origin side log.entries
    pub part : own ≡ part_of (machine_by behaviour origin log.entries)
    pub places : HasPlaces (machine_by behaviour origin log.entries) log

  -- from whatever origin value and log agreed, they still do, with the same part of the storage
  abbrev pub StaysInStep : AppSide A → KeptLog → AppSide A → KeptLog → Type 0
  StaysInStep before old after new =
      (origin : Machine A) (own : StoragePart) → IsKeptBy origin before old own → IsKeptBy origin after new own

  -- so they do, and whether the storage is lost stays too
  pub record GoesInStep (before : AppSide A) (old : KeptLog) (after : AppSide A) (new : KeptLog) : Type 0 where
    pub kept : StaysInStep before old after new
    pub lost : is_lost after ≡ is_lost before

-- the application knows now whether the storage is lost, and made no turn
pub record KnowsLoss {A : Type 0} (lost : Bool) (before after : AppSide A) : Type 0 where
  pub lost_is : is_lost after ≡ lost
  pub turns : turns_of after ≡ turns_of before

-- the value represents a machine with this part of the storage
pub record HasPart {A : Type 0} (side : AppSide A) (own : StoragePart) : Type 0 where
  pub machine : Machine A
  pub stands : Represents side machine
  pub part : own ≡ part_of machine

-- what a caller is told of its call: the number that the operation has in this machine, and the instance for which it waits
pub record IsPosted {A : Type 0} (m : Machine A) (client : ℕ) (call : Call) (posted : Posted) : Type 0 where
  pub op : posted.op ≡ m.queue.next
  pub instance : posted.instance ≡ (after_call m client call).instance

-- why a log refuses a call that brings so many bytes: it has no place for them, or there is no memory
abbrev pub IsRefusal : SharedAnswer → List Logged → ℕ → Type 0
IsRefusal (answers.Busy busy) log bytes = ⊥
IsRefusal answers.LogFull log bytes = is_full log bytes ≡ true
IsRefusal answers.NoMemory log bytes = Unit {0}
