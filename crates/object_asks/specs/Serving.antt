-- How asks are served over a keeper of a store: what each function that serves one promises.
use Rattle.std.specs.Prelude.{ℕ, ◌≡◌, ◌+◌, ◌≤◌, ◌<◌, ◌⊎◌, Bool, true, false, Option, None, Some, Result, Ok, Err, IfOk, IsTrue, OnErr}
use Rattle.tee_base.specs.Crash.{LeavesOnly}
use Rattle.tee_base.specs.Faults.{Rose}
use Rattle.tee_base.specs.declared.bytes.NoMemory.{NoMemory as WantOfMemory}
use Rattle.app_api.specs.declared.ask.Answer.TheVariants.{Refused}
use Rattle.store_api.specs.declared.answer.StoreAnswer.{StoreAnswer}
use Rattle.store_api.specs.declared.answer.StoreAnswer.TheVariants.{NotFound, Exists, NoSpace, Failed, Corrupt, Garbled, NoMemory}
use Rattle.store_api.specs.Keeping.{Status, Contents, Remains, Keeper, HasCause, TellsDamage, IsIntact, LeavesJust, LeavesNothingNew, KeepsPast, CrashLeaves}
use Rattle.store_api.specs.Stores.{Store}
use Rattle.object_asks.specs.Held.{Held}
use Rattle.object_asks.specs.declared.turn.TurnKind.{TurnKind}
use Rattle.object_asks.specs.declared.turn.TurnKind.TheVariants.{Plain, Lost, Corrupted}
use Rattle.object_asks.specs.Asks.{Outcome, Answered, Returned, Panicked, Resolution, Objects, Serving, Serves, Fails, Damaged, came_of, code_of, Settled, ComesToStore, comes_to_store, refusal_with}
use Rattle.object_asks.specs.declared.outcome.Outcome.{Outcome as Result_of}
use Rattle.object_asks.specs.declared.outcome.Outcome.TheVariants as outcomes
use Rattle.object_asks.specs.declared.outcome.Served.{Served}

-- how the store did in a turn of this kind
abbrev pub serving_of : TurnKind → Serving
serving_of Plain = Serves
serving_of (Lost changes) = Fails
serving_of Corrupted = Damaged

-- how a turn went in which a store answered this in place of a result
abbrev pub kind_of : Bool → StoreAnswer → TurnKind
kind_of changes Failed = Lost changes
kind_of changes (Corrupt tags) = Corrupted
kind_of changes (Garbled leaf) = Corrupted
kind_of changes answer = Plain

-- how a turn went in which a store answered this
abbrev pub kind_by : {A : Type 0} → Bool → Result A StoreAnswer → TurnKind
kind_by changes (Ok done) = Plain
kind_by changes (Err answer) = kind_of changes answer

-- what comes of an ask in which the store had no part, or served
abbrev pub plainly : Result_of → Served
plainly outcome = record { kind = Plain; outcome = outcome }

-- what comes of an ask, by what the store's answer gives for it: nothing at want of memory
abbrev pub told_of : Bool → Result Result_of StoreAnswer → Option Served
told_of changes (Ok outcome) = Some (plainly outcome)
told_of changes (Err NoMemory) = None
told_of changes (Err answer) = Some (record { kind = kind_of changes answer; outcome = outcomes.Answered (Refused (code_of answer)) })

-- what asks about objects touch: what is held, and the store that a keeper has
abbrev pub objects_in : Held → Contents → Objects
objects_in held contents = record { store = contents.store; held = held }

-- it is the stated outcome, and this is left
abbrev pub IsOutcome : {S : Type 0} → Result_of → Outcome S → S → S → Type 0
IsOutcome (outcomes.Answered answer) stated before after = stated ≡ Answered after answer
IsOutcome (outcomes.Returned ending) stated before after = (stated ≡ Returned ending.code ending.outs) × (after ≡ before)
IsOutcome outcomes.Panicked stated before after = (stated ≡ Panicked) × (after ≡ before)

-- what the store's answer gives: an outcome, or a refusal, which leaves what the resolution says of one; so does what keeps the store
-- from serving, but want of memory
abbrev pub Gives : Result Result_of StoreAnswer → Outcome Objects → Objects → Objects → Objects → Type 0
Gives (Ok outcome) if_served before kept after = IsOutcome outcome if_served before after
Gives (Err NotFound) if_served before kept after = (if_served ≡ refusal_with kept (code_of NotFound)) × (after ≡ kept)
Gives (Err Exists) if_served before kept after = (if_served ≡ refusal_with kept (code_of Exists)) × (after ≡ kept)
Gives (Err NoSpace) if_served before kept after = (if_served ≡ refusal_with kept (code_of NoSpace)) × (after ≡ kept)
Gives (Err NoMemory) if_served before kept after = Unit {0}
Gives (Err answer) if_served before kept after = after ≡ kept

-- a fact that holds where the entry ends
abbrev pub UnlessAnswered : Result_of → Type 0 → Type 0
UnlessAnswered (outcomes.Answered answer) fact = Unit {0}
UnlessAnswered (outcomes.Returned ending) fact = fact
UnlessAnswered outcomes.Panicked fact = fact

-- a turn in which the store failed, or was damaged, meets this condition
abbrev pub Meets : TurnKind → Bool → Type 0
Meets Plain condition = Unit {0}
Meets (Lost changes) condition = condition ≡ true
Meets Corrupted condition = condition ≡ true

-- when each kind of turn comes, and whether the store is lost afterwards
abbrev pub IsKind : TurnKind → Status → Status → Type 0
IsKind Plain old new = new.lost ≡ old.lost
IsKind (Lost changes) old new = (old.lost ≡ false) × (new.lost ≡ true) × Rose old.faults new.faults
IsKind Corrupted old new = (old.lost ≡ false) × (new.lost ≡ false)

-- a lost turn says whether its ask was to change the store
abbrev pub SaysChange : TurnKind → Bool → Type 0
SaysChange Plain changing = Unit {0}
SaysChange (Lost changes) changing = changes ≡ changing
SaysChange Corrupted changing = Unit {0}

-- a turn that met damage has some to tell of
abbrev pub ShowsDamage : TurnKind → (StoreAnswer → Type 0) → Type 0
ShowsDamage Plain damage = Unit {0}
ShowsDamage (Lost changes) damage = Unit {0}
ShowsDamage Corrupted damage = (answer : StoreAnswer) × damage answer

-- a turn of this kind met no damage
abbrev pub IsUndamaged : TurnKind → Type 0
IsUndamaged kind = ShowsDamage kind (λ answer. ⊥)

-- how often a keeper tells of damage in a turn of this kind
abbrev pub reports_in : TurnKind → ℕ
reports_in Plain = 0
reports_in (Lost changes) = 0
reports_in Corrupted = 1

-- what holds of the standing of a keeper: the turn is lost exactly where a call of it failed, and damaged exactly where it told of
-- damage, which it does at most once
pub record HasStatus (kind : TurnKind) (old new : Status) : Type 0 where
  pub cause : IsKind kind old new
  pub later : old.faults ≤ new.faults
  pub foundation : new.foundation ≡ old.foundation
  pub reports : new.damage_reports ≡ old.damage_reports + reports_in kind

-- at most one change was tried, and none where the ask isn't to change the store
abbrev pub TriesOnce : Bool → Status → Status → Type 0
TriesOnce true old new = (old.change_attempts ≤ new.change_attempts) × (new.change_attempts ≤ old.change_attempts + 1)
TriesOnce false old new = new.change_attempts ≡ old.change_attempts

-- all that is kept beside the store stays, and the number of what is kept doesn't fall
pub record StaysBeside (old new : Contents) : Type 0 where
  pub rest : new.rest ≡ old.rest
  pub number : old.number ≤ new.number

-- the store that a plain outcome leaves, where it leaves one
abbrev pub left_by : Outcome Objects → Option Store
left_by (Answered after answer) = Some after.store
left_by (Returned code outs) = None
left_by Panicked = None

-- the store that an ask would leave where it comes to the store
abbrev pub would_leave : Resolution Objects → Option Store
would_leave (Settled outcome) = None
would_leave (ComesToStore refusal_with if_served) = left_by if_served

-- a crash leaves what was kept, or this store in its place, with a greater number
abbrev pub IsOldOr : Contents → Store → Remains → Type 0
IsOldOr old store o = (o ≡ Some old) ⊎ ((n : ℕ) × (old.number < n) × (o ≡ Some (record { store = store; rest = old.rest; number = n })))

-- what a crash within a turn may leave: what was kept before it or the store after it; where the turn is lost and a change in
-- doubt, what was kept before or the store in doubt
abbrev pub LeftByTurn : TurnKind → Option Store → Contents → Contents → Remains → Type 0
LeftByTurn Plain in_doubt old new o = IsOldOr old new.store o
LeftByTurn (Lost true) (Some store) old new o = IsOldOr old store o
LeftByTurn (Lost true) None old new o = o ≡ Some old
LeftByTurn (Lost false) in_doubt old new o = o ≡ Some old
LeftByTurn Corrupted in_doubt old new o = o ≡ Some old

-- a fact that holds where no change is in doubt
abbrev pub UnlessInDoubt : TurnKind → Type 0 → Type 0
UnlessInDoubt Plain fact = fact
UnlessInDoubt (Lost true) fact = Unit {0}
UnlessInDoubt (Lost false) fact = fact
UnlessInDoubt Corrupted fact = fact

-- moment is a keeper's clock, and left_since keeper t o says that a crash since t may have left o
module _ {D : Type 0} (K : Keeper D) where
  -- a crash within a turn of this kind, and after it, where this store is in doubt
  pub record CrashTurns (kind : TurnKind) (in_doubt : Option Store) (old new : D) : Type 0 where
    pub any_moment : LeavesOnly K.moment K.left_since old new (LeftByTurn kind in_doubt (K.contents old) (K.contents new))
    pub afterwards : UnlessInDoubt kind (LeavesJust K new (K.contents new))

  -- what every ask promises of the keeper, however it ends: one that is lost afterwards keeps what was kept
  pub record IsKept (old new : D) : Type 0 where
    pub model : K.has_model old → K.has_model new
    pub still : K.has_model old → IsTrue (K.status new).lost → K.contents new ≡ K.contents old
    pub beside : K.has_model old → StaysBeside (K.contents old) (K.contents new)
    pub below : K.honest_below old → K.honest_below new
    pub quiet : IsTrue (K.status old).lost → LeavesNothingNew K old new
    pub past : K.honest old → KeepsPast K old new

  -- an ask that ends for want of memory: no call of the store failed, none told of damage, and what is kept is as it was
  pub record EndsUnchanged (old new : D) : Type 0 where
    pub contents : K.has_model old → K.contents new ≡ K.contents old
    pub status : HasStatus Plain (K.status old) (K.status new)
    pub honest : K.honest old → K.honest new
    pub keeps : IsKept old new
    pub crash : K.honest old → LeavesJust K old (K.contents old) → CrashLeaves K (K.contents old) old new

  -- an ask that came to the store, from what was held: what the store's answer gave, of this plain outcome, where a refusal leaves
  -- this of what is held
  pub record IsGiven (result : Result Result_of StoreAnswer) (if_served : Outcome Objects) (changes : Bool) (held kept left : Held) (old new : D) : Type 0 where
    pub gives : K.has_model old → Gives result if_served (objects_in held (K.contents old)) (objects_in kept (K.contents old)) (objects_in left (K.contents new))
    pub cause : ¬ (result ≡ Err NoMemory) → HasCause result (K.status old) (K.status new)
    pub tried : TriesOnce changes (K.status old) (K.status new)
    pub stays : result ≡ Err NoMemory → left ≡ held
    pub want : result ≡ Err NoMemory → EndsUnchanged old new
    pub ends : IfOk result (λ outcome. UnlessAnswered outcome (EndsUnchanged old new))
    pub damage : TellsDamage result (K.damage new)
    pub honest : K.honest old → K.honest new × IsIntact result
    pub keeps : IsKept old new
    pub crash : K.honest old → LeavesJust K old (K.contents old) → CrashTurns (kind_by changes result) (left_by if_served) old new

  -- an ask that was served, of this resolution
  pub record IsServed (served : Served) (resolution : Resolution Objects) (changes : Bool) (held left : Held) (old new : D) : Type 0 where
    -- the outcome is the stated one, over the store that the keeper has
    pub outcome : K.has_model old → IsOutcome served.outcome (came_of (serving_of served.kind) (K.status old).lost resolution) (objects_in held (K.contents old)) (objects_in left (K.contents new))
    -- an ask that ends the entry leaves what is kept
    pub ends : UnlessAnswered served.outcome (EndsUnchanged old new)
    -- a lost or damaged turn comes to the store
    pub reaches : K.has_model old → Meets served.kind (comes_to_store resolution)
    pub change : SaysChange served.kind changes
    pub status : HasStatus served.kind (K.status old) (K.status new)
    pub damage : ShowsDamage served.kind (K.damage new)
    pub honest : K.honest old → K.honest new × IsUndamaged served.kind
    pub keeps : IsKept old new
    pub crash : K.honest old → LeavesJust K old (K.contents old) → CrashTurns served.kind (would_leave resolution) old new

  -- an ask that finds no memory: what is held and the store are as they were
  pub record FindsNoMemory (held left : Held) (old new : D) : Type 0 where
    pub same_held : left ≡ held
    pub store : EndsUnchanged old new

  -- what becomes of an ask: it is served, or there is no memory for it; at most one change is tried
  pub record ServesAsk (result : Result Served WantOfMemory) (resolution : Resolution Objects) (changes : Bool) (held left : Held) (old new : D) : Type 0 where
    pub served : IfOk result (λ served. IsServed served resolution changes held left old new)
    pub tried : TriesOnce changes (K.status old) (K.status new)
    pub want : OnErr result (FindsNoMemory held left old new)
