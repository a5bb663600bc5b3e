-- What a keeper of a store answers, when, and what a crash may leave of it.
use Rattle.std.specs.Prelude.{ℕ, ◌≡◌, ◌≢◌, ◌+◌, ◌≤◌, ◌<◌, ◌⊎◌, Bool, true, false, List, Option, Some, Result, Ok, Err, IfOk, IsTrue, length}
use Rattle.tee_base.specs.Crash.{LeavesOnly}
use Rattle.tee_base.specs.Faults.{Rose}
use Rattle.store_api.specs.declared.answer.StoreAnswer.{StoreAnswer}
use Rattle.store_api.specs.declared.answer.StoreAnswer.TheVariants.{NotFound, Exists, NoSpace, Lost, Failed, Corrupt, Garbled}
use Rattle.store_api.specs.declared.change.Change.{Change}
use Rattle.store_api.specs.Foundations.{Foundation}
use Rattle.store_api.specs.Limits.{IsWithinLimits}
use Rattle.store_api.specs.Stores.{Store, change}
use Rattle.tee_base.specs.Words.{Leaves}

-- a call answers what is stated, if it isn't kept from it: want of memory, a loss, a failure or damage may come instead
abbrev pub Answers : {A : Type 0} → Result A StoreAnswer → Result A StoreAnswer → Type 0
Answers (Ok a) stated = stated ≡ Ok a
Answers (Err NotFound) stated = stated ≡ Err NotFound
Answers (Err Exists) stated = stated ≡ Err Exists
Answers (Err NoSpace) stated = stated ≡ Err NoSpace
Answers (Err _) stated = Unit {0}

-- what is known of a keeper, whether its contents are known or not: whether it is lost, how often what it stands on failed, that
-- thing, how often it told of damage, and how many changes it was asked for
pub record Status : Type 0 where
  pub lost : Bool
  pub faults : ℕ
  pub foundation : Foundation
  pub damage_reports : ℕ
  pub change_attempts : ℕ

-- how often an answer tells of damage
abbrev pub damage_in : {A : Type 0} → Result A StoreAnswer → ℕ
damage_in (Err (Corrupt tags)) = 1
damage_in (Err (Garbled leaf)) = 1
damage_in _ = 0

-- when each answer comes, and whether the keeper is lost afterwards
abbrev pub Cause : {A : Type 0} → Result A StoreAnswer → Status → Status → Type 0
Cause (Err Lost) old new = (old.lost ≡ true) × (new.lost ≡ true)
Cause (Err Failed) old new = (old.lost ≡ false) × (new.lost ≡ true) × Rose old.faults new.faults
Cause (Err (Corrupt tags)) old new = (old.lost ≡ false) × (new.lost ≡ false) × (tags.found ≢ tags.kept)
Cause _ old new = (old.lost ≡ false) × (new.lost ≡ false)

-- a fact that holds unless the call failed
abbrev pub UnlessFailed : {A : Type 0} → Result A StoreAnswer → Type 0 → Type 0
UnlessFailed (Err Failed) fact = Unit {0}
UnlessFailed _ fact = fact

-- the counts of faults and of damage go with the answer, and the keeper stands where it stood, with no order made
pub record HasCause {A : Type 0} (result : Result A StoreAnswer) (old new : Status) : Type 0 where
  pub cause : Cause result old new
  pub later : old.faults ≤ new.faults
  -- nothing fails in a call that has another answer
  pub unfailed : UnlessFailed result (new.faults ≡ old.faults)
  pub foundation : new.foundation ≡ old.foundation
  pub reports : new.damage_reports ≡ old.damage_reports + damage_in result

-- a call is asked for so many changes
abbrev pub Attempts : ℕ → Status → Status → Type 0
Attempts n old new = new.change_attempts ≡ old.change_attempts + n

-- an answer of damage tells of some that there is
abbrev pub TellsDamage : {A : Type 0} → Result A StoreAnswer → (StoreAnswer → Type 0) → Type 0
TellsDamage (Err (Corrupt tags)) damage = damage (Corrupt tags)
TellsDamage (Err (Garbled leaf)) damage = damage (Garbled leaf)
TellsDamage _ damage = Unit {0}

-- the answer tells of no damage
abbrev pub IsIntact : {A : Type 0} → Result A StoreAnswer → Type 0
IsIntact result = TellsDamage result (λ answer. ⊥)

-- all that a volume keeps beside one store: the leaves of the other regions, by region and leaf number
pub record Rest : Type 0 where
  pub leaves : Leaves

-- what a keeper keeps: the store, the rest, and a number that rises with the changes, which a crash leaves too
pub record Contents : Type 0 where
  pub store : Store
  pub rest : Rest
  pub number : ℕ

-- what a call that was to change the store leaves, where this is the stated new store or refusal
abbrev pub Applied : {A : Type 0} → Result A StoreAnswer → Result Store StoreAnswer → Contents → Contents → Type 0
Applied (Ok done) stated old new = (stated ≡ Ok new.store) × (new.rest ≡ old.rest) × (old.number ≤ new.number)
Applied (Err refusal) stated old new = Answers (Err refusal) stated × (new ≡ old)

-- what a crash leaves: nothing that can be opened, or these contents
abbrev pub Remains : Type 0
Remains = Option Contents

-- the contents before the change, or after it, with a greater number
abbrev pub IsBeforeOrAfter : Contents → Result Store StoreAnswer → Remains → Type 0
IsBeforeOrAfter old stated o =
    (o ≡ Some old)
    ⊎ ((store : Store) × (n : ℕ) × (stated ≡ Ok store) × (old.number < n) × (o ≡ Some (record { store = store; rest = old.rest; number = n })))

-- what a crash within such a call may leave, or after it failed
abbrev pub LeftByChange : {A : Type 0} → Result A StoreAnswer → Contents → Result Store StoreAnswer → Remains → Type 0
LeftByChange (Ok done) old stated o = IsBeforeOrAfter old stated o
LeftByChange (Err Failed) old stated o = IsBeforeOrAfter old stated o
LeftByChange _ old stated o = o ≡ Some old

-- what contracts see of a keeper
pub record Keeper (D : Type 0) : Type 1 where
  -- there is a store for it to answer from
  pub has_model : D → Type 0
  -- that store, all else that is kept with it, and the number
  pub contents : D → Contents
  pub status : D → Status
  -- what it stands on keeps to its rules
  pub honest_below : D → Type 0
  -- so it does, and what is kept there is well formed
  pub honest : D → Type 0
  -- what there is for Corrupt and Garbled to tell: tags that differ, or a leaf that breaks a rule
  pub damage : D → StoreAnswer → Type 0
  -- a clock that never falls
  pub moment : D → ℕ
  -- what a crash at some moment since the given one may have left
  pub left_since : D → ℕ → Remains → Type 0

module _ {D : Type 0} (K : Keeper D) where
  -- a crash now leaves just this
  pub record LeavesJust (keeper : D) (kept : Contents) : Type 0 where
    pub only : (o : Remains) → K.left_since keeper (K.moment keeper) o → o ≡ Some kept

  -- the call adds nothing to what a crash may leave, and takes no time
  pub record LeavesNothingNew (old new : D) : Type 0 where
    pub same : K.moment new ≡ K.moment old
    pub none : (t : ℕ) (o : Remains) → K.left_since new t o → K.left_since old t o

  -- what a crash might have left before the call, it might have left after it too, and the clock doesn't fall
  pub record KeepsPast (old new : D) : Type 0 where
    pub later : K.moment old ≤ K.moment new
    pub past : (t : ℕ) (o : Remains) → t ≤ K.moment old → K.left_since old t o → K.left_since new t o

  -- a crash within the call or after it leaves just this
  pub record CrashLeaves (kept : Contents) (old new : D) : Type 0 where
    pub any_moment : LeavesOnly K.moment K.left_since old new (λ o. o ≡ Some kept)
    pub afterwards : LeavesJust new kept

  -- a crash within a change leaves what was kept before it, or after it; afterwards it leaves what is kept then
  pub record CrashChanges {A : Type 0} (result : Result A StoreAnswer) (stated : Result Store StoreAnswer) (old new : D) : Type 0 where
    pub any_moment : LeavesOnly K.moment K.left_since old new (LeftByChange result (K.contents old) stated)
    pub afterwards : UnlessFailed result (LeavesJust new (K.contents new))

  -- what every call of a keeper promises, which was asked for so many changes
  pub record IsCall {A : Type 0} (tried : ℕ) (result : Result A StoreAnswer) (old new : D) : Type 0 where
    -- there is a store as before, within its limits; who is lost afterwards keeps what was kept
    pub model : K.has_model old → K.has_model new
    pub still : K.has_model old → IsTrue (K.status new).lost → K.contents new ≡ K.contents old
    pub limits : K.has_model old → IsWithinLimits (K.contents old).store × IsWithinLimits (K.contents new).store
    pub cause : HasCause result (K.status old) (K.status new)
    pub attempts : Attempts tried (K.status old) (K.status new)
    pub damage : TellsDamage result (K.damage new)
    pub below : K.honest_below old → K.honest_below new
    pub honest : K.honest old → K.honest new × IsIntact result
    -- of a crash: over a lost store nothing new may be left, and nothing of the past is forgotten
    pub quiet : IsTrue (K.status old).lost → LeavesNothingNew old new
    pub past : K.honest old → KeepsPast old new

  -- a call that changes nothing: this is stated of the store, and the answer is within these bounds whatever keeps it
  pub record Reads {A : Type 0} (stated : Store → Result A StoreAnswer) (Bounds : A → Type 0) (result : Result A StoreAnswer) (old new : D) : Type 0 where
    pub answer : K.has_model old → Answers result (stated (K.contents old).store)
    pub same : K.has_model old → K.contents new ≡ K.contents old
    pub bounds : IfOk result (λ a. Bounds a)
    pub call : IsCall 0 result old new
    -- a crash leaves what it would have left before
    pub crash : K.honest old → LeavesJust old (K.contents old) → CrashLeaves (K.contents old) old new

  -- a call that makes a change, whole or not at all
  pub record Applies {A : Type 0} (c : Change) (result : Result A StoreAnswer) (old new : D) : Type 0 where
    pub applied : K.has_model old → Applied result (change (K.contents old).store c) (K.contents old) (K.contents new)
    pub call : IsCall 1 result old new
    -- a crash leaves the store before the change or the one after it
    pub crash : K.honest old → LeavesJust old (K.contents old) → CrashChanges result (change (K.contents old).store c) old new
