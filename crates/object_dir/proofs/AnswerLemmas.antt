-- What is told of an answer, by cases on it.
use Rattle.std.proofs.Common.{◌≡◌, ◌≤◌, ◌<◌, ◌+◌, ℕ, List, true, false, Bool, Option, None, Some, Result, Ok, Err, refl, sym, ◌∙◌, inl, inr, ⊎_elim, arith}
use Rattle.std.specs.Prelude.{IsTrue}
use Rattle.tee_base.specs.Faults.{Rose}
use Rattle.store_api.specs.declared.answer.Mismatch.{Mismatch}
use Rattle.store_api.specs.declared.answer.StoreAnswer.{StoreAnswer}
use Rattle.store_api.specs.declared.answer.StoreAnswer.TheVariants.{NotFound, Exists, NoSpace, Lost, Failed, Corrupt, Garbled, NoMemory}
use Rattle.store_api.specs.declared.leaves.LeafAnswer.{LeafAnswer}
use Rattle.store_api.specs.declared.leaves.LeafAnswer.TheVariants as leaf_answers
use Rattle.store_api.specs.Keeping.{Cause, Contents, IsIntact, LeftByChange, Remains, TellsDamage, UnlessFailed, damage_in}
use Rattle.store_api.specs.Stores.{Store}
use Rattle.store_api.specs.declared.leaves.Leaf.{Leaf}
use Rattle.store_api.specs.Volumes.{Condition, Held, IfMismatch, IfUnwritten, IsNumbered, LeafCause, LeftByCommit, after_commit}
use Rattle.store_api.specs.Volumes.{UnlessFailed as NoLeafFailed}
use Rattle.region_plan.specs.Reading.{IfCorrupt, IfGarbled, ReadCause, UnlessFailed as NoneFailed, refusal_of}
use Rattle.object_dir.specs.Changing.{AddsOne, Decides, IfKept, LeftOfRegion, done_of}
use Rattle.object_dir.specs.Directories.{damage_reports, status_with}

-- damage is told of by the same refusals
pub reports_of : {A : Type 0} (result : Result A StoreAnswer) → damage_reports (refusal_of result) ≡ damage_in result
reports_of (Ok a) = refl
reports_of (Err NotFound) = refl
reports_of (Err Exists) = refl
reports_of (Err NoSpace) = refl
reports_of (Err Lost) = refl
reports_of (Err Failed) = refl
reports_of (Err (Corrupt tags)) = refl
reports_of (Err (Garbled leaf)) = refl
reports_of (Err NoMemory) = refl

pub cause_of : {A : Type 0} (result : Result A StoreAnswer) (old new : Condition) (a b x y : ℕ) → ReadCause (refusal_of result) old new → Cause result (status_with old a b) (status_with new x y)
cause_of (Ok a) old new p q x y cause = cause
cause_of (Err NotFound) old new p q x y cause = cause
cause_of (Err Exists) old new p q x y cause = cause
cause_of (Err NoSpace) old new p q x y cause = cause
cause_of (Err Lost) old new p q x y cause = cause
cause_of (Err Failed) old new p q x y cause = cause
cause_of (Err (Corrupt tags)) old new p q x y cause = cause
cause_of (Err (Garbled leaf)) old new p q x y cause = cause
cause_of (Err NoMemory) old new p q x y cause = cause

-- nothing failed in a call with another answer
pub unfailed_of : {A : Type 0} (result : Result A StoreAnswer) (fact : Type 0) → NoneFailed (refusal_of result) fact → UnlessFailed result fact
unfailed_of (Ok a) fact is = is
unfailed_of (Err NotFound) fact is = is
unfailed_of (Err Exists) fact is = is
unfailed_of (Err NoSpace) fact is = is
unfailed_of (Err Lost) fact is = is
unfailed_of (Err Failed) fact is = tt
unfailed_of (Err (Corrupt tags)) fact is = is
unfailed_of (Err (Garbled leaf)) fact is = is
unfailed_of (Err NoMemory) fact is = is

pub intact_of : {A : Type 0} (result : Result A StoreAnswer) → IfCorrupt (refusal_of result) (λ tags. ⊥) → IfGarbled (refusal_of result) (λ leaf. ⊥) → IsIntact result
intact_of (Ok a) corrupt garbled = tt
intact_of (Err NotFound) corrupt garbled = tt
intact_of (Err Exists) corrupt garbled = tt
intact_of (Err NoSpace) corrupt garbled = tt
intact_of (Err Lost) corrupt garbled = tt
intact_of (Err Failed) corrupt garbled = tt
intact_of (Err (Corrupt tags)) corrupt garbled = corrupt
intact_of (Err (Garbled leaf)) corrupt garbled = garbled
intact_of (Err NoMemory) corrupt garbled = tt

pub tells_of : {A : Type 0} (result : Result A StoreAnswer) (damage : StoreAnswer → Type 0) → IfCorrupt (refusal_of result) (λ tags. damage (Corrupt tags))
    → IfGarbled (refusal_of result) (λ leaf. damage (Garbled leaf)) → TellsDamage result damage
tells_of (Ok a) damage corrupt garbled = tt
tells_of (Err NotFound) damage corrupt garbled = tt
tells_of (Err Exists) damage corrupt garbled = tt
tells_of (Err NoSpace) damage corrupt garbled = tt
tells_of (Err Lost) damage corrupt garbled = tt
tells_of (Err Failed) damage corrupt garbled = tt
tells_of (Err (Corrupt tags)) damage corrupt garbled = corrupt
tells_of (Err (Garbled leaf)) damage corrupt garbled = garbled
tells_of (Err NoMemory) damage corrupt garbled = tt

-- a premise goes into the case
pub corrupt_under : (why : Option StoreAnswer) (told : Bool) (P : Mismatch → Type 0) → (IsTrue told → IfCorrupt why P) → IfCorrupt why (λ tags. IsTrue told → P tags)
corrupt_under None told P is = tt
corrupt_under (Some NotFound) told P is = tt
corrupt_under (Some Exists) told P is = tt
corrupt_under (Some NoSpace) told P is = tt
corrupt_under (Some Lost) told P is = tt
corrupt_under (Some Failed) told P is = tt
corrupt_under (Some (Corrupt tags)) told P is = is
corrupt_under (Some (Garbled leaf)) told P is = tt
corrupt_under (Some NoMemory) told P is = tt

-- a leaf that is told of a volume that isn't lost, where that can't be
pub garbled_never : (why : Option StoreAnswer) (old new : Condition) (P : ℕ → Type 0) → ReadCause why old new → ((leaf : ℕ) → old.lost ≡ false → P leaf → ⊥)
    → IfGarbled why P → IfGarbled why (λ leaf. ⊥)
garbled_never None old new P cause never is = tt
garbled_never (Some NotFound) old new P cause never is = tt
garbled_never (Some Exists) old new P cause never is = tt
garbled_never (Some NoSpace) old new P cause never is = tt
garbled_never (Some Lost) old new P cause never is = tt
garbled_never (Some Failed) old new P cause never is = tt
garbled_never (Some (Corrupt tags)) old new P cause never is = tt
garbled_never (Some (Garbled leaf)) old new P cause never is = never leaf cause.0 is
garbled_never (Some NoMemory) old new P cause never is = tt

-- what is known of a leaf that is told
pub garbled_also : (why : Option StoreAnswer) (P Q : ℕ → Type 0) → ((leaf : ℕ) → P leaf → Q leaf) → IfGarbled why P → IfGarbled why Q
garbled_also None P Q implies is = tt
garbled_also (Some NotFound) P Q implies is = tt
garbled_also (Some Exists) P Q implies is = tt
garbled_also (Some NoSpace) P Q implies is = tt
garbled_also (Some Lost) P Q implies is = tt
garbled_also (Some Failed) P Q implies is = tt
garbled_also (Some (Corrupt tags)) P Q implies is = tt
garbled_also (Some (Garbled leaf)) P Q implies is = implies leaf is
garbled_also (Some NoMemory) P Q implies is = tt

-- a crash that leaves what was there leaves what a change may leave
pub left_before : {A : Type 0} (result : Result A StoreAnswer) (old : Contents) (stated : Result Store StoreAnswer) (o : Remains) → o ≡ Some old → LeftByChange result old stated o
left_before (Ok done) old stated o is = inl is
left_before (Err NotFound) old stated o is = is
left_before (Err Exists) old stated o is = is
left_before (Err NoSpace) old stated o is = is
left_before (Err Lost) old stated o is = is
left_before (Err Failed) old stated o is = inl is
left_before (Err (Corrupt tags)) old stated o is = is
left_before (Err (Garbled leaf)) old stated o is = is
left_before (Err NoMemory) old stated o is = is

pub not_both : {A : Type 0} (b : Bool) → b ≡ true → b ≡ false → A
not_both b yes' no' = absurd (let e : true ≡ false = sym yes' ∙ no' in cc)

rose_later : (a b c : ℕ) → a ≤ b → Rose b c → Rose a c
rose_later a b c le rose = ⊎_elim (λ (l : b < c). inl (omega arith)) (λ top. inr top) rose

-- why a commit ends as it does, behind reads of a volume that worked
pub commit_cause : (answer : Result ℕ LeafAnswer) (old mid new : Condition) → ReadCause None old mid → old.faults ≤ mid.faults → LeafCause answer mid new
    → ReadCause (refusal_of (done_of answer)) old new
commit_cause (Ok sequence) old mid new reads later cause = (reads.0, cause.1)
commit_cause (Err leaf_answers.Lost) old mid new reads later cause = not_both mid.lost cause.0 reads.1
commit_cause (Err leaf_answers.Failed) old mid new reads later cause = (reads.0, cause.1, rose_later old.faults mid.faults new.faults later cause.2)
commit_cause (Err (leaf_answers.Mismatch tags)) old mid new reads later cause = (reads.0, cause.1, cause.2)
commit_cause (Err leaf_answers.NoMemory) old mid new reads later cause = (reads.0, cause.1)

-- damage that a commit tells
pub commit_corrupt : (answer : Result ℕ LeafAnswer) (P Q : Mismatch → Type 0) → ((tags : Mismatch) → P tags → Q tags) → IfMismatch answer P → IfCorrupt (refusal_of (done_of answer)) Q
commit_corrupt (Ok sequence) P Q implies is = tt
commit_corrupt (Err leaf_answers.Lost) P Q implies is = tt
commit_corrupt (Err leaf_answers.Failed) P Q implies is = tt
commit_corrupt (Err (leaf_answers.Mismatch tags)) P Q implies is = implies tags is
commit_corrupt (Err leaf_answers.NoMemory) P Q implies is = tt

-- a commit tells of no broken rule
pub commit_garbled : (answer : Result ℕ LeafAnswer) (P : ℕ → Type 0) → IfGarbled (refusal_of (done_of answer)) P
commit_garbled (Ok sequence) P = tt
commit_garbled (Err leaf_answers.Lost) P = tt
commit_garbled (Err leaf_answers.Failed) P = tt
commit_garbled (Err (leaf_answers.Mismatch tags)) P = tt
commit_garbled (Err leaf_answers.NoMemory) P = tt

-- the sequence rises by one at most, and where nothing was committed not at all
pub commit_one : (answer : Result ℕ LeafAnswer) (old mid new : ℕ) → mid ≡ old → IsNumbered answer mid new → AddsOne (done_of answer) old new
commit_one (Ok sequence) old mid new same numbered = let e : new ≡ mid + 1 = numbered.1 in omega arith
commit_one (Err answer) old mid new same numbered = numbered ∙ same

pub adds_none : (result : Result (Unit {0}) StoreAnswer) (old new : ℕ) → new ≡ old → AddsOne result old new
adds_none (Ok done) old new same = omega arith
adds_none (Err refusal) old new same = same

-- nothing failed in a commit behind reads in which nothing did
pub commit_unfailed : (answer : Result ℕ LeafAnswer) (a b c : ℕ) → b ≡ a → NoLeafFailed answer (c ≡ b) → NoneFailed (refusal_of (done_of answer)) (c ≡ a)
commit_unfailed (Ok sequence) a b c one two = two ∙ one
commit_unfailed (Err leaf_answers.Lost) a b c one two = two ∙ one
commit_unfailed (Err leaf_answers.Failed) a b c one two = tt
commit_unfailed (Err (leaf_answers.Mismatch tags)) a b c one two = two ∙ one
commit_unfailed (Err leaf_answers.NoMemory) a b c one two = two ∙ one

-- nor was anything written where it was refused
pub commit_unwritten : (answer : Result ℕ LeafAnswer) (old mid new : Condition) → ReadCause None old mid → mid.writes ≡ old.writes → LeafCause answer mid new
    → IfUnwritten answer (new.writes ≡ mid.writes)
    → IfKept (done_of answer) (new.writes ≡ old.writes)
commit_unwritten (Ok sequence) old mid new reads one cause two = tt
commit_unwritten (Err leaf_answers.Lost) old mid new reads one cause two = two ∙ one
commit_unwritten (Err leaf_answers.Failed) old mid new reads one cause two = tt
commit_unwritten (Err (leaf_answers.Mismatch tags)) old mid new reads one cause two = two ∙ one
commit_unwritten (Err leaf_answers.NoMemory) old mid new reads one cause two = two ∙ one

-- a plan that was committed, or wasn't
pub commit_decides : (answer : Result ℕ LeafAnswer) (after : Store) (stated : Result Store StoreAnswer) → stated ≡ Ok after → Decides (done_of answer) stated
commit_decides (Ok sequence) after stated is = (after, is)
commit_decides (Err leaf_answers.Lost) after stated is = tt
commit_decides (Err leaf_answers.Failed) after stated is = tt
commit_decides (Err (leaf_answers.Mismatch tags)) after stated is = tt
commit_decides (Err leaf_answers.NoMemory) after stated is = tt

-- what holds anyway
pub if_kept : (result : Result (Unit {0}) StoreAnswer) (fact : Type 0) → fact → IfKept result fact
if_kept (Ok done) fact is = tt
if_kept (Err NotFound) fact is = is
if_kept (Err Exists) fact is = is
if_kept (Err NoSpace) fact is = is
if_kept (Err Lost) fact is = is
if_kept (Err Failed) fact is = tt
if_kept (Err (Corrupt tags)) fact is = is
if_kept (Err (Garbled leaf)) fact is = is
if_kept (Err NoMemory) fact is = is

-- a crash that leaves what was held leaves what a change of a region may leave
pub left_held : (result : Result (Unit {0}) StoreAnswer) (region : ℕ) (held : Held) (o : Option Held) → o ≡ Some held → LeftOfRegion result region held o
left_held (Ok done) region held o is = inl is
left_held (Err NotFound) region held o is = is
left_held (Err Exists) region held o is = is
left_held (Err NoSpace) region held o is = is
left_held (Err Lost) region held o is = is
left_held (Err Failed) region held o is = inl is
left_held (Err (Corrupt tags)) region held o is = is
left_held (Err (Garbled leaf)) region held o is = is
left_held (Err NoMemory) region held o is = is

-- so does one within a commit
pub commit_held : (answer : Result ℕ LeafAnswer) (region : ℕ) (named : List Leaf) (held : Held) (o : Option Held) → LeftByCommit answer held (after_commit region named held) o
    → LeftOfRegion (done_of answer) region held o
commit_held (Ok sequence) region named held o left = ⊎_elim (λ (e : o ≡ Some held). inl e) (λ (e : o ≡ Some (after_commit region named held)). inr (named, e)) left
commit_held (Err leaf_answers.Lost) region named held o left = left
commit_held (Err leaf_answers.Failed) region named held o left = ⊎_elim (λ (e : o ≡ Some held). inl e) (λ (e : o ≡ Some (after_commit region named held)). inr (named, e)) left
commit_held (Err (leaf_answers.Mismatch tags)) region named held o left = left
commit_held (Err leaf_answers.NoMemory) region named held o left = left
