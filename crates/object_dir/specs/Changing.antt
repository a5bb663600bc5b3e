-- What a call on a region promises, and what a change of its objects comes to.
use Rattle.std.specs.Prelude.{ℕ, ◌≡◌, ◌≢◌, ◌+◌, ◌≤◌, ◌<◌, ◌⊎◌, Bool, false, List, [], bytes_eq, Option, None, Some, Result, Ok, Err, IsTrue}
use Rattle.std.specs.List.{list_all}
use Rattle.tee_base.specs.Crash.{LeavesOnly}
use Rattle.store_api.specs.declared.answer.StoreAnswer.{StoreAnswer}
use Rattle.store_api.specs.declared.answer.StoreAnswer.TheVariants.{Failed}
use Rattle.store_api.specs.declared.change.Change.{Change}
use Rattle.store_api.specs.declared.leaves.Leaf.{Leaf}
use Rattle.store_api.specs.declared.leaves.LeafAnswer.{LeafAnswer}
use Rattle.store_api.specs.Keeping.{Answers, Applied, LeftByChange}
use Rattle.store_api.specs.Stores.{Store, change}
use Rattle.store_api.specs.Volumes.{Held, VolumeKeeper, AddsNothing, CommitsLeaves, after_commit}
use Rattle.store_api.specs.Refusals.{store_answer}
use Rattle.region_plan.specs.Plans.{with_leaves}
use Rattle.region_plan.specs.Reading.{IfAnswered, IfCorrupt, IfGarbled, IsBroken, IsSound, ReadCause, UnlessFailed, leaves_of, refusal_of}
use Rattle.region_plan.specs.Regions.{region_of}
use Rattle.object_dir.specs.Regions.{in_use, HasStore, kept_in, number_of, region_keeper, remains_in}
use Rattle.object_dir.specs.declared.region.Region.{Region}
use Rattle.tee_base.specs.Words.{RegionLeaves}

-- what a store answers where a commit answers this
abbrev pub done_of : Result ℕ LeafAnswer → Result (Unit {0}) StoreAnswer
done_of (Ok sequence) = Ok tt
done_of (Err answer) = Err (store_answer answer)

-- leaves of a region have these bytes already
abbrev pub are_there : RegionLeaves → List Leaf → Bool
are_there leaves named = list_all (λ leaf. bytes_eq (leaves leaf.number) leaf.bytes) named

-- the leaves of a plan, which are none where nothing is to be written
abbrev pub planned_leaves : Result (Option (List Leaf)) StoreAnswer → Result (List Leaf) StoreAnswer
planned_leaves (Ok None) = Ok []
planned_leaves (Ok (Some named)) = Ok named
planned_leaves (Err refusal) = Err refusal

-- a change is made where it can be, or refused as it is to be; what keeps it from an answer may come instead
abbrev pub Decides : Result (Unit {0}) StoreAnswer → Result Store StoreAnswer → Type 0
Decides (Ok done) stated = (after : Store) × (stated ≡ Ok after)
Decides (Err refusal) stated = Answers {A = Store} (Err refusal) stated

-- a fact that holds unless the change was made, or failed
abbrev pub IfKept : Result (Unit {0}) StoreAnswer → Type 0 → Type 0
IfKept (Ok done) fact = Unit {0}
IfKept (Err Failed) fact = Unit {0}
IfKept (Err refusal) fact = fact

-- a sequence rises by one at most, and at nothing but an Ok
abbrev pub AddsOne : Result (Unit {0}) StoreAnswer → ℕ → ℕ → Type 0
AddsOne (Ok done) old new = new ≤ old + 1
AddsOne (Err refusal) old new = new ≡ old

-- what is held, or that after a commit of leaves of one region
abbrev pub IsBeforeOrCommitted : ℕ → Held → Option Held → Type 0
IsBeforeOrCommitted region held o = (o ≡ Some held) ⊎ ((named : List Leaf) × (o ≡ Some (after_commit region named held)))

-- what a crash within a change of a region may leave, or after it failed
abbrev pub LeftOfRegion : Result (Unit {0}) StoreAnswer → ℕ → Held → Option Held → Type 0
LeftOfRegion (Ok done) region held o = IsBeforeOrCommitted region held o
LeftOfRegion (Err Failed) region held o = IsBeforeOrCommitted region held o
LeftOfRegion (Err refusal) region held o = o ≡ Some held

module _ {V : Type 0} (K : VolumeKeeper V) where
  -- these leaves change a region of an honest volume that isn't lost
  abbrev pub ChangesLeaves : Region V → List Leaf → Type 0
  ChangesLeaves old named = K.honest old.volume.now → (K.condition old.volume.now).lost ≡ false
      → with_leaves named ((K.held old.volume.now).leaves old.number) ≢ (K.held old.volume.now).leaves old.number

  -- these leaves of a region are replaced by one commit of the volume
  pub record CommitsRegion (named : List Leaf) (result : Result (Unit {0}) StoreAnswer) (old new : Region V) : Type 0 where
    pub answer : Result ℕ LeafAnswer
    pub told : result ≡ done_of answer
    pub commits : CommitsLeaves (region_keeper K) old.number named answer old new

  -- what every call on a region promises that is refused for this reason, or isn't refused
  pub record IsRegionCall (why : Option StoreAnswer) (old new : Region V) : Type 0 where
    pub cause : ReadCause why ((region_keeper K).condition old) ((region_keeper K).condition new)
    pub later : (K.condition old.volume.now).faults ≤ (K.condition new.volume.now).faults
    pub unfailed : UnlessFailed why ((K.condition new.volume.now).faults ≡ (K.condition old.volume.now).faults)
    -- it is the same region of the volume behind the same reference
    pub foundation : ((region_keeper K).condition new).foundation ≡ ((region_keeper K).condition old).foundation
    pub below : K.honest_below old.volume.now → K.honest_below new.volume.now
    pub honest : K.honest old.volume.now → K.honest new.volume.now × IfCorrupt why (λ tags. ⊥)
    -- damage that is told is that of a leaf of the region, or a leaf that breaks a rule
    pub shows : IsTrue K.tells_reads → IfCorrupt why (λ tags. (leaf : ℕ) × (leaf < K.leaves) × (K.damage new.volume.now new.number leaf ≡ Some tags))
    pub garbled : IfGarbled why (λ leaf. IsBroken (region_keeper K) number_of in_use old leaf)
    pub broken : IfGarbled why (λ leaf. IsBroken (region_keeper K) number_of in_use new leaf)
    -- of a crash: over a lost volume nothing new may be left, and nothing of the past is forgotten
    pub quiet : IsTrue (K.condition old.volume.now).lost → AddsNothing (region_keeper K) old new
    pub past : K.honest old.volume.now → (t : ℕ) (o : Option Held) → t ≤ K.moment old.volume.now → K.left_since old.volume.now t o → K.left_since new.volume.now t o
    pub goes_on : K.honest old.volume.now → K.moment old.volume.now ≤ K.moment new.volume.now

  -- leaves of the region alone are replaced, by one commit at most, whatever they stand for
  pub record CommitsOnce (result : Result (Unit {0}) StoreAnswer) (old new : Region V) : Type 0 where
    pub call : IsRegionCall (refusal_of result) old new
    -- every answer but Ok and Failed leaves all that is held, and nothing was written; other regions stay in any case
    pub kept : K.honest old.volume.now → IfKept result (K.held new.volume.now ≡ K.held old.volume.now)
    pub unwritten : IfKept result ((K.condition new.volume.now).writes ≡ (K.condition old.volume.now).writes)
    pub others : K.honest old.volume.now → (region : ℕ) → region ≢ old.number → (K.held new.volume.now).leaves region ≡ (K.held old.volume.now).leaves region
    -- a crash leaves what was held, or that with leaves of the region replaced
    pub leaves : K.honest old.volume.now → (K.condition old.volume.now).lost ≡ false
        → LeavesOnly (region_keeper K).moment (region_keeper K).left_since old new (LeftOfRegion result old.number (K.held old.volume.now))
    pub one : AddsOne result (K.held old.volume.now).sequence (K.held new.volume.now).sequence
    -- and none where each leaf of the region is as it was
    pub idle : K.honest old.volume.now → (K.held new.volume.now).leaves old.number ≡ (K.held old.volume.now).leaves old.number
        → (K.held new.volume.now).sequence ≡ (K.held old.volume.now).sequence

  -- the objects of a region are changed, all at once or not at all
  pub record ChangesRegion (c : Change) (result : Result (Unit {0}) StoreAnswer) (old new : Region V) : Type 0 where
    pub call : IsRegionCall (refusal_of result) old new
    -- an answer comes only of a map and inodes without damage that keep the rules, and is that of the leaves as they are found
    pub sound : IsTrue K.tells_reads → IfAnswered (refusal_of result) (IsSound (region_keeper K) number_of in_use old)
    pub decided : IsTrue K.tells_reads → (store : Store) → region_of in_use (leaves_of (region_keeper K) number_of old) ≡ Ok store → Decides result (change store c)
    -- every answer but Ok and Failed leaves all that is held, and nothing was written; other regions stay in any case
    pub kept : K.honest old.volume.now → IfKept result (K.held new.volume.now ≡ K.held old.volume.now)
    pub unwritten : IfKept result ((K.condition new.volume.now).writes ≡ (K.condition old.volume.now).writes)
    pub others : K.honest old.volume.now → (region : ℕ) → region ≢ old.number → (K.held new.volume.now).leaves region ≡ (K.held old.volume.now).leaves region
    -- a crash leaves what was held, or that with leaves of the region replaced
    pub leaves : K.honest old.volume.now → (K.condition old.volume.now).lost ≡ false
        → LeavesOnly (region_keeper K).moment (region_keeper K).left_since old new (LeftOfRegion result old.number (K.held old.volume.now))
    pub stands : HasStore K old → HasStore K new
    pub applied : HasStore K old → Applied result (change (kept_in K old).store c) (kept_in K old) (kept_in K new)
    -- one commit at most, and none but where the change is made
    pub one : AddsOne result (K.held old.volume.now).sequence (K.held new.volume.now).sequence
    -- and none where each leaf of the region is as it was
    pub idle : K.honest old.volume.now → (K.held new.volume.now).leaves old.number ≡ (K.held old.volume.now).leaves old.number
        → (K.held new.volume.now).sequence ≡ (K.held old.volume.now).sequence
    -- a crash leaves the objects before the change or after it
    pub crash : HasStore K old → (K.condition old.volume.now).lost ≡ false
        → LeavesOnly (region_keeper K).moment (region_keeper K).left_since old new
        (λ o. LeftByChange result (kept_in K old) (change (kept_in K old).store c) (remains_in new.number o))
