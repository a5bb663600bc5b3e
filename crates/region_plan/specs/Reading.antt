-- Reads of the leaves of one region, and what calls that only read promise.
use Rattle.std.specs.Prelude.{ℕ, ◌≡◌, ◌≢◌, ◌≤◌, ◌<◌, ◌+◌, ◌/◌, min, true, false, List, Option, None, Some, Result, Ok, Err, IfOk, IsTrue}
use Rattle.tee_base.specs.Crash.{LeavesOnly}
use Rattle.tee_base.specs.Faults.{Rose}
use Rattle.tee_base.specs.declared.limits.TheConstants.{BLOCK_BYTES}
use Rattle.store_api.specs.declared.answer.Mismatch.{Mismatch}
use Rattle.store_api.specs.declared.answer.StoreAnswer.{StoreAnswer}
use Rattle.store_api.specs.declared.answer.StoreAnswer.TheVariants as answers
use Rattle.store_api.specs.declared.leaves.LeafAnswer.{LeafAnswer}
use Rattle.store_api.specs.Keeping.{Answers}
use Rattle.store_api.specs.Stores.{Store}
use Rattle.store_api.specs.Volumes.{Held, Condition, VolumeKeeper, AddsNothing, ReadsLeaf}
use Rattle.region_plan.specs.Layout.{Layout}
use Rattle.region_plan.specs.Entries.{is_inode, is_well_formed}
use Rattle.region_plan.specs.Inodes.{identifier_in, is_inode_leaf, length_in}
use Rattle.region_plan.specs.Regions.{breaks, has_data, is_doubled, is_padded, leaf_of, store_of}
use Rattle.tee_base.specs.Words.{Identifier, RegionLeaves}

-- the refusal of an answer, if it is one
abbrev pub refusal_of : {A : Type 0} → Result A StoreAnswer → Option StoreAnswer
refusal_of (Ok a) = None
refusal_of (Err refusal) = Some refusal

-- a refusal that a leaf breaks a rule, if it is one, is of a leaf that meets this
abbrev pub IfGarbled : Option StoreAnswer → (ℕ → Type 0) → Type 0
IfGarbled (Some (answers.Garbled leaf)) fact = fact leaf
IfGarbled _ fact = Unit {0}

-- a call that reads is kept from its answer by what it reads, or by want of memory: it isn't refused for what the store is
abbrev pub IsUnread : Option StoreAnswer → Type 0
IsUnread (Some answers.NotFound) = ⊥
IsUnread (Some answers.Exists) = ⊥
IsUnread (Some answers.NoSpace) = ⊥
IsUnread _ = Unit {0}

-- a refusal of damage, if it is one, is of tags that meet this
abbrev pub IfCorrupt : Option StoreAnswer → (Mismatch → Type 0) → Type 0
IfCorrupt (Some (answers.Corrupt tags)) fact = fact tags
IfCorrupt _ fact = Unit {0}

-- a fact that holds where there is an answer: it was done, or refused for what the store is
abbrev pub IfAnswered : Option StoreAnswer → Type 0 → Type 0
IfAnswered None fact = fact
IfAnswered (Some answers.NotFound) fact = fact
IfAnswered (Some answers.Exists) fact = fact
IfAnswered (Some answers.NoSpace) fact = fact
IfAnswered (Some _) fact = Unit {0}

-- a fact that holds unless what the volume stands on failed
abbrev pub UnlessFailed : Option StoreAnswer → Type 0 → Type 0
UnlessFailed (Some answers.Failed) fact = Unit {0}
UnlessFailed _ fact = fact

-- an inode keeps the rules of its leaf, of its identifier and of the places of its data
pub record IsWhole (L : Layout) (leaves : RegionLeaves) (inode : ℕ) : Type 0 where
  pub bytes : is_inode_leaf (leaves inode) ≡ true
  pub new : is_doubled L leaves inode ≡ false
  pub placed : has_data L leaves inode ≡ true

-- when each refusal comes, and whether the volume is lost afterwards
abbrev pub ReadCause : Option StoreAnswer → Condition → Condition → Type 0
ReadCause (Some answers.Lost) old new = (old.lost ≡ true) × (new.lost ≡ true)
ReadCause (Some answers.Failed) old new = (old.lost ≡ false) × (new.lost ≡ true) × Rose old.faults new.faults
ReadCause (Some (answers.Corrupt tags)) old new = (old.lost ≡ false) × (new.lost ≡ false) × (tags.found ≢ tags.kept)
ReadCause _ old new = (old.lost ≡ false) × (new.lost ≡ false)

module _ {S : Type 0} (K : VolumeKeeper S) (region : S → ℕ) where
  -- the leaves of the region as they are found
  abbrev pub leaves_of : S → ℕ → List ℕ
  leaves_of source = K.text source (region source)

  -- no tag differs on the way to a leaf of the region
  abbrev pub IsUndamaged : S → ℕ → Type 0
  IsUndamaged source leaf = K.damage source (region source) leaf ≡ None

  -- the leaf of a number is read into these bytes
  pub record ReadsNumber {A : Type 0} (number : ℕ) (bytes : List ℕ) (result : Result A LeafAnswer) (old new : S) : Type 0 where
    pub reads : ReadsLeaf K (region old) number bytes result old new
    pub same_region : region new ≡ region old

  -- leaves are read, until one isn't for this reason: nothing changes
  pub record ReadsOnly (why : Option StoreAnswer) (old new : S) : Type 0 where
    pub cause : ReadCause why (K.condition old) (K.condition new)
    pub later : (K.condition old).faults ≤ (K.condition new).faults
    pub unfailed : UnlessFailed why ((K.condition new).faults ≡ (K.condition old).faults)
    pub writes : (K.condition new).writes ≡ (K.condition old).writes
    pub foundation : (K.condition new).foundation ≡ (K.condition old).foundation
    pub same_region : region new ≡ region old
    pub sequence : (K.held new).sequence ≡ (K.held old).sequence
    pub same : K.honest old → K.held new ≡ K.held old
    pub below : K.honest_below old → K.honest_below new
    pub honest : K.honest old → K.honest new × IfCorrupt why (λ tags. ⊥)
    -- what is found stays, and the damage too; Corrupt tells of that of a leaf of the region
    pub text : IsTrue K.tells_reads → K.text new ≡ K.text old
    pub damage : IsTrue K.tells_reads → K.damage new ≡ K.damage old
    pub shows : IsTrue K.tells_reads → IfCorrupt why (λ tags. (number : ℕ) × (number < K.leaves) × (K.damage new (region new) number ≡ Some tags))
    -- of a crash: over a lost volume nothing new may be left, and nothing of the past is forgotten; it leaves what is held
    pub quiet : IsTrue (K.condition old).lost → AddsNothing K old new
    pub past : K.honest old → (t : ℕ) (o : Option Held) → t ≤ K.moment old → K.left_since old t o → K.left_since new t o
    pub crash : K.honest old → (K.condition old).lost ≡ false → LeavesOnly K.moment K.left_since old new (λ o. o ≡ Some (K.held old))

  module _ (L : Layout) where
    -- the leaves of an inode's data between two places of its content are found without damage, and are zeros past its end
    pub record IsReadData (inode start end : ℕ) (source : S) : Type 0 where
      pub undamaged : (place leaf : ℕ) → start ≤ place → place < end → leaf_of L (leaves_of source) inode (place / BLOCK_BYTES) ≡ Some leaf → IsUndamaged source leaf
      pub padded : (place leaf : ℕ) → start ≤ place → place < end → leaf_of L (leaves_of source) inode (place / BLOCK_BYTES) ≡ Some leaf
          → is_padded L (leaves_of source) leaf ≡ true

    -- so are those of the object of an identifier that hold so many bytes from a place on, up to its end
    pub record IsReadPart (id : Identifier) (start count : ℕ) (source : S) : Type 0 where
      pub inode : ℕ
      pub is : is_inode L (leaves_of source) inode ≡ true
      pub named : identifier_in (leaves_of source inode) ≡ id
      pub found : IsReadData inode start (min (start + count) (length_in (leaves_of source inode))) source

    -- the inodes below a leaf are found without damage, and keep the rules
    pub record AreWhole (source : S) (end : ℕ) : Type 0 where
      pub undamaged : (i : ℕ) → i < end → is_inode L (leaves_of source) i ≡ true → IsUndamaged source i
      pub whole : (i : ℕ) → i < end → is_inode L (leaves_of source) i ≡ true → IsWhole L (leaves_of source) i

    -- the map and the inodes are found without damage, and keep the rules: no leaf breaks one but data that isn't zeros past the end
    pub record IsSound (source : S) : Type 0 where
      pub map : (i : ℕ) → i < L.map_leaves → IsUndamaged source i
      pub formed : (i : ℕ) → i < L.leaves → is_well_formed L (leaves_of source) i ≡ true
      pub inodes : AreWhole source L.leaves

    -- a leaf breaks a rule, where what reads give is known; it is one of the region's in any case
    pub record IsBroken (source : S) (leaf : ℕ) : Type 0 where
      pub below : leaf < L.leaves
      pub breaks : IsTrue K.tells_reads → IsTrue (breaks L (leaves_of source) leaf)

    -- a call that only reads: this is stated of the store, and the answer is within these bounds whatever is read
    pub record ReadsRegion {A : Type 0} (stated : Store → Result A StoreAnswer) (Bounds : A → Type 0) (result : Result A StoreAnswer) (old new : S) : Type 0 where
      -- an answer comes only of a map and inodes without damage that keep the rules, and is that of the leaves as they are found
      pub sound : IsTrue K.tells_reads → IfAnswered (refusal_of result) (IsSound old)
      pub answer : IsTrue K.tells_reads → Answers result (stated (store_of L (leaves_of old)))
      pub bounds : IfOk result (λ a. Bounds a)
      -- a leaf that is told breaks a rule
      pub garbled : IfGarbled (refusal_of result) (λ leaf. IsBroken old leaf)
      pub reads : ReadsOnly (refusal_of result) old new
