-- Where an object is found.
use Rattle.std.specs.Prelude.{ℕ, ◌≡◌, ◌<◌, None, Some, Result, Ok, Err, IsTrue}
use Rattle.store_api.specs.declared.answer.StoreAnswer.{StoreAnswer}
use Rattle.store_api.specs.declared.answer.StoreAnswer.TheVariants.{NotFound, Exists, NoSpace}
use Rattle.store_api.specs.Stores.{Store, object_at}
use Rattle.store_api.specs.Volumes.{VolumeKeeper}
use Rattle.region_plan.specs.Layout.{Layout}
use Rattle.region_plan.specs.Entries.{is_inode}
use Rattle.region_plan.specs.Inodes.{identifier_in}
use Rattle.region_plan.specs.Reading.{ReadsOnly, IfAnswered, IfGarbled, IsBroken, IsSound, refusal_of, leaves_of}
use Rattle.region_plan.specs.Regions.{object_of, store_of}
use Rattle.tee_base.specs.Words.{Identifier, RegionLeaves}

-- an answer is the inode of the identifier's object, and NotFound comes where there is none; want of memory, a loss, a failure or
-- damage may come instead
abbrev pub Locates : Layout → RegionLeaves → Store → Identifier → Result ℕ StoreAnswer → Type 0
Locates L leaves store id (Ok n) = (n < L.leaves) × IsTrue (is_inode L leaves n) × (identifier_in (leaves n) ≡ id) × (object_at store id ≡ Some (object_of L leaves n))
Locates L leaves store id (Err NotFound) = object_at store id ≡ None
Locates L leaves store id (Err Exists) = ⊥
Locates L leaves store id (Err NoSpace) = ⊥
Locates L leaves store id (Err _) = Unit {0}

module _ {S : Type 0} (K : VolumeKeeper S) (region : S → ℕ) (L : Layout) where
  -- a call that only reads, and finds the inode leaf of an identifier
  pub record LocatesInode (id : Identifier) (result : Result ℕ StoreAnswer) (old new : S) : Type 0 where
    -- an answer comes only of a map and inodes without damage that keep the rules, and is that of the leaves as they are found
    pub sound : IsTrue K.tells_reads → IfAnswered (refusal_of result) (IsSound K region L old)
    pub answer : IsTrue K.tells_reads → Locates L (leaves_of K region old) (store_of L (leaves_of K region old)) id result
    -- a leaf that is told breaks a rule
    pub garbled : IfGarbled (refusal_of result) (λ leaf. IsBroken K region L old leaf)
    pub reads : ReadsOnly K region (refusal_of result) old new
