-- What is known of a volume, and of the reference to it, where a change was made in the objects of one of its regions.
use Rattle.std.proofs.Common.{◌≡◌, ◌∙◌, ℕ, Result, sym, ap, subst}
use Rattle.store_api.specs.declared.answer.StoreAnswer.{StoreAnswer}
use Rattle.store_api.specs.declared.change.Change.{Change}
use Rattle.store_api.specs.Keeping.{Applied, Applies}
use Rattle.store_api.specs.Stores.{change as changed_by}
use Rattle.store_api.specs.Volumes.{VolumeKeeper}
use Rattle.object_dir.specs.Directories.{dir_keeper}
use Rattle.object_dir.specs.Regions.{KeepsStore, contents_in, region_keeper, store_in}
use Rattle.object_dir.specs.declared.directory.ObjectDir.{ObjectDir}
use Rattle.object_dir.proofs.PlaceLemmas as place

module _ {V : Type 0} (K : VolumeKeeper V) (change : Change) (result : Result (Unit {0}) StoreAnswer) (before after : ObjectDir V) (made : Applies (dir_keeper K) change result before after) where
  stood : ((region_keeper K).condition after.region).foundation ≡ ((region_keeper K).condition before.region).foundation
  stood = made.call.cause.foundation

  number : after.region.number ≡ before.region.number
  number = place.same_number K before.region after.region stood

  pub same_reference : after.region.volume.ghost_name ≡ before.region.volume.ghost_name
  same_reference = place.same_reference K before.region after.region stood

  -- from one region of a volume to one of another volume
  abbrev Made : ℕ → V → ℕ → V → Type 0
  Made n v m w = Applied result (changed_by (store_in n (K.held v)) change) (contents_in n (K.held v)) (contents_in m (K.held w))

  module _ (region : ℕ) (old new : V) (was : before.region.volume.now ≡ old) (here : before.region.number ≡ region) (is : new ≡ after.region.volume.now) where
    kept : KeepsStore K region old → KeepsStore K before.region.number before.region.volume.now
    kept keeps = subst (λ (v : V). KeepsStore K before.region.number v) (sym was) (subst (λ (n : ℕ). KeepsStore K n old) (sym here) keeps)

    pub applied_over : KeepsStore K region old → Made region old region new
    applied_over keeps =
        subst (λ (n : ℕ). Made n old region new) here
        (subst (λ (v : V). Made before.region.number v region new) was
        (subst (λ (w : V). Made before.region.number before.region.volume.now region w) (sym is)
        (subst (λ (m : ℕ). Made before.region.number before.region.volume.now m after.region.volume.now) (number ∙ here) (made.applied (kept keeps)))))

    pub keeps_over : KeepsStore K region old → KeepsStore K region new
    keeps_over keeps = subst (λ (w : V). KeepsStore K region w) (sym is) (subst (λ (m : ℕ). KeepsStore K m after.region.volume.now) (number ∙ here) (made.call.model (kept keeps)))

    pub stands_over : (K.condition new).foundation ≡ (K.condition old).foundation
    stands_over = ap (λ (v : V). (K.condition v).foundation) is ∙ place.volume_stays K before.region after.region stood ∙ ap (λ (v : V). (K.condition v).foundation) was
