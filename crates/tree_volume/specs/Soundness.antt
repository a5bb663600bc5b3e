-- No leaf of a volume that is open is damaged.
use Rattle.std.proofs.Common.{◌≡◌, ◌<◌, if◌then◌else◌, ℕ, true, false, Option, None, refl}
use Rattle.store_api.specs.declared.answer.Mismatch.{Mismatch}
use Rattle.board.specs.Moment.{View}
use Rattle.tee_base.specs.declared.limits.TheConstants.{MAX_HOSTS}
use Rattle.epoch.specs.Forms.{is_leaf, leaves_of}
use Rattle.epoch.proofs.KeepLemmas.{leaf_is}
use Rattle.epoch.specs.declared.header.TreeEntry.{TreeEntry}
use Rattle.epoch.proofs.CommitLemmas.{leaf_below, region_below, sealed_each}
use Rattle.tree_paths.specs.declared.places.TheConstants.{REGION_LEAVES}
use Rattle.tree_paths.specs.Form.{form_root}
use Rattle.v1_volume.specs.Versions.{volume_form}
use Rattle.tree_volume.specs.Keeping.{IsOpen, damage_now, text_now}
use Rattle.tree_paths.specs.Shape.{shape}
use Rattle.tree_paths.specs.Tree.{damage_of, on_image}
use Rattle.tee_base.specs.Words.{Sequence}

pub sound_open : (view : View) (root : TreeEntry) (sequence : Sequence) → IsOpen view root sequence
    → (region leaf : ℕ) → damage_now view root region leaf ≡ None
unfolding damage_now
sound_open view root sequence is region leaf =
    elim (is_leaf REGION_LEAVES region leaf) as (λ b. is_leaf REGION_LEAVES region leaf ≡ b →
    (let none : Option Mismatch = None in if b then damage_of shape (on_image shape view.key view.state.reads) root (shape.leaf_place region leaf) else none) ≡ None) [
      | true ↦ λ e. sealed_each volume_form view.key (form_root root) view.state.reads is.sealed region leaf (region_below REGION_LEAVES region leaf e) (leaf_below REGION_LEAVES region leaf e)
      | false ↦ λ e. refl
    ] refl

-- what is called its damage and its text is the form's
pub damage_formed : (view : View) (root : TreeEntry) (region leaf : ℕ) → region < MAX_HOSTS → leaf < REGION_LEAVES
    → damage_now view root region leaf ≡ volume_form.damage view.key view.state.reads (form_root root) region leaf
unfolding damage_now
damage_formed view root region leaf r l =
    let there : is_leaf REGION_LEAVES region leaf ≡ true = leaf_is REGION_LEAVES region leaf r l in
    rw there refl

pub text_formed : (view : View) (root : TreeEntry) (region leaf : ℕ) → region < MAX_HOSTS → leaf < REGION_LEAVES
    → text_now view root region leaf ≡ volume_form.leaf view.key view.state.reads (form_root root) region leaf
unfolding leaves_of
text_formed view root region leaf r l =
    let there : is_leaf REGION_LEAVES region leaf ≡ true = leaf_is REGION_LEAVES region leaf r l in
    rw there refl
