-- The form of both versions under a root of the second one is the form that is written.
use Rattle.std.proofs.Common.{◌≡◌, refl}
use Rattle.tee_base.specs.Words.{Image, Key}
use Rattle.epoch.specs.Forms.{is_sealed, leaves_of}
use Rattle.epoch.specs.declared.header.TreeEntry.{TreeEntry}
use Rattle.tree_paths.specs.Form.{form_root, tree_form}
use Rattle.v1_volume.specs.Versions.{volume_form}

pub new_sealed : (key : Key) (image : Image) (root : TreeEntry) → is_sealed volume_form key image (form_root root) ≡ is_sealed tree_form key image (form_root root)
unfolding is_sealed
new_sealed key image root = refl

pub new_leaves : (key : Key) (image : Image) (root : TreeEntry) → leaves_of volume_form key image (form_root root) ≡ leaves_of tree_form key image (form_root root)
unfolding leaves_of
new_leaves key image root = refl
