-- Laws of the form of a volume over both versions.
use Rattle.std.specs.Prelude.{◌≡◌, ◌<◌, ℕ, Ok}
use Rattle.tee_base.specs.Words.{Image, Key}
use Rattle.tee_base.specs.declared.limits.TheConstants.{MAX_HOSTS}
use Rattle.store_api.specs.Stores.{Store}
use Rattle.epoch.specs.Forms.{leaves_of}
use Rattle.epoch.specs.declared.header.TreeEntry.{TreeEntry}
use Rattle.region_plan.specs.Layout.{layout}
use Rattle.region_plan.specs.Regions.{region_of}
use Rattle.region_plan.specs.declared.form.Form.TheVariants.{One, Two}
use Rattle.tree_paths.specs.Shape.{first_shape}
use Rattle.tree_paths.specs.Tree.{on_image}
use Rattle.v1_volume.specs.Old.{old_leaves}
use Rattle.v1_volume.specs.Versions.{old_root, volume_form}

-- what an image of the first version holds of a region stands for the store for which the region's own leaves stand
abbrev pub KeepsStores : Type 0
KeepsStores =
    (key : Key) (image : Image) (root : TreeEntry) (region : ℕ) (store : Store) → region < MAX_HOSTS
    → region_of (layout One) (old_leaves (on_image first_shape key image) root region) ≡ Ok store
    → region_of (layout Two) (leaves_of volume_form key image (old_root root) region) ≡ Ok store
