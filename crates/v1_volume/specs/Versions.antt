-- The form of a volume over both versions: the second one is written, and one of the first holds what its regions become.
use Rattle.std.specs.Prelude.{◌==◌, ◌&&◌, ◌||◌, ℕ, Bool, not, nat_lt, is_ok, if◌then◌else◌, None}
use Rattle.tee_base.specs.Words.{RegionLeaves}
use Rattle.tee_base.specs.declared.limits.TheConstants.{MAX_HOSTS}
use Rattle.epoch.specs.Forms.{Form, Root, all_below}
use Rattle.epoch.specs.declared.header.TreeEntry.{TreeEntry}
use Rattle.region_plan.specs.Layout.{layout}
use Rattle.region_plan.specs.Regions.{region_of}
use Rattle.region_plan.specs.declared.form.Form.TheVariants.{One}
use Rattle.v1_volume.specs.Renumbering.{converted_leaf}
use Rattle.tree_paths.specs.Form.{tree_form, tree_uses}
use Rattle.tree_paths.specs.Shape.{first_shape}
use Rattle.tree_paths.specs.Tree.{Look, on_image}
use Rattle.tree_paths.specs.declared.first_version.TheConstants as old
use Rattle.tree_paths.specs.declared.places.TheConstants as now
use Rattle.v1_volume.specs.Old.{old_damage, old_leaves, old_refusal}

-- each region stands for a store
abbrev pub all_stand : (ℕ → RegionLeaves) → Bool
all_stand regions = all_below MAX_HOSTS (λ region. is_ok (region_of (layout One) (regions region)))

-- a root is of the first version
abbrev pub is_old : Root → Bool
is_old root = root.version == old.FIRST_VERSION

-- a root of the first version with this entry
abbrev pub old_root : TreeEntry → Root
old_root entry = record { version = old.FIRST_VERSION; entry = entry }

-- the block holds the copy of a place that its entry names, and is one of the first version's
abbrev pub old_uses : Look → TreeEntry → ℕ → Bool
old_uses look root k = nat_lt k old.BLOCKS && tree_uses first_shape look root k

-- the form of a volume of either version: under a root of the first one its leaves are those that the regions become, and it is
-- sound where each region stands for a store; an image that isn't sound is refused then
abbrev pub volume_form : Form
volume_form = record {
  version = now.TREE_VERSION;
  known = λ version. not (nat_lt version old.FIRST_VERSION || nat_lt now.TREE_VERSION version);
  leaves = tree_form.leaves;
  blocks = tree_form.blocks;
  damage = λ key image root region leaf.
      if is_old root then old_damage (on_image first_shape key image) root.entry region leaf
      else tree_form.damage key image root region leaf;
  leaf = λ key image root region leaf.
      if is_old root then converted_leaf (old_leaves (on_image first_shape key image) root.entry region) leaf
      else tree_form.leaf key image root region leaf;
  sound = λ key image root.
      if is_old root then all_stand (old_leaves (on_image first_shape key image) root.entry)
      else tree_form.sound key image root;
  uses = λ key image root k.
      if is_old root then old_uses (on_image first_shape key image) root.entry k
      else tree_form.uses key image root k;
  refuses = λ key image root.
      if is_old root then old_refusal (on_image first_shape key image) root.entry else None;
}
