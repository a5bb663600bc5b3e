-- The form of a volume whose entries stand in a tree: the ways from the root down to the leaves.
use Rattle.std.specs.Prelude.{ℕ, ◌+◌, ◌-◌, ◌*◌, ◌/◌, ◌%◌, ◌==◌, ◌&&◌, nat_lt, Bool, true, None}
use Rattle.epoch.specs.Forms.{Form, Root}
use Rattle.epoch.specs.declared.header.TreeEntry.{TreeEntry}
use Rattle.tree_paths.specs.Shape.{Shape, shape}
use Rattle.epoch.specs.Copies.{copy_of}
use Rattle.tree_paths.specs.Tree.{Look, damage_of, entry_of, on_image, text_of}

-- a block is the copy of a place that its entry names
unfoldable pub tree_uses : Shape → Look → TreeEntry → ℕ → Bool
tree_uses s look root k =
    nat_lt (s.first_block - 1) k
    && ((k - s.first_block) % 2 == copy_of (entry_of s look root ((k - s.first_block) / 2)).copy)

-- the form of a volume whose places are those of a shape
abbrev pub tree : Shape → Form
tree s = record {
  version = s.version;
  known = λ version. version == s.version;
  leaves = s.leaves;
  blocks = s.first_block + 2 * s.places;
  damage = λ key image root region leaf.
      damage_of s (on_image s key image) root.entry (s.leaf_place region leaf);
  leaf = λ key image root region leaf.
      text_of s (on_image s key image) root.entry (s.leaf_place region leaf);
  sound = λ key image root. true;
  uses = λ key image root. tree_uses s (on_image s key image) root.entry;
  refuses = λ key image root. None;
}

-- the root of a tree with this entry
abbrev pub tree_root : Shape → TreeEntry → Root
tree_root s entry = record { version = s.version; entry = entry }

-- the form that is written
abbrev pub tree_form : Form
tree_form = tree shape

-- its root with this entry
abbrev pub form_root : TreeEntry → Root
form_root entry = tree_root shape entry
