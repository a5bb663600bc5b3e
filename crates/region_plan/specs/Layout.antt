-- The forms of a region: how many leaves it has, and what its map says of each.
use Rattle.std.specs.Prelude.{ℕ, ◌*◌, ◌-◌, ◌/◌, ◌%◌}
use Rattle.region_plan.specs.declared.entry.Entry.{Entry}
use Rattle.region_plan.specs.declared.form.Form.{Form}
use Rattle.region_plan.specs.declared.form.Form.TheVariants.{One, Two}

-- how many leaves a region has, and how the entries of its map are laid out
pub record Layout : Type 0 where
  -- leaves of a region
  pub leaves : ℕ
  -- how many of them, the first, are the map
  pub map_leaves : ℕ
  -- the index of an entry is below this
  pub indexes : ℕ
  -- the entry that a number of the map is
  pub entry_of : ℕ → Entry

-- an entry as one number: its kind, of so many, then its inode, of so many, then its index
abbrev pub entry_by : ℕ → ℕ → ℕ → Entry
entry_by kinds inodes n = record { kind = n % kinds; inode = n / kinds % inodes; index = n / (kinds * inodes) }

-- the layout of each form. The first has a byte for the kind, one for the inode, and two for the index; the second has numbers below
-- 2^22, two bits for the kind, ten for the inode, and ten for the index
unfoldable pub layout : Form → Layout
layout One = record { leaves = 256; map_leaves = 1; indexes = 65536; entry_of = λ n. entry_by 256 256 n }
layout Two = record { leaves = 1024; map_leaves = 4; indexes = 1024; entry_of = λ n. entry_by 4 1024 n }

-- the cost in blocks that the objects of a region may reach: it has a block for each leaf but the map
abbrev pub quota_of : Layout → ℕ
quota_of L = L.leaves - L.map_leaves
