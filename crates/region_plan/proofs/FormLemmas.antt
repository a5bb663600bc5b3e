-- What holds of the layouts of both forms.
use Rattle.std.proofs.Common.{◌≡◌, ℕ, ◌+◌, ◌*◌, ◌<◌, ◌≤◌, refl, arith}
use Rattle.region_plan.specs.Layout.{Layout, layout, quota_of}
use Rattle.region_plan.specs.Places.{free_entry}
use Rattle.region_plan.specs.declared.form.Form.{Form}
use Rattle.region_plan.specs.declared.form.Form.TheVariants.{One, Two}

-- a map of as many leaves as there are entries for, in front of others; an entry names a leaf; zero is a free leaf's
pub record IsLaid (L : Layout) : Type 0 where
  pub some' : 1 ≤ L.map_leaves
  pub more : L.map_leaves < L.leaves
  pub few : L.map_leaves ≤ 4
  pub most : L.leaves ≤ 1024
  pub mapped : L.leaves ≡ 256 * L.map_leaves
  pub indexes : L.leaves ≤ L.indexes
  pub short : L.indexes ≤ 65536
  pub inode : (n : ℕ) → (L.entry_of n).inode < L.leaves
  pub zero : L.entry_of 0 ≡ free_entry

pub laid_by : (f : Form) → IsLaid (layout f)
unfolding layout
laid_by One = record {
  some' = omega arith;
  more = omega arith;
  few = omega arith;
  most = omega arith;
  mapped = refl;
  indexes = omega arith;
  short = omega arith;
  inode = λ n. omega arith;
  zero = refl;
}
laid_by Two = record {
  some' = omega arith;
  more = omega arith;
  few = omega arith;
  most = omega arith;
  mapped = refl;
  indexes = omega arith;
  short = omega arith;
  inode = λ n. omega arith;
  zero = refl;
}

-- the map and what may be used
pub quota_is : (L : Layout) → IsLaid L → L.leaves ≡ L.map_leaves + quota_of L
quota_is L laid = (let more = laid.more in omega (arith, more))

-- no form has more leaves
pub most_leaves : (f : Form) → (layout f).leaves ≤ 1024
most_leaves f = (laid_by f).most
