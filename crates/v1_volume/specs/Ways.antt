-- A leaf of a region of the first version and its damage, by the way to its place.
use Rattle.std.proofs.Common.{◌≡◌, ◌≤◌, ◌<◌, ℕ, true, false, nat_lt, [], None, refl, arith}
use Rattle.std.proofs.lemmas.Bool.Decides.{nat_tests}
use Rattle.epoch.specs.declared.header.TreeEntry.{TreeEntry}
use Rattle.tree_paths.specs.Shape.{first_shape}
use Rattle.tree_paths.specs.Tree.{Look, damage_of, text_of}
use Rattle.v1_volume.specs.Old.{old_damage, old_leaves}

module _ (look : Look) (root : TreeEntry) (region leaf : ℕ) where
  -- a leaf, and its damage
  pub old_leaf : leaf < 256 → old_leaves look root region leaf ≡ text_of first_shape look root (first_shape.leaf_place region leaf)
  unfolding old_leaves
  old_leaf low = let t : nat_lt leaf 256 ≡ true = grind (arith, nat_tests) in rw t refl

  pub old_damaged : leaf < 256 → old_damage look root region leaf ≡ damage_of first_shape look root (first_shape.leaf_place region leaf)
  unfolding old_damage
  old_damaged low = let t : nat_lt leaf 256 ≡ true = grind (arith, nat_tests) in rw t refl

  -- there is no other one
  pub no_leaf : 256 ≤ leaf → old_leaves look root region leaf ≡ []
  unfolding old_leaves
  no_leaf past = let t : nat_lt leaf 256 ≡ false = grind (arith, nat_tests) in rw t refl

  pub no_damage : 256 ≤ leaf → old_damage look root region leaf ≡ None
  unfolding old_damage
  no_damage past = let t : nat_lt leaf 256 ≡ false = grind (arith, nat_tests) in rw t refl
