-- The places of a volume: which of them are leaves, and which place each other one is an entry of.
use Rattle.std.specs.Prelude.{◌≡◌, ◌<◌, ℕ, suc, ◌+◌, ◌-◌, ◌*◌, ◌/◌, ◌%◌, ◌==◌, nat_lt, if◌then◌else◌}
use Rattle.tee_base.specs.declared.limits.TheConstants.{MAX_HOSTS}
use Rattle.tree_paths.specs.declared.places.TheConstants as now
use Rattle.tree_paths.specs.declared.first_version.TheConstants as before

-- the places of a version: the root is 0, and each other place is an entry of another
pub record Shape : Type 0 where
  pub version : ℕ
  -- how many blocks lie before the copies of the root
  pub first_block : ℕ
  pub places : ℕ
  -- how many leaves a region has
  pub leaves : ℕ
  -- the place of a leaf, by region and leaf number
  pub leaf_place : ℕ → ℕ → ℕ
  -- how far a place lies below the root
  pub level : ℕ → ℕ
  -- the place that a place is an entry of, and the number of that entry
  pub parent : ℕ → ℕ
  pub slot : ℕ → ℕ

-- what each shape keeps to
pub record IsShape (s : Shape) : Type 0 where
  -- the copies lie behind the slots of the headers
  pub behind : 3 < s.first_block
  pub top : s.level 0 ≡ 0
  pub below : (p : ℕ) → 0 < p → p < s.places → s.level p ≡ suc (s.level (s.parent p))
  pub before : (p : ℕ) → 0 < p → s.parent p < p
  pub fits : (p : ℕ) → 0 < p → s.slot p < now.FAN
  -- no two places are the same entry
  pub apart : (p q : ℕ) → 0 < p → 0 < q → s.parent p ≡ s.parent q → s.slot p ≡ s.slot q → p ≡ q
  pub leaf_inside : (r l : ℕ) → r < MAX_HOSTS → l < s.leaves → s.leaf_place r l < s.places
  pub leaf_apart : (r l q m : ℕ) → l < s.leaves → m < s.leaves → s.leaf_place r l ≡ s.leaf_place q m
      → (r ≡ q) × (l ≡ m)

-- the places that are written: a root, a node for each region, four bands in each, sixteen groups in each band, and leaves
abbrev pub shape : Shape
shape = record {
  version = now.TREE_VERSION;
  first_block = now.FIRST_BLOCK;
  places = now.PLACES;
  leaves = now.REGION_LEAVES;
  leaf_place = λ region leaf. now.FIRST_LEAF + now.REGION_LEAVES * region + leaf;
  level = λ p.
      if p == 0 then 0 else
      if nat_lt p now.FIRST_BAND then 1 else
      if nat_lt p now.FIRST_GROUP then 2 else
      if nat_lt p now.FIRST_LEAF then 3 else now.DEPTH;
  parent = λ p.
      if nat_lt p now.FIRST_BAND then 0 else
      if nat_lt p now.FIRST_GROUP then now.FIRST_REGION + (p - now.FIRST_BAND) / now.BANDS else
      now.FIRST_BAND + (p - now.FIRST_GROUP) / now.FAN;
  slot = λ p.
      if nat_lt p now.FIRST_BAND then (p - now.FIRST_REGION) % now.FAN else
      if nat_lt p now.FIRST_GROUP then (p - now.FIRST_BAND) % now.BANDS else
      (p - now.FIRST_GROUP) % now.FAN;
}

-- the places of the first version: a root, a node for each region, sixteen groups in each, and leaves
abbrev pub first_shape : Shape
first_shape = record {
  version = before.FIRST_VERSION;
  first_block = before.FIRST_BLOCK;
  places = before.PLACES;
  leaves = before.REGION_LEAVES;
  leaf_place = λ region leaf. before.FIRST_LEAF + before.REGION_LEAVES * region + leaf;
  level = λ p.
      if p == 0 then 0 else
      if nat_lt p before.FIRST_GROUP then 1 else
      if nat_lt p before.FIRST_LEAF then 2 else before.DEPTH;
  parent = λ p. (p - 1) / now.FAN;
  slot = λ p. (p - 1) % now.FAN;
}
