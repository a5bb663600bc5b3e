-- The leaves under the node of a group.
use Rattle.std.proofs.Common.{◌≡◌, ◌<◌, ◌+◌, ◌-◌, ◌*◌, ◌/◌, ◌==◌, ◌∙◌, ℕ, true, false, nat_lt, List, Option, None, Some, Result, Err, refl, sym, ap, arith}
use Rattle.std.proofs.lemmas.Bool.Decides.{nat_tests}
use Rattle.store_api.specs.declared.answer.Mismatch.{Mismatch}
use Rattle.store_api.specs.declared.leaves.LeafAnswer.{LeafAnswer}
use Rattle.store_api.specs.declared.leaves.LeafAnswer.TheVariants as answers
use Rattle.store_api.specs.Volumes.{IfMismatch, ShowsLeaf}
use Rattle.epoch.specs.Copies.{first_damage}
use Rattle.epoch.specs.Header.{entry_at}
use Rattle.epoch.specs.declared.header.TreeEntry.{TreeEntry}
use Rattle.tree_paths.specs.Shape.{first_shape}
use Rattle.tree_paths.specs.Tree.{Look, damage_above, damage_at, damage_below, damage_of, entry_below, text_of}
use Rattle.tree_paths.proofs.ReadLemmas.{entry_found, shows_end, text_to, way_to}
use Rattle.v1_volume.specs.Old.{group_of, old_damage}
use Rattle.v1_volume.specs.Ways.{old_damaged}

-- how far the node of a group lies below the root
pub group_level : (region group : ℕ) → region < 16 → group < 16 → first_shape.level (group_of region group) ≡ 2
group_level region group r g =
    let p : ℕ = 17 + 16 * region + group in
    let zero' : (p == 0) ≡ false = grind arith in
    let one : nat_lt p 17 ≡ false = grind (arith, nat_tests) in
    let two : nat_lt p 273 ≡ true = (let less : p < 273 = omega (arith, r, g) in grind (arith, nat_tests)) in
    rw (zero', one, two) refl

-- and a leaf
leaf_level : (region leaf : ℕ) → first_shape.level (first_shape.leaf_place region leaf) ≡ 3
leaf_level region leaf =
    let p : ℕ = 273 + 256 * region + leaf in
    let zero' : (p == 0) ≡ false = grind arith in
    let one : nat_lt p 17 ≡ false = grind (arith, nat_tests) in
    let two : nat_lt p 273 ≡ false = grind (arith, nat_tests) in
    rw (zero', one, two) refl

module _ (look : Look) (root : TreeEntry) (region leaf : ℕ) (r : region < 16) (l : leaf < 256) where
  up : group_of region (leaf / 16) ≡ first_shape.parent (first_shape.leaf_place region leaf)
  up = (let e : 17 + 16 * region + leaf / 16 ≡ (273 + 256 * region + leaf - 1) / 16 = omega arith in e)

  level : first_shape.level (group_of region (leaf / 16)) ≡ 2
  level = group_level region (leaf / 16) r (omega arith)

  -- the damage above a leaf is that of the node
  pub leaf_above : damage_above first_shape look root 3 (first_shape.leaf_place region leaf) ≡ damage_of first_shape look root (group_of region (leaf / 16))
  leaf_above = ap (damage_below first_shape look root 2) (sym up) ∙ ap (λ (k : ℕ). damage_below first_shape look root k (group_of region (leaf / 16))) (sym level)

  -- so damage of the node is that of the leaf
  pub leaf_damaged : (tags : Mismatch) → damage_of first_shape look root (group_of region (leaf / 16)) ≡ Some tags
      → damage_of first_shape look root (first_shape.leaf_place region leaf) ≡ Some tags
  leaf_damaged tags is =
      let place : ℕ = first_shape.leaf_place region leaf in
      way_to first_shape look root 3 place place refl (leaf_level region leaf) (entry_below first_shape look root 3 place) refl
      ∙ ap (λ (d : Option Mismatch). first_damage d (damage_at look place (entry_below first_shape look root 3 place))) (leaf_above ∙ is)

  -- the entry of a leaf stands in the node of its group
  pub leaf_entry : (entry : TreeEntry) (node : List ℕ) (slot : ℕ) → node ≡ text_of first_shape look root (group_of region (leaf / 16))
      → slot ≡ first_shape.slot (first_shape.leaf_place region leaf) → entry ≡ entry_at (64 * slot) node
      → entry ≡ entry_below first_shape look root 3 (first_shape.leaf_place region leaf)
  leaf_entry entry node slot text at from =
      let group : ℕ = group_of region (leaf / 16) in
      entry_found first_shape look root 3 2 (first_shape.leaf_place region leaf) group refl up (entry_below first_shape look root 2 group) entry node slot refl
      (text ∙ ap (λ (k : ℕ). (look group (entry_below first_shape look root k group)).text) level) at from

  module _ (entry : TreeEntry) (is : entry ≡ entry_below first_shape look root 3 (first_shape.leaf_place region leaf)) where
    -- so what the entry names is the leaf
    pub leaf_named : (look (first_shape.leaf_place region leaf) entry).text ≡ text_of first_shape look root (first_shape.leaf_place region leaf)
    leaf_named = text_to first_shape look root 3 (first_shape.leaf_place region leaf) (first_shape.leaf_place region leaf) refl (leaf_level region leaf) entry is

    -- and its damage is that of the leaf, where there is none above
    pub leaf_shown : (A : Type 0) (answer : Result A LeafAnswer) → damage_of first_shape look root (group_of region (leaf / 16)) ≡ None
        → ShowsLeaf answer (damage_at look (first_shape.leaf_place region leaf) entry) → ShowsLeaf answer (damage_of first_shape look root (first_shape.leaf_place region leaf))
    leaf_shown A answer none shows =
        let place : ℕ = first_shape.leaf_place region leaf in
        let above : damage_above first_shape look root 3 place ≡ None = leaf_above ∙ none in
        shows_end A answer (damage_of first_shape look root place) (damage_above first_shape look root 3 place) (damage_at look place entry)
        (way_to first_shape look root 3 place place refl (leaf_level region leaf) entry is) above shows

-- the group of a leaf by its number there
pub same_group : (group number : ℕ) → number < 16 → (16 * group + number) / 16 ≡ group
same_group group number low = omega (arith, low)

-- what is shown of the node of a group is so of its first leaf
pub group_shown : (A B : Type 0) (e : LeafAnswer) (look : Look) (root : TreeEntry) (region group : ℕ) → region < 16 → group < 16
    → ShowsLeaf {A = A} (Err e) (damage_of first_shape look root (group_of region group))
    → IfMismatch {A = B} (Err e) (λ tags. (l : ℕ) × (l < 256) × (old_damage look root region l ≡ Some tags))
group_shown A B (answers.Mismatch tags) look root region group r g shows =
    let low : 16 * group < 256 = omega (arith, g) in
    let at : 16 * group / 16 ≡ group = omega arith in (
      16 * group,
      low,
      old_damaged look root region (16 * group) low
          ∙ leaf_damaged look root region (16 * group) r low tags (ap (λ (k : ℕ). damage_of first_shape look root (group_of region k)) at ∙ shows),
    )
group_shown A B answers.Lost look root region group r g shows = tt
group_shown A B answers.Failed look root region group r g shows = tt
group_shown A B answers.NoMemory look root region group r g shows = tt
