-- Both shapes keep to what a shape keeps to, and the children of each are its places.
use Rattle.std.proofs.Common.{◌≡◌, ◌≢◌, ◌≤◌, ◌<◌, ◌+◌, ◌-◌, ◌*◌, ◌/◌, ◌%◌, ◌==◌, ◌∙◌, if◌then◌else◌, nat_lt, ℕ, suc, true, false, refl, sym, ap, subst, ⊎_elim, arith}
use Rattle.std.proofs.lemmas.Bool.{cases_eq, cases_lt}
use Rattle.std.proofs.lemmas.Bool.Decides.{nat_tests}
use Rattle.tree_paths.specs.Shape.{IsShape, first_shape, shape}
use Rattle.tree_paths.specs.Walk.{AreChildren, children, first_children}

by_level : (P : Type 0) (p : ℕ) → (p < 17 → P) → (17 ≤ p → p < 81 → P) → (81 ≤ p → P) → P
by_level P p region band lower =
    ⊎_elim region (λ (h : 17 ≤ p). ⊎_elim (λ (k : p < 81). band h k) lower (cases_lt p 81)) (cases_lt p 17)

level_one : (p : ℕ) → 0 < p → p < 17 → shape.level p ≡ 1
level_one p positive below =
    let zero : (p == 0) ≡ false = grind arith in
    let one : nat_lt p 17 ≡ true = grind (arith, nat_tests) in
    rw (zero, one) refl

level_two : (p : ℕ) → 17 ≤ p → p < 81 → shape.level p ≡ 2
level_two p from below =
    let zero : (p == 0) ≡ false = grind arith in
    let one : nat_lt p 17 ≡ false = grind (arith, nat_tests) in
    let two : nat_lt p 81 ≡ true = grind (arith, nat_tests) in
    rw (zero, one, two) refl

level_three : (p : ℕ) → 81 ≤ p → p < 1105 → shape.level p ≡ 3
level_three p from below =
    let zero : (p == 0) ≡ false = grind arith in
    let one : nat_lt p 17 ≡ false = grind (arith, nat_tests) in
    let two : nat_lt p 81 ≡ false = grind (arith, nat_tests) in
    let three : nat_lt p 1105 ≡ true = grind (arith, nat_tests) in
    rw (zero, one, two, three) refl

pub level_four : (p : ℕ) → 1105 ≤ p → shape.level p ≡ 4
level_four p from =
    let zero : (p == 0) ≡ false = grind arith in
    let one : nat_lt p 17 ≡ false = grind (arith, nat_tests) in
    let two : nat_lt p 81 ≡ false = grind (arith, nat_tests) in
    let three : nat_lt p 1105 ≡ false = grind (arith, nat_tests) in
    rw (zero, one, two, three) refl

-- no place lies deeper than the leaves
pub at_most : (p : ℕ) → shape.level p ≤ 4
at_most p =
    elim (p == 0) as (λ a. (if a then 0 else if nat_lt p 17 then 1 else if nat_lt p 81 then 2 else if nat_lt p 1105 then 3 else 4) ≤ 4) [
      | true ↦ omega arith
      | false ↦ elim (nat_lt p 17) as (λ b. (if b then 1 else if nat_lt p 81 then 2 else if nat_lt p 1105 then 3 else 4) ≤ 4) [
        | true ↦ omega arith
        | false ↦ elim (nat_lt p 81) as (λ c. (if c then 2 else if nat_lt p 1105 then 3 else 4) ≤ 4) [
          | true ↦ omega arith
          | false ↦ elim (nat_lt p 1105) as (λ d. (if d then 3 else 4) ≤ 4) [ true ↦ omega arith | false ↦ omega arith ]
        ]
      ]
    ]

pub parent_one : (p : ℕ) → p < 17 → shape.parent p ≡ 0
parent_one p below = let one : nat_lt p 17 ≡ true = grind (arith, nat_tests) in rw one refl

pub parent_two : (p : ℕ) → 17 ≤ p → p < 81 → shape.parent p ≡ 1 + (p - 17) / 4
parent_two p from below =
    let one : nat_lt p 17 ≡ false = grind (arith, nat_tests) in
    let two : nat_lt p 81 ≡ true = grind (arith, nat_tests) in
    rw (one, two) refl

pub parent_three : (p : ℕ) → 81 ≤ p → shape.parent p ≡ 17 + (p - 81) / 16
parent_three p from =
    let one : nat_lt p 17 ≡ false = grind (arith, nat_tests) in
    let two : nat_lt p 81 ≡ false = grind (arith, nat_tests) in
    rw (one, two) refl

slot_one : (p : ℕ) → p < 17 → shape.slot p ≡ (p - 1) % 16
slot_one p below = let one : nat_lt p 17 ≡ true = grind (arith, nat_tests) in rw one refl

slot_two : (p : ℕ) → 17 ≤ p → p < 81 → shape.slot p ≡ (p - 17) % 4
slot_two p from below =
    let one : nat_lt p 17 ≡ false = grind (arith, nat_tests) in
    let two : nat_lt p 81 ≡ true = grind (arith, nat_tests) in
    rw (one, two) refl

slot_three : (p : ℕ) → 81 ≤ p → shape.slot p ≡ (p - 81) % 16
slot_three p from =
    let one : nat_lt p 17 ≡ false = grind (arith, nat_tests) in
    let two : nat_lt p 81 ≡ false = grind (arith, nat_tests) in
    rw (one, two) refl

levels_below : (p : ℕ) → 0 < p → p < 17489 → shape.level p ≡ suc (shape.level (shape.parent p))
levels_below p positive inside =
    by_level (shape.level p ≡ suc (shape.level (shape.parent p))) p
    (λ (h : p < 17). level_one p positive h ∙ ap (λ (q : ℕ). suc (shape.level q)) (sym (parent_one p h)))
    (λ (h : 17 ≤ p) (k : p < 81).
    level_two p h k ∙ ap suc (sym (level_one (1 + (p - 17) / 4) (omega arith) (omega arith))) ∙ ap (λ (q : ℕ). suc (shape.level q)) (sym (parent_two p h k)))
    (λ (h : 81 ≤ p). ⊎_elim
    (λ (k : p < 1105).
    level_three p h k ∙ ap suc (sym (level_two (17 + (p - 81) / 16) (omega arith) (omega arith))) ∙ ap (λ (q : ℕ). suc (shape.level q)) (sym (parent_three p h)))
    (λ (k : 1105 ≤ p).
    level_four p k ∙ ap suc (sym (level_three (17 + (p - 81) / 16) (omega arith) (omega arith))) ∙ ap (λ (q : ℕ). suc (shape.level q)) (sym (parent_three p h)))
    (cases_lt p 1105))

parent_before : (p : ℕ) → 0 < p → shape.parent p < p
parent_before p positive =
    by_level (shape.parent p < p) p
    (λ (h : p < 17). subst (λ (q : ℕ). q < p) (sym (parent_one p h)) positive)
    (λ (h : 17 ≤ p) (k : p < 81). subst (λ (q : ℕ). q < p) (sym (parent_two p h k)) (omega arith))
    (λ (h : 81 ≤ p). subst (λ (q : ℕ). q < p) (sym (parent_three p h)) (omega arith))

slot_fits : (p : ℕ) → shape.slot p < 16
slot_fits p =
    by_level (shape.slot p < 16) p
    (λ (h : p < 17). subst (λ (i : ℕ). i < 16) (sym (slot_one p h)) (omega arith))
    (λ (h : 17 ≤ p) (k : p < 81). subst (λ (i : ℕ). i < 16) (sym (slot_two p h k)) (omega arith))
    (λ (h : 81 ≤ p). subst (λ (i : ℕ). i < 16) (sym (slot_three p h)) (omega arith))

module _ (p q : ℕ) (one : 0 < p) (two : 0 < q) (parents : shape.parent p ≡ shape.parent q) (slots : shape.slot p ≡ shape.slot q) where
  from_region : p < 17 → p ≡ q
  from_region h =
      by_level (p ≡ q) q
      (λ (k : q < 17). let s : (p - 1) % 16 ≡ (q - 1) % 16 = sym (slot_one p h) ∙ slots ∙ slot_one q k in omega arith)
      (λ (k : 17 ≤ q) (l : q < 81). let e : 0 ≡ 1 + (q - 17) / 4 = sym (parent_one p h) ∙ parents ∙ parent_two q k l in omega arith)
      (λ (k : 81 ≤ q). let e : 0 ≡ 17 + (q - 81) / 16 = sym (parent_one p h) ∙ parents ∙ parent_three q k in omega arith)

  from_band : 17 ≤ p → p < 81 → p ≡ q
  from_band h i =
      by_level (p ≡ q) q
      (λ (k : q < 17). let e : 1 + (p - 17) / 4 ≡ 0 = sym (parent_two p h i) ∙ parents ∙ parent_one q k in omega arith)
      (λ (k : 17 ≤ q) (l : q < 81).
      let e : 1 + (p - 17) / 4 ≡ 1 + (q - 17) / 4 = sym (parent_two p h i) ∙ parents ∙ parent_two q k l in
      let s : (p - 17) % 4 ≡ (q - 17) % 4 = sym (slot_two p h i) ∙ slots ∙ slot_two q k l in
      omega arith)
      (λ (k : 81 ≤ q). let e : 1 + (p - 17) / 4 ≡ 17 + (q - 81) / 16 = sym (parent_two p h i) ∙ parents ∙ parent_three q k in omega arith)

  from_lower : 81 ≤ p → p ≡ q
  from_lower h =
      by_level (p ≡ q) q
      (λ (k : q < 17). let e : 17 + (p - 81) / 16 ≡ 0 = sym (parent_three p h) ∙ parents ∙ parent_one q k in omega arith)
      (λ (k : 17 ≤ q) (l : q < 81). let e : 17 + (p - 81) / 16 ≡ 1 + (q - 17) / 4 = sym (parent_three p h) ∙ parents ∙ parent_two q k l in omega arith)
      (λ (k : 81 ≤ q).
      let e : 17 + (p - 81) / 16 ≡ 17 + (q - 81) / 16 = sym (parent_three p h) ∙ parents ∙ parent_three q k in
      let s : (p - 81) % 16 ≡ (q - 81) % 16 = sym (slot_three p h) ∙ slots ∙ slot_three q k in
      omega arith)

  entries_apart : p ≡ q
  entries_apart = by_level (p ≡ q) p from_region from_band from_lower

-- the shape that is written
pub is_shape : IsShape shape
is_shape = record {
  behind = omega arith;
  top = refl;
  below = levels_below;
  before = parent_before;
  fits = λ p positive. slot_fits p;
  apart = entries_apart;
  leaf_inside = λ r l region leaf. (let b : 1105 + 1024 * r + l < 17489 = omega arith in b);
  leaf_apart = λ r l q m one two same. (let e : 1105 + 1024 * r + l ≡ 1105 + 1024 * q + m = same in (omega arith, omega arith));
}

first_one : (p : ℕ) → 0 < p → p < 17 → first_shape.level p ≡ 1
first_one p positive below =
    let zero : (p == 0) ≡ false = grind arith in
    let one : nat_lt p 17 ≡ true = grind (arith, nat_tests) in
    rw (zero, one) refl

first_two : (p : ℕ) → 17 ≤ p → p < 273 → first_shape.level p ≡ 2
first_two p from below =
    let zero : (p == 0) ≡ false = grind arith in
    let one : nat_lt p 17 ≡ false = grind (arith, nat_tests) in
    let two : nat_lt p 273 ≡ true = grind (arith, nat_tests) in
    rw (zero, one, two) refl

first_three : (p : ℕ) → 273 ≤ p → first_shape.level p ≡ 3
first_three p from =
    let zero : (p == 0) ≡ false = grind arith in
    let one : nat_lt p 17 ≡ false = grind (arith, nat_tests) in
    let two : nat_lt p 273 ≡ false = grind (arith, nat_tests) in
    rw (zero, one, two) refl

first_below : (p : ℕ) → 0 < p → p < 4369 → first_shape.level p ≡ suc (first_shape.level (first_shape.parent p))
first_below p positive inside =
    ⊎_elim
    (λ (h : p < 17). first_one p positive h ∙ ap (λ (q : ℕ). suc (first_shape.level q)) (let e : 0 ≡ (p - 1) / 16 = omega arith in e))
    (λ (h : 17 ≤ p). ⊎_elim
    (λ (k : p < 273). first_two p h k ∙ ap suc (sym (first_one ((p - 1) / 16) (omega arith) (omega arith))))
    (λ (k : 273 ≤ p). first_three p k ∙ ap suc (sym (first_two ((p - 1) / 16) (omega arith) (omega arith))))
    (cases_lt p 273))
    (cases_lt p 17)

-- the shape of the first version
pub is_first_shape : IsShape first_shape
is_first_shape = record {
  behind = omega arith;
  top = refl;
  below = first_below;
  before = λ p positive. (let b : (p - 1) / 16 < p = omega arith in b);
  fits = λ p positive. (let b : (p - 1) % 16 < 16 = omega arith in b);
  apart = λ p q one two parents slots.
      (let e : (p - 1) / 16 ≡ (q - 1) / 16 = parents in
      let s : (p - 1) % 16 ≡ (q - 1) % 16 = slots in
      omega arith);
  leaf_inside = λ r l region leaf. (let b : 273 + 256 * r + l < 4369 = omega arith in b);
  leaf_apart = λ r l q m one two same. (let e : 273 + 256 * r + l ≡ 273 + 256 * q + m = same in (omega arith, omega arith));
}

-- the entry that a place is, by what its parent and its slot are
module _ (p q i : ℕ) (parent : shape.parent p ≡ q) (slot : shape.slot p ≡ i) where
  as_child : (i < children.fan q) × (children.child q i ≡ p) → (shape.slot p < children.fan (shape.parent p)) × (children.child (shape.parent p) (shape.slot p) ≡ p)
  as_child is =
      subst (λ (x : ℕ). (shape.slot p < children.fan x) × (children.child x (shape.slot p) ≡ p)) (sym parent)
      (subst (λ (x : ℕ). (x < children.fan q) × (children.child q x ≡ p)) (sym slot) is)

band_child : (q i p : ℕ) → 0 < q → q < 17 → i < 4 → 17 + 4 * (q - 1) + i ≡ p → (i < children.fan q) × (children.child q i ≡ p)
band_child q i p positive below fits is =
    let zero : (q == 0) ≡ false = grind arith in
    let one : nat_lt q 17 ≡ true = grind (arith, nat_tests) in
    rw (zero, one) (fits, is)

lower_child : (q i p : ℕ) → 17 ≤ q → i < 16 → 81 + 16 * (q - 17) + i ≡ p → (i < children.fan q) × (children.child q i ≡ p)
lower_child q i p from fits is =
    let zero : (q == 0) ≡ false = grind arith in
    let one : nat_lt q 17 ≡ false = grind (arith, nat_tests) in
    rw (zero, one) (fits, is)

-- what a node names is a place, as the entry that it is
module _ (p i : ℕ) (inside : p < 17489) (above : shape.level p < 4) (below : i < children.fan p) where
  is_node : p < 1105
  is_node =
      ⊎_elim (λ (h : p < 1105). h) (λ (h : 1105 ≤ p). absurd (let four : shape.level p ≡ 4 = level_four p h in omega (arith, above, four))) (cases_lt p 1105)

  names_region : p ≡ 0 → (0 < children.child p i) × (children.child p i < 17489) × (shape.parent (children.child p i) ≡ p) × (shape.slot (children.child p i) ≡ i)
  names_region top =
      let zero : (p == 0) ≡ true = grind arith in
      let few : i < 16 = subst (λ (n : ℕ). i < n) (rw zero refl) below in
      let is : children.child p i ≡ 1 + i = rw zero refl in
      subst (λ (q : ℕ). (0 < q) × (q < 17489) × (shape.parent q ≡ p) × (shape.slot q ≡ i)) (sym is)
      (omega arith, omega arith, parent_one (1 + i) (omega arith) ∙ sym top, slot_one (1 + i) (omega arith) ∙ (let e : (1 + i - 1) % 16 ≡ i = omega arith in e))

  names_band : 0 < p → p < 17 → (0 < children.child p i) × (children.child p i < 17489) × (shape.parent (children.child p i) ≡ p) × (shape.slot (children.child p i) ≡ i)
  names_band positive region =
      let zero : (p == 0) ≡ false = grind arith in
      let one : nat_lt p 17 ≡ true = grind (arith, nat_tests) in
      let few : i < 4 = subst (λ (n : ℕ). i < n) (rw (zero, one) refl) below in
      let is : children.child p i ≡ 17 + 4 * (p - 1) + i = rw (zero, one) refl in
      subst (λ (q : ℕ). (0 < q) × (q < 17489) × (shape.parent q ≡ p) × (shape.slot q ≡ i)) (sym is) (
        omega arith,
        omega arith,
        parent_two (17 + 4 * (p - 1) + i) (omega arith) (omega arith) ∙ (let e : 1 + (17 + 4 * (p - 1) + i - 17) / 4 ≡ p = omega arith in e),
        slot_two (17 + 4 * (p - 1) + i) (omega arith) (omega arith) ∙ (let e : (17 + 4 * (p - 1) + i - 17) % 4 ≡ i = omega arith in e),
      )

  names_lower : 17 ≤ p → (0 < children.child p i) × (children.child p i < 17489) × (shape.parent (children.child p i) ≡ p) × (shape.slot (children.child p i) ≡ i)
  names_lower lower =
      let zero : (p == 0) ≡ false = grind arith in
      let one : nat_lt p 17 ≡ false = grind (arith, nat_tests) in
      let few : i < 16 = subst (λ (n : ℕ). i < n) (rw (zero, one) refl) below in
      let node : p < 1105 = is_node in
      let is : children.child p i ≡ 81 + 16 * (p - 17) + i = rw (zero, one) refl in
      subst (λ (q : ℕ). (0 < q) × (q < 17489) × (shape.parent q ≡ p) × (shape.slot q ≡ i)) (sym is) (
        omega arith,
        omega arith,
        parent_three (81 + 16 * (p - 17) + i) (omega arith) ∙ (let e : 17 + (81 + 16 * (p - 17) + i - 81) / 16 ≡ p = omega arith in e),
        slot_three (81 + 16 * (p - 17) + i) (omega arith) ∙ (let e : (81 + 16 * (p - 17) + i - 81) % 16 ≡ i = omega arith in e),
      )

  names : (0 < children.child p i) × (children.child p i < 17489) × (shape.parent (children.child p i) ≡ p) × (shape.slot (children.child p i) ≡ i)
  names =
      ⊎_elim (λ (h : p < 17). ⊎_elim names_region (λ (ne : p ≢ 0). names_band (omega arith) h) (cases_eq p 0)) names_lower (cases_lt p 17)

fan_some : (p : ℕ) → (0 < children.fan p) × (children.fan p ≤ 16)
fan_some p =
    elim (p == 0) as (λ a. (0 < (if a then 16 else if nat_lt p 17 then 4 else 16)) × ((if a then 16 else if nat_lt p 17 then 4 else 16) ≤ 16)) [
      | true ↦ (omega arith, omega arith)
      | false ↦ elim (nat_lt p 17) as (λ b. (0 < (if b then 4 else 16)) × ((if b then 4 else 16) ≤ 16)) [ true ↦ (omega arith, omega arith) | false ↦ (omega arith, omega arith) ]
    ]

-- what lies as deep as the leaves is one
leaf_there : (p : ℕ) → p < 17489 → shape.level p ≡ 4 → (r l : ℕ) × (r < 16) × (l < 1024) × (1105 + 1024 * r + l ≡ p)
leaf_there p inside deep =
    let from : 1105 ≤ p = ⊎_elim (λ (h : p < 1105). absurd (not_leaf p h deep)) (λ (h : 1105 ≤ p). h) (cases_lt p 1105) in
    ((p - 1105) / 1024, (p - 1105) % 1024, omega arith, omega arith, omega arith)
  where
    not_leaf : (p : ℕ) → p < 1105 → shape.level p ≡ 4 → ⊥
    not_leaf p h deep =
        by_level ⊥ p
        (λ (k : p < 17). ⊎_elim
        (λ (top : p ≡ 0). absurd (let z : shape.level p ≡ 0 = ap shape.level top in omega (arith, z, deep)))
        (λ (ne : p ≢ 0). absurd (let one : shape.level p ≡ 1 = level_one p (omega arith) k in omega (arith, one, deep)))
        (cases_eq p 0))
        (λ (k : 17 ≤ p) (l : p < 81). absurd (let two : shape.level p ≡ 2 = level_two p k l in omega (arith, two, deep)))
        (λ (k : 81 ≤ p). absurd (let three : shape.level p ≡ 3 = level_three p k h in omega (arith, three, deep)))

-- each place is the child of its parent
pub are_children : AreChildren shape children 4
are_children = record {
  named = λ p i inside above below. names p i inside above below;
  some = λ p. (fan_some p).0;
  fits = λ p. (fan_some p).1;
  deepest = λ p inside. at_most p;
  leaf = leaf_there;
  among = λ p positive inside.
      by_level ((shape.slot p < children.fan (shape.parent p)) × (children.child (shape.parent p) (shape.slot p) ≡ p)) p
      (λ (h : p < 17). as_child p 0 ((p - 1) % 16) (parent_one p h) (slot_one p h) (let b : (p - 1) % 16 < 16 = omega arith in b, let e : 1 + (p - 1) % 16 ≡ p = omega arith in e))
      (λ (h : 17 ≤ p) (k : p < 81).
      as_child p (1 + (p - 17) / 4) ((p - 17) % 4) (parent_two p h k) (slot_two p h k)
      (band_child (1 + (p - 17) / 4) ((p - 17) % 4) p (omega arith) (omega arith) (omega arith) (omega arith)))
      (λ (h : 81 ≤ p).
      as_child p (17 + (p - 81) / 16) ((p - 81) % 16) (parent_three p h) (slot_three p h)
      (lower_child (17 + (p - 81) / 16) ((p - 81) % 16) p (omega arith) (omega arith) (omega arith)));
}

first_at_most : (p : ℕ) → first_shape.level p ≤ 3
first_at_most p =
    elim (p == 0) as (λ a. (if a then 0 else if nat_lt p 17 then 1 else if nat_lt p 273 then 2 else 3) ≤ 3) [
      | true ↦ omega arith
      | false ↦ elim (nat_lt p 17) as (λ b. (if b then 1 else if nat_lt p 273 then 2 else 3) ≤ 3) [
        | true ↦ omega arith
        | false ↦ elim (nat_lt p 273) as (λ d. (if d then 2 else 3) ≤ 3) [ true ↦ omega arith | false ↦ omega arith ]
      ]
    ]

first_not_leaf : (p : ℕ) → p < 273 → first_shape.level p ≡ 3 → ⊥
first_not_leaf p h deep =
    ⊎_elim
    (λ (top : p ≡ 0). absurd (let z : first_shape.level p ≡ 0 = ap first_shape.level top in omega (arith, z, deep)))
    (λ (ne : p ≢ 0). ⊎_elim
    (λ (k : p < 17). absurd (let one : first_shape.level p ≡ 1 = first_one p (omega arith) k in omega (arith, one, deep)))
    (λ (k : 17 ≤ p). absurd (let two : first_shape.level p ≡ 2 = first_two p k h in omega (arith, two, deep)))
    (cases_lt p 17))
    (cases_eq p 0)

first_leaf_there : (p : ℕ) → p < 4369 → first_shape.level p ≡ 3 → (r l : ℕ) × (r < 16) × (l < 256) × (273 + 256 * r + l ≡ p)
first_leaf_there p inside deep =
    let from : 273 ≤ p = ⊎_elim (λ (h : p < 273). absurd (first_not_leaf p h deep)) (λ (h : 273 ≤ p). h) (cases_lt p 273) in
    ((p - 273) / 256, (p - 273) % 256, omega arith, omega arith, omega arith)

first_node : (p : ℕ) → first_shape.level p < 3 → p < 273
first_node p above =
    ⊎_elim (λ (h : p < 273). h) (λ (h : 273 ≤ p). absurd (let three : first_shape.level p ≡ 3 = first_three p h in omega (arith, above, three))) (cases_lt p 273)

pub are_first_children : AreChildren first_shape first_children 3
are_first_children = record {
  named = λ p i inside above below.
      (let node : p < 273 = first_node p above in
      let up : (16 * p + 1 + i - 1) / 16 ≡ p = omega arith in
      let at : (16 * p + 1 + i - 1) % 16 ≡ i = omega arith in
      (omega arith, omega arith, up, at));
  some = λ p. (let b : 0 < 16 = omega arith in b);
  fits = λ p. (let b : 16 ≤ 16 = omega arith in b);
  deepest = λ p inside. first_at_most p;
  leaf = first_leaf_there;
  among = λ p positive inside. (let b : (p - 1) % 16 < 16 = omega arith in b, let e : 16 * ((p - 1) / 16) + 1 + (p - 1) % 16 ≡ p = omega arith in e);
}
