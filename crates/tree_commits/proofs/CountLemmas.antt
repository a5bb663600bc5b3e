-- How many places a commit touches.
use Rattle.std.proofs.Common.{◌≡◌, ◌≢◌, ◌≤◌, ◌<◌, ◌⊎◌, ◌+◌, ◌-◌, ◌*◌, ◌/◌, ◌||◌, ◌∙◌, ℕ, zero, suc, true, false, nat_eq}
use Rattle.std.proofs.Common.{List, [], ◌∷◌, ◌++◌, Option, None, Some, IsSome, length, map, get_or, refl, sym, ap, subst, inl, inr}
use Rattle.std.proofs.Common.{⊎_elim, arith}
use Rattle.std.specs.Cmp.{nat_eq_equiv}
use Rattle.std.specs.List.{AllByRecursion, IsDistinct}
use Rattle.std.specs.Set.{is_member}
use Rattle.std.proofs.lemmas.Bool.{cases_eq, false≢true}
use Rattle.std.proofs.lemmas.Bool.Decides.{nat_tests}
use Rattle.std.proofs.lemmas.List.{length-append, length-map}
use Rattle.std.proofs.lemmas.Map.Made.{length-le_from_is_member}
use Rattle.store_api.specs.declared.leaves.Leaf.{Leaf}
use Rattle.tree_commits.specs.declared.touched.Node.{Node}
use Rattle.tree_commits.specs.Gather.{IsOnWay, IsPushed}
use Rattle.tree_paths.specs.Shape.{Shape, shape}
use Rattle.tree_commits.specs.Touched.{AreOrdered, fresh_of}
use Rattle.tree_commits.proofs.GatherLemmas.{pushed_other}
use Rattle.tree_paths.specs.Shapes.{parent_one, parent_three, parent_two}
use Rattle.tree_commits.proofs.TouchedLemmas.{fresh_head, fresh_tail}

member_head : (x : ℕ) (xs : List ℕ) (q : ℕ) → q ≡ x → is_member nat_eq (x ∷ xs) q ≡ true
member_head x xs q same = let t : nat_eq q x ≡ true = grind (arith, nat_tests) in rw t refl

member_tail : (x : ℕ) (xs : List ℕ) (q : ℕ) → is_member nat_eq xs q ≡ true → is_member nat_eq (x ∷ xs) q ≡ true
member_tail x xs q is = elim (nat_eq q x) as (λ b. (b || is_member nat_eq xs q) ≡ true) [ true ↦ refl | false ↦ is ]

member_left : (xs ys : List ℕ) (q : ℕ) → is_member nat_eq xs q ≡ true → is_member nat_eq (xs ++ ys) q ≡ true
member_left [] ys q is = absurd (false≢true is)
member_left (x ∷ xs) ys q is =
    elim (nat_eq q x) as (λ b. (b || is_member nat_eq xs q) ≡ true → (b || is_member nat_eq (xs ++ ys) q) ≡ true) [
      | true ↦ λ h. refl
      | false ↦ λ h. member_left xs ys q h
    ] is

member_right : (xs ys : List ℕ) (q : ℕ) → is_member nat_eq ys q ≡ true → is_member nat_eq (xs ++ ys) q ≡ true
member_right [] ys q is = is
member_right (x ∷ xs) ys q is = member_tail x (xs ++ ys) q (member_right xs ys q is)

member_map : (f : Leaf → ℕ) (leaves : List Leaf) (i : ℕ) (d : Leaf) → i < length leaves → is_member nat_eq (map f leaves) (f (get_or leaves i d)) ≡ true
member_map f [] i d below = absurd (omega arith)
member_map f (leaf ∷ leaves) zero d below = member_head (f leaf) (map f leaves) (f leaf) refl
member_map f (leaf ∷ leaves) (suc i) d below = member_tail (f leaf) (map f leaves) (f (get_or leaves i d)) (member_map f leaves i d (omega arith))

place_there : (nodes : List Node) (q : ℕ) → is_member nat_eq (map (λ (n : Node). n.place) nodes) q ≡ true → IsSome (fresh_of nodes q)
place_there [] q is = absurd (false≢true is)
place_there (node ∷ nodes) q is =
    ⊎_elim
    (λ (same : node.place ≡ q). subst (λ (o : Option (List ℕ)). IsSome o) (sym (fresh_head node nodes q same)) refl)
    (λ (ne : node.place ≢ q).
    let t : nat_eq q node.place ≡ false = grind (arith, nat_tests) in
    let rest : is_member nat_eq (map (λ (n : Node). n.place) nodes) q ≡ true = rw t at is in
    subst (λ (o : Option (List ℕ)). IsSome o) (sym (fresh_tail node nodes q ne)) (place_there nodes q rest))
    (cases_eq node.place q)

absent_all : (nodes : List Node) (p : ℕ) → fresh_of nodes p ≡ None → AllByRecursion (λ (y : ℕ). nat_eq p y ≡ false) (map (λ (n : Node). n.place) nodes)
absent_all [] p none = tt
absent_all (node ∷ nodes) p none =
    ⊎_elim
    (λ (same : node.place ≡ p). absurd (let both : Some node.bytes ≡ None = sym (fresh_head node nodes p same) ∙ none in cc))
    (λ (ne : node.place ≢ p). (let t : nat_eq p node.place ≡ false = grind (arith, nat_tests) in t, absent_all nodes p (sym (fresh_tail node nodes p ne) ∙ none)))
    (cases_eq node.place p)

distinct : (s : Shape) (nodes : List Node) → AreOrdered s nodes → IsDistinct nat_eq (map (λ (n : Node). n.place) nodes)
unfolding IsDistinct
distinct s [] are = absurd are
distinct s (node ∷ []) are = (tt, tt)
distinct s (node ∷ next ∷ nodes) are = (absent_all (next ∷ nodes) node.place are.3, distinct s (next ∷ nodes) are.5)

-- the places that a commit of these leaves may touch: the root, the region's node, its bands, and groups and leaves
abbrev pub touchable : ℕ → List Leaf → List ℕ
touchable region leaves =
    0 ∷ (1 + region) ∷ (17 + 4 * region) ∷ (18 + 4 * region) ∷ (19 + 4 * region) ∷ (20 + 4 * region)
    ∷ (map (λ (leaf : Leaf). shape.parent (shape.leaf_place region leaf.number)) leaves ++ map (λ (leaf : Leaf). shape.leaf_place region leaf.number) leaves)

module _ (region : ℕ) (leaves : List Leaf) where
  abbrev groups : List ℕ
  groups = map (λ (leaf : Leaf). shape.parent (shape.leaf_place region leaf.number)) leaves

  abbrev own : List ℕ
  own = map (λ (leaf : Leaf). shape.leaf_place region leaf.number) leaves

  behind : (q : ℕ) → is_member nat_eq (groups ++ own) q ≡ true → is_member nat_eq (touchable region leaves) q ≡ true
  behind q is =
      member_tail 0 ((1 + region) ∷ (17 + 4 * region) ∷ (18 + 4 * region) ∷ (19 + 4 * region) ∷ (20 + 4 * region) ∷ (groups ++ own)) q
      (member_tail (1 + region) ((17 + 4 * region) ∷ (18 + 4 * region) ∷ (19 + 4 * region) ∷ (20 + 4 * region) ∷ (groups ++ own)) q
      (member_tail (17 + 4 * region) ((18 + 4 * region) ∷ (19 + 4 * region) ∷ (20 + 4 * region) ∷ (groups ++ own)) q
      (member_tail (18 + 4 * region) ((19 + 4 * region) ∷ (20 + 4 * region) ∷ (groups ++ own)) q
      (member_tail (19 + 4 * region) ((20 + 4 * region) ∷ (groups ++ own)) q
      (member_tail (20 + 4 * region) (groups ++ own) q is)))))

  band : (q b : ℕ) → q ≡ 17 + 4 * region + b → b < 4 → is_member nat_eq (touchable region leaves) q ≡ true
  band q b is below =
      member_tail 0 ((1 + region) ∷ (17 + 4 * region) ∷ (18 + 4 * region) ∷ (19 + 4 * region) ∷ (20 + 4 * region) ∷ (groups ++ own)) q
      (member_tail (1 + region) ((17 + 4 * region) ∷ (18 + 4 * region) ∷ (19 + 4 * region) ∷ (20 + 4 * region) ∷ (groups ++ own)) q
      (⊎_elim (λ (e : q ≡ 17 + 4 * region). member_head (17 + 4 * region) ((18 + 4 * region) ∷ (19 + 4 * region) ∷ (20 + 4 * region) ∷ (groups ++ own)) q e)
      (λ (n : q ≢ 17 + 4 * region). member_tail (17 + 4 * region) ((18 + 4 * region) ∷ (19 + 4 * region) ∷ (20 + 4 * region) ∷ (groups ++ own)) q
      (⊎_elim (λ (e : q ≡ 18 + 4 * region). member_head (18 + 4 * region) ((19 + 4 * region) ∷ (20 + 4 * region) ∷ (groups ++ own)) q e)
      (λ (m : q ≢ 18 + 4 * region). member_tail (18 + 4 * region) ((19 + 4 * region) ∷ (20 + 4 * region) ∷ (groups ++ own)) q
      (⊎_elim (λ (e : q ≡ 19 + 4 * region). member_head (19 + 4 * region) ((20 + 4 * region) ∷ (groups ++ own)) q e)
      (λ (l : q ≢ 19 + 4 * region). member_tail (19 + 4 * region) ((20 + 4 * region) ∷ (groups ++ own)) q (member_head (20 + 4 * region) (groups ++ own) q (omega arith)))
      (cases_eq q (19 + 4 * region))))
      (cases_eq q (18 + 4 * region))))
      (cases_eq q (17 + 4 * region))))

  -- each place on the way to one of the leaves is one of them
  pub on_way : (i : ℕ) (d : Leaf) (p : ℕ) → i < length leaves → region < 16 → (get_or leaves i d).number < 1024
      → IsOnWay shape 4 (shape.leaf_place region (get_or leaves i d).number) p → is_member nat_eq (touchable region leaves) p ≡ true
  on_way i d p below few small way =
      let n : ℕ = (get_or leaves i d).number in
      let leaf : ℕ = 1105 + 1024 * region + n in
      let group : ℕ = 17 + (leaf - 81) / 16 in
      let group_is : shape.parent leaf ≡ group = parent_three leaf (omega arith) in
      let band_is : shape.parent group ≡ 17 + (group - 81) / 16 = parent_three group (omega arith) in
      let node_is : shape.parent (17 + (group - 81) / 16) ≡ 1 + (17 + (group - 81) / 16 - 17) / 4 = parent_two (17 + (group - 81) / 16) (omega arith) (omega arith) in
      let root_is : shape.parent (1 + (17 + (group - 81) / 16 - 17) / 4) ≡ 0 = parent_one (1 + (17 + (group - 81) / 16 - 17) / 4) (omega arith) in
      ⊎_elim
      (λ (e : p ≡ leaf).
      behind p (member_right groups own p (subst (λ (q : ℕ). is_member nat_eq own q ≡ true) (sym e) (member_map (λ (l : Leaf). shape.leaf_place region l.number) leaves i d below))))
      (λ (way : IsOnWay shape 3 (shape.parent leaf) p).
      ⊎_elim
      (λ (e : p ≡ shape.parent leaf).
      behind p (member_left groups own p
      (subst (λ (q : ℕ). is_member nat_eq groups q ≡ true) (sym e) (member_map (λ (l : Leaf). shape.parent (shape.leaf_place region l.number)) leaves i d below))))
      (λ (way : IsOnWay shape 2 (shape.parent (shape.parent leaf)) p).
      ⊎_elim
      (λ (e : p ≡ shape.parent (shape.parent leaf)).
      let is : p ≡ 17 + (group - 81) / 16 = e ∙ ap shape.parent group_is ∙ band_is in
      band p (n / 256) (omega arith) (omega arith))
      (λ (way : IsOnWay shape 1 (shape.parent (shape.parent (shape.parent leaf))) p).
      ⊎_elim
      (λ (e : p ≡ shape.parent (shape.parent (shape.parent leaf))).
      let is : p ≡ 1 + (17 + (group - 81) / 16 - 17) / 4 = e ∙ ap (λ (q : ℕ). shape.parent (shape.parent q)) group_is ∙ ap shape.parent band_is ∙ node_is in
      member_tail 0 ((1 + region) ∷ (17 + 4 * region) ∷ (18 + 4 * region) ∷ (19 + 4 * region) ∷ (20 + 4 * region) ∷ (groups ++ own)) p
      (member_head (1 + region) ((17 + 4 * region) ∷ (18 + 4 * region) ∷ (19 + 4 * region) ∷ (20 + 4 * region) ∷ (groups ++ own)) p (omega arith)))
      (λ (e : p ≡ shape.parent (shape.parent (shape.parent (shape.parent leaf)))).
      member_head 0 ((1 + region) ∷ (17 + 4 * region) ∷ (18 + 4 * region) ∷ (19 + 4 * region) ∷ (20 + 4 * region) ∷ (groups ++ own)) p
      (e ∙ ap (λ (q : ℕ). shape.parent (shape.parent (shape.parent q))) group_is ∙ ap (λ (q : ℕ). shape.parent (shape.parent q)) band_is ∙ ap shape.parent node_is ∙ root_is))
      way) way) way) way

  pub root_touchable : is_member nat_eq (touchable region leaves) 0 ≡ true
  root_touchable = member_head 0 ((1 + region) ∷ (17 + 4 * region) ∷ (18 + 4 * region) ∷ (19 + 4 * region) ∷ (20 + 4 * region) ∷ (groups ++ own)) 0 refl

  -- so there are no more than these
  pub count_of : (nodes : List Node) → AreOrdered shape nodes → ((p : ℕ) → IsSome (fresh_of nodes p) → is_member nat_eq (touchable region leaves) p ≡ true)
      → length nodes ≤ 2 * length leaves + 6
  count_of nodes are all =
      let few : length (map (λ (n : Node). n.place) nodes) ≤ length (touchable region leaves)
      = length-le_from_is_member nat_eq_equiv (map (λ (n : Node). n.place) nodes) (touchable region leaves) (distinct shape nodes are) (λ q is. all q (place_there nodes q is)) in
      let as_many : length (map (λ (n : Node). n.place) nodes) ≡ length nodes = length-map nodes (λ (n : Node). n.place) in
      let one : length groups ≡ length leaves = length-map leaves (λ (leaf : Leaf). shape.parent (shape.leaf_place region leaf.number)) in
      let two : length own ≡ length leaves = length-map leaves (λ (leaf : Leaf). shape.leaf_place region leaf.number) in
      let same_count : length groups + length own ≡ length leaves + length leaves = omega (arith, one, two) in
      let behind_six : length (groups ++ own) ≡ length leaves + length leaves = length-append groups own ∙ same_count in
      omega (arith, few, as_many, behind_six)

-- a node that was taken in
module _ (place copy : ℕ) (old new : List Node) (pushed : IsPushed place copy old new) where
  pub among_pushed : (p : ℕ) → IsSome (fresh_of new p) → IsSome (fresh_of old p) ⊎ (p ≡ place)
  among_pushed p has =
      ⊎_elim (λ (e : p ≡ place). inr e) (λ (ne : p ≢ place). inl (subst (λ (o : Option (List ℕ)). IsSome o) (pushed_other place copy old new pushed p ne) has)) (cases_eq p place)

-- the ways to a place and to the one above it
pub way_up : (s : Shape) (level k place above p : ℕ) → suc k ≡ level → above ≡ s.parent place → (p ≡ place) ⊎ IsOnWay s k above p → IsOnWay s level place p
way_up s level k place above p one up way =
    subst (λ (l : ℕ). IsOnWay s l place p) one
    (⊎_elim (λ (e : p ≡ place). inl e) (λ (w : IsOnWay s k above p). inr (subst (λ (q : ℕ). IsOnWay s k q p) up w)) way)
