-- A walk that finds nothing wrong shows no damage on any way, and where no leaf has a damage on its way it finds nothing wrong.
use Rattle.std.proofs.Common.{◌≡◌, ◌≢◌, ◌≤◌, ◌<◌, ◌+◌, ◌-◌, ◌*◌, ◌==◌, ◌∙◌, ℕ, zero, suc, true, false, List, [], ◌∷◌, ◌++◌, Option, None, Some, refl, sym, ap, subst, ⊎_elim, arith}
use Rattle.std.proofs.lemmas.Bool.{cases_eq, cases_lt}
use Rattle.tee_base.specs.declared.limits.TheConstants.{MAX_HOSTS}
use Rattle.store_api.specs.declared.answer.Mismatch.{Mismatch}
use Rattle.epoch.specs.Copies.{difference}
use Rattle.epoch.specs.Header.{entry_at}
use Rattle.epoch.specs.declared.header.TreeEntry.{TreeEntry}
use Rattle.epoch.proofs.EntryLemmas.{no_difference}
use Rattle.tree_paths.specs.Frame.{zero_entry}
use Rattle.tree_paths.specs.Laws.{SkipsZeros, WalkFindsAll, WalkIsExact}
use Rattle.tree_paths.specs.Shape.{IsShape, Shape}
use Rattle.tree_paths.specs.Tree.{Found, Look, damage_at, damage_below, damage_of, entry_below, on_image}
use Rattle.tree_paths.specs.Walk.{AreChildren, Children, Visit, Wrong, first_of, first_wrong, one_by_one, visits, wrong_at}
use Rattle.tree_paths.specs.Ways.{above, both_none, first_none, found_zero, is_root, second_none}

-- what is found on an image skips entries of sequence 0
pub image_skips : (s : Shape) (key : List ℕ) (image : ℕ → List ℕ) → SkipsZeros (on_image s key image)
image_skips s key image place entry none = found_zero s key image place entry none

pub no_wrong : (p : ℕ) (d : Option Mismatch) → wrong_at p d ≡ None → d ≡ None
no_wrong p None is = refl
no_wrong p (Some tags) is = absurd (cc)

pub neither : (a b : Option Wrong) → first_of a b ≡ None → (a ≡ None) × (b ≡ None)
neither None b is = (refl, is)
neither (Some wrong) b is = absurd (cc)

of_more : (a b c : Option Wrong) → first_of (first_of a b) c ≡ first_of a (first_of b c)
of_more None b c = refl
of_more (Some wrong) b c = refl

of_none : (a : Option Wrong) → a ≡ first_of a None
of_none None = refl
of_none (Some wrong) = refl

-- the first of two lists
pub wrong_append : (look : Look) (a b : List Visit) → first_wrong look (a ++ b) ≡ first_of (first_wrong look a) (first_wrong look b)
wrong_append look [] b = refl
wrong_append look (visit ∷ a) b =
    ap (first_of (wrong_at visit.place (damage_at look visit.place visit.entry))) (wrong_append look a b)
    ∙ sym (of_more (wrong_at visit.place (damage_at look visit.place visit.entry)) (first_wrong look a) (first_wrong look b))

module _ (look : Look) (each : ℕ → List Visit) where
  none_below : (n : ℕ) → first_wrong look (one_by_one n each) ≡ None → (i : ℕ) → i < n → first_wrong look (each i) ≡ None
  none_below zero is i below = absurd (omega arith)
  none_below (suc n) is i below =
      let both = neither (first_wrong look (one_by_one n each)) (first_wrong look (each n)) (sym (wrong_append look (one_by_one n each) (each n)) ∙ is) in
      ⊎_elim
      (λ (h : i < n). none_below n both.0 i h)
      (λ (h : n ≤ i). let e : n ≡ i = omega arith in subst (λ (k : ℕ). first_wrong look (each k) ≡ None) e both.1)
      (cases_lt i n)

  -- nothing wrong so far, and then in the next
  pub none_more : (n : ℕ) → first_wrong look (one_by_one n each) ≡ None → first_wrong look (each n) ≡ None → first_wrong look (one_by_one (suc n) each) ≡ None
  none_more n so_far here = wrong_append look (one_by_one n each) (each n) ∙ rw (so_far, here) refl

  none_all : (n : ℕ) → ((i : ℕ) → i < n → first_wrong look (each i) ≡ None) → first_wrong look (one_by_one n each) ≡ None
  none_all zero all = refl
  none_all (suc n) all = none_more n (none_all n (λ i below. all i (omega arith))) (all n (omega arith))

  -- what is wrong first in one of them, with nothing wrong before, is wrong first
  pub first_among : (wrong : Wrong) (n i : ℕ) → i < n → first_wrong look (one_by_one i each) ≡ None → first_wrong look (each i) ≡ Some wrong
      → first_wrong look (one_by_one n each) ≡ Some wrong
  first_among wrong zero i below so_far here = absurd (omega arith)
  first_among wrong (suc n) i below so_far here =
      wrong_append look (one_by_one n each) (each n) ∙ ⊎_elim
      (λ (h : i < n). ap (λ (o : Option Wrong). first_of o (first_wrong look (each n))) (first_among wrong n i h so_far here))
      (λ (h : n ≤ i). let e : i ≡ n = omega arith in
      rw (subst (λ (k : ℕ). first_wrong look (one_by_one k each) ≡ None) e so_far, subst (λ (k : ℕ). first_wrong look (each k) ≡ Some wrong) e here) refl)
      (cases_lt i n)

module _ (c : Children) (look : Look) (p : ℕ) (x : TreeEntry) where
  abbrev pub under : ℕ → ℕ → List Visit
  under levels i = visits c look levels (c.child p i) (entry_at (64 * i) (look p x).text)

  -- an entry of sequence 0 is skipped
  pub visits_zero : (levels : ℕ) → x.sequence ≡ 0 → visits c look levels p x ≡ []
  unfolding visits
  visits_zero zero none = let t : (x.sequence == 0) ≡ true = grind arith in rw t refl
  visits_zero (suc levels) none = let t : (x.sequence == 0) ≡ true = grind arith in rw t refl

  -- a leaf
  pub visits_leaf : x.sequence ≢ 0 → visits c look 0 p x ≡ record { place = p; entry = x } ∷ []
  unfolding visits
  visits_leaf some = let t : (x.sequence == 0) ≡ false = grind arith in rw t refl

  -- a node
  pub visits_node : (levels : ℕ) → x.sequence ≢ 0 → visits c look (suc levels) p x ≡ record { place = p; entry = x } ∷ one_by_one (c.fan p) (under levels)
  unfolding visits
  visits_node levels some = let t : (x.sequence == 0) ≡ false = grind arith in rw t refl

  -- what is wrong there is wrong first
  pub wrong_here : (levels : ℕ) (tags : Mismatch) → x.sequence ≢ 0 → damage_at look p x ≡ Some tags
      → first_wrong look (visits c look levels p x) ≡ Some (record { place = p; tags = tags })
  wrong_here zero tags some is = ap (first_wrong look) (visits_leaf some) ∙ rw is refl
  wrong_here (suc levels) tags some is = ap (first_wrong look) (visits_node levels some) ∙ rw is refl

  -- and else what is wrong first under it
  pub wrong_under : (levels : ℕ) → x.sequence ≢ 0 → damage_at look p x ≡ None
      → first_wrong look (visits c look (suc levels) p x) ≡ first_wrong look (one_by_one (c.fan p) (under levels))
  wrong_under levels some is = ap (first_wrong look) (visits_node levels some) ∙ rw is refl

  module _ (skips : SkipsZeros look) where
    none_here : (levels : ℕ) → first_wrong look (visits c look levels p x) ≡ None → damage_at look p x ≡ None
    none_here levels is =
        ⊎_elim
        (λ (none : x.sequence ≡ 0). ap (λ (f : Found). difference f.tag x.tag) (skips p x none) ∙ no_difference x.tag)
        (λ (some : x.sequence ≢ 0). not_zero levels some is)
        (cases_eq x.sequence 0)
      where
        not_zero : (levels : ℕ) → x.sequence ≢ 0 → first_wrong look (visits c look levels p x) ≡ None → damage_at look p x ≡ None
        not_zero zero some is = no_wrong p (damage_at look p x) (neither (wrong_at p (damage_at look p x)) None (sym (ap (first_wrong look) (visits_leaf some)) ∙ is)).0
        not_zero (suc levels) some is =
            no_wrong p (damage_at look p x)
            (neither (wrong_at p (damage_at look p x)) (first_wrong look (one_by_one (c.fan p) (under levels))) (sym (ap (first_wrong look) (visits_node levels some)) ∙ is)).0

none_under : (c : Children) (look : Look) (p : ℕ) (x : TreeEntry) → SkipsZeros look → (levels i : ℕ) → i < c.fan p → i < 16 → first_wrong look (visits c look (suc levels) p x) ≡ None
    → first_wrong look (visits c look levels (c.child p i) (entry_at (64 * i) (look p x).text)) ≡ None
none_under c look p x skips levels i below fits is =
    ⊎_elim
    (λ (none : x.sequence ≡ 0).
    ap (first_wrong look) (visits_zero c look (c.child p i) (entry_at (64 * i) (look p x).text) levels
    (ap (λ (f : Found). (entry_at (64 * i) f.text).sequence) (skips p x none) ∙ zero_entry i fits)))
    (λ (some : x.sequence ≢ 0).
    none_below look (under c look p x levels) (c.fan p)
    (neither (wrong_at p (damage_at look p x)) (first_wrong look (one_by_one (c.fan p) (under c look p x levels))) (sym (ap (first_wrong look) (visits_node c look p x levels some)) ∙ is)).1 i below)
    (cases_eq x.sequence 0)

module _ (s : Shape) (is : IsShape s) (c : Children) (depth : ℕ) (are : AreChildren s c depth) (look : Look) (skips : SkipsZeros look) (root : TreeEntry) where
  module _ (nothing : first_wrong look (visits c look depth 0 root) ≡ None) where
    -- the walk comes to each place, and finds nothing from there down
    comes_to : (level p k : ℕ) → p < s.places → s.level p ≡ level → level + k ≡ depth
        → (first_wrong look (visits c look k p (entry_below s look root level p)) ≡ None) × (damage_below s look root level p ≡ None)
    unfolding entry_below damage_below
    comes_to zero p k inside at sum =
        let top : 0 ≡ p = sym (is_root s is p inside at) in
        let all : depth ≡ k = omega arith in
        let here : first_wrong look (visits c look k p root) ≡ None
        = subst (λ (q : ℕ). first_wrong look (visits c look k q root) ≡ None) top (subst (λ (l : ℕ). first_wrong look (visits c look l 0 root) ≡ None) all nothing) in
        (here, none_here c look p root skips k here)
    comes_to (suc level) p k inside at sum =
        let up = above s is level p inside at in
        let ih = comes_to level (s.parent p) (suc k) up.1 up.0 (omega arith) in
        let among = are.among p up.2 inside in
        let here : first_wrong look (visits c look k p (entry_below s look root (suc level) p)) ≡ None
        = subst (λ (q : ℕ). first_wrong look (visits c look k q (entry_below s look root (suc level) p)) ≡ None) among.1
        (none_under c look (s.parent p) (entry_below s look root level (s.parent p)) skips k (s.slot p) among.0 (is.fits p up.2) ih.0) in (
          here,
          both_none (damage_below s look root level (s.parent p)) (damage_at look p (entry_below s look root (suc level) p)) ih.1
              (none_here c look p (entry_below s look root (suc level) p) skips k here),
        )

  module _ (sound : (r l : ℕ) → r < MAX_HOSTS → l < s.leaves → damage_of s look root (s.leaf_place r l) ≡ None) where
    -- no place has a damage on its way: each has a leaf under it
    whole : (levels level p : ℕ) → p < s.places → s.level p ≡ level → level + levels ≡ depth → damage_below s look root level p ≡ None
    unfolding damage_below
    whole zero level p inside at sum =
        let deep : s.level p ≡ depth = omega (arith, at, sum) in
        let leaf = are.leaf p inside deep in
        subst (λ (k : ℕ). damage_below s look root k p ≡ None) at
        (subst (λ (q : ℕ). damage_of s look root q ≡ None) leaf.4 (sound leaf.0 leaf.1 leaf.2 leaf.3))
    whole (suc levels) level p inside at sum =
        let named = are.named p 0 inside (omega (arith, at, sum)) (are.some p) in
        let q : ℕ = c.child p 0 in
        let lower : s.level q ≡ suc level = is.below q named.0 named.1 ∙ ap (λ (o : ℕ). suc (s.level o)) named.2 ∙ ap suc at in
        subst (λ (o : ℕ). damage_below s look root level o ≡ None) named.2
        (first_none (damage_below s look root level (s.parent q)) (damage_at look q (entry_below s look root (suc level) q)) (whole levels (suc level) q named.1 lower (omega (arith, sum))))

    right_here : (level p : ℕ) → damage_below s look root level p ≡ None → damage_at look p (entry_below s look root level p) ≡ None
    unfolding damage_below entry_below
    right_here zero p none = none
    right_here (suc level) p none = second_none (damage_below s look root level (s.parent p)) (damage_at look p (entry_below s look root (suc level) p)) none

    -- the entry of what a node names stands in it
    child_entry : (level p i q : ℕ) → s.parent q ≡ p → s.slot q ≡ i → entry_below s look root (suc level) q ≡ entry_at (64 * i) (look p (entry_below s look root level p)).text
    unfolding entry_below
    child_entry level p i q up slot =
        ap (λ (j : ℕ). entry_at (64 * j) (look (s.parent q) (entry_below s look root level (s.parent q))).text) slot
        ∙ ap (λ (o : ℕ). entry_at (64 * i) (look o (entry_below s look root level o)).text) up

    -- so a walk finds nothing wrong
    finds_none : (levels level p : ℕ) → p < s.places → s.level p ≡ level → level + levels ≡ depth
        → first_wrong look (visits c look levels p (entry_below s look root level p)) ≡ None
    finds_none zero level p inside at sum =
        let x : TreeEntry = entry_below s look root level p in
        ⊎_elim
        (λ (none : x.sequence ≡ 0). ap (first_wrong look) (visits_zero c look p x 0 none))
        (λ (some : x.sequence ≢ 0). ap (first_wrong look) (visits_leaf c look p x some) ∙ rw (right_here level p (whole zero level p inside at sum)) refl)
        (cases_eq x.sequence 0)
    finds_none (suc levels) level p inside at sum =
        let x : TreeEntry = entry_below s look root level p in
        ⊎_elim
        (λ (none : x.sequence ≡ 0). ap (first_wrong look) (visits_zero c look p x (suc levels) none))
        (λ (some : x.sequence ≢ 0).
        wrong_under c look p x levels some (right_here level p (whole (suc levels) level p inside at sum))
        ∙ none_all look (under c look p x levels) (c.fan p) (λ i below.
        let named = are.named p i inside (omega (arith, at, sum)) below in
        let q : ℕ = c.child p i in
        let lower : s.level q ≡ suc level = is.below q named.0 named.1 ∙ ap (λ (o : ℕ). suc (s.level o)) named.2 ∙ ap suc at in
        subst (λ (e : TreeEntry). first_wrong look (visits c look levels q e) ≡ None) (child_entry level p i q named.2 named.3)
        (finds_none levels (suc level) q named.1 lower (omega (arith, sum)))))
        (cases_eq x.sequence 0)

pub walked_all : WalkFindsAll
walked_all s is c depth are look skips root nothing p inside =
    (comes_to s is c depth are look skips root nothing (s.level p) p (depth - s.level p) inside refl (let le = are.deepest p inside in omega arith)).1

pub walked_right : WalkIsExact
unfolding entry_below
walked_right s is c depth are look skips root inside sound =
    finds_none s is c depth are look skips root sound depth 0 0 inside is.top (omega arith)
