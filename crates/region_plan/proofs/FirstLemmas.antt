-- Links to the first leaf at each index tell whether the data of an inode is all that it should have.
use Rattle.std.proofs.Common.{◌≡◌, ℕ, zero, suc, ◌+◌, ◌-◌, ◌*◌, ◌/◌, ◌<◌, ◌≤◌, Bool, true, false, cond, not, List, [], ◌∷◌, Option, None, Some, find, length, refl, sym, ◌∙◌, ap, subst, arith}
use Rattle.std.specs.Prelude.{is_some, ◌&&◌, ◌==◌, nat_lt}
use Rattle.std.specs.List.{range_with_len, list_all}
use Rattle.std.proofs.lemmas.Bool.{eqb-true, eqb-false, eq-eqb, ltb-true, ltb-false}
use Rattle.region_plan.specs.Chains.{AreBelow, is_at, is_first, leaf_from, link_to, links_in}
use Rattle.region_plan.specs.Checks.{IfDataInPlace}
use Rattle.region_plan.specs.Layout.{Layout}
use Rattle.region_plan.specs.Entries.{entry_at, is_data_of, is_data_at}
use Rattle.region_plan.specs.Inodes.{length_in}
use Rattle.region_plan.specs.Places.{IsMapOf, entries_in, is_of}
use Rattle.region_plan.specs.Regions.{numbers, has_one, has_data, leaf_of, data_leaves}
use Rattle.region_plan.specs.declared.entry.Entry.{Entry}
use Rattle.region_plan.proofs.AgreeLemmas.{range_met}
use Rattle.region_plan.proofs.ChainLemmas.{not_both}
use Rattle.region_plan.proofs.CheckLemmas.{elsewhere_wrong, index_wrong, past_wrong}
use Rattle.region_plan.proofs.CompleteLemmas.{complete_has, pigeons}
use Rattle.region_plan.proofs.ContentLemmas.{missing_wrong}
use Rattle.region_plan.proofs.SoundLemmas.{and_both}
use Rattle.region_plan.proofs.Totals.{counted}

find_same : (p q : ℕ → Bool) (n a : ℕ) → ((i : ℕ) → a ≤ i → i < a + n → p i ≡ q i) → find p (range_with_len a n) ≡ find q (range_with_len a n)
find_same p q zero a same = refl
find_same p q (suc n) a same =
    ap (λ b. cond b (Some a) (find p (range_with_len (a + 1) n))) (same a (omega arith) (omega arith))
    ∙ ap (λ (r : Option ℕ). cond (q a) (Some a) r) (find_same p q n (a + 1) (λ i low high. same i (omega (arith, low)) (omega (arith, high))))

-- where not all of a list pass, one doesn't
one_fails : (p : ℕ → Bool) (xs : List ℕ) → list_all p xs ≡ false → (x : ℕ) × (x < length xs) × (p (links_in xs x) ≡ false)
one_fails p [] none = absurd (let e : true ≡ false = none in cc)
one_fails p (y ∷ ys) none =
    elim (p y) as (λ b. p y ≡ b → (b && list_all p ys) ≡ false → (x : ℕ) × (x < length (y ∷ ys)) × (p (links_in (y ∷ ys) x) ≡ false)) [
      | true ↦ λ e rest. (let at = one_fails p ys rest in (suc at.0, omega (arith, at.1), at.2))
      | false ↦ λ e rest. (0, omega arith, e)
    ] refl none

each_passes : (p : ℕ → Bool) (xs : List ℕ) (x : ℕ) → list_all p xs ≡ true → x < length xs → p (links_in xs x) ≡ true
each_passes p [] x all below = absurd (omega (arith, below))
each_passes p (y ∷ ys) zero all below = (and_both (p y) (list_all p ys) all).0
each_passes p (y ∷ ys) (suc x) all below = each_passes p ys x (and_both (p y) (list_all p ys) all).1 (omega (arith, below))

link_some : (r : Option ℕ) (i : ℕ) → link_to r ≡ i + 1 → r ≡ Some i
link_some None i is = absurd (omega (arith, is))
link_some (Some k) i is = ap (λ (n : ℕ). Some n) (let e : k ≡ i = omega (arith, is) in e)

link_none : (r : Option ℕ) → link_to r ≡ 0 → r ≡ None
link_none None is = refl
link_none (Some k) is = absurd (omega (arith, is))

link_is : (r : Option ℕ) → (link_to r ≡ 0 → ⊥) → is_some r ≡ true
link_is None never = absurd (never refl)
link_is (Some k) never = refl

-- links that are the same lead to the same leaf
pub link_same : (r s : Option ℕ) → link_to r ≡ link_to s → r ≡ s
link_same None s is = sym (link_none s (sym is))
link_same (Some k) s is = sym (link_some s k (sym is))

pub led : (r : Option ℕ) (index : ℕ) (links : List ℕ) (s : Option ℕ) → link_to r ≡ links_in links index → links_in links index ≡ link_to s → r ≡ s
led r index links s told is = link_same r s (told ∙ is)

-- a place of a content before an end that links reach
pub inside : (at end count : ℕ) → at < end → end ≤ 1024 * count → at / 1024 < count
inside at end count low reach = omega (arith, low, reach)

-- a link to a leaf of some
pub link_below : (entries : ℕ → Entry) (end n x : ℕ) → link_to (leaf_from entries end n x 0) ≤ end
unfolding leaf_from
link_below entries end n x = each (find (λ i. is_at n x (entries i)) (range_with_len 0 (end - 0))) refl
  where
    each : (r : Option ℕ) → find (λ i. is_at n x (entries i)) (range_with_len 0 (end - 0)) ≡ r → link_to r ≤ end
    each None is = omega arith
    each (Some k) is = (let at = range_met (λ i. is_at n x (entries i)) (end - 0) (end - 0) 0 k (omega arith) is in let low = at.0 in omega (arith, low))

module _ (L : Layout) (leaves : ℕ → List ℕ) (map : List Entry) (is : IsMapOf L leaves map) where
  pub first_is : (n x : ℕ) → leaf_from (entries_in map) L.leaves n x 0 ≡ leaf_of L leaves n x
  unfolding leaf_from leaf_of numbers
  first_is n x =
      ap (λ (k : ℕ). find (λ i. is_at n x (entries_in map i)) (range_with_len 0 k)) (let e : L.leaves - 0 ≡ L.leaves = omega arith in e)
      ∙ find_same (λ i. is_at n x (entries_in map i)) (λ i. is_data_at L leaves n x i) L.leaves 0 (λ i low high. ap (is_at n x) (is i (omega (arith, high))))

  of_is : (n i : ℕ) → i < L.leaves → is_of n (entries_in map i) ≡ is_data_of L leaves n i
  of_is n i below = ap (is_of n) (is i below)

  module _ (n count : ℕ) (firsts : List ℕ) (long : length firsts ≡ count) (told : (x : ℕ) → x < count → links_in firsts x ≡ link_to (leaf_from (entries_in map) L.leaves n x 0))
      (size : count ≡ data_leaves (length_in (leaves n))) where
    link_at : (x : ℕ) → x < count → links_in firsts x ≡ link_to (leaf_of L leaves n x)
    link_at x below = told x below ∙ ap link_to (first_is n x)

    -- a data leaf that isn't the first at its index, or is past the end
    pub first_wrong : (i : ℕ) → i < L.leaves → is_of n (entries_in map i) ≡ true → is_first firsts (entries_in map i) (i + 1) ≡ false → has_data L leaves n ≡ false
    first_wrong i below of no' =
        let mine = sym (of_is n i below) ∙ of in
        let fails : is_first firsts (entry_at L leaves i) (i + 1) ≡ false = ap (λ (e : Entry). is_first firsts e (i + 1)) (sym (is i below)) ∙ no' in
        elim (nat_lt (entry_at L leaves i).index (length firsts)) as (λ b. nat_lt (entry_at L leaves i).index (length firsts) ≡ b
        → (b && (links_in firsts (entry_at L leaves i).index == i + 1)) ≡ false → has_data L leaves n ≡ false) [
          | true ↦ λ e f.
              let before : (entry_at L leaves i).index < count = subst (λ (k : ℕ). (entry_at L leaves i).index < k) long (ltb-true _ _ e) in
              elsewhere_wrong L leaves n i below mine (subst (λ (k : ℕ). (entry_at L leaves i).index < k) size before)
              (λ same. eqb-false _ (i + 1) f (link_at (entry_at L leaves i).index before ∙ ap link_to same))
          | false ↦ λ e f.
              past_wrong L leaves n i below mine (let past : length firsts ≤ (entry_at L leaves i).index = ltb-false _ _ e in
              subst (λ (k : ℕ). k ≤ (entry_at L leaves i).index) (long ∙ size) past)
        ] refl fails

    -- an index without a leaf
    pub missing_first : list_all (λ link. not (link == 0)) firsts ≡ false → has_data L leaves n ≡ false
    missing_first none =
        let at = one_fails (λ link. not (link == 0)) firsts none in
        let below : at.0 < count = subst (λ (k : ℕ). at.0 < k) long at.1 in
        missing_wrong L leaves n at.0 (subst (λ (k : ℕ). at.0 < k) size below)
        (link_none (leaf_of L leaves n at.0) (sym (link_at at.0 below) ∙ zero_is (links_in firsts at.0) at.2))
      where
        zero_is : (k : ℕ) → not (k == 0) ≡ false → k ≡ 0
        zero_is k e = elim (k == 0) as (λ b. (k == 0) ≡ b → not b ≡ false → k ≡ 0) [
          | true ↦ λ s f. eqb-true k 0 s
          | false ↦ λ s f. absurd (let g : true ≡ false = f in cc)
        ] refl e

    -- all of it is there
    pub all_first : ((i : ℕ) → i < L.leaves → is_of n (entries_in map i) ≡ true → is_first firsts (entries_in map i) (i + 1) ≡ true) → list_all (λ link. not (link == 0)) firsts ≡ true
        → has_data L leaves n ≡ true
    all_first first all = complete_has L leaves n count placed (L.leaves + 1) (omega arith) found size
      where
        placed : (i : ℕ) → i < L.leaves → IfDataInPlace L leaves n count i
        placed i below mine =
            let yes' : is_first firsts (entry_at L leaves i) (i + 1) ≡ true
            = ap (λ (e : Entry). is_first firsts e (i + 1)) (sym (is i below)) ∙ first i below (of_is n i below ∙ mine) in
            let parts = and_both (nat_lt (entry_at L leaves i).index (length firsts)) (links_in firsts (entry_at L leaves i).index == i + 1) yes' in
            let before : (entry_at L leaves i).index < count = subst (λ (k : ℕ). (entry_at L leaves i).index < k) long (ltb-true _ _ parts.0) in
            record { before = before; first = link_some _ i (sym (link_at (entry_at L leaves i).index before) ∙ eqb-true _ (i + 1) parts.1) }

        found : (x : ℕ) → x < count → x < L.leaves + 1 → is_some (leaf_of L leaves n x) ≡ true
        found x below few = link_is (leaf_of L leaves n x) (λ none.
            not_both (not (links_in firsts x == 0)) (each_passes (λ link. not (link == 0)) firsts x all (subst (λ (k : ℕ). x < k) (sym long) below))
            (ap not (eq-eqb (links_in firsts x) 0 (link_at x below ∙ none))))

-- links that were found in a map lead to the data leaves of an inode
pub linked : (L : Layout) (leaves : ℕ → List ℕ) (map : List Entry) (n count : ℕ) (firsts slice : List ℕ) → IsMapOf L leaves map
    → ((x : ℕ) → x < count → links_in firsts x ≡ link_to (leaf_from (entries_in map) L.leaves n x 0)) → length firsts ≡ count → slice ≡ firsts
    → (x : ℕ) → x < length slice → links_in slice x ≡ link_to (leaf_of L leaves n x)
linked L leaves map n count firsts slice is told long same x below =
    ap (λ (l : List ℕ). links_in l x) same ∙ told x (let size = ap length same in omega (arith, size, long, below)) ∙ ap link_to (first_is L leaves map is n x)

-- and to leaves of the region
pub linked_below : (L : Layout) (map : List Entry) (n count : ℕ) (firsts slice : List ℕ)
    → ((x : ℕ) → x < count → links_in firsts x ≡ link_to (leaf_from (entries_in map) L.leaves n x 0)) → length firsts ≡ count → slice ≡ firsts → AreBelow L slice
linked_below L map n count firsts slice told long same x below =
    let at = ap (λ (l : List ℕ). links_in l x) same ∙ told x (let size = ap length same in omega (arith, size, long, below)) in
    let few = link_below (entries_in map) L.leaves n x in
    omega (arith, at, few)

-- so many links as a content takes leaves reach its end
pub reach : (end count long : ℕ) → count ≡ data_leaves end → long ≡ count → end ≤ 1024 * long
reach end count long is size = omega (arith, is, size)

-- more indexes than there are leaves can't all be there
module _ (L : Layout) (leaves : ℕ → List ℕ) where
  one_index : (n i x y : ℕ) → is_data_at L leaves n x i ≡ true → is_data_at L leaves n y i ≡ true → x ≡ y
  one_index n i x y here there =
      sym (eqb-true _ x (and_both (is_data_of L leaves n i) ((entry_at L leaves i).index == x) here).1)
      ∙ eqb-true _ y (and_both (is_data_of L leaves n i) ((entry_at L leaves i).index == y) there).1

  pub many_wrong : (n : ℕ) → L.leaves < data_leaves (length_in (leaves n)) → has_data L leaves n ≡ false
  unfolding numbers
  many_wrong n many = elim (has_data L leaves n) as (λ b. has_data L leaves n ≡ b → b ≡ false) [
    | true ↦ λ e. absurd (pigeons (λ x i. is_data_at L leaves n x i) L.leaves (L.leaves + 1) (omega arith)
        (λ x few. sym (counted (λ i. is_data_at L leaves n x i) 0 L.leaves) ∙ eqb-true _ 1 (one e x (omega (arith, few, many)))) (one_index n))
    | false ↦ λ e. refl
  ] refl
    where
      one : has_data L leaves n ≡ true → (x : ℕ) → x < data_leaves (length_in (leaves n)) → has_one L leaves n x ≡ true
      one has x below = elim (has_one L leaves n x) as (λ b. has_one L leaves n x ≡ b → b ≡ true) [
        | true ↦ λ e. refl
        | false ↦ λ e. not_both _ has (index_wrong L leaves n x below e)
      ] refl
