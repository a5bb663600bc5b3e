-- Leaves that are named one after another.
use Rattle.std.proofs.Common.{◌≡◌, ◌≤◌, ◌<◌, ◌+◌, ◌++◌, ◌∙◌, ℕ, suc, true, false, List, [], ◌∷◌, length, length-append, nat_lt, refl, sym, ap, subst, arith}
use Rattle.std.specs.Prelude.{◌==◌, ◌&&◌, ◌||◌, not, if◌then◌else◌, Option, None, is_some}
use Rattle.region_plan.specs.Edits.{is_left}
use Rattle.region_plan.specs.Places.{entries_in, is_of}
use Rattle.std.specs.List.{range_with_len, count_by}
use Rattle.std.proofs.lemmas.Bool.{eq-eqb, eqb-true, eqb-false, ne_eqb, ltb-true, lt-ltb, and_from, true≢false}
use Rattle.store_api.specs.declared.leaves.Leaf.{Leaf}
use Rattle.store_api.specs.Ascending.{is_above_all}
use Rattle.store_api.specs.Volumes.{leaf_after}
use Rattle.region_plan.specs.Plans.{IsChangedLeaf, IsMapLeaf, is_named, with_leaves, leaves_to_change, may_change}
use Rattle.region_plan.specs.declared.edit.Edit.{Edit}
use Rattle.region_plan.proofs.SoundLemmas.{and_both}
use Rattle.region_plan.proofs.Totals.{counted, mark, rank_more, total_each}
use Rattle.region_plan.specs.Layout.{Layout}
use Rattle.region_plan.specs.declared.entry.Entry.{Entry}
use Rattle.region_plan.proofs.FormLemmas.{IsLaid}

-- one more leaf named
after_pushed : (named : List Leaf) (last : Leaf) (i : ℕ) (old : List ℕ) → leaf_after (named ++ last ∷ []) i old ≡ leaf_after named i (if last.number == i then last.bytes else old)
after_pushed [] last i old = refl
after_pushed (leaf ∷ named) last i old = ap (λ (r : List ℕ). if leaf.number == i then leaf.bytes else r) (after_pushed named last i old)

-- a leaf at or behind a number that is above all isn't named
pub after_above : (named : List Leaf) (m i : ℕ) (old : List ℕ) → is_above_all named m ≡ true → m ≤ i → leaf_after named i old ≡ old
after_above [] m i old above past = refl
after_above (leaf ∷ named) m i old above past =
    let parts = and_both (nat_lt leaf.number m) (is_above_all named m) above in
    let less : leaf.number < m = ltb-true leaf.number m parts.0 in
    ap (λ b. if b then leaf.bytes else leaf_after named i old) (ne_eqb leaf.number i (λ same. omega (arith, same, less, past))) ∙ after_above named m i old parts.1 past

pub above_more : (named : List Leaf) (m : ℕ) → is_above_all named m ≡ true → is_above_all named (m + 1) ≡ true
above_more [] m above = refl
above_more (leaf ∷ named) m above =
    let parts = and_both (nat_lt leaf.number m) (is_above_all named m) above in
    let less : leaf.number < m = ltb-true leaf.number m parts.0 in
    and_from (nat_lt leaf.number (m + 1)) (is_above_all named (m + 1)) (lt-ltb leaf.number (m + 1) (omega (arith, less))) (above_more named m parts.1)

pub above_most : (named : List Leaf) (m n : ℕ) → m ≤ n → is_above_all named m ≡ true → is_above_all named n ≡ true
above_most [] m n le above = refl
above_most (leaf ∷ named) m n le above =
    let parts = and_both (nat_lt leaf.number m) (is_above_all named m) above in
    let less : leaf.number < m = ltb-true leaf.number m parts.0 in
    and_from (nat_lt leaf.number n) (is_above_all named n) (lt-ltb leaf.number n (omega (arith, less, le))) (above_most named m n le parts.1)

pub above_pushed : (named : List Leaf) (last : Leaf) (m : ℕ) → is_above_all named m ≡ true → last.number ≡ m → is_above_all (named ++ last ∷ []) (m + 1) ≡ true
above_pushed [] last m above is = and_from (nat_lt last.number (m + 1)) true (lt-ltb last.number (m + 1) (omega (arith, is))) refl
above_pushed (leaf ∷ named) last m above is =
    let parts = and_both (nat_lt leaf.number m) (is_above_all named m) above in
    let less : leaf.number < m = ltb-true leaf.number m parts.0 in
    and_from (nat_lt leaf.number (m + 1)) (is_above_all (named ++ last ∷ []) (m + 1)) (lt-ltb leaf.number (m + 1) (omega (arith, less))) (above_pushed named last m parts.1 is)

-- a leaf that was named, and one that is named now
pub named_before : (named : List Leaf) (last : Leaf) (i : ℕ) → is_named named i ≡ true → is_named (named ++ last ∷ []) i ≡ true
named_before [] last i is = absurd (true≢false (sym is))
named_before (leaf ∷ named) last i is =
    elim (leaf.number == i) as (λ b. (b || is_named named i) ≡ true → (b || is_named (named ++ last ∷ []) i) ≡ true) [
      | true ↦ λ e. refl
      | false ↦ λ e. named_before named last i e
    ] is

pub named_here : (named : List Leaf) (last : Leaf) (i : ℕ) → last.number ≡ i → is_named (named ++ last ∷ []) i ≡ true
named_here [] last i is = ap (λ b. b || false) (eq-eqb last.number i is)
named_here (leaf ∷ named) last i is =
    elim (leaf.number == i) as (λ b. (b || is_named (named ++ last ∷ []) i) ≡ true) [ true ↦ refl | false ↦ named_here named last i is ]

-- a leaf that is named once it is met
pub own_named : (named : List Leaf) (last : Leaf) (inode n : ℕ) → last.number ≡ n → (inode < n → is_named named inode ≡ true) → inode < n + 1 → is_named (named ++ last ∷ []) inode ≡ true
own_named named last inode n is before low =
    elim (inode == n) as (λ b. (inode == n) ≡ b → is_named (named ++ last ∷ []) inode ≡ true) [
      | true ↦ λ e. named_here named last inode (is ∙ sym (eqb-true inode n e))
      | false ↦ λ e. (let other = eqb-false inode n e in named_before named last inode (before (omega (arith, low, other))))
    ] refl

pub own_unnamed : (named : List Leaf) (inode n : ℕ) (head new : Option (List ℕ)) → is_some head ≡ true → new ≡ None → (n ≡ inode → new ≡ head)
    → (inode < n → is_named named inode ≡ true) → inode < n + 1 → is_named named inode ≡ true
own_unnamed named inode n head new some' none is before low =
    elim (n == inode) as (λ b. (n == inode) ≡ b → is_named named inode ≡ true) [
      | true ↦ λ e. absurd (true≢false (sym some' ∙ ap is_some (sym (is (eqb-true n inode e)) ∙ none)))
      | false ↦ λ e. (let other = eqb-false n inode e in before (omega (arith, low, other)))
    ] refl

module _ (P : ℕ → List ℕ → Type 0) (leaves : ℕ → List ℕ) (named : List Leaf) (m : ℕ) (above : is_above_all named m ≡ true) (done : (i : ℕ) → i < m → P i (with_leaves named leaves i)) where
  -- the next leaf is named
  pub named_more : (last : Leaf) → last.number ≡ m → P m last.bytes → (i : ℕ) → i < m + 1 → P i (with_leaves (named ++ last ∷ []) leaves i)
  named_more last is here i less =
      elim (last.number == i) as (λ b. (last.number == i) ≡ b → P i (with_leaves (named ++ last ∷ []) leaves i)) [
        | true ↦ λ e.
            let same : last.number ≡ i = eqb-true last.number i e in
            let at : m ≡ i = sym is ∙ same in
            let bytes : with_leaves (named ++ last ∷ []) leaves i ≡ last.bytes =
            after_pushed named last i (leaves i) ∙ ap (λ b. leaf_after named i (if b then last.bytes else leaves i)) e ∙ after_above named m i last.bytes above (omega (arith, at)) in
            subst (λ (x : List ℕ). P i x) (sym bytes) (subst (λ (k : ℕ). P k last.bytes) at here)
        | false ↦ λ e.
            let other = eqb-false last.number i e in
            subst (λ (x : List ℕ). P i x) (sym (after_pushed named last i (leaves i) ∙ ap (λ b. leaf_after named i (if b then last.bytes else leaves i)) e)) (done i (omega (arith, less, other, is)))
      ] refl

  -- the next leaf isn't
  pub unnamed_more : P m (leaves m) → (i : ℕ) → i < m + 1 → P i (with_leaves named leaves i)
  unnamed_more here i less =
      elim (m == i) as (λ b. (m == i) ≡ b → P i (with_leaves named leaves i)) [
        | true ↦ λ e. (let at : m ≡ i = eqb-true m i e in
            subst (λ (x : List ℕ). P i x) (sym (after_above named m i (leaves i) above (omega (arith, at)))) (subst (λ (k : ℕ). P k (leaves k)) at here))
        | false ↦ λ e. (let other = eqb-false m i e in done i (omega (arith, less, other)))
      ] refl

module _ (L : Layout) (laid : IsLaid L) where
  pub changing_more : (map : List Entry) (inode : ℕ) (edit : Edit) (n : ℕ) → leaves_to_change L map inode edit (n + 1) ≡ leaves_to_change L map inode edit n + mark (may_change L map inode edit n)
  unfolding leaves_to_change
  changing_more map inode edit n =
      ap (λ (k : ℕ). count_by (λ i. may_change L map inode edit i) (range_with_len 0 k)) (let e : n + 1 ≡ suc n = omega arith in e)
      ∙ counted (λ i. may_change L map inode edit i) 0 (suc n) ∙ rank_more (λ i. may_change L map inode edit i) n
      ∙ ap (λ (k : ℕ). k + mark (may_change L map inode edit n)) (sym (counted (λ i. may_change L map inode edit i) 0 n))

  pub few_named : (map : List Entry) (inode : ℕ) (edit : Edit) (named : List Leaf) (last : Leaf) (n : ℕ) → length named ≤ leaves_to_change L map inode edit n → may_change L map inode edit n ≡ true →
      length (named ++ last ∷ []) ≤ leaves_to_change L map inode edit (n + 1)
  few_named map inode edit named last n few is =
      let more = changing_more map inode edit n in
      let one : mark (may_change L map inode edit n) ≡ 1 = ap mark is in
      let long = length-append named (last ∷ []) in
      omega (arith, more, one, long, few)

  pub few_unnamed : (map : List Entry) (inode : ℕ) (edit : Edit) (named : List Leaf) (n : ℕ) → length named ≤ leaves_to_change L map inode edit n
      → length named ≤ leaves_to_change L map inode edit (n + 1)
  few_unnamed map inode edit named n few = (let more = changing_more map inode edit n in omega (arith, more, few))

  -- the leaves of the map may all be among those that change
  pub changing_first : (map : List Entry) (inode : ℕ) (edit : Edit) → leaves_to_change L map inode edit L.map_leaves ≡ L.map_leaves
  unfolding leaves_to_change
  changing_first map inode edit =
      counted (λ i. may_change L map inode edit i) 0 L.map_leaves
      ∙ total_each (λ i. mark (may_change L map inode edit i)) 0 L.map_leaves
      (λ i low high. ap (λ b. mark (b || ((i == inode) || (is_of inode (entries_in map i) && not (is_left edit (entries_in map i).index))))) (lt-ltb i L.map_leaves (omega arith)))

  -- once the map is written, each of its leaves is what it is to be
  pub map_done : (leaves : ℕ → List ℕ) (map : List Entry) (inode : ℕ) (head : Option (List ℕ)) (edit : Edit) (named : List Leaf)
      → ((i : ℕ) → i < L.map_leaves → IsMapLeaf L map i (with_leaves named leaves i)) → (i : ℕ) → i < L.map_leaves → IsChangedLeaf L leaves map inode head edit i (with_leaves named leaves i)
  map_done leaves map inode head edit named each i below = record {
    first = λ low. each i below;
    own = λ later. absurd (omega (arith, later, below));
    data' = λ later. absurd (omega (arith, later, below));
    other = λ later. absurd (omega (arith, later, below));
  }
