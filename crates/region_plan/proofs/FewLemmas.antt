-- How few leaves an edit names.
use Rattle.std.proofs.Common.{◌≡◌, ◌≤◌, ◌<◌, ◌+◌, ◌-◌, ◌∙◌, ℕ, zero, suc, max, Bool, true, false, not, List, refl, sym, ap, subst, arith, nat_le}
use Rattle.std.specs.Prelude.{◌&&◌, ◌||◌, ◌==◌, nat_lt}
use Rattle.std.proofs.lemmas.Bool.{eq-eqb, ne_eqb, le-ltb, ltb-true, ltb-false, leb-true, leb-false, le-leb, lt-ltb, and_from}
use Rattle.region_plan.specs.Layout.{Layout, quota_of}
use Rattle.region_plan.specs.Edits.{is_left}
use Rattle.region_plan.specs.Entries.{entry_at, is_data_of, is_data_at}
use Rattle.region_plan.specs.Places.{IsMapOf, entries_in, is_of}
use Rattle.region_plan.specs.Plans.{leaves_to_change, may_change}
use Rattle.region_plan.specs.declared.edit.Edit.{Edit}
use Rattle.region_plan.specs.declared.entry.Entry.{Entry}
use Rattle.region_plan.proofs.PlaceLemmas.{HasEach}
use Rattle.region_plan.proofs.SoundLemmas.{and_both}
use Rattle.region_plan.proofs.Totals.{total, mark, counted, total_less, total_sum, total_swap, total_zero, total_one, total_some, total_split, total_each}
use Rattle.region_plan.proofs.FormLemmas.{IsLaid, quota_is}

-- numbers between two others
total_between : (a b m s : ℕ) → total (λ x. mark (nat_le a x && nat_lt x b)) s m ≤ b - max a s
total_between a b zero s = omega arith
total_between a b (suc m) s =
    let rest = total_between a b m (s + 1) in
    each (nat_le a s) (nat_lt s b) refl refl rest
  where
    each : (p q : Bool) → nat_le a s ≡ p → nat_lt s b ≡ q → total (λ x. mark (nat_le a x && nat_lt x b)) (s + 1) m ≤ b - max a (s + 1) →
        mark (p && q) + total (λ x. mark (nat_le a x && nat_lt x b)) (s + 1) m ≤ b - max a s
    each true true e f rest = (let one = leb-true a s e in let two = ltb-true s b f in omega (arith, one, two, rest))
    each true false e f rest = (let one = leb-true a s e in let two = ltb-false s b f in omega (arith, one, two, rest))
    each false q e f rest = (let one = leb-false a s e in omega (arith, one, rest))

mark_or : (a b c : Bool) → mark (a || (b || c)) ≤ mark a + (mark b + mark c)
mark_or true b c = omega arith
mark_or false true c = omega arith
mark_or false false c = omega arith

mark_most : (b : Bool) (m : ℕ) → (b ≡ true → 1 ≤ m) → mark b ≤ m
mark_most true m most = most refl
mark_most false m most = omega arith

le_from : {a b : ℕ} → a ≡ b → a ≤ b
le_from e = omega (arith, e)

module _ (L : Layout) (laid : IsLaid L) where
  module _ (after : ℕ → List ℕ) (map : List Entry) (is_map : IsMapOf L after map) (n blocks first last : ℕ) (edit : Edit) (below : n < L.leaves) (each : HasEach L laid after n blocks)
      (reach : (x : ℕ) → x < blocks → is_left edit x ≡ false → (first ≤ x) × (x < last)) where
    abbrev written : ℕ → ℕ
    written i = mark (is_of n (entries_in map i) && not (is_left edit (entries_in map i).index))

    not_left : (b : Bool) → not b ≡ true → b ≡ false
    not_left true e = absurd (let f : false ≡ true = e in cc)
    not_left false e = refl

    written_once : (i : ℕ) → i < L.leaves → written i ≤ total (λ x. mark (is_data_at L after n x i && not (is_left edit x))) 0 blocks
    written_once i within = mark_most _ _ (λ is.
        let parts = and_both _ _ is in
        let of : is_data_of L after n i ≡ true = ap (is_of n) (sym (is_map i within)) ∙ parts.0 in
        let index : (entry_at L after i).index ≡ (entries_in map i).index = ap (λ (e : Entry). e.index) (sym (is_map i within)) in
        let inside = each.before i within of in
        total_some (λ x. is_data_at L after n x i && not (is_left edit x)) 0 blocks (entry_at L after i).index (omega arith) (omega (arith, inside))
        (and_from _ _ (and_from _ _ of (eq-eqb _ _ refl)) (ap (λ (x : ℕ). not (is_left edit x)) index ∙ parts.1)))

    index_few : (x : ℕ) → x < blocks → total (λ i. mark (is_data_at L after n x i && not (is_left edit x))) 0 L.leaves ≤ mark (nat_le first x && nat_lt x last)
    index_few x inside =
        elim (is_left edit x) as (λ b. is_left edit x ≡ b → total (λ i. mark (is_data_at L after n x i && not b)) 0 L.leaves ≤ mark (nat_le first x && nat_lt x last)) [
          | true ↦ λ e. le_zero (total_zero (λ i. mark (is_data_at L after n x i && false)) 0 L.leaves (λ i low high. neither (is_data_at L after n x i)))
          | false ↦ λ e. (let far = reach x inside e in
              le_one (one_at) (and_from _ _ (le-leb first x far.0) (lt-ltb x last far.1)))
        ] refl
      where
        neither : (b : Bool) → mark (b && false) ≡ 0
        neither true = refl
        neither false = refl

        le_zero : {a b : ℕ} → a ≡ 0 → a ≤ b
        le_zero e = omega (arith, e)

        le_one : {a : ℕ} {b : Bool} → a ≤ 1 → b ≡ true → a ≤ mark b
        le_one {a} {b} le is = subst (λ (t : Bool). a ≤ mark t) (sym is) le

        marks : (b : Bool) → mark (b && true) ≤ 1
        marks true = omega arith
        marks false = omega arith

        unmarked : (b : Bool) → (b ≡ true → ⊥) → mark (b && true) ≡ 0
        unmarked true never = absurd (never refl)
        unmarked false never = refl

        le_trans : {a b : ℕ} → a ≡ b → b ≤ 1 → a ≤ 1
        le_trans e le = omega (arith, e, le)

        one_at : total (λ i. mark (is_data_at L after n x i && true)) 0 L.leaves ≤ 1
        one_at =
            let met = each.present x inside in
            le_trans (total_one (λ i. mark (is_data_at L after n x i && true)) 0 L.leaves met.0 (omega arith) (omega (arith, met.1))
            (λ i low high other. unmarked (is_data_at L after n x i) (λ t. other (each.single x i met.0 inside (omega (arith, high)) met.1 t met.2))))
            (marks (is_data_at L after n x met.0))

    data_few : total written 0 L.leaves ≤ last - first
    data_few =
        joined (total_less written (λ i. total (λ x. mark (is_data_at L after n x i && not (is_left edit x))) 0 blocks) 0 L.leaves (λ i low high. written_once i (omega (arith, high))))
        (total_swap (λ i x. mark (is_data_at L after n x i && not (is_left edit x))) 0 L.leaves 0 blocks)
        (total_less (λ x. total (λ i. mark (is_data_at L after n x i && not (is_left edit x))) 0 L.leaves) (λ x. mark (nat_le first x && nat_lt x last)) 0 blocks
        (λ x low high. index_few x (omega (arith, high))))
        (total_between first last blocks 0)
      where
        joined : {a b c d : ℕ} → a ≤ b → b ≡ c → c ≤ d → d ≤ last - max first 0 → a ≤ last - first
        joined p q r t = omega (arith, p, q, r, t)

    map_number : total (λ i. mark (nat_lt i L.map_leaves)) 0 L.leaves ≡ L.map_leaves
    map_number =
        let whole = quota_is L laid in
        let parts = total_split (λ i. mark (nat_lt i L.map_leaves)) 0 L.map_leaves (quota_of L) in
        let low = total_each (λ i. mark (nat_lt i L.map_leaves)) 0 L.map_leaves (λ i above below'. ap mark (lt-ltb i L.map_leaves (omega arith))) in
        let high = total_zero (λ i. mark (nat_lt i L.map_leaves)) (0 + L.map_leaves) (quota_of L) (λ i above below'. ap mark (le-ltb i L.map_leaves (omega arith))) in
        let all = ap (λ (k : ℕ). total (λ i. mark (nat_lt i L.map_leaves)) 0 k) whole in
        omega (arith, parts, low, high, all)

    one_number : (k : ℕ) → k < L.leaves → total (λ i. mark (i == k)) 0 L.leaves ≡ 1
    one_number k within = total_one (λ i. mark (i == k)) 0 L.leaves k (omega arith) (omega (arith, within)) (λ i low high other. ap mark (ne_eqb i k other)) ∙ ap mark (eq-eqb k k refl)

    pub changing_few : leaves_to_change L map n edit L.leaves ≤ L.map_leaves + 1 + (last - first)
    unfolding leaves_to_change
    changing_few =
        joined (counted (λ i. may_change L map n edit i) 0 L.leaves)
        (total_less (λ i. mark (may_change L map n edit i)) (λ i. mark (nat_lt i L.map_leaves) + (mark (i == n) + written i)) 0 L.leaves (λ i low high. mark_or (nat_lt i L.map_leaves) (i == n) _))
        (total_sum (λ i. mark (nat_lt i L.map_leaves)) (λ i. mark (i == n) + written i) 0 L.leaves) (total_sum (λ i. mark (i == n)) written 0 L.leaves) map_number (one_number n below) data_few
      where
        joined : {a b c d e f g : ℕ} → a ≡ b → b ≤ c → c ≡ d + e → e ≡ f + g → d ≡ L.map_leaves → f ≡ 1 → g ≤ last - first → a ≤ L.map_leaves + 1 + (last - first)
        joined p q r s t u v = omega (arith, p, q, r, s, t, u, v)
