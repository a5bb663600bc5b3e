-- The leaves that are free, and what the quota leaves.
use Rattle.std.proofs.Common.{◌≡◌, ◌≢◌, ◌⊎◌, inl, inr, ℕ, ◌+◌, ◌<◌, ◌≤◌, min, Bool, true, false, not, List, length, None, Some, Ok, Err, refl, sym, ◌∙◌, ap, arith}
use Rattle.std.specs.Prelude.{◌&&◌, ◌||◌, ◌==◌, nat_le, nat_lt, if◌then◌else◌}
use Rattle.std.specs.FinMap as finite
use Rattle.std.proofs.lemmas.Bool.{eqb-true, eqb-false, eq-eqb, ne_eqb, lt-leb, le-leb, le-ltb}
use Rattle.store_api.specs.declared.answer.StoreAnswer.TheVariants.{NoSpace}
use Rattle.store_api.specs.declared.change.Change.{Change}
use Rattle.store_api.specs.declared.object.Object.{Object}
use Rattle.store_api.specs.Objects.{blocks_at}
use Rattle.store_api.specs.Stores.{Store, object_at, blocks_for, cost, after_change}
use Rattle.store_api.proofs.Costs.{cost-insert, cost-remove}
use Rattle.region_plan.specs.Layout.{Layout, quota_of}
use Rattle.region_plan.specs.Entries.{entry_at, form_of, is_zero, is_inode, is_used, is_well_formed}
use Rattle.region_plan.specs.Places.{IsMapOf, entries_in, is_free, free_before}
use Rattle.region_plan.specs.Plans.{LacksNew, LacksSpace}
use Rattle.region_plan.specs.Quotas.{change_in, within}
use Rattle.region_plan.specs.Regions.{data_leaves, numbers, used_leaves}
use Rattle.region_plan.specs.declared.edit.Edit.{Edit}
use Rattle.region_plan.specs.declared.entry.Entry.{Entry}
use Rattle.region_plan.specs.declared.entry.TheConstants.{FREE, INODE, DATA}
use Rattle.region_plan.proofs.AgreeLemmas.{count_agree}
use Rattle.region_plan.proofs.LimitLemmas.{map_unused}
use Rattle.region_plan.proofs.SoundLemmas.{Sound}
use Rattle.region_plan.proofs.Totals.{total, mark, counted, total_agree, total_sum, total_each, total_one, total_split, total_zero}
use Rattle.region_plan.proofs.FormLemmas.{IsLaid, quota_is}

form_kinds : (i : ℕ) (e : Entry) (b : Bool) → form_of i e b ≡ true → (e.kind == FREE) ≡ not ((e.kind == INODE) || (e.kind == DATA))
form_kinds i e b formed = each (e.kind == 0) (e.kind == 1) (e.kind == 2) refl refl refl formed
  where
    each : (x y z : Bool) → (e.kind == 0) ≡ x → (e.kind == 1) ≡ y → (e.kind == 2) ≡ z → (if x then (e.inode == 0) && (e.index == 0) else if y then (e.inode == i) && (e.index == 0)
        else z && b) ≡ true → x ≡ not (y || z)
    each true true z p q r f = absurd (let a : e.kind ≡ 0 = eqb-true e.kind 0 p in let c : e.kind ≡ 1 = eqb-true e.kind 1 q in omega (arith, a, c))
    each true false true p q r f = absurd (let a : e.kind ≡ 0 = eqb-true e.kind 0 p in let c : e.kind ≡ 2 = eqb-true e.kind 2 r in omega (arith, a, c))
    each true false false p q r f = refl
    each false true z p q r f = refl
    each false false true p q r f = refl
    each false false false p q r f = absurd (let g : false ≡ true = f in cc)

module _ (L : Layout) (laid : IsLaid L) where
  module _ (leaves : ℕ → List ℕ) (sound : Sound L leaves) where
    abbrev E : ℕ → Entry
    E i = entry_at L leaves i

    kinds_later : (i : ℕ) → L.map_leaves ≤ i → is_well_formed L leaves i ≡ true → ((E i).kind == FREE) ≡ not (is_used L leaves i)
    unfolding is_well_formed
    kinds_later i later formed = form_kinds i (E i) (is_inode L leaves (E i).inode && nat_lt (E i).index L.indexes) (sym (ap (λ b. if b then is_zero (E i) else form_of i (E i)
        (is_inode L leaves (E i).inode && nat_lt (E i).index L.indexes)) (le-ltb i L.map_leaves later)) ∙ formed)

    -- a leaf behind the map is free or in use
    either : (i : ℕ) → L.map_leaves ≤ i → i < L.leaves → mark (is_free L E i) + mark (is_used L leaves i) ≡ 1
    either i later below =
        let free : is_free L E i ≡ not (is_used L leaves i) = ap (λ b. b && ((E i).kind == FREE)) (le-leb L.map_leaves i later) ∙ kinds_later i later (sound.formed i below) in
        ap (λ b. mark b + mark (is_used L leaves i)) free ∙ one (is_used L leaves i)
      where
        one : (b : Bool) → mark (not b) + mark b ≡ 1
        one true = omega arith
        one false = omega arith

    all_leaves : total (λ i. mark (is_free L E i) + mark (is_used L leaves i)) 0 L.leaves ≡ quota_of L
    all_leaves = split (λ i. mark (is_free L E i) + mark (is_used L leaves i)) first (λ i low high. either i low high)
      where
        first : (i : ℕ) → i < L.map_leaves → mark (is_free L E i) + mark (is_used L leaves i) ≡ 0
        first i below =
            let none : mark (is_free L E i) ≡ 0 = ap (λ b. mark (b && ((E i).kind == FREE))) (lt-leb L.map_leaves i below) in
            let unused : mark (is_used L leaves i) ≡ 0 = ap mark (map_unused L laid leaves sound i below) in
            omega (arith, none, unused)

        split : (f : ℕ → ℕ) → ((i : ℕ) → i < L.map_leaves → f i ≡ 0) → ((i : ℕ) → L.map_leaves ≤ i → i < L.leaves → f i ≡ 1) → total f 0 L.leaves ≡ quota_of L
        split f none each =
            let whole = quota_is L laid in
            let parts = total_split f 0 L.map_leaves (quota_of L) in
            let low = total_zero f 0 L.map_leaves (λ i above below. none i (omega arith)) in
            let high = total_each f (0 + L.map_leaves) (quota_of L) (λ i above below. each i (omega arith) (omega (arith, whole))) in
            let all = ap (λ (k : ℕ). total f 0 k) whole in
            omega (arith, parts, low, high, all)

    pub free_used : free_before L E L.leaves + used_leaves L leaves ≡ quota_of L
    unfolding free_before used_leaves numbers
    free_used =
        let free = counted (λ i. is_free L E i) 0 L.leaves in
        let used = counted (λ i. is_used L leaves i) 0 L.leaves in
        let both = total_sum (λ i. mark (is_free L E i)) (λ i. mark (is_used L leaves i)) 0 L.leaves in
        joined (total (λ i. mark (is_free L E i)) 0 L.leaves) (total (λ i. mark (is_used L leaves i)) 0 L.leaves) free used both all_leaves
      where
        joined : {a b s : ℕ} (x y : ℕ) → a ≡ x → b ≡ y → s ≡ x + y → s ≡ quota_of L → a + b ≡ quota_of L
        joined x y p q r t = omega (arith, p, q, r, t)

  -- a leaf that is taken is free no more
  pub taken_free : (entries base : ℕ → Entry) (n : ℕ) → n < L.leaves → is_free L entries n ≡ true → (base n).kind ≡ 1 → ((i : ℕ) → i < L.leaves → i ≢ n → base i ≡ entries i) →
      free_before L entries L.leaves ≡ free_before L base L.leaves + 1
  unfolding free_before
  taken_free entries base n below free kind beside =
      joined (total (λ i. mark (is_free L entries i)) 0 L.leaves) (total (λ i. mark (is_free L base i)) 0 L.leaves) (total (λ i. mark (i == n)) 0 L.leaves)
      (counted (λ i. is_free L entries i) 0 L.leaves) (counted (λ i. is_free L base i) 0 L.leaves) (each ∙ total_sum (λ i. mark (is_free L base i)) (λ i. mark (i == n)) 0 L.leaves) one
    where
      joined : {a b : ℕ} (x y z : ℕ) → a ≡ x → b ≡ y → x ≡ y + z → z ≡ 1 → a ≡ b + 1
      joined x y z p q r t = omega (arith, p, q, r, t)

      not_free : is_free L base n ≡ false
      not_free = ap (λ (k : ℕ). nat_le L.map_leaves n && (k == FREE)) kind ∙ neither (nat_le L.map_leaves n)
        where
          neither : (b : Bool) → (b && false) ≡ false
          neither true = refl
          neither false = refl

      here : (i : ℕ) → i < L.leaves → (b : Bool) → (i == n) ≡ b → mark (is_free L entries i) ≡ mark (is_free L base i) + mark (i == n)
      here i within true e =
          let same : i ≡ n = eqb-true i n e in
          let one : mark (is_free L entries i) ≡ 1 = ap (λ (k : ℕ). mark (is_free L entries k)) same ∙ ap mark free in
          let none : mark (is_free L base i) ≡ 0 = ap (λ (k : ℕ). mark (is_free L base k)) same ∙ ap mark not_free in
          let it : mark (i == n) ≡ 1 = ap mark e in
          omega (arith, one, none, it)
      here i within false e =
          let alike : mark (is_free L entries i) ≡ mark (is_free L base i) = ap (λ (x : Entry). mark (nat_le L.map_leaves i && (x.kind == FREE))) (sym (beside i within (eqb-false i n e))) in
          let it : mark (i == n) ≡ 0 = ap mark e in
          omega (arith, alike, it)

      each : total (λ i. mark (is_free L entries i)) 0 L.leaves ≡ total (λ i. mark (is_free L base i) + mark (i == n)) 0 L.leaves
      each = total_agree (λ i. mark (is_free L entries i)) (λ i. mark (is_free L base i) + mark (i == n)) 0 L.leaves (λ i low high. here i (omega (arith, high)) (i == n) refl)

      one : total (λ i. mark (i == n)) 0 L.leaves ≡ 1
      one = total_one (λ i. mark (i == n)) 0 L.leaves n (omega arith) (omega (arith, below)) (λ i low high other. ap mark (ne_eqb i n other)) ∙ ap mark (eq-eqb n n refl)

  -- a changed store that the quota pays, and one that it doesn't
  pub change_fits : (store after : Store) (c : Change) → after_change store c ≡ Ok after → cost after ≤ quota_of L → change_in L store c ≡ Ok after
  unfolding change_in
  change_fits store after c is paid = ap (within (quota_of L)) is ∙ ap (λ b. if b then Ok after else Err NoSpace) (le-leb (cost after) (quota_of L) paid)

  pub change_full : (store after : Store) (c : Change) → after_change store c ≡ Ok after → quota_of L < cost after → change_in L store c ≡ Err NoSpace
  unfolding change_in
  change_full store after c is over = ap (within (quota_of L)) is ∙ ap (λ b. if b then Ok after else Err NoSpace) (lt-leb (cost after) (quota_of L) over)

  -- what a store costs in which an object has another content, where there are too few leaves
  pub edit_full : (leaves : ℕ → List ℕ) (store : Store) (id : List ℕ) (was now : Object) (edit : Edit) → Sound L leaves → cost store ≡ used_leaves L leaves →
      object_at store id ≡ Some was
      → length was.content ≡ edit.had → length now.content ≡ edit.length → (base : List Entry) → free_before L (entries_in base)
      L.leaves ≡ free_before L (λ j. entry_at L leaves j) L.leaves
      → LacksSpace L base edit → quota_of L < cost (finite.insert store id now)
  edit_full leaves store id was now edit sound costs held had long base same lacks =
      let put = cost-insert store id now in
      let left = cost-remove store id in
      let own : blocks_at (object_at store id) ≡ 1 + data_leaves edit.had = ap blocks_at held ∙ ap blocks_for had in
      let new : blocks_for (length now.content) ≡ 1 + data_leaves edit.length = ap blocks_for long in
      let free = free_used leaves sound in
      each (blocks_for (length now.content)) (blocks_at (object_at store id)) (cost (finite.remove store id)) put left own new same free lacks
    where
      each : (new own left : ℕ) → cost (finite.insert store id now) ≡ new + left → left + own ≡ cost store → own ≡ 1 + data_leaves edit.had → new ≡ 1 + data_leaves edit.length
          → free_before L (entries_in base) L.leaves ≡ free_before L (λ j. entry_at L leaves j) L.leaves →
          free_before L (λ j. entry_at L leaves j) L.leaves + used_leaves L leaves ≡ quota_of L
          → LacksSpace L base edit → quota_of L < cost (finite.insert store id now)
      each new own left put rest had' long' alike free (inl over) = omega (arith, put, long', over)
      each new own left put rest had' long' alike free (inr lack) = omega (arith, put, rest, had', long', alike, free, lack, costs)

  -- a map's free leaves are the region's
  pub free_same : (leaves : ℕ → List ℕ) (map : List Entry) → IsMapOf L leaves map → free_before L (entries_in map) L.leaves ≡ free_before L (λ j. entry_at L leaves j) L.leaves
  unfolding free_before
  free_same leaves map first =
      count_agree (λ j. is_free L (λ i. entry_at L leaves i) j) (λ j. is_free L (entries_in map) j) L.leaves 0
      (λ i low high. ap (λ (e : Entry). nat_le L.map_leaves i && (e.kind == FREE)) (first i (omega (arith, high))))

  -- what a store costs that has a new object, where there are too few leaves
  pub new_full : (leaves : ℕ → List ℕ) (store : Store) (id : List ℕ) (now : Object) (edit : Edit) (map : List Entry) → Sound L leaves →
      cost store ≡ used_leaves L leaves → object_at store id ≡ None → IsMapOf L leaves map
      → length now.content ≡ edit.length → edit.had ≡ 0 → LacksNew L map edit → quota_of L < cost (finite.insert store id now)
  new_full leaves store id now edit map sound costs absent first long had lacks =
      let put = cost-insert store id now in
      let left = cost-remove store id in
      let own : blocks_at (object_at store id) ≡ 0 = ap blocks_at absent in
      let new : blocks_for (length now.content) ≡ 1 + data_leaves edit.length = ap blocks_for long in
      let free = free_used leaves sound in
      each (blocks_for (length now.content)) (blocks_at (object_at store id)) (cost (finite.remove store id)) put left own new (free_same leaves map first) free lacks
    where
      lacking : (new own left here base : ℕ) → cost (finite.insert store id now) ≡ new + left → left + own ≡ cost store → own ≡ 0 → new ≡ 1 + data_leaves edit.length →
          here + used_leaves L leaves ≡ quota_of L → here ≡ base + 1
          → (quota_of L < data_leaves edit.length) ⊎ (min (data_leaves edit.had) (data_leaves edit.length) + base < data_leaves edit.length) → quota_of L < cost (finite.insert store id now)
      lacking new own left here base put rest none long' free more (inl over) = omega (arith, put, long', over)
      lacking new own left here base put rest none long' free more (inr lack) = omega (arith, put, rest, none, long', free, more, lack, costs)

      each : (new own left : ℕ) → cost (finite.insert store id now) ≡ new + left → left + own ≡ cost store → own ≡ 0 → new ≡ 1 + data_leaves edit.length
          → free_before L (entries_in map) L.leaves ≡ free_before L (λ j. entry_at L leaves j) L.leaves → free_before L (λ j. entry_at L leaves j) L.leaves + used_leaves L leaves ≡ quota_of L
          → LacksNew L map edit → quota_of L < cost (finite.insert store id now)
      each new own left put rest none long' alike free (inl nothing) = omega (arith, put, rest, none, long', alike, free, nothing, costs)
      each new own left put rest none long' alike free (inr data') =
          lacking new own left (free_before L (λ j. entry_at L leaves j) L.leaves) (free_before L (entries_in data'.base) L.leaves) put rest none long' free
          (sym alike ∙ taken_free (entries_in map) (entries_in data'.base) data'.leaf data'.new.high data'.new.free
          (ap (λ (e : Entry). e.kind) (data'.new.set data'.leaf data'.new.high ∙ ap (λ b. if b then record { kind = INODE; inode = data'.leaf; index = 0 } else entries_in map
          data'.leaf) (eq-eqb data'.leaf data'.leaf refl)))
          (λ i below other. data'.new.set i below ∙ ap (λ b. if b then record { kind = INODE; inode = data'.leaf; index = 0 } else entries_in map i) (ne_eqb i data'.leaf other)))
          data'.lacks
