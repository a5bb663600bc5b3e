-- What the store of a region costs: an entry of the map for each block.
use Rattle.std.proofs.Common.{◌≡◌, ℕ, zero, suc, ◌+◌, ◌<◌, ◌≤◌, Bool, true, false, cond, List, ◌∷◌, map, length, None, refl, sym, ◌∙◌, ap, arith}
use Rattle.std.specs.Prelude.{◌&&◌, ◌||◌, ◌==◌}
use Rattle.std.specs.List.{sum_by}
use Rattle.std.specs.Cmp.Lexicographic.{nat_list_cmp_total}
use Rattle.std.specs.FinMap as finite
use Rattle.std.proofs.lemmas.Bool.{eqb-true, eq-eqb}
use Rattle.store_api.specs.declared.object.Object.{Object}
use Rattle.store_api.specs.Objects.{blocks_at}
use Rattle.store_api.specs.Stores.{Store, object_at, blocks_for, cost}
use Rattle.store_api.proofs.Costs.{by_bytes, cost-insert, cost-remove}
use Rattle.region_plan.specs.Layout.{Layout}
use Rattle.region_plan.specs.Entries.{entry_at, is_inode, is_data_of, is_data_at, is_used}
use Rattle.region_plan.specs.Inodes.{identifier_in, length_in}
use Rattle.region_plan.specs.Regions.{numbers, inode_numbers, object_of, store_of, used_leaves}
use Rattle.region_plan.specs.declared.entry.TheConstants.{DATA, INODE}
use Rattle.region_plan.proofs.StoreLemmas.{length_content, no_entries}
use Rattle.region_plan.proofs.FormLemmas.{IsLaid}
use Rattle.region_plan.proofs.SoundLemmas.{Sound, SoundInode, blocks_of, is_data, owner_is, owner_below}
use Rattle.region_plan.proofs.HeldLemmas.{kept, inodes_in, looked_none}
use Rattle.region_plan.proofs.Totals.{total, mark, counted, total_agree, total_sum, total_zero, total_swap, total_one, total_each}

alone_costs : (m : Store) (k : List ℕ) (v : Object) → object_at m k ≡ None → cost (finite.insert m k v) ≡ blocks_for (length v.content) + cost m
alone_costs m k v none =
    let put = cost-insert m k v in
    let left = cost-remove m k in
    let nothing : blocks_at (object_at m k) ≡ 0 = ap blocks_at none in
    omega (arith, put, left, nothing)

unmarked : (b : Bool) → (b ≡ true → ⊥) → mark b ≡ 0
unmarked true never = absurd (never refl)
unmarked false never = refl

module _ (L : Layout) (leaves : ℕ → List ℕ) (laid : IsLaid L) (sound : Sound L leaves) where
  -- what an inode costs, if it is one
  abbrev price : ℕ → ℕ
  price i = cond (is_inode L leaves i) (1 + blocks_of L leaves i) 0

  content_long : (i : ℕ) → length (object_of L leaves i).content ≡ length_in (leaves i)
  unfolding object_of
  content_long i = length_content L leaves i

  costs_in : (n a : ℕ) → a + n ≤ L.leaves → cost (finite.from_entries (map (kept L leaves) (inodes_in L leaves a n))) ≡ total price a n
  costs_in zero a within = empty_costs
    where
      empty_costs : cost (finite.empty {X = Object} {R = by_bytes}) ≡ 0
      empty_costs = ap (λ (es : List (List ℕ × Object)). sum_by (λ o. blocks_for (length o.content)) (map (λ e. e.1) es)) (no_entries L leaves)
  costs_in (suc n) a within =
      let rest = costs_in n (a + 1) (omega arith) in
      elim (is_inode L leaves a) as (λ b. is_inode L leaves a ≡ b → cost (finite.from_entries (map (kept L leaves)
      (cond b (a ∷ inodes_in L leaves (a + 1) n) (inodes_in L leaves (a + 1) n)))) ≡ cond b (1 + blocks_of L leaves a) 0 + total price (a + 1) n) [
        | true ↦ λ e.
            let absent : object_at (finite.from_entries (map (kept L leaves) (inodes_in L leaves (a + 1) n))) (identifier_in (leaves a)) ≡ None =
            finite.get-from_entries nat_list_cmp_total (map (kept L leaves) (inodes_in L leaves (a + 1) n)) (identifier_in (leaves a))
            ∙ looked_none L leaves (identifier_in (leaves a)) n (a + 1) (λ j low high inode same. (let twice : j ≡ a = sound.apart j a (omega arith) (omega arith) inode e same in
            omega (arith, twice, low))) in
            alone_costs _ (identifier_in (leaves a)) (object_of L leaves a) absent
            ∙ ap (λ (x : ℕ). blocks_for x + cost (finite.from_entries (map (kept L leaves) (inodes_in L leaves (a + 1) n)))) (content_long a)
            ∙ ap (λ (x : ℕ). blocks_for (length_in (leaves a)) + x) rest
        | false ↦ λ e. omega (arith, rest)
      ] refl

  store_costs : cost (store_of L leaves) ≡ total price 0 L.leaves
  unfolding store_of inode_numbers numbers
  store_costs = costs_in L.leaves 0 (omega arith)

  -- the data of an inode at each index is one leaf
  one_leaf : (n x : ℕ) → SoundInode L leaves n → x < blocks_of L leaves n → total (λ i. mark (is_data_at L leaves n x i)) 0 L.leaves ≡ 1
  one_leaf n x own before =
      let some' = own.present x before in
      total_one (λ i. mark (is_data_at L leaves n x i)) 0 L.leaves some'.0 (omega arith) (omega (arith, some'.1))
      (λ i low high other. unmarked (is_data_at L leaves n x i) (λ t. other (own.single x i some'.0 before (omega arith) some'.1 t some'.2)))
      ∙ ap mark some'.2

  -- a leaf of data has one index
  one_index : (n i : ℕ) → SoundInode L leaves n → i < L.leaves → mark (is_data_of L leaves n i) ≡ total (λ x. mark (is_data_at L leaves n x i)) 0 (blocks_of L leaves n)
  one_index n i own below =
      elim (is_data_of L leaves n i) as (λ b. is_data_of L leaves n i ≡ b → mark b ≡ total (λ x. mark (b && ((entry_at L leaves i).index == x))) 0 (blocks_of L leaves n)) [
        | true ↦ λ e.
            let before = own.before i below e in
            sym (total_one (λ x. mark ((entry_at L leaves i).index == x)) 0 (blocks_of L leaves n) (entry_at L leaves i).index (omega arith) (omega (arith, before))
            (λ x low high other. unmarked ((entry_at L leaves i).index == x) (λ t. other (sym (eqb-true _ _ t))))
            ∙ ap mark (eq-eqb (entry_at L leaves i).index (entry_at L leaves i).index refl))
        | false ↦ λ e. sym (total_zero (λ x. 0) 0 (blocks_of L leaves n) (λ x low high. refl))
      ] refl

  -- an inode has as many data leaves as its content takes
  pub data_counted : (n : ℕ) → SoundInode L leaves n → total (λ i. mark (is_data_of L leaves n i)) 0 L.leaves ≡ blocks_of L leaves n
  data_counted n own =
      total_agree (λ i. mark (is_data_of L leaves n i)) (λ i. total (λ x. mark (is_data_at L leaves n x i)) 0 (blocks_of L leaves n)) 0 L.leaves (λ i low high. one_index n i own (omega arith))
      ∙ total_swap (λ i x. mark (is_data_at L leaves n x i)) 0 L.leaves 0 (blocks_of L leaves n)
      ∙ total_each (λ x. total (λ i. mark (is_data_at L leaves n x i)) 0 L.leaves) 0 (blocks_of L leaves n) (λ x low high. one_leaf n x own (omega arith))

  -- a leaf of data has one inode
  one_owner : (i : ℕ) → i < L.leaves → mark (is_data L leaves i) ≡ total (λ n. cond (is_inode L leaves n) (mark (is_data_of L leaves n i)) 0) 0 L.leaves
  one_owner i below =
      elim (is_data L leaves i) as (λ b. is_data L leaves i ≡ b → mark b ≡ total (λ n. cond (is_inode L leaves n) (mark (b && ((entry_at L leaves i).inode == n))) 0) 0 L.leaves) [
        | true ↦ λ e.
            let inode : is_inode L leaves (entry_at L leaves i).inode ≡ true = owner_is L leaves i (sound.formed i below) e in
            let here = owner_below L leaves i laid in
            sym (total_one (λ n. cond (is_inode L leaves n) (mark ((entry_at L leaves i).inode == n)) 0) 0 L.leaves (entry_at L leaves i).inode (omega arith) (omega (arith, here))
            (λ n low high other. ap (λ (m : ℕ). cond (is_inode L leaves n) m 0) (unmarked ((entry_at L leaves i).inode == n) (λ t. other (sym (eqb-true _ _ t)))) ∙ neither (is_inode L leaves n))
            ∙ ap (λ b. cond b (mark ((entry_at L leaves i).inode == (entry_at L leaves i).inode)) 0) inode
            ∙ ap mark (eq-eqb (entry_at L leaves i).inode (entry_at L leaves i).inode refl))
        | false ↦ λ e. sym (total_zero (λ n. cond (is_inode L leaves n) 0 0) 0 L.leaves (λ n low high. neither (is_inode L leaves n)))
      ] refl
    where
      neither : (b : Bool) → cond {A = ℕ} b 0 0 ≡ 0
      neither true = refl
      neither false = refl

  used_is : (i : ℕ) → mark (is_used L leaves i) ≡ mark (is_inode L leaves i) + mark (is_data L leaves i)
  used_is i = each (entry_at L leaves i).kind (is_inode L leaves i) (is_data L leaves i) refl refl
    where
      each : (k : ℕ) (b c : Bool) → (k == INODE) ≡ b → (k == DATA) ≡ c → mark (b || c) ≡ mark b + mark c
      each k true true e f = absurd (let one : k ≡ 1 = eqb-true k 1 e in let two : k ≡ 2 = eqb-true k 2 f in omega (arith, one, two))
      each k true false e f = refl
      each k false c e f = omega arith

  data_shared : (n : ℕ) → n < L.leaves → total (λ i. cond (is_inode L leaves n) (mark (is_data_of L leaves n i)) 0) 0 L.leaves ≡ cond (is_inode L leaves n) (blocks_of L leaves n) 0
  data_shared n below =
      elim (is_inode L leaves n) as (λ b. is_inode L leaves n ≡ b → total (λ i. cond b (mark (is_data_of L leaves n i)) 0) 0 L.leaves ≡ cond b (blocks_of L leaves n) 0) [
        | true ↦ λ e. data_counted n (sound.inode n below e)
        | false ↦ λ e. total_zero (λ i. 0) 0 L.leaves (λ i low high. refl)
      ] refl

  price_is : (n : ℕ) → price n ≡ mark (is_inode L leaves n) + cond (is_inode L leaves n) (blocks_of L leaves n) 0
  price_is n = each (is_inode L leaves n)
    where
      each : (b : Bool) → cond b (1 + blocks_of L leaves n) 0 ≡ mark b + cond b (blocks_of L leaves n) 0
      each true = refl
      each false = refl

  -- the store costs as much as there are leaves in use
  pub used_costs : cost (store_of L leaves) ≡ used_leaves L leaves
  unfolding numbers used_leaves
  used_costs =
      let shares = total_agree (λ i. mark (is_data L leaves i)) (λ i. total (λ n. cond (is_inode L leaves n) (mark (is_data_of L leaves n i)) 0) 0 L.leaves) 0 L.leaves
      (λ i low high. one_owner i (omega arith)) in
      let turned = total_swap (λ i n. cond (is_inode L leaves n) (mark (is_data_of L leaves n i)) 0) 0 L.leaves 0 L.leaves in
      let each = total_agree (λ n. total (λ i. cond (is_inode L leaves n) (mark (is_data_of L leaves n i)) 0) 0 L.leaves) (λ n. cond (is_inode L leaves n) (blocks_of L leaves n) 0)
      0 L.leaves (λ n low high. data_shared n (omega arith)) in
      let data' : total (λ i. mark (is_data L leaves i)) 0 L.leaves ≡ total (λ n. cond (is_inode L leaves n) (blocks_of L leaves n) 0) 0 L.leaves = shares ∙ turned ∙ each in
      store_costs
      ∙ total_agree price (λ n. mark (is_inode L leaves n) + cond (is_inode L leaves n) (blocks_of L leaves n) 0) 0 L.leaves (λ n low high. price_is n)
      ∙ total_sum (λ n. mark (is_inode L leaves n)) (λ n. cond (is_inode L leaves n) (blocks_of L leaves n) 0) 0 L.leaves
      ∙ ap (λ (m : ℕ). total (λ n. mark (is_inode L leaves n)) 0 L.leaves + m) (sym data')
      ∙ sym (total_sum (λ n. mark (is_inode L leaves n)) (λ i. mark (is_data L leaves i)) 0 L.leaves)
      ∙ sym (total_agree (λ i. mark (is_used L leaves i)) (λ i. mark (is_inode L leaves i) + mark (is_data L leaves i)) 0 L.leaves (λ i low high. used_is i))
      ∙ sym (counted (λ i. is_used L leaves i) 0 L.leaves)
