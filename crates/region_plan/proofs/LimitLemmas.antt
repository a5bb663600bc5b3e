-- The store of a region keeps to the limits of stores.
use Rattle.std.proofs.Common.{◌≡◌, ℕ, zero, suc, ◌+◌, ◌<◌, ◌≤◌, Bool, true, false, List, [], ◌∷◌, length, take, drop, Some, Ok, refl, sym, ◌∙◌, ap, subst, arith, nat_le}
use Rattle.std.specs.Prelude.{◌&&◌, ◌||◌, ◌==◌, if◌then◌else◌, nat_lt}
use Rattle.std.specs.List.{slice_index}
use Rattle.std.proofs.lemmas.Bool.{eqb-true, leb-true, lt-ltb, ltb-true, ltb-false}
use Rattle.store_api.specs.declared.object.Object.{Object}
use Rattle.store_api.specs.Stores.{Store, object_at, cost}
use Rattle.region_plan.specs.Layout.{Layout, quota_of}
use Rattle.region_plan.specs.Entries.{entry_at, form_of, is_inode, is_used, is_well_formed, is_zero}
use Rattle.region_plan.specs.Inodes.{identifier_in, secret_in, is_inode_leaf}
use Rattle.region_plan.specs.Quotas.{KeepsWithin}
use Rattle.region_plan.specs.Regions.{numbers, object_of, region_of, used_leaves}
use Rattle.region_plan.specs.declared.entry.TheConstants.{DATA, INODE}
use Rattle.region_plan.proofs.RuleLemmas.{region_store}
use Rattle.region_plan.proofs.SoundLemmas.{Sound, and_both, region_sound}
use Rattle.region_plan.proofs.HeldLemmas.{held_by}
use Rattle.region_plan.proofs.CostLemmas.{used_costs}
use Rattle.region_plan.proofs.Totals.{total, mark, counted, total_less, total_each, total_split, total_zero}
use Rattle.region_plan.proofs.FormLemmas.{IsLaid, quota_is}

taken : (n : ℕ) (xs : List ℕ) → length (take n xs) ≤ n
taken zero xs = omega arith
taken (suc n) [] = omega arith
taken (suc n) (x ∷ xs) = (let rest = taken n xs in omega (arith, rest))

-- of marks where the first are none
but_first : (p : ℕ → Bool) (m n : ℕ) → ((i : ℕ) → i < m → p i ≡ false) → total (λ i. mark (p i)) 0 (m + n) ≤ n
but_first p m n none =
    let parts = total_split (λ i. mark (p i)) 0 m n in
    let first = total_zero (λ i. mark (p i)) 0 m (λ i low high. ap mark (none i (omega arith))) in
    let rest = total_less (λ i. mark (p i)) (λ i. 1) (0 + m) n (λ i low high. at_most (p i)) in
    let many = total_each (λ i. 1) (0 + m) n (λ i low high. refl) in
    omega (arith, parts, first, rest, many)
  where
    at_most : (b : Bool) → mark b ≤ 1
    at_most true = omega arith
    at_most false = omega arith

first_two : (a b c : Bool) → (a && (b && c)) ≡ true → (a ≡ true) × (b ≡ true)
first_two true true c e = (refl, refl)
first_two true false c e = absurd (let f : false ≡ true = e in cc)
first_two false b c e = absurd (let f : false ≡ true = e in cc)

module _ (L : Layout) (laid : IsLaid L) where
  module _ (leaves : ℕ → List ℕ) where
    lengths : (i : ℕ) → is_inode_leaf (leaves i) ≡ true → (slice_index (leaves i) 12 ≤ 64) × (slice_index (leaves i) 13 ≤ 128)
    unfolding is_inode_leaf
    lengths i is = (let both = first_two (nat_le (slice_index (leaves i) 12) 64) (nat_le (slice_index (leaves i) 13) 128) _ is in (leb-true _ 64 both.0, leb-true _ 128 both.1))

    pub identifier_short : (i : ℕ) → is_inode_leaf (leaves i) ≡ true → length (identifier_in (leaves i)) ≤ 64
    unfolding identifier_in
    identifier_short i is = (let short = taken (slice_index (leaves i) 12) (drop 16 (leaves i)) in let limits = lengths i is in omega (arith, short, limits.0))

    pub secret_short : (i : ℕ) → is_inode_leaf (leaves i) ≡ true → length (secret_in (leaves i)) ≤ 128
    unfolding secret_in
    secret_short i is = (let short = taken (slice_index (leaves i) 13) (drop 80 (leaves i)) in let limits = lengths i is in omega (arith, short, limits.1))

    secret_of : (i : ℕ) → (object_of L leaves i).secret ≡ secret_in (leaves i)
    unfolding object_of
    secret_of i = refl

    free_kind : (k : ℕ) → k ≡ 0 → ((k == INODE) || (k == DATA)) ≡ false
    free_kind k is = ap (λ (n : ℕ). (n == INODE) || (n == DATA)) is

    -- the leaves of the map are those of no object
    pub map_unused : Sound L leaves → (i : ℕ) → i < L.map_leaves → is_used L leaves i ≡ false
    unfolding is_well_formed
    map_unused sound i below =
        let more = laid.more in
        let zero' : is_zero (entry_at L leaves i) ≡ true =
        sym (ap (λ b. if b then is_zero (entry_at L leaves i) else form_of i (entry_at L leaves i) (is_inode L leaves (entry_at L leaves i).inode && nat_lt (entry_at L leaves i).index L.indexes))
        (lt-ltb i L.map_leaves below)) ∙ sound.formed i (omega (arith, more, below)) in
        free_kind (entry_at L leaves i).kind (eqb-true (entry_at L leaves i).kind 0 (and_both _ _ zero').0)

    -- and what is in use is behind it
    pub used_later : Sound L leaves → (i : ℕ) → is_used L leaves i ≡ true → L.map_leaves ≤ i
    used_later sound i used =
        elim (nat_lt i L.map_leaves) as (λ b. nat_lt i L.map_leaves ≡ b → L.map_leaves ≤ i) [
          | true ↦ λ e. absurd (let f : true ≡ false = sym used ∙ map_unused sound i (ltb-true i L.map_leaves e) in cc)
          | false ↦ λ e. ltb-false i L.map_leaves e
        ] refl

    pub few_used : Sound L leaves → used_leaves L leaves ≤ quota_of L
    unfolding used_leaves numbers
    few_used sound =
        subst (λ (n : ℕ). n ≤ quota_of L) (sym (counted (λ i. is_used L leaves i) 0 L.leaves ∙ ap (λ (n : ℕ). total (λ i. mark (is_used L leaves i)) 0 n) (quota_is L laid)))
        (but_first (λ i. is_used L leaves i) L.map_leaves (quota_of L) (map_unused sound))

    pub costs_leaves : (store : Store) → region_of L leaves ≡ Ok store → cost store ≡ used_leaves L leaves
    costs_leaves store is = ap cost (region_store L leaves store is) ∙ used_costs L leaves laid (region_sound L leaves laid store is)

    pub within_limits : (store : Store) → region_of L leaves ≡ Ok store → KeepsWithin L store
    within_limits store is =
        let sound = region_sound L leaves laid store is in
        let same = region_store L leaves store is in
        let paid = costs_leaves store is in
        let few = few_used sound in
        record {
          paid = omega (arith, paid, few);
          identifiers = λ id o at. (let met = held_by L leaves id o (subst (λ (s : Store). object_at s id ≡ Some o) same at) in
              subst (λ (x : List ℕ). length x ≤ 64) met.2.1 (identifier_short met.0 (sound.inode met.0 met.1 met.2.0).bytes));
          secrets = λ id o at. (let met = held_by L leaves id o (subst (λ (s : Store). object_at s id ≡ Some o) same at) in
              subst (λ (x : Object). length x.secret ≤ 128) met.2.2 (subst (λ (x : List ℕ). length x ≤ 128) (sym (secret_of met.0)) (secret_short met.0 (sound.inode met.0 met.1 met.2.0).bytes)));
        }
