-- A region in which no leaf breaks a rule, rule by rule.
use Rattle.std.proofs.Common.{◌≡◌, ◌≢◌, ℕ, zero, suc, ◌+◌, ◌-◌, ◌*◌, ◌<◌, ◌≤◌, Bool, true, false, cond, not, List, take, drop, Option, None, Some, Ok, find, refl, sym, ◌∙◌, ap, subst, arith, nat_le}
use Rattle.std.specs.Prelude.{◌&&◌, ◌||◌, ◌==◌, if◌then◌else◌, nat_lt}
use Rattle.std.specs.List.{range_with_len, list_any, list_all}
use Rattle.std.specs.Str.{bytes_eq}
use Rattle.std.proofs.lemmas.Bool.{eqb-true, eq-eqb, leb-true, leb-false, ltb-true, ltb-false, and_from, not_from_false, eqb-false}
use Rattle.std.proofs.lemmas.Slice.Eq.{bytes_eq-Decides}
use Rattle.store_api.specs.Stores.{Store}
use Rattle.region_plan.specs.Layout.{Layout}
use Rattle.region_plan.specs.Parts.{are_zero}
use Rattle.region_plan.proofs.FormLemmas.{IsLaid}
use Rattle.region_plan.specs.Entries.{entry_at, entry_number, form_of, is_zero, is_inode, is_data_of, is_data_at, is_well_formed}
use Rattle.region_plan.specs.Inodes.{length_in, identifier_in, is_inode_leaf}
use Rattle.region_plan.specs.Regions.{numbers, is_doubled, has_one, is_past, has_data, is_padded, breaks, store_of, first_broken, unless_broken, region_of, data_leaves}
use Rattle.region_plan.specs.declared.entry.Entry.{Entry}
use Rattle.region_plan.specs.declared.entry.TheConstants.{DATA, FREE}
use Rattle.region_plan.proofs.Totals.{total, mark, counted, total_met, total_only, total_one}

-- over a range
any_range : (p : ℕ → Bool) (n a i : ℕ) → list_any p (range_with_len a n) ≡ false → a ≤ i → i < a + n → p i ≡ false
any_range p zero a i none low high = absurd (omega arith)
any_range p (suc n) a i none low high =
    let parts = apart (p a) _ none in
    elim (a == i) as (λ b. (a == i) ≡ b → p i ≡ false) [
      | true ↦ λ e. (let same : a ≡ i = eqb-true a i e in ap p (sym same) ∙ parts.0)
      | false ↦ λ e. (let other : a ≢ i = eqb-false a i e in any_range p n (a + 1) i parts.1 (omega (arith, other)) (omega arith))
    ] refl
  where
    apart : (x y : Bool) → (x || y) ≡ false → (x ≡ false) × (y ≡ false)
    apart false y e = (refl, e)
    apart true y e = absurd (let f : true ≡ false = e in cc)

pub none_range : (p : ℕ → Bool) (n a : ℕ) → ((i : ℕ) → a ≤ i → i < a + n → p i ≡ false) → list_any p (range_with_len a n) ≡ false
none_range p zero a none = refl
none_range p (suc n) a none = ap (λ b. b || list_any p (range_with_len (a + 1) n)) (none a (omega arith) (omega arith)) ∙ none_range p n (a + 1) (λ i low high. none i (omega arith) (omega arith))

all_range : (p : ℕ → Bool) (n a i : ℕ) → list_all p (range_with_len a n) ≡ true → a ≤ i → i < a + n → p i ≡ true
all_range p zero a i all low high = absurd (omega arith)
all_range p (suc n) a i all low high =
    let parts = both (p a) _ all in
    elim (a == i) as (λ b. (a == i) ≡ b → p i ≡ true) [
      | true ↦ λ e. (let same : a ≡ i = eqb-true a i e in ap p (sym same) ∙ parts.0)
      | false ↦ λ e. (let other : a ≢ i = eqb-false a i e in all_range p n (a + 1) i parts.1 (omega (arith, other)) (omega arith))
    ] refl
  where
    both : (x y : Bool) → (x && y) ≡ true → (x ≡ true) × (y ≡ true)
    both true y e = (refl, e)
    both false y e = absurd (let f : false ≡ true = e in cc)

pub each_range : (p : ℕ → Bool) (n a : ℕ) → ((i : ℕ) → a ≤ i → i < a + n → p i ≡ true) → list_all p (range_with_len a n) ≡ true
each_range p zero a all = refl
each_range p (suc n) a all = ap (λ b. b && list_all p (range_with_len (a + 1) n)) (all a (omega arith) (omega arith)) ∙ each_range p n (a + 1) (λ i low high. all i (omega arith) (omega arith))

find_range : (p : ℕ → Bool) (n a i : ℕ) → find p (range_with_len a n) ≡ None → a ≤ i → i < a + n → p i ≡ false
find_range p zero a i none low high = absurd (omega arith)
find_range p (suc n) a i none low high =
    let parts = skipped (p a) a _ none in
    elim (a == i) as (λ b. (a == i) ≡ b → p i ≡ false) [
      | true ↦ λ e. (let same : a ≡ i = eqb-true a i e in ap p (sym same) ∙ parts.0)
      | false ↦ λ e. (let other : a ≢ i = eqb-false a i e in find_range p n (a + 1) i parts.1 (omega (arith, other)) (omega arith))
    ] refl
  where
    skipped : (x : Bool) (v : ℕ) (r : Option ℕ) → cond x (Some v) r ≡ None → (x ≡ false) × (r ≡ None)
    skipped true v r e = cc
    skipped false v r e = (refl, e)

pub none_found : (p : ℕ → Bool) (n a : ℕ) → ((i : ℕ) → a ≤ i → i < a + n → p i ≡ false) → find p (range_with_len a n) ≡ None
none_found p zero a none = refl
none_found p (suc n) a none = ap (λ b. cond b (Some a) (find p (range_with_len (a + 1) n))) (none a (omega arith) (omega arith))
    ∙ none_found p n (a + 1) (λ i low high. none i (omega arith) (omega arith))

-- what none of the rules being broken says
formed_of : (f x y : Bool) → (not f || (x || y)) ≡ false → f ≡ true
formed_of true x y e = refl
formed_of false x y e = absurd (let g : true ≡ false = e in cc)

inode_of : (f i l d h y : Bool) → (not f || ((i && not (l && (not d && h))) || y)) ≡ false → i ≡ true → (l ≡ true) × (d ≡ false) × (h ≡ true)
inode_of false i l d h y e is = absurd (let g : true ≡ false = e in cc)
inode_of true false l d h y e is = absurd (let g : false ≡ true = is in cc)
inode_of true true false d h y e is = absurd (let g : true ≡ false = e in cc)
inode_of true true true true h y e is = absurd (let g : true ≡ false = e in cc)
inode_of true true true false false y e is = absurd (let g : true ≡ false = e in cc)
inode_of true true true false true y e is = (refl, refl, refl)

data_of : (f x d p : Bool) → (not f || (x || (d && not p))) ≡ false → d ≡ true → p ≡ true
data_of false x d p e is = absurd (let g : true ≡ false = e in cc)
data_of true true d p e is = absurd (let g : true ≡ false = e in cc)
data_of true false false p e is = absurd (let g : false ≡ true = is in cc)
data_of true false true false e is = absurd (let g : true ≡ false = e in cc)
data_of true false true true e is = refl

-- no rule is broken where each part of them is kept
pub unbroken_from : (f i l d h k p : Bool) → f ≡ true → (i ≡ true → (l ≡ true) × (d ≡ false) × (h ≡ true)) → (k ≡ true → p ≡ true) → (not f || ((i && not (l && (not d && h))) || (k && not p))) ≡ false
unbroken_from f true l d h true p formed inode data' = rw (formed, (inode refl).0, (inode refl).1, (inode refl).2, data' refl) refl
unbroken_from f true l d h false p formed inode data' = rw (formed, (inode refl).0, (inode refl).1, (inode refl).2) refl
unbroken_from f false l d h true p formed inode data' = rw (formed, data' refl) refl
unbroken_from f false l d h false p formed inode data' = rw (formed) refl

pub and_both : (x y : Bool) → (x && y) ≡ true → (x ≡ true) × (y ≡ true)
and_both true y e = (refl, e)
and_both false y e = absurd (let f : false ≡ true = e in cc)

or_other : (x y : Bool) → (x || y) ≡ true → x ≡ false → y ≡ true
or_other true y e isnt = absurd (let f : true ≡ false = isnt in cc)
or_other false y e isnt = e

less_or_not : (a b : ℕ) → nat_le a b ≡ false → b < a
less_or_not a b e = leb-false a b e

module _ (L : Layout) (leaves : ℕ → List ℕ) where
  -- how many data leaves an inode has
  abbrev pub blocks_of : ℕ → ℕ
  blocks_of n = data_leaves (length_in (leaves n))

  abbrev pub is_data : ℕ → Bool
  is_data i = (entry_at L leaves i).kind == DATA

  -- the data of an inode at an index is somewhere
  abbrev pub IsSomewhere : ℕ → ℕ → Type 0
  IsSomewhere n x = (k : ℕ) × (k < L.leaves) × (is_data_at L leaves n x k ≡ true)

  -- the rules that tie an inode to its leaf and its data
  pub record SoundInode (n : ℕ) : Type 0 where
    pub bytes : is_inode_leaf (leaves n) ≡ true
    pub present : (x : ℕ) → x < blocks_of n → IsSomewhere n x
    pub single : (x k j : ℕ) → x < blocks_of n → k < L.leaves → j < L.leaves → is_data_at L leaves n x k ≡ true → is_data_at L leaves n x j ≡ true → k ≡ j
    pub before : (k : ℕ) → k < L.leaves → is_data_of L leaves n k ≡ true → (entry_at L leaves k).index < blocks_of n
    pub padded : (k : ℕ) → k < L.leaves → is_data_of L leaves n k ≡ true → are_zero (drop (length_in (leaves n) - 1024 * (entry_at L leaves k).index) (take 1024 (leaves k))) ≡ true

  -- no rule is broken
  pub record Sound : Type 0 where
    pub formed : (i : ℕ) → i < L.leaves → is_well_formed L leaves i ≡ true
    pub inode : (n : ℕ) → n < L.leaves → is_inode L leaves n ≡ true → SoundInode n
    pub apart : (n m : ℕ) → n < L.leaves → m < L.leaves → is_inode L leaves n ≡ true → is_inode L leaves m ≡ true → identifier_in (leaves n) ≡ identifier_in (leaves m) → n ≡ m

  -- data that follows the rules of the map is of an inode
  owner_of_form : (i : ℕ) (e : Entry) (b : Bool) → e.kind ≡ 2 → form_of i e b ≡ true → b ≡ true
  owner_of_form i e b kind form = sym (ap (λ (k : ℕ). form_of i (record e { kind = k }) b) kind) ∙ form

  zero_kind : (e : Entry) → is_zero e ≡ true → e.kind ≡ 0
  zero_kind e zero' = eqb-true e.kind 0 (and_both (e.kind == FREE) ((e.inode == 0) && (e.index == 0)) zero').0

  named_is : (i : ℕ) → is_well_formed L leaves i ≡ true → is_data i ≡ true → (is_inode L leaves (entry_at L leaves i).inode ≡ true) × (nat_lt (entry_at L leaves i).index L.indexes ≡ true)
  unfolding is_well_formed
  named_is i formed is =
      elim (nat_lt i L.map_leaves) as (λ b. (if b then is_zero (entry_at L leaves i) else form_of i (entry_at L leaves i)
      (is_inode L leaves (entry_at L leaves i).inode && nat_lt (entry_at L leaves i).index L.indexes)) ≡ true →
      (is_inode L leaves (entry_at L leaves i).inode ≡ true) × (nat_lt (entry_at L leaves i).index L.indexes ≡ true)) [
        | true ↦ λ e. absurd (let none = zero_kind (entry_at L leaves i) e in let f : false ≡ true = sym (ap (λ (x : ℕ). x == DATA) none) ∙ is in cc)
        | false ↦ λ e. and_both _ _ (owner_of_form i (entry_at L leaves i) _ (eqb-true _ 2 is) e)
      ] formed

  pub owner_is : (i : ℕ) → is_well_formed L leaves i ≡ true → is_data i ≡ true → is_inode L leaves (entry_at L leaves i).inode ≡ true
  owner_is i formed is = (named_is i formed is).0

  pub index_short : (i : ℕ) → is_well_formed L leaves i ≡ true → is_data i ≡ true → (entry_at L leaves i).index < L.indexes
  index_short i formed is = ltb-true (entry_at L leaves i).index L.indexes (named_is i formed is).1

  pub owner_below : (i : ℕ) → IsLaid L → (entry_at L leaves i).inode < L.leaves
  unfolding entry_at
  owner_below i laid = laid.inode (entry_number L leaves i)

  unbroken_inode : (n : ℕ) → n < L.leaves → (has_data L leaves n ≡ true) → (x : ℕ) → x < blocks_of n → total (λ i. mark (is_data_at L leaves n x i)) 0 L.leaves ≡ 1
  unfolding has_data numbers
  unbroken_inode n below has x before = sym (counted (λ i. is_data_at L leaves n x i) 0 L.leaves) ∙ eqb-true _ 1
      (all_range (λ y. has_one L leaves n y) (blocks_of n) 0 x (and_both _ _ has).0 (omega arith) (omega arith))

  not_past : (n : ℕ) → has_data L leaves n ≡ true → (k : ℕ) → k < L.leaves → is_past L leaves n k ≡ false
  unfolding has_data numbers
  not_past n has k below = any_range (λ i. is_past L leaves n i) L.leaves 0 k (not-true' _ (and_both _ _ has).1) (omega arith) (omega arith)
    where
      not-true' : (b : Bool) → not b ≡ true → b ≡ false
      not-true' true e = absurd (let f : false ≡ true = e in cc)
      not-true' false e = refl

  before_end : (n : ℕ) → has_data L leaves n ≡ true → (k : ℕ) → k < L.leaves → is_data_of L leaves n k ≡ true → (entry_at L leaves k).index < blocks_of n
  before_end n has k below of =
      less_or_not (blocks_of n) (entry_at L leaves k).index (sym (ap (λ b. b && nat_le (blocks_of n) (entry_at L leaves k).index) of) ∙ not_past n has k below)

  module _ (laid : IsLaid L) (unbroken : (i : ℕ) → i < L.leaves → breaks L leaves i ≡ false) where
    formed_is : (i : ℕ) → i < L.leaves → is_well_formed L leaves i ≡ true
    unfolding breaks
    formed_is i below = formed_of (is_well_formed L leaves i) (is_inode L leaves i && not (is_inode_leaf (leaves i) && (not (is_doubled L leaves i) && has_data L leaves i)))
        (is_data i && not (is_padded L leaves i)) (unbroken i below)

    inode_is : (n : ℕ) → n < L.leaves → is_inode L leaves n ≡ true → (is_inode_leaf (leaves n) ≡ true) × (is_doubled L leaves n ≡ false) × (has_data L leaves n ≡ true)
    unfolding breaks
    inode_is n below is = inode_of (is_well_formed L leaves n) (is_inode L leaves n) (is_inode_leaf (leaves n)) (is_doubled L leaves n) (has_data L leaves n) _ (unbroken n below) is

    padded_is : (k : ℕ) → k < L.leaves → is_data k ≡ true → is_padded L leaves k ≡ true
    unfolding breaks
    padded_is k below is = data_of (is_well_formed L leaves k) _ (is_data k) (is_padded L leaves k) (unbroken k below) is

    zeros_behind : (n k : ℕ) → n < L.leaves → is_inode L leaves n ≡ true → k < L.leaves → is_data_of L leaves n k ≡ true →
        are_zero (drop (length_in (leaves n) - 1024 * (entry_at L leaves k).index) (take 1024 (leaves k))) ≡ true
    unfolding is_padded
    zeros_behind n k here inode below of =
        let parts = and_both (is_data k) ((entry_at L leaves k).inode == n) of in
        let owner : (entry_at L leaves k).inode ≡ n = eqb-true _ n parts.1 in
        let told : (is_past L leaves n k || are_zero (drop (length_in (leaves n) - 1024 * (entry_at L leaves k).index) (take 1024 (leaves k)))) ≡ true =
        subst (λ (m : ℕ). (is_past L leaves m k || are_zero (drop (length_in (leaves m) - 1024 * (entry_at L leaves k).index) (take 1024 (leaves k)))) ≡ true) owner (padded_is k below parts.0) in
        or_other _ _ told (not_past n (inode_is n here inode).2 k below)

    inode_sound : (n : ℕ) → n < L.leaves → is_inode L leaves n ≡ true → SoundInode n
    inode_sound n here inode =
        let rules = inode_is n here inode in
        record {
          bytes = rules.0;
          present = λ x before. (let met = total_met (λ i. is_data_at L leaves n x i) 0 L.leaves (omega (arith, unbroken_inode n here rules.2 x before)) in
              let high : met.0 < L.leaves = omega (arith, met.2) in (met.0, high, met.3));
          single = λ x k j before below other at there. total_only (λ i. is_data_at L leaves n x i) 0 L.leaves k j (unbroken_inode n here rules.2 x before) (omega arith)
              (omega arith) (omega arith) (omega arith) at there;
          before = before_end n rules.2;
          padded = λ k below of. zeros_behind n k here inode below of;
        }

    not_doubled : (n m : ℕ) → n < L.leaves → m < n → is_inode L leaves n ≡ true → is_inode L leaves m ≡ true → identifier_in (leaves n) ≡ identifier_in (leaves m) → ⊥
    unfolding is_doubled
    not_doubled n m below less inode other same =
        let none = any_range (λ o. is_inode L leaves o && bytes_eq (identifier_in (leaves o)) (identifier_in (leaves n))) n 0 m (inode_is n below inode).1 (omega arith) (omega arith) in
        let some' = and_from (is_inode L leaves m) (bytes_eq (identifier_in (leaves m)) (identifier_in (leaves n))) other
        ((bytes_eq-Decides (identifier_in (leaves m)) (identifier_in (leaves n))).1 (sym same)) in
        let f : true ≡ false = sym some' ∙ none in cc

    apart_is : (n m : ℕ) → n < L.leaves → m < L.leaves → is_inode L leaves n ≡ true → is_inode L leaves m ≡ true → identifier_in (leaves n) ≡ identifier_in (leaves m) → n ≡ m
    apart_is n m below other inode there same =
        elim (nat_lt m n) as (λ b. nat_lt m n ≡ b → n ≡ m) [
          | true ↦ λ e. absurd (not_doubled n m below (ltb-true' m n e) inode there same)
          | false ↦ λ e. elim (nat_lt n m) as (λ b. nat_lt n m ≡ b → n ≡ m) [
            | true ↦ λ f. absurd (not_doubled m n other (ltb-true' n m f) there inode (sym same))
            | false ↦ λ f. (let one : n ≤ m = ltb-false m n e in let two : m ≤ n = ltb-false n m f in omega (arith, one, two))
          ] refl
        ] refl
      where
        ltb-true' : (a b : ℕ) → nat_lt a b ≡ true → a < b
        ltb-true' a b e = grind (arith, e)

    pub sound_of : Sound
    sound_of = record { formed = formed_is; inode = inode_sound; apart = apart_is }

  first_none : ((i : ℕ) → i < L.leaves → breaks L leaves i ≡ false) → first_broken L leaves ≡ None
  unfolding first_broken numbers
  first_none unbroken = none_found (λ i. breaks L leaves i) L.leaves 0 (λ i low high. unbroken i (omega arith))

  -- a region without a broken rule stands for its store
  pub unbroken_region : ((i : ℕ) → i < L.leaves → breaks L leaves i ≡ false) → region_of L leaves ≡ Ok (store_of L leaves)
  unfolding region_of
  unbroken_region unbroken = ap (λ r. unless_broken L leaves r) (first_none unbroken)

  -- and back
  module _ (laid : IsLaid L) (sound : Sound) where
    pub doubled_not : (n : ℕ) → n < L.leaves → is_inode L leaves n ≡ true → is_doubled L leaves n ≡ false
    unfolding is_doubled
    doubled_not n below inode = none_range (λ o. is_inode L leaves o && bytes_eq (identifier_in (leaves o)) (identifier_in (leaves n))) n 0
        (λ o low high. each o (omega arith) (is_inode L leaves o) (bytes_eq (identifier_in (leaves o)) (identifier_in (leaves n))) refl refl)
      where
        each : (o : ℕ) → o < n → (b c : Bool) → is_inode L leaves o ≡ b → bytes_eq (identifier_in (leaves o)) (identifier_in (leaves n)) ≡ c → (b && c) ≡ false
        each o less false c is same = refl
        each o less true false is same = refl
        each o less true true is same = absurd (let e : n ≡ o = sound.apart n o below (omega arith) inode is
            (sym ((bytes_eq-Decides (identifier_in (leaves o)) (identifier_in (leaves n))).0 same)) in omega (arith, e))

    pub data_has : (n : ℕ) → n < L.leaves → is_inode L leaves n ≡ true → has_data L leaves n ≡ true
    unfolding has_data numbers
    data_has n here inode =
        let own = sound.inode n here inode in
        and_from _ _
        (each_range (λ x. has_one L leaves n x) (blocks_of n) 0 (λ x low high.
        let some' = own.present x (omega arith) in
        let one : total (λ i. mark (is_data_at L leaves n x i)) 0 L.leaves ≡ mark (is_data_at L leaves n x some'.0) =
        total_one (λ i. mark (is_data_at L leaves n x i)) 0 L.leaves some'.0 (omega arith) (omega (arith, some'.1))
        (λ i lower higher other. unmarked (is_data_at L leaves n x i) (λ t. other (own.single x i some'.0 (omega arith) (omega arith) some'.1 t some'.2))) in
        eq-eqb _ 1 (counted (λ i. is_data_at L leaves n x i) 0 L.leaves ∙ one ∙ ap mark some'.2)))
        (not_from_false _ (none_range (λ i. is_past L leaves n i) L.leaves 0 (λ k low high. past_not k (omega arith) own (is_data_of L leaves n k)
        (nat_le (blocks_of n) (entry_at L leaves k).index) refl refl)))
      where
        unmarked : (b : Bool) → (b ≡ true → ⊥) → mark b ≡ 0
        unmarked true never = absurd (never refl)
        unmarked false never = refl

        past_not : (k : ℕ) → k < L.leaves → SoundInode n → (b c : Bool) → is_data_of L leaves n k ≡ b → nat_le (blocks_of n) (entry_at L leaves k).index ≡ c → (b && c) ≡ false
        past_not k below own false c of past = refl
        past_not k below own true false of past = refl
        past_not k below own true true of past = absurd (let one = own.before k below of in let two : blocks_of n ≤ (entry_at L leaves k).index = leb-true _ _ past in omega (arith, one, two))

    padded_has : (k : ℕ) → k < L.leaves → is_data k ≡ true → is_padded L leaves k ≡ true
    unfolding is_padded
    padded_has k below is =
        let n : ℕ = (entry_at L leaves k).inode in
        or_right' _ _ ((sound.inode (entry_at L leaves k).inode (owner_below k laid) (owner_is k (sound.formed k below) is)).padded k below
        (and_from (is_data k) ((entry_at L leaves k).inode == (entry_at L leaves k).inode) is (eq-eqb _ _ refl)))
      where
        or_right' : (x y : Bool) → y ≡ true → (x || y) ≡ true
        or_right' true y e = refl
        or_right' false y e = e

    pub unbroken_of : (i : ℕ) → i < L.leaves → breaks L leaves i ≡ false
    unfolding breaks
    unbroken_of i below =
        unbroken_from (is_well_formed L leaves i) (is_inode L leaves i) (is_inode_leaf (leaves i)) (is_doubled L leaves i) (has_data L leaves i) (is_data i) (is_padded L leaves i)
        (sound.formed i below)
        (λ inode. ((sound.inode i below inode).bytes, doubled_not i below inode, data_has i below inode)) (λ is. padded_has i below is)

    pub sound_region : region_of L leaves ≡ Ok (store_of L leaves)
    sound_region = unbroken_region unbroken_of

  none_first : (r : Option ℕ) (store : Store) → unless_broken L leaves r ≡ Ok store → r ≡ None
  none_first None store is = refl
  none_first (Some i) store is = cc

  none_breaks : first_broken L leaves ≡ None → (i : ℕ) → i < L.leaves → breaks L leaves i ≡ false
  unfolding first_broken numbers
  none_breaks none i below = find_range (λ j. breaks L leaves j) L.leaves 0 i none (omega arith) (omega arith)

  -- no rule is broken in a region that stands for a store
  pub region_sound : IsLaid L → (store : Store) → region_of L leaves ≡ Ok store → Sound
  unfolding region_of
  region_sound laid store is = sound_of laid (none_breaks (none_first (first_broken L leaves) store is))
