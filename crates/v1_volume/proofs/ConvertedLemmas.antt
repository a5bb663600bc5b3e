-- The leaves of the second form that a region becomes are those of the first one that are in use, under new numbers.
use Rattle.std.proofs.Common.{◌≡◌, ℕ, ◌+◌, ◌-◌, ◌*◌, ◌/◌, ◌%◌, ◌^◌, ◌<◌, ◌≤◌, Bool, true, false, List, length, map, get_or, replicate, Ok, inl, inr, refl, sym, ◌∙◌, ap, subst, arith}
use Rattle.std.specs.Prelude.{◌&&◌, ◌||◌, ◌==◌, if◌then◌else◌, nat_lt, nat_le}
use Rattle.std.specs.Int.{w32, to_le_bytes, from_le_bytes}
use Rattle.std.specs.List.{range_with_len}
use Rattle.std.proofs.lemmas.Bool.{cases_lt, eq-eqb, eqb-true, and_from, lt-ltb, le-ltb, ltb-true, ltb-false, le-leb, leb-true}
use Rattle.std.proofs.lemmas.List.{same_lists, places, get_or_default, length-take, length-drop}
use Rattle.std.proofs.lemmas.List.FromFn.{get_or-map-range_with_len, length-map-range_with_len}
use Rattle.std.proofs.lemmas.Nat.{from_le_bytes-to_le_bytes_4}
use Rattle.store_api.specs.Stores.{Store}
use Rattle.region_plan.specs.Layout.{layout}
use Rattle.region_plan.specs.Parts.{part}
use Rattle.region_plan.specs.Entries.{entry_at, number_in, form_of, is_inode, is_used}
use Rattle.region_plan.specs.Places.{free_entry}
use Rattle.region_plan.specs.Regions.{region_of, store_of, data_leaves}
use Rattle.region_plan.specs.Inodes.{length_in}
use Rattle.region_plan.specs.declared.entry.Entry.{Entry}
use Rattle.region_plan.specs.declared.form.Form.TheVariants.{One, Two}
use Rattle.region_plan.proofs.FirstLemmas.{many_wrong}
use Rattle.region_plan.proofs.FormLemmas.{laid_by}
use Rattle.region_plan.proofs.LimitLemmas.{used_later}
use Rattle.region_plan.proofs.RuleLemmas.{region_store}
use Rattle.region_plan.proofs.SoundLemmas.{Sound, blocks_of, and_both, data_has, owner_is, owner_below, region_sound}
use Rattle.v1_volume.specs.Renumbering.{new_number, old_number, with_new_number, number_of, is_taken, entry_after, map_byte, converted_leaf}
use Rattle.v1_volume.proofs.MovedLemmas.{IsForth, IsBack, IsMoved, form_was, moved_region}

-- the numbers of both forms
one_leaves : (layout One).leaves ≡ 256
unfolding layout
one_leaves = refl

one_map : (layout One).map_leaves ≡ 1
unfolding layout
one_map = refl

two_leaves : (layout Two).leaves ≡ 1024
unfolding layout
two_leaves = refl

two_map : (layout Two).map_leaves ≡ 4
unfolding layout
two_map = refl

two_indexes : (layout Two).indexes ≡ 1024
unfolding layout
two_indexes = refl

abbrev two_entry : ℕ → Entry
two_entry n = record { kind = n % 4; inode = n / 4 % 1024; index = n / 4096 }

two_is : (n : ℕ) → (layout Two).entry_of n ≡ two_entry n
unfolding layout
two_is n = refl

-- a number leads to an entry and back
two_back : (e : Entry) → e.kind < 4 → e.inode < 1024 → two_entry (number_of e) ≡ e
two_back e kind inode = λ i. record {
  kind = (let k : number_of e % 4 ≡ e.kind = omega arith in k) i;
  inode = (let k : number_of e / 4 % 1024 ≡ e.inode = omega arith in k) i;
  index = (let k : number_of e / 4096 ≡ e.index = omega arith in k) i;
}

-- the numbers of leaves, there and back
record NewNumber (k : ℕ) : Type 0 where
  low : 4 ≤ new_number k
  high : new_number k < 259
  back : old_number (new_number k) ≡ k

new_is : (k : ℕ) → 1 ≤ k → k < 256 → NewNumber k
new_is k low high = elim (nat_lt k 4) as (λ b. nat_lt k 4 ≡ b → NewNumber k) [
  | true ↦ λ e. (let less : k < 4 = ltb-true k 4 e in let is : new_number k ≡ 255 + k = ap (λ b. if b then 255 + k else k) e in
      record {
        low = omega (arith, is);
        high = omega (arith, is, less);
        back = ap old_number is ∙ ap (λ b. if b then 255 + k else (255 + k) - 255) (le-ltb (255 + k) 256 (omega arith)) ∙ omega arith;
      })
  | false ↦ λ e. (let more : 4 ≤ k = ltb-false k 4 e in let is : new_number k ≡ k = ap (λ b. if b then 255 + k else k) e in
      record {
        low = omega (arith, is, more);
        high = omega (arith, is, high);
        back = ap old_number is ∙ ap (λ b. if b then k else k - 255) (lt-ltb k 256 high);
      })
] refl

record OldNumber (i : ℕ) : Type 0 where
  low : 1 ≤ old_number i
  high : old_number i < 256
  forth : new_number (old_number i) ≡ i

old_is : (i : ℕ) → 4 ≤ i → i < 259 → OldNumber i
old_is i low high = elim (nat_lt i 256) as (λ b. nat_lt i 256 ≡ b → OldNumber i) [
  | true ↦ λ e. (let less : i < 256 = ltb-true i 256 e in let is : old_number i ≡ i = ap (λ b. if b then i else i - 255) e in
      record {
        low = omega (arith, is, low);
        high = omega (arith, is, less);
        forth = ap new_number is ∙ ap (λ b. if b then 255 + i else i) (le-ltb i 4 low);
      })
  | false ↦ λ e. (let more : 256 ≤ i = ltb-false i 256 e in let is : old_number i ≡ i - 255 = ap (λ b. if b then i else i - 255) e in
      record {
        low = omega (arith, is, more);
        high = omega (arith, is, high);
        forth = ap new_number is ∙ ap (λ b. if b then 255 + (i - 255) else i - 255) (lt-ltb (i - 255) 4 (omega (arith, more, high))) ∙ omega (arith, more);
      })
] refl

new_low : (k : ℕ) → k < 256 → new_number k < 1024
new_low k high = elim (nat_lt k 4) as (λ b. (if b then 255 + k else k) < 1024) [ true ↦ omega (arith, high) | false ↦ omega (arith, high) ]

abbrev IsUsedEntry : Entry → Type 0
IsUsedEntry e = ((e.kind == 1) || (e.kind == 2)) ≡ true

used_kind : (e : Entry) → IsUsedEntry e → e.kind < 3
used_kind e used = elim (e.kind == 1) as (λ b. (e.kind == 1) ≡ b → e.kind < 3) [
  | true ↦ λ t. (let is = eqb-true e.kind 1 t in omega (arith, is))
  | false ↦ λ t. (let is = eqb-true e.kind 2 (sym (ap (λ b. b || (e.kind == 2)) t) ∙ used) in omega (arith, is))
] refl

never_free : (b : Bool) (e : Entry) → IsUsedEntry (if b then with_new_number e else free_entry) → b ≡ true
never_free true e used = refl
never_free false e used = absurd (let f : false ≡ true = used in cc)

-- the bytes of an entry in a leaf of the map
part_at : (m : List ℕ) (at k d : ℕ) → k < 4 → get_or (part at 4 m) k d ≡ get_or m (at + k) d
part_at m at k d less = grind (arith, places)

read_number : (f : ℕ → ℕ) (place number : ℕ) → place < 256 → number < 2 ^ 32 → ((k : ℕ) → k < 4 → f (4 * place + k) ≡ get_or (to_le_bytes w32 number) k 0)
    → number_in (map f (range_with_len 0 1024)) place ≡ number
read_number f place number below fits each =
    let whole = length-map-range_with_len f 0 1024 in
    let long : length (part (4 * place) 4 (map f (range_with_len 0 1024))) ≡ 4 = simp (length-take, length-drop) (omega (arith, whole, below)) in
    ap (from_le_bytes w32) (same_lists (part (4 * place) 4 (map f (range_with_len 0 1024))) (to_le_bytes w32 number) long
    (λ k d low.
    let less : k < 4 = omega (arith, low, long) in
    part_at (map f (range_with_len 0 1024)) (4 * place) k d less
    ∙ get_or-map-range_with_len f 0 1024 (4 * place + k) (4 * place + k) d (omega (arith, below, less)) (omega arith)
    ∙ each k less ∙ get_or_default (to_le_bytes w32 number) k 0 d less))
    ∙ from_le_bytes-to_le_bytes_4 number fits

record SmallEntry (e : Entry) : Type 0 where
  kind : e.kind < 3
  inode : e.inode < 1024
  index : e.index < 1024

module _ (leaves : ℕ → List ℕ) (sound : Sound (layout One) leaves) where
  abbrev E : ℕ → Entry
  E k = entry_at (layout One) leaves k

  used_low : (k : ℕ) → is_used (layout One) leaves k ≡ true → 1 ≤ k
  used_low k used = (let low = used_later (layout One) (laid_by One) leaves sound k used in omega (arith, low, one_map))

  short : (n : ℕ) → n < (layout One).leaves → is_inode (layout One) leaves n ≡ true → blocks_of (layout One) leaves n ≤ 256
  short n below inode = elim (cases_lt 256 (blocks_of (layout One) leaves n)) [
    | inl many ↦ absurd (let f : true ≡ false = sym (data_has (layout One) leaves (laid_by One) sound n below inode)
        ∙ many_wrong (layout One) leaves n (subst (λ (m : ℕ). m < data_leaves (length_in (leaves n))) (sym one_leaves) many) in cc)
    | inr few ↦ few
  ]

  owner_small : (k : ℕ) → (E k).inode < 256
  owner_small k = (let low = owner_below (layout One) leaves k (laid_by One) in omega (arith, low, one_leaves))

  index_small : (k : ℕ) → k < 256 → is_used (layout One) leaves k ≡ true → (E k).index < 1024
  index_small k low used = elim ((E k).kind == 1) as (λ t. ((E k).kind == 1) ≡ t → (E k).index < 1024) [
    | true ↦ λ t.
        let kind : (E k).kind ≡ 1 = eqb-true (E k).kind 1 t in
        let was : (((E k).inode == k) && ((E k).index == 0)) ≡ true = sym (ap (λ (x : ℕ). form_of k (record { kind = x; inode = (E k).inode; index = (E k).index })
        (is_inode (layout One) leaves (E k).inode && nat_lt (E k).index (layout One).indexes)) kind)
        ∙ form_was (layout One) (laid_by One) leaves sound k below used in
        (let zero' : (E k).index ≡ 0 = eqb-true _ 0 (and_both ((E k).inode == k) ((E k).index == 0) was).1 in omega (arith, zero'))
    | false ↦ λ t.
        let data' : ((E k).kind == 2) ≡ true = sym (ap (λ b. b || ((E k).kind == 2)) t) ∙ used in
        let inode = owner_is (layout One) leaves k (sound.formed k below) data' in
        let owner = owner_below (layout One) leaves k (laid_by One) in
        let before = (sound.inode (E k).inode owner inode).before k below (and_from ((E k).kind == 2) ((E k).inode == (E k).inode) data' (eq-eqb (E k).inode (E k).inode refl)) in
        let few = short (E k).inode owner inode in
        omega (arith, before, few)
  ] refl
    where
      below : k < (layout One).leaves
      below = omega (arith, low, one_leaves)

  record TakenLeaf (i : ℕ) : Type 0 where
    low : 4 ≤ i
    high : i < 259
    number : OldNumber i
    used : is_used (layout One) leaves (old_number i) ≡ true

  taken_is : (i : ℕ) → is_taken leaves i ≡ true → TakenLeaf i
  taken_is i is =
      let parts = and_both (nat_le 4 i) (nat_lt i 259 && is_used (layout One) leaves (old_number i)) is in
      let rest = and_both (nat_lt i 259) (is_used (layout One) leaves (old_number i)) parts.1 in
      let low : 4 ≤ i = leb-true 4 i parts.0 in
      let high : i < 259 = ltb-true i 259 rest.0 in
      record { low = low; high = high; number = old_is i low high; used = rest.1 }

  small : (i : ℕ) → SmallEntry (entry_after leaves i)
  small i = elim (is_taken leaves i) as (λ b. is_taken leaves i ≡ b → SmallEntry (if b then with_new_number (E (old_number i)) else free_entry)) [
    | true ↦ λ e. (let t = taken_is i e in record {
      kind = used_kind (E (old_number i)) t.used;
      inode = new_low (E (old_number i)).inode (owner_small (old_number i));
      index = index_small (old_number i) t.number.high t.used;
    })
    | false ↦ λ e. record { kind = omega arith; inode = omega arith; index = omega arith }
  ] refl

  fits : (i : ℕ) → number_of (entry_after leaves i) < 2 ^ 32
  fits i = (let few = small i in let kind = few.kind in let inode = few.inode in let index = few.index in omega (arith, kind, inode, index))

  map_number : (m p : ℕ) → p < 256 → number_in (map (λ k. map_byte leaves m k) (range_with_len 0 1024)) p ≡ number_of (entry_after leaves (256 * m + p))
  map_number m p below = read_number (λ k. map_byte leaves m k) p (number_of (entry_after leaves (256 * m + p))) below (fits (256 * m + p))
      (λ k less.
      let at : (4 * p + k) / 4 ≡ p = omega (arith, less) in
      let rest : (4 * p + k) % 4 ≡ k = omega (arith, less) in
      ap (λ (x : ℕ). get_or (to_le_bytes w32 (number_of (entry_after leaves (256 * m + x)))) ((4 * p + k) % 4) 0) at
      ∙ ap (λ (x : ℕ). get_or (to_le_bytes w32 (number_of (entry_after leaves (256 * m + p)))) x 0) rest)

  entry_two : (i : ℕ) → i < 1024 → entry_at (layout Two) (converted_leaf leaves) i ≡ entry_after leaves i
  unfolding entry_at converted_leaf
  entry_two i below =
      let place : 256 * (i / 256) + i % 256 ≡ i = omega arith in
      ap (λ (b : List ℕ). (layout Two).entry_of (number_in b (i % 256)))
      (ap (λ b. if b then map (λ k. map_byte leaves (i / 256) k) (range_with_len 0 1024) else if is_taken leaves (i / 256) then leaves (old_number (i / 256)) else replicate 1024 0)
      (lt-ltb (i / 256) 4 (omega (arith, below))))
      ∙ ap (λ (n : ℕ). (layout Two).entry_of n) (map_number (i / 256) (i % 256) (omega arith))
      ∙ ap (λ (k : ℕ). (layout Two).entry_of (number_of (entry_after leaves k))) place
      ∙ two_is (number_of (entry_after leaves i))
      ∙ (let few = small i in let kind = few.kind in two_back (entry_after leaves i) (omega (arith, kind)) few.inode)

  -- where a leaf in use goes
  take_is : (k : ℕ) → k < 256 → is_used (layout One) leaves k ≡ true → is_taken leaves (new_number k) ≡ true
  take_is k high used =
      let n = new_is k (used_low k used) high in
      and_from (nat_le 4 (new_number k)) (nat_lt (new_number k) 259 && is_used (layout One) leaves (old_number (new_number k))) (le-leb 4 (new_number k) n.low)
      (and_from (nat_lt (new_number k) 259) (is_used (layout One) leaves (old_number (new_number k))) (lt-ltb (new_number k) 259 n.high)
      (ap (λ (j : ℕ). is_used (layout One) leaves j) n.back ∙ used))

  forth : (k : ℕ) → k < (layout One).leaves → is_used (layout One) leaves k ≡ true → IsForth (layout One) (layout Two) leaves (converted_leaf leaves) new_number old_number k
  unfolding converted_leaf
  forth k below used =
      let high : k < 256 = omega (arith, below, one_leaves) in
      let n = new_is k (used_low k used) high in
      let least = n.low in
      let most = n.high in
      let taken = take_is k high used in
      record {
        below = omega (arith, most, two_leaves);
        high = omega (arith, least, two_map);
        back = n.back;
        entry = entry_two (new_number k) (omega (arith, most)) ∙ ap (λ b. if b then with_new_number (E (old_number (new_number k))) else free_entry) taken
            ∙ ap (λ (j : ℕ). with_new_number (E j)) n.back;
        bytes =
            ap (λ b. if b then map (λ x. map_byte leaves (new_number k) x) (range_with_len 0 1024) else
            if is_taken leaves (new_number k) then leaves (old_number (new_number k)) else replicate 1024 0) (le-ltb (new_number k) 4 least)
            ∙ ap (λ b. if b then leaves (old_number (new_number k)) else replicate 1024 0) taken
            ∙ ap leaves n.back;
      }

  taken_used : (i : ℕ) → i < 1024 → is_used (layout Two) (converted_leaf leaves) i ≡ true → is_taken leaves i ≡ true
  taken_used i below used = never_free (is_taken leaves i) (E (old_number i)) (subst IsUsedEntry (entry_two i below) used)

  back : (i : ℕ) → i < (layout Two).leaves → is_used (layout Two) (converted_leaf leaves) i ≡ true → IsBack (layout One) (layout Two) leaves (converted_leaf leaves) new_number old_number i
  back i below used =
      let t = taken_is i (taken_used i (omega (arith, below, two_leaves)) used) in
      let high = t.number.high in
      record { below = omega (arith, high, one_leaves); used = t.used; forth = t.number.forth }

  free : (i : ℕ) → i < (layout Two).leaves → is_used (layout Two) (converted_leaf leaves) i ≡ false → entry_at (layout Two) (converted_leaf leaves) i ≡ free_entry
  free i below unused =
      let low : i < 1024 = omega (arith, below, two_leaves) in
      entry_two i low ∙ elim (is_taken leaves i) as (λ b. is_taken leaves i ≡ b → (if b then with_new_number (E (old_number i)) else free_entry) ≡ free_entry) [
        | true ↦ λ e.
            let used : IsUsedEntry (entry_after leaves i) = ap (λ b. (λ (x : Entry). (x.kind == 1) || (x.kind == 2)) (if b then with_new_number (E (old_number i)) else free_entry)) e
            ∙ (taken_is i e).used in
            absurd (let f : true ≡ false = sym (subst IsUsedEntry (sym (entry_two i low)) used) ∙ unused in cc)
        | false ↦ λ e. refl
      ] refl

  converted_moved : IsMoved (layout One) (layout Two) leaves (converted_leaf leaves) new_number old_number
  converted_moved = record {
    forth = forth;
    back = back;
    free = free;
    short = λ n below inode. (let few = short n below inode in omega (arith, few, two_indexes));
  }

  pub converted_region : region_of (layout Two) (converted_leaf leaves) ≡ Ok (store_of (layout One) leaves)
  converted_region = moved_region (layout One) (layout Two) leaves (converted_leaf leaves) new_number old_number (laid_by One) (laid_by Two) sound converted_moved

-- the leaves of the second form stand for the store of those of the first
pub converted_stands : (leaves : ℕ → List ℕ) (store : Store) → region_of (layout One) leaves ≡ Ok store → region_of (layout Two) (converted_leaf leaves) ≡ Ok store
converted_stands leaves store is =
    converted_region leaves (region_sound (layout One) leaves (laid_by One) store is) ∙ ap (λ (s : Store). Ok s) (sym (region_store (layout One) leaves store is))
