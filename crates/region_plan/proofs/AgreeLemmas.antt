-- Regions that agree on the leaves in use stand for the same store.
use Rattle.std.proofs.Common.{◌≡◌, ℕ, zero, suc, ◌+◌, ◌-◌, ◌*◌, ◌/◌, ◌%◌, ◌<◌, ◌≤◌, Bool, true, false, cond, not, List, [], ◌∷◌, map}
use Rattle.std.proofs.Common.{get_or, take, drop, Option, None, Some, Ok, find, refl, sym, ◌∙◌, ap, subst, arith, nat_le}
use Rattle.std.specs.Prelude.{◌&&◌, ◌||◌, ◌==◌, if◌then◌else◌, nat_lt}
use Rattle.std.specs.List.{range_with_len, filter, list_any, list_all, count_by, All}
use Rattle.std.specs.Str.{bytes_eq}
use Rattle.std.specs.FinMap as finite
use Rattle.std.proofs.lemmas.Bool.{eqb-true}
use Rattle.std.proofs.lemmas.List.Elements.{All-head, All-tail, All-nil, All-cons}
use Rattle.std.proofs.lemmas.List.Sums.{sum_by-cons}
use Rattle.store_api.specs.declared.object.Object.{Object}
use Rattle.store_api.specs.Stores.{Store}
use Rattle.region_plan.specs.Layout.{Layout}
use Rattle.region_plan.specs.Parts.{are_zero}
use Rattle.region_plan.proofs.FormLemmas.{IsLaid}
use Rattle.region_plan.specs.Entries.{entry_at, entry_number, number_in, form_of, is_zero, is_inode, is_data_of, is_data_at, is_well_formed}
use Rattle.region_plan.specs.Inodes.{four_at, length_in, identifier_in, inode_of, secret_in, is_inode_leaf}
use Rattle.region_plan.specs.Laws.{AgreeInUse}
use Rattle.region_plan.specs.Reading.{IsWhole}
use Rattle.region_plan.specs.Regions.{inodes_of, numbers, is_doubled, has_one, is_past, has_data, is_padded, breaks, leaf_of, byte_in, byte_at, content_of}
use Rattle.region_plan.specs.Regions.{object_of, inode_numbers, store_of, first_broken, unless_broken, region_of, data_leaves}
use Rattle.region_plan.specs.declared.entry.Entry.{Entry}
use Rattle.region_plan.specs.declared.entry.TheConstants.{INODE, DATA}
use Rattle.region_plan.specs.declared.inode.TheConstants.{USAGE_AT}

-- functions that agree on a range
abbrev Agree : {X : Type 0} → (ℕ → X) → (ℕ → X) → ℕ → ℕ → Type 0
Agree f g a n = (i : ℕ) → a ≤ i → i < a + n → g i ≡ f i

later : {X : Type 0} (f g : ℕ → X) (a n : ℕ) → Agree f g a (suc n) → Agree f g (a + 1) n
later f g a n same = λ i le lt. same i (omega arith) (omega arith)

pub find_agree : (p q : ℕ → Bool) (n a : ℕ) → Agree p q a n → find q (range_with_len a n) ≡ find p (range_with_len a n)
find_agree p q zero a same = refl
find_agree p q (suc n) a same =
    ap (λ b. cond b (Some a) (find q (range_with_len (a + 1) n))) (same a (omega arith) (omega arith))
    ∙ ap (λ r. cond (p a) (Some a) r) (find_agree p q n (a + 1) (later p q a n same))

pub filter_agree : (p q : ℕ → Bool) (n a : ℕ) → Agree p q a n → filter q (range_with_len a n) ≡ filter p (range_with_len a n)
filter_agree p q zero a same = refl
filter_agree p q (suc n) a same =
    ap (λ b. cond b (a ∷ filter q (range_with_len (a + 1) n)) (filter q (range_with_len (a + 1) n))) (same a (omega arith) (omega arith))
    ∙ ap (λ (r : List ℕ). cond (p a) (a ∷ r) r) (filter_agree p q n (a + 1) (later p q a n same))

pub any_agree : (p q : ℕ → Bool) (n a : ℕ) → Agree p q a n → list_any q (range_with_len a n) ≡ list_any p (range_with_len a n)
any_agree p q zero a same = refl
any_agree p q (suc n) a same =
    ap (λ b. b || list_any q (range_with_len (a + 1) n)) (same a (omega arith) (omega arith))
    ∙ ap (λ r. p a || r) (any_agree p q n (a + 1) (later p q a n same))

pub count_agree : (p q : ℕ → Bool) (n a : ℕ) → Agree p q a n → count_by q (range_with_len a n) ≡ count_by p (range_with_len a n)
count_agree p q zero a same = refl
count_agree p q (suc n) a same =
    sum_by-cons (λ y. cond (q y) 1 0) a (range_with_len (a + 1) n)
    ∙ ap (λ b. cond b 1 0 + count_by q (range_with_len (a + 1) n)) (same a (omega arith) (omega arith))
    ∙ ap (λ (m : ℕ). cond (p a) 1 0 + m) (count_agree p q n (a + 1) (later p q a n same))
    ∙ sym (sum_by-cons (λ y. cond (p y) 1 0) a (range_with_len (a + 1) n))

pub all_agree : {X : Type 0} (p q : X → Bool) (xs : List X) → ((x : X) → q x ≡ p x) → list_all q xs ≡ list_all p xs
all_agree p q [] same = refl
all_agree p q (x ∷ xs) same = ap (λ b. b && list_all q xs) (same x) ∙ ap (λ r. p x && r) (all_agree p q xs same)

pub map_agree : {X Y : Type 0} (f g : X → Y) (P : X → Type 0) (xs : List X) → All P xs → ((x : X) → P x → g x ≡ f x) → map g xs ≡ map f xs
map_agree f g P [] all same = refl
map_agree {Y = Y} f g P (x ∷ xs) all same =
    ap (λ (y : Y). y ∷ map g xs) (same x (All-head P x xs all)) ∙ ap (λ (r : List Y). f x ∷ r) (map_agree f g P xs (All-tail P x xs all) same)

pub map_all : {X Y : Type 0} (f g : X → Y) (xs : List X) → ((x : X) → g x ≡ f x) → map g xs ≡ map f xs
map_all f g [] same = refl
map_all {Y = Y} f g (x ∷ xs) same = ap (λ (y : Y). y ∷ map g xs) (same x) ∙ ap (λ (r : List Y). f x ∷ r) (map_all f g xs same)

-- what stays of the rules where their parts stay
three_same : (f i d x x' y y' : Bool) → (i ≡ true → x' ≡ x) → (f ≡ true → d ≡ true → y' ≡ y) → (not f || ((i && not x') || (d && not y'))) ≡ (not f || ((i && not x) || (d && not y)))
three_same false i d x x' y y' first second = refl
three_same true true true x x' y y' first second = ap (λ b. not b || not y') (first refl) ∙ ap (λ b. not x || not b) (second refl refl)
three_same true true false x x' y y' first second = ap (λ b. not b || false) (first refl)
three_same true false true x x' y y' first second = ap not (second refl refl)
three_same true false false x x' y y' first second = refl

-- what passes of a range is within it
pub range_all : (p : ℕ → Bool) (m n a : ℕ) → a + n ≤ m → All (λ i. (i < m) × (p i ≡ true)) (filter p (range_with_len a n))
range_all p m zero a le = All-nil (λ i. (i < m) × (p i ≡ true))
range_all p m (suc n) a le =
    elim (p a) as (λ b. p a ≡ b → All (λ i. (i < m) × (p i ≡ true)) (cond b (a ∷ filter p (range_with_len (a + 1) n)) (filter p (range_with_len (a + 1) n)))) [
      | true ↦ λ t. All-cons (λ i. (i < m) × (p i ≡ true)) a (filter p (range_with_len (a + 1) n)) (omega arith, t) (range_all p m n (a + 1) (omega arith))
      | false ↦ λ t. range_all p m n (a + 1) (omega arith)
    ] refl

pub range_met : (p : ℕ → Bool) (m n a k : ℕ) → a + n ≤ m → find p (range_with_len a n) ≡ Some k → (k < m) × (p k ≡ true)
range_met p m zero a k le is = cc
range_met p m (suc n) a k le is =
    elim (p a) as (λ b. p a ≡ b → cond b (Some a) (find p (range_with_len (a + 1) n)) ≡ Some k → (k < m) × (p k ≡ true)) [
      | true ↦ λ t e. (let same : a ≡ k = cc in (omega arith, subst (λ (x : ℕ). p x ≡ true) same t))
      | false ↦ λ t e. range_met p m n (a + 1) k (omega arith) e
    ] refl is

front : (a b : Bool) → (a && b) ≡ true → a ≡ true
front true b e = refl
front false b e = absurd (let f : false ≡ true = e in cc)

abbrev object_with : List ℕ → List ℕ → Object
object_with bytes content = record { kind = four_at 0 bytes; usage = four_at USAGE_AT bytes; secret = secret_in bytes; content = content }

used_inode : (a b : Bool) → a ≡ true → (a || b) ≡ true
used_inode true b is = refl
used_inode false b is = absurd (let f : false ≡ true = is in cc)

used_data : (a b : Bool) → b ≡ true → (a || b) ≡ true
used_data true b is = refl
used_data false b is = is

module _ (L : Layout) (leaves others : ℕ → List ℕ) (agree : AgreeInUse L leaves others) (laid : IsLaid L) where
  mapped : (i : ℕ) → i < L.leaves → i / 256 < L.map_leaves
  mapped i below = (let whole = laid.mapped in omega (arith, whole, below))

  number_same : (i : ℕ) → i < L.leaves → entry_number L others i ≡ entry_number L leaves i
  number_same i below = ap (λ (bytes : List ℕ). number_in bytes (i % 256)) (agree.map (i / 256) (mapped i below))

  pub entry_same : (i : ℕ) → i < L.leaves → entry_at L others i ≡ entry_at L leaves i
  unfolding entry_at
  entry_same i below = ap (λ (n : ℕ). L.entry_of n) (number_same i below)

  pub inode_same : (i : ℕ) → i < L.leaves → is_inode L others i ≡ is_inode L leaves i
  inode_same i below = ap (λ (e : Entry). e.kind == INODE) (entry_same i below)

  data_same : (inode index i : ℕ) → i < L.leaves → is_data_at L others inode index i ≡ is_data_at L leaves inode index i
  data_same inode index i below = ap (λ (e : Entry). ((e.kind == DATA) && (e.inode == inode)) && (e.index == index)) (entry_same i below)

  owner_below : (i : ℕ) → (entry_at L leaves i).inode < L.leaves
  unfolding entry_at
  owner_below i = laid.inode (entry_number L leaves i)

  pub formed_same : (i : ℕ) → i < L.leaves → is_well_formed L others i ≡ is_well_formed L leaves i
  unfolding is_well_formed
  formed_same i below =
      ap (λ (e : Entry). if nat_lt i L.map_leaves then is_zero e else form_of i e (is_inode L others e.inode && nat_lt e.index L.indexes)) (entry_same i below)
      ∙ ap (λ b. if nat_lt i L.map_leaves then is_zero (entry_at L leaves i) else form_of i (entry_at L leaves i) (b && nat_lt (entry_at L leaves i).index L.indexes))
      (inode_same (entry_at L leaves i).inode (owner_below i))

  -- an inode's leaf, and a leaf of data, are as they were
  at_inode : (i : ℕ) → i < L.leaves → is_inode L leaves i ≡ true → others i ≡ leaves i
  at_inode i below is = agree.used i below (used_inode _ _ is)

  at_data : (i : ℕ) → i < L.leaves → ((entry_at L leaves i).kind == DATA) ≡ true → others i ≡ leaves i
  at_data i below is = agree.used i below (used_data _ _ is)

  numbers_same : (p q : ℕ → Bool) → ((i : ℕ) → i < L.leaves → q i ≡ p i) → Agree p q 0 L.leaves
  numbers_same p q same = λ i le lt. same i (omega arith)

  doubled_same : (i : ℕ) → i < L.leaves → is_inode L leaves i ≡ true → is_doubled L others i ≡ is_doubled L leaves i
  unfolding is_doubled
  doubled_same i below is = any_agree _ _ i 0 (λ j le lt.
      let lower : j < L.leaves = omega (arith, below, lt) in
      ap (λ b. b && bytes_eq (identifier_in (others j)) (identifier_in (others i))) (inode_same j lower)
      ∙ elim (is_inode L leaves j) as (λ b. is_inode L leaves j ≡ b → (b && bytes_eq (identifier_in (others j)) (identifier_in (others i))) ≡
      (b && bytes_eq (identifier_in (leaves j)) (identifier_in (leaves i)))) [
        | true ↦ λ t. ap (λ (x : List ℕ). bytes_eq (identifier_in x) (identifier_in (others i))) (at_inode j lower t)
            ∙ ap (λ (x : List ℕ). bytes_eq (identifier_in (leaves j)) (identifier_in x)) (at_inode i below is)
        | false ↦ λ t. refl
      ] refl)

  one_same : (inode index : ℕ) → has_one L others inode index ≡ has_one L leaves inode index
  unfolding numbers
  one_same inode index = ap (λ (n : ℕ). n == 1) (count_agree _ _ L.leaves 0 (numbers_same _ _ (data_same inode index)))

  past_same : (inode i : ℕ) → others inode ≡ leaves inode → i < L.leaves → is_past L others inode i ≡ is_past L leaves inode i
  past_same inode i same below =
      ap (λ (e : Entry). ((e.kind == DATA) && (e.inode == inode)) && nat_le (data_leaves (length_in (others inode))) e.index) (entry_same i below)
      ∙ ap (λ (x : List ℕ). is_data_of L leaves inode i && nat_le (data_leaves (length_in x)) (entry_at L leaves i).index) same

  has_data_same : (i : ℕ) → others i ≡ leaves i → has_data L others i ≡ has_data L leaves i
  unfolding has_data numbers
  has_data_same i same =
      ap (λ b. list_all (λ index. has_one L others i index) (range_with_len 0 (data_leaves (length_in (others i)))) && not b)
      (any_agree (λ j. is_past L leaves i j) (λ j. is_past L others i j) L.leaves 0 (numbers_same _ _ (λ j below. past_same i j same below)))
      ∙ ap (λ b. b && not (list_any (λ j. is_past L leaves i j) (range_with_len 0 L.leaves)))
      (all_agree (λ index. has_one L leaves i index) (λ index. has_one L others i index) (range_with_len 0 (data_leaves (length_in (others i)))) (one_same i)
      ∙ ap (λ (x : List ℕ). list_all (λ index. has_one L leaves i index) (range_with_len 0 (data_leaves (length_in x)))) same)

  padded_same : (i : ℕ) → i < L.leaves → others i ≡ leaves i → others (entry_at L leaves i).inode ≡ leaves (entry_at L leaves i).inode → is_padded L others i ≡ is_padded L leaves i
  unfolding is_padded
  padded_same i below same owner =
      ap (λ (e : Entry). is_past L others e.inode i || are_zero (drop (length_in (others e.inode) - 1024 * e.index) (take 1024 (others i)))) (entry_same i below)
      ∙ ap (λ b. b || are_zero (drop (length_in (others (entry_at L leaves i).inode) - 1024 * (entry_at L leaves i).index) (take 1024 (others i))))
      (past_same (entry_at L leaves i).inode i owner below)
      ∙ ap (λ (x : List ℕ). is_past L leaves (entry_at L leaves i).inode i || are_zero (drop (length_in x - 1024 * (entry_at L leaves i).index) (take 1024 (others i)))) owner
      ∙ ap (λ (x : List ℕ). is_past L leaves (entry_at L leaves i).inode i || are_zero (drop (length_in (leaves (entry_at L leaves i).inode) - 1024 * (entry_at L leaves i).index) (take 1024 x))) same

  -- data that follows the rules of the map is of an inode
  owner_is : (i : ℕ) → is_well_formed L leaves i ≡ true → ((entry_at L leaves i).kind == DATA) ≡ true → nat_lt i L.map_leaves ≡ false → is_inode L leaves (entry_at L leaves i).inode ≡ true
  unfolding is_well_formed
  owner_is i formed is later =
      let kind : (entry_at L leaves i).kind ≡ 2 = eqb-true (entry_at L leaves i).kind 2 is in
      let form : form_of i (entry_at L leaves i) (is_inode L leaves (entry_at L leaves i).inode && nat_lt (entry_at L leaves i).index L.indexes) ≡ true =
      subst (λ b. (if b then is_zero (entry_at L leaves i) else form_of i (entry_at L leaves i) (is_inode L leaves (entry_at L leaves i).inode && nat_lt (entry_at L leaves i).index L.indexes)) ≡ true)
      later formed in
      front _ _ (of_form i (entry_at L leaves i) _ kind form)
    where
      of_form : (i : ℕ) (e : Entry) (b : Bool) → e.kind ≡ 2 → form_of i e b ≡ true → b ≡ true
      of_form i e b kind form = sym (ap (λ (k : ℕ). form_of i (record e { kind = k }) b) kind) ∙ form

  -- the map's own entries, where they follow the rules, are no data
  map_free : (i : ℕ) → is_well_formed L leaves i ≡ true → nat_lt i L.map_leaves ≡ true → ((entry_at L leaves i).kind == DATA) ≡ false
  unfolding is_well_formed
  map_free i formed is =
      let zero' : is_zero (entry_at L leaves i) ≡ true = subst (λ b. (if b then is_zero (entry_at L leaves i) else form_of i (entry_at L leaves i)
      (is_inode L leaves (entry_at L leaves i).inode && nat_lt (entry_at L leaves i).index L.indexes)) ≡ true) is formed in
      let kind : (entry_at L leaves i).kind ≡ 0 = eqb-true (entry_at L leaves i).kind 0 (front _ _ zero') in
      ap (λ (k : ℕ). k == DATA) kind

  breaks_same : (i : ℕ) → i < L.leaves → breaks L others i ≡ breaks L leaves i
  unfolding breaks
  breaks_same i below =
      ap (λ b. not b || ((is_inode L others i && not (is_inode_leaf (others i) && (not (is_doubled L others i) && has_data L others i))) ||
      (((entry_at L others i).kind == DATA) && not (is_padded L others i)))) (formed_same i below)
      ∙ ap (λ b. not (is_well_formed L leaves i) || ((b && not (is_inode_leaf (others i) && (not (is_doubled L others i) && has_data L others i))) ||
      (((entry_at L others i).kind == DATA) && not (is_padded L others i)))) (inode_same i below)
      ∙ ap (λ (e : Entry). not (is_well_formed L leaves i) || ((is_inode L leaves i && not (is_inode_leaf (others i) && (not (is_doubled L others i) && has_data L others i))) ||
      ((e.kind == DATA) && not (is_padded L others i)))) (entry_same i below)
      ∙ three_same (is_well_formed L leaves i) (is_inode L leaves i) ((entry_at L leaves i).kind == DATA) _ _ _ _ inodes datas
    where
      inodes : is_inode L leaves i ≡ true → (is_inode_leaf (others i) && (not (is_doubled L others i) && has_data L others i)) ≡
          (is_inode_leaf (leaves i) && (not (is_doubled L leaves i) && has_data L leaves i))
      inodes is =
          ap (λ (x : List ℕ). is_inode_leaf x && (not (is_doubled L others i) && has_data L others i)) (at_inode i below is)
          ∙ ap (λ b. is_inode_leaf (leaves i) && (not b && has_data L others i)) (doubled_same i below is)
          ∙ ap (λ b. is_inode_leaf (leaves i) && (not (is_doubled L leaves i) && b)) (has_data_same i (at_inode i below is))

      datas : is_well_formed L leaves i ≡ true → ((entry_at L leaves i).kind == DATA) ≡ true → is_padded L others i ≡ is_padded L leaves i
      datas formed is =
          elim (nat_lt i L.map_leaves) as (λ b. nat_lt i L.map_leaves ≡ b → is_padded L others i ≡ is_padded L leaves i) [
            | true ↦ λ t. absurd (let f : true ≡ false = sym is ∙ map_free i formed t in cc)
            | false ↦ λ t. padded_same i below (at_data i below is) (at_inode (entry_at L leaves i).inode (owner_below i) (owner_is i formed is t))
          ] refl

  first_same : first_broken L others ≡ first_broken L leaves
  unfolding first_broken numbers
  first_same = find_agree (λ i. breaks L leaves i) (λ i. breaks L others i) L.leaves 0 (numbers_same _ _ breaks_same)

  inodes_same : inode_numbers L others ≡ inode_numbers L leaves
  unfolding inode_numbers numbers
  inodes_same = filter_agree (λ i. is_inode L leaves i) (λ i. is_inode L others i) L.leaves 0 (numbers_same _ _ inode_same)

  leaf_same : (inode index : ℕ) → leaf_of L others inode index ≡ leaf_of L leaves inode index
  unfolding leaf_of numbers
  leaf_same inode index = find_agree (λ i. is_data_at L leaves inode index i) (λ i. is_data_at L others inode index i) L.leaves 0 (numbers_same _ _ (data_same inode index))

  data_met : (inode index k : ℕ) → leaf_of L leaves inode index ≡ Some k → (k < L.leaves) × (((entry_at L leaves k).kind == DATA) ≡ true)
  unfolding leaf_of numbers
  data_met inode index k is =
      let met = range_met (λ i. is_data_at L leaves inode index i) L.leaves L.leaves 0 k (omega arith) is in
      (met.0, front _ _ (front _ _ met.1))

  all_inodes : All (λ i. (i < L.leaves) × (is_inode L leaves i ≡ true)) (inode_numbers L leaves)
  unfolding inode_numbers numbers
  all_inodes = range_all (λ i. is_inode L leaves i) L.leaves L.leaves 0 (omega arith)

  byte_same : (inode at : ℕ) → byte_at L others inode at ≡ byte_at L leaves inode at
  unfolding byte_at
  byte_same inode at =
      ap (λ r. byte_in L others r (at % 1024)) (leaf_same inode (at / 1024))
      ∙ elim (leaf_of L leaves inode (at / 1024)) as (λ r. leaf_of L leaves inode (at / 1024) ≡ r → byte_in L others r (at % 1024) ≡ byte_in L leaves r (at % 1024)) [
        | None ↦ λ e. refl
        | Some k ↦ λ e. (let met = data_met inode (at / 1024) k e in ap (λ (x : List ℕ). get_or x (at % 1024) 0) (at_data k met.0 met.1))
      ] refl

  object_same : (i : ℕ) → others i ≡ leaves i → object_of L others i ≡ object_of L leaves i
  unfolding object_of content_of
  object_same i same =
      ap (λ (x : List ℕ). object_with x (map (λ at. byte_at L others i at) (range_with_len 0 (length_in x)))) same
      ∙ ap (λ (c : List ℕ). object_with (leaves i) c) (map_all (λ at. byte_at L leaves i at) (λ at. byte_at L others i at) (range_with_len 0 (length_in (leaves i))) (byte_same i))

  store_same : store_of L others ≡ store_of L leaves
  unfolding store_of
  store_same =
      ap (λ (ns : List ℕ). finite.from_entries (map (λ i. (identifier_in (others i), object_of L others i)) ns)) inodes_same
      ∙ ap finite.from_entries (map_agree (λ i. (identifier_in (leaves i), object_of L leaves i)) (λ i. (identifier_in (others i), object_of L others i))
      (λ i. (i < L.leaves) × (is_inode L leaves i ≡ true)) (inode_numbers L leaves) all_inodes
      (λ i met.
      let same = at_inode i met.0 met.1 in
      ap (λ (o : Object). (identifier_in (others i), o)) (object_same i same) ∙ ap (λ (x : List ℕ). (identifier_in x, object_of L leaves i)) same))

  pub region_same : region_of L others ≡ region_of L leaves
  unfolding region_of
  region_same = ap (λ r. unless_broken L others r) first_same ∙ each (first_broken L leaves)
    where
      each : (r : Option ℕ) → unless_broken L others r ≡ unless_broken L leaves r
      each None = ap (λ (s : Store). Ok s) store_same
      each (Some i) = refl

  -- what the inode leaves tell, and their rules
  pub inodes_told : inodes_of L others ≡ inodes_of L leaves
  unfolding inodes_of
  inodes_told =
      ap (map (λ i. inode_of i (others i))) inodes_same
      ∙ map_agree (λ i. inode_of i (leaves i)) (λ i. inode_of i (others i)) (λ i. (i < L.leaves) × (is_inode L leaves i ≡ true)) (inode_numbers L leaves) all_inodes
      (λ i met. ap (λ (b : List ℕ). inode_of i b) (at_inode i met.0 met.1))

  pub whole_same : (i : ℕ) → i < L.leaves → is_inode L leaves i ≡ true → IsWhole L leaves i → IsWhole L others i
  whole_same i below is whole = record {
    bytes = ap (λ (b : List ℕ). is_inode_leaf b) (at_inode i below is) ∙ whole.bytes;
    new = doubled_same i below is ∙ whole.new;
    placed = has_data_same i (at_inode i below is) ∙ whole.placed;
  }
