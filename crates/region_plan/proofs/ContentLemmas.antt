-- The content of an object, piece by piece.
use Rattle.std.proofs.Common.{◌≡◌, ℕ, zero, suc, ◌+◌, ◌-◌, ◌*◌, ◌/◌, ◌%◌, ◌<◌, ◌≤◌, min, Bool, true, false, cond, List, [], ◌∷◌, ◌++◌, map, length}
use Rattle.std.proofs.Common.{get_or, take, drop, Option, None, Some, Result, Ok, Err, find, refl, sym, ◌∙◌, ap, subst, arith, nat_le}
use Rattle.std.specs.Prelude.{IsTrue, IfOk, IfSome, OnOk, ◌&&◌, ◌||◌, ◌==◌}
use Rattle.std.specs.List.{range_with_len, count_by}
use Rattle.std.proofs.Math.Seq.{drop-cons}
use Rattle.std.proofs.lemmas.List.Sums.{sum_by-cons}
use Rattle.std.proofs.lemmas.Bool.{leb-true, leb-false, lt-leb, eqb-true}
use Rattle.store_api.specs.declared.answer.StoreAnswer.{StoreAnswer}
use Rattle.region_plan.specs.Layout.{Layout}
use Rattle.region_plan.specs.Parts.{are_zero}
use Rattle.region_plan.specs.Entries.{entry_at, is_inode, is_data_at}
use Rattle.region_plan.specs.Inodes.{length_in}
use Rattle.region_plan.specs.Regions.{numbers, breaks, byte_at, byte_in, leaf_of, has_data, is_padded, data_leaves, content_of}
use Rattle.region_plan.specs.declared.entry.TheConstants.{DATA}
use Rattle.region_plan.proofs.CheckLemmas.{index_wrong}
use Rattle.region_plan.proofs.RuleLemmas.{data_breaks, index_breaks}
use Rattle.region_plan.proofs.FormLemmas.{IsLaid}

-- a part of a list as a function of the places
pub piece_is : (f : ℕ → ℕ) (xs : List ℕ) (n s a : ℕ) → s + n ≤ length xs → ((j : ℕ) → j < n → f (a + j) ≡ get_or xs (s + j) 0) → take n (drop s xs) ≡ map f (range_with_len a n)
piece_is f xs zero s a inside same = refl
piece_is f xs (suc n) s a inside same =
    let here : s < length xs = omega arith in
    let head : f a ≡ get_or xs s 0 = ap f (let e : a ≡ a + 0 = omega arith in e) ∙ same 0 (omega arith) ∙ ap (λ (k : ℕ). get_or xs k 0) (let e : s + 0 ≡ s = omega arith in e) in
    let rest : take n (drop (suc s) xs) ≡ map f (range_with_len (a + 1) n) =
    piece_is f xs n (suc s) (a + 1) (omega arith)
    (λ j below. ap f (let e : a + 1 + j ≡ a + suc j = omega arith in e) ∙ same (suc j) (omega arith) ∙ ap (λ (k : ℕ). get_or xs k 0) (let e : s + suc j ≡ suc s + j = omega arith in e)) in
    ap (take (suc n)) (drop-cons xs s 0 here) ∙ ap (λ (l : List ℕ). get_or xs s 0 ∷ l) rest ∙ ap (λ (x : ℕ). x ∷ map f (range_with_len (a + 1) n)) (sym head)

-- one piece after another
pub pieces_joined : (f : ℕ → ℕ) (m n a : ℕ) → map f (range_with_len a m) ++ map f (range_with_len (a + m) n) ≡ map f (range_with_len a (m + n))
pieces_joined f zero n a = ap (λ (k : ℕ). map f (range_with_len k n)) (let e : a + 0 ≡ a = omega arith in e) ∙ ap (λ (k : ℕ). map f (range_with_len a k)) (let e : n ≡ 0 + n = omega arith in e)
pieces_joined f (suc m) n a =
    ap (λ (l : List ℕ). f a ∷ l)
    (ap (λ (k : ℕ). map f (range_with_len (a + 1) m) ++ map f (range_with_len k n)) (let e : a + suc m ≡ a + 1 + m = omega arith in e) ∙ pieces_joined f m n (a + 1))
    ∙ ap (λ (k : ℕ). map f (range_with_len a k)) (let e : suc (m + n) ≡ suc m + n = omega arith in e)

-- what is dropped and taken of it
drop_range : (f : ℕ → ℕ) (s n a : ℕ) → s ≤ n → drop s (map f (range_with_len a n)) ≡ map f (range_with_len (a + s) (n - s))
drop_range f zero n a le = ap (λ (k : ℕ). map f (range_with_len k n)) (let e : a ≡ a + 0 = omega arith in e) ∙ ap (λ (k : ℕ). map f (range_with_len (a + 0) k)) (let e : n ≡ n - 0 = omega arith in e)
drop_range f (suc s) zero a le = absurd (omega arith)
drop_range f (suc s) (suc n) a le =
    drop_range f s n (a + 1) (omega arith)
    ∙ ap (λ (k : ℕ). map f (range_with_len k (n - s))) (let e : a + 1 + s ≡ a + suc s = omega arith in e)
    ∙ ap (λ (k : ℕ). map f (range_with_len (a + suc s) k)) (let e : n - s ≡ suc n - suc s = omega arith in e)

take_range : (f : ℕ → ℕ) (c n a : ℕ) → c ≤ n → take c (map f (range_with_len a n)) ≡ map f (range_with_len a c)
take_range f zero n a le = refl
take_range f (suc c) zero a le = absurd (omega arith)
take_range f (suc c) (suc n) a le = ap (λ (l : List ℕ). f a ∷ l) (take_range f c n (a + 1) (omega arith))

drop_past : (f : ℕ → ℕ) (s n a : ℕ) → n ≤ s → drop s (map f (range_with_len a n)) ≡ []
drop_past f zero zero a le = refl
drop_past f zero (suc n) a le = absurd (omega arith)
drop_past f (suc s) zero a le = refl
drop_past f (suc s) (suc n) a le = drop_past f s n (a + 1) (omega arith)

take_past : (f : ℕ → ℕ) (c n a : ℕ) → n ≤ c → take c (map f (range_with_len a n)) ≡ map f (range_with_len a n)
take_past f zero zero a le = refl
take_past f zero (suc n) a le = absurd (omega arith)
take_past f (suc c) zero a le = refl
take_past f (suc c) (suc n) a le = ap (λ (l : List ℕ). f a ∷ l) (take_past f c n (a + 1) (omega arith))

nothing_taken : (f : ℕ → ℕ) (c a : ℕ) → take c [] ≡ map f (range_with_len a 0)
nothing_taken f zero a = refl
nothing_taken f (suc c) a = refl

-- at most so many from a place on
pub part_is : (f : ℕ → ℕ) (n start count : ℕ) → take count (drop start (map f (range_with_len 0 n))) ≡ map f (range_with_len (min start n) (min count (n - min start n)))
part_is f n start count =
    elim (nat_le start n) as (λ b. nat_le start n ≡ b → take count (drop start (map f (range_with_len 0 n))) ≡ map f (range_with_len (min start n) (min count (n - min start n)))) [
      | true ↦ λ e. within (leb-true start n e)
      | false ↦ λ e. past (let more : n < start = leb-false start n e in omega (arith, more))
    ] refl
  where
    counted : (m a : ℕ) → take count (map f (range_with_len a m)) ≡ map f (range_with_len a (min count m))
    counted m a =
        elim (nat_le count m) as (λ b. nat_le count m ≡ b → take count (map f (range_with_len a m)) ≡ map f (range_with_len a (min count m))) [
          | true ↦ λ e.
              let le : count ≤ m = leb-true count m e in
              take_range f count m a le ∙ ap (λ (k : ℕ). map f (range_with_len a k)) (let e' : count ≡ min count m = omega arith in e')
          | false ↦ λ e.
              let more : m < count = leb-false count m e in
              let le : m ≤ count = omega (arith, more) in
              take_past f count m a le ∙ ap (λ (k : ℕ). map f (range_with_len a k)) (let e' : m ≡ min count m = omega arith in e')
        ] refl

    within : start ≤ n → take count (drop start (map f (range_with_len 0 n))) ≡ map f (range_with_len (min start n) (min count (n - min start n)))
    within le =
        ap (take count) (drop_range f start n 0 le) ∙ counted (n - start) (0 + start)
        ∙ ap (λ (k : ℕ). map f (range_with_len k (min count (n - start)))) (let e : 0 + start ≡ min start n = omega arith in e)
        ∙ ap (λ (k : ℕ). map f (range_with_len (min start n) (min count (n - k)))) (let e : start ≡ min start n = omega arith in e)

    past : n ≤ start → take count (drop start (map f (range_with_len 0 n))) ≡ map f (range_with_len (min start n) (min count (n - min start n)))
    past le =
        ap (take count) (drop_past f start n 0 le) ∙ nothing_taken f count (min start n)
        ∙ ap (λ (k : ℕ). map f (range_with_len (min start n) k)) (let e : 0 ≡ min count (n - min start n) = omega arith in e)

-- nothing that passes is found, so nothing is counted
none_counted : (p : ℕ → Bool) (xs : List ℕ) → find p xs ≡ None → count_by p xs ≡ 0
none_counted p [] is = refl
none_counted p (x ∷ xs) is =
    sum_by-cons (λ y. cond (p y) 1 0) x xs
    ∙ elim (p x) as (λ b. cond b (Some x) (find p xs) ≡ None → cond b 1 0 + count_by p xs ≡ 0) [
      | true ↦ λ e. cc
      | false ↦ λ e. (let rest = none_counted p xs e in omega (arith, rest))
    ] is

-- what is found passes
found_passes : (p : ℕ → Bool) (xs : List ℕ) (k : ℕ) → find p xs ≡ Some k → p k ≡ true
found_passes p [] k is = cc
found_passes p (x ∷ xs) k is =
    elim (p x) as (λ b. p x ≡ b → cond b (Some x) (find p xs) ≡ Some k → p k ≡ true) [
      | true ↦ λ t e. let same : x ≡ k = cc in subst (λ (y : ℕ). p y ≡ true) same t
      | false ↦ λ t e. found_passes p xs k e
    ] refl is

first_of : (a b : Bool) → (a && b) ≡ true → a ≡ true
first_of true b e = refl
first_of false b e = absurd (let f : false ≡ true = e in cc)

second_of : (a b : Bool) → (a && b) ≡ true → b ≡ true
second_of true b e = e
second_of false b e = absurd (let f : false ≡ true = e in cc)

same_number : (a b : ℕ) → (a == b) ≡ true → a ≡ b
same_number a b e = eqb-true a b e

-- the index of a place within a content
pub index_below : (at end long n : ℕ) → at < end → end ≤ long → long ≡ n → at / 1024 < data_leaves n
index_below at end long n ahead inside is = omega (arith, ahead, inside, is)

module _ (L : Layout) (leaves : ℕ → List ℕ) where
  -- data that lacks an index
  pub missing_wrong : (inode index : ℕ) → index < data_leaves (length_in (leaves inode)) → leaf_of L leaves inode index ≡ None → has_data L leaves inode ≡ false
  unfolding leaf_of
  missing_wrong inode index below none =
      let counted : count_by (λ i. is_data_at L leaves inode index i) (numbers L) ≡ 0 = none_counted (λ i. is_data_at L leaves inode index i) (numbers L) none in
      index_wrong L leaves inode index below (ap (λ (n : ℕ). n == 1) counted)

  -- an inode whose data lacks an index breaks a rule
  pub missing_breaks : (inode index : ℕ) → is_inode L leaves inode ≡ true → index < data_leaves (length_in (leaves inode)) → leaf_of L leaves inode index ≡ None → IsTrue (breaks L leaves inode)
  missing_breaks inode index is below none = index_breaks L leaves inode is (missing_wrong inode index below none)

  -- the leaf of an index is data of that index
  pub leaf_is : (inode index k : ℕ) → leaf_of L leaves inode index ≡ Some k → is_data_at L leaves inode index k ≡ true
  unfolding leaf_of
  leaf_is inode index k is = found_passes (λ i. is_data_at L leaves inode index i) (numbers L) k is

  -- data that isn't zeros past the end breaks a rule
  pub unpadded_breaks : (inode index k : ℕ) → index < data_leaves (length_in (leaves inode)) → leaf_of L leaves inode index ≡ Some k
      → are_zero (drop (length_in (leaves inode) - 1024 * index) (take 1024 (leaves k))) ≡ false → IsTrue (breaks L leaves k)
  unfolding is_padded
  unpadded_breaks inode index k below is isnt =
      let data_is = leaf_is inode index k is in
      let of_inode = first_of _ _ data_is in
      let kind : (entry_at L leaves k).kind ≡ DATA = same_number _ _ (first_of _ _ of_inode) in
      let owner : (entry_at L leaves k).inode ≡ inode = same_number _ _ (second_of _ _ of_inode) in
      let place : (entry_at L leaves k).index ≡ index = same_number _ _ (second_of _ _ data_is) in
      let not_past : nat_le (data_leaves (length_in (leaves inode))) index ≡ false = lt-leb (data_leaves (length_in (leaves inode))) index below in
      data_breaks L leaves k kind (rw (owner, place, not_past, isnt) (both_false _))
    where
      both_false : (a : Bool) → ((a && false) || false) ≡ false
      both_false true = refl
      both_false false = refl

  -- and data that is keeps the rule
  pub padded_from : (inode index k : ℕ) → leaf_of L leaves inode index ≡ Some k
      → are_zero (drop (length_in (leaves inode) - 1024 * index) (take 1024 (leaves k))) ≡ true → is_padded L leaves k ≡ true
  unfolding is_padded
  padded_from inode index k is zeros =
      let data_is = leaf_is inode index k is in
      let of_inode = first_of _ _ data_is in
      let owner : (entry_at L leaves k).inode ≡ inode = same_number _ _ (second_of _ _ of_inode) in
      let place : (entry_at L leaves k).index ≡ index = same_number _ _ (second_of _ _ data_is) in
      rw (owner, place, zeros) (or_true _)
    where
      or_true : (a : Bool) → (a || true) ≡ true
      or_true true = refl
      or_true false = refl

  -- the bytes of a leaf are bytes of the content
  pub leaf_bytes : (inode at end k : ℕ) (block : List ℕ) → leaf_of L leaves inode (at / 1024) ≡ Some k → block ≡ leaves k → length block ≡ 1024 → at < end → end ≤ 1024 * (at / 1024) + 1024
      → take ((end - 1024 * (at / 1024)) - (at - 1024 * (at / 1024))) (drop (at - 1024 * (at / 1024)) block) ≡ map (λ n. byte_at L leaves inode n) (range_with_len at (end - at))
  unfolding byte_at
  leaf_bytes inode at end k block is read long ahead inside =
      let n : (end - 1024 * (at / 1024)) - (at - 1024 * (at / 1024)) ≡ end - at = omega arith in
      ap (λ (m : ℕ). take m (drop (at - 1024 * (at / 1024)) block)) n
      ∙ piece_is (λ m. byte_at L leaves inode m) block (end - at) (at - 1024 * (at / 1024)) at (omega arith)
      (λ j below.
      let index : (at + j) / 1024 ≡ at / 1024 = omega arith in
      let place : (at + j) % 1024 ≡ (at - 1024 * (at / 1024)) + j = omega arith in
      ap (λ (x : ℕ). byte_in L leaves (leaf_of L leaves inode x) ((at + j) % 1024)) index ∙ ap (λ (x : ℕ). byte_in L leaves (leaf_of L leaves inode (at / 1024)) x) place
      ∙ ap (λ r. byte_in L leaves r ((at - 1024 * (at / 1024)) + j)) is ∙ ap (λ (b : List ℕ). get_or b ((at - 1024 * (at / 1024)) + j) 0) (sym read))

  -- a part of a content
  pub content_part : (inode start count : ℕ)
      → take count (drop start (content_of L leaves inode)) ≡ map (λ n. byte_at L leaves inode n) (range_with_len (min start (length_in (leaves inode)))
      (min count (length_in (leaves inode) - min start (length_in (leaves inode)))))
  unfolding content_of
  content_part inode start count = part_is (λ n. byte_at L leaves inode n) (length_in (leaves inode)) start count

-- a place of the part of a content is among those that are read
pub part_inside : (start count long long' s k place : ℕ) → s ≡ min start long → k ≡ min count (long - s) → long ≡ long' → start ≤ place → place < min (start + count) long'
    → (s ≤ place) × (place < s + k)
part_inside start count long long' s k place is_s is_k is low high = (omega (arith, is_s, is_k, is, low, high), omega (arith, is_s, is_k, is, low, high))

-- what holds of an answer, and what follows of it
pub if_ok : {A : Type 0} (r : Result A StoreAnswer) (P Q : A → Type 0) → ((a : A) → P a → Q a) → IfOk r (λ a. P a) → IfOk r (λ a. Q a)
if_ok (Ok a) P Q implies is = implies a is
if_ok (Err e) P Q implies is = tt

-- what holds of an answer, where there is one
pub some_is : {A : Type 0} (r : Option A) (a : A) (P : A → Type 0) → r ≡ Some a → IfSome r (λ a. P a) → P a
some_is {A = A} r a P is holds = subst (λ (s : Option A). IfSome s (λ a. P a)) is holds

pub if_ok_four : {A : Type 0} (r : Result A StoreAnswer) (P Q R S T : A → Type 0) → ((a : A) → P a → Q a → R a → S a → T a) → IfOk r (λ a. P a) → IfOk r (λ a. Q a) → IfOk r (λ a. R a)
    → IfOk r (λ a. S a) → IfOk r (λ a. T a)
if_ok_four (Ok a) P Q R S T implies p q u s = implies a p q u s
if_ok_four (Err e) P Q R S T implies p q u s = tt

pub on_ok : {A : Type 0} (r : Result A StoreAnswer) (P : Type 0) → P → OnOk r P
on_ok (Ok a) P is = is
on_ok (Err e) P is = tt

module _ (L : Layout) (laid : IsLaid L) where
  -- one more piece of a content
  pub part_joined : (leaves mid : ℕ → List ℕ) (inode start at stop : ℕ) (old new : List ℕ) → mid ≡ leaves → start ≤ at → at ≤ stop →
      old ≡ map (λ n. byte_at L leaves inode n) (range_with_len start (at - start))
      → new ≡ old ++ map (λ n. byte_at L mid inode n) (range_with_len at (stop - at)) → new ≡ map (λ n. byte_at L leaves inode n) (range_with_len start (stop - start))
  part_joined leaves mid inode start at stop old new same low high before is =
      let seam : at ≡ start + (at - start) = omega arith in
      let sum : (at - start) + (stop - at) ≡ stop - start = omega arith in
      is ∙ ap (λ (l : List ℕ). l ++ map (λ n. byte_at L mid inode n) (range_with_len at (stop - at))) before
      ∙ ap (λ (l : ℕ → List ℕ). map (λ n. byte_at L leaves inode n) (range_with_len start (at - start)) ++ map (λ n. byte_at L l inode n) (range_with_len at (stop - at))) same
      ∙ ap (λ (k : ℕ). map (λ n. byte_at L leaves inode n) (range_with_len start (at - start)) ++ map (λ n. byte_at L leaves inode n) (range_with_len k (stop - at))) seam
      ∙ pieces_joined (λ n. byte_at L leaves inode n) (at - start) (stop - at) start
      ∙ ap (λ (k : ℕ). map (λ n. byte_at L leaves inode n) (range_with_len start k)) sum

  -- what a content answers
  pub content_answer : (leaves mid : ℕ → List ℕ) (number start count long s k : ℕ) (a : List ℕ) → mid ≡ leaves → long ≡ length_in (leaves number) → s ≡ min start long → k ≡ min count (long - s)
      → a ≡ map (λ n. byte_at L mid number n) (range_with_len s ((s + k) - s)) → take count (drop start (content_of L leaves number)) ≡ a
  content_answer leaves mid number start count long s k a same is_long is_s is_k is =
      let n : ℕ = length_in (leaves number) in
      let begin : min start (length_in (leaves number)) ≡ s = ap (λ (x : ℕ). min start x) (sym is_long) ∙ sym is_s in
      let many : min count (length_in (leaves number) - min start (length_in (leaves number))) ≡ (s + k) - s =
      ap (λ (x : ℕ). min count (length_in (leaves number) - x)) begin ∙ ap (λ (x : ℕ). min count (x - s)) (sym is_long) ∙ sym is_k ∙ (let e : k ≡ (s + k) - s = omega arith in e) in
      content_part L leaves number start count
      ∙ ap (λ (x : ℕ). map (λ m. byte_at L leaves number m) (range_with_len x (min count (length_in (leaves number) - min start (length_in (leaves number)))))) begin
      ∙ ap (λ (x : ℕ). map (λ m. byte_at L leaves number m) (range_with_len s x)) many
      ∙ ap (λ (l : ℕ → List ℕ). map (λ m. byte_at L l number m) (range_with_len s ((s + k) - s))) (sym same)
      ∙ sym is
