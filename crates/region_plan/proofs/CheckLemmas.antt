-- Inodes that break a rule together with the map or other inodes.
use Rattle.std.proofs.Common.{◌≡◌, ◌≢◌, ℕ, zero, suc, ◌+◌, ◌<◌, ◌≤◌, Bool, true, false, cond, not, List, [], ◌∷◌, map, get_or, Option, None, Some, find, refl, sym, ◌∙◌, ap, subst, arith}
use Rattle.std.specs.Prelude.{is_none, is_some, ◌&&◌, ◌||◌, ◌==◌, nat_le}
use Rattle.std.specs.List.{range_with_len, filter, list_any, count_by}
use Rattle.std.specs.Str.{bytes_eq}
use Rattle.std.proofs.lemmas.Bool.{eqb-true, eq-eqb, le-leb, leb-true, leb-false, and_left, and_right, and_from}
use Rattle.std.proofs.lemmas.List.Sums.{sum_by-cons}
use Rattle.std.proofs.lemmas.List.Folds.{list_any_at, list_all_at}
use Rattle.std.proofs.lemmas.List.FromFn.{get_or-range_with_len, length-range_with_len}
use Rattle.region_plan.specs.Layout.{Layout}
use Rattle.region_plan.specs.Entries.{entry_at, is_inode, is_data_of, is_data_at}
use Rattle.region_plan.specs.Inodes.{inode_of, identifier_in, length_in}
use Rattle.region_plan.specs.Regions.{numbers, has_one, has_data, is_doubled, is_past, leaf_of, data_leaves}
use Rattle.region_plan.specs.declared.entry.Entry.{Entry}
use Rattle.region_plan.specs.declared.entry.TheConstants.{DATA}
use Rattle.region_plan.specs.declared.inode.Inode.{Inode}
use Rattle.region_plan.specs.Tables.{inode_with, inodes_below}
use Rattle.region_plan.proofs.FormLemmas.{IsLaid}
use Rattle.region_plan.proofs.OrderLemmas.{none_is as none_among}

-- what passes is counted
count_some : (p : ℕ → Bool) (n a k : ℕ) → a ≤ k → k < a + n → p k ≡ true → 1 ≤ count_by p (range_with_len a n)
count_some p zero a k low high passes = absurd (omega arith)
count_some p (suc n) a k low high passes =
    subst (λ (c : ℕ). 1 ≤ c) (sym (sum_by-cons (λ y. cond (p y) 1 0) a (range_with_len (a + 1) n)))
    (elim (p a) as (λ b. p a ≡ b → 1 ≤ cond b 1 0 + count_by p (range_with_len (a + 1) n)) [
      | true ↦ λ t. omega arith
      | false ↦ λ t.
          let other : a ≢ k = λ e. (let f : true ≡ false = sym passes ∙ ap p (sym e) ∙ t in cc) in
          let rest = count_some p n (a + 1) k (omega (arith, other)) (omega arith) passes in
          omega (arith, rest)
    ] refl)

-- what alone is counted is what is found
one_found : (p : ℕ → Bool) (n a k : ℕ) → a ≤ k → k < a + n → p k ≡ true → count_by p (range_with_len a n) ≡ 1 → find p (range_with_len a n) ≡ Some k
one_found p zero a k low high passes one = absurd (omega arith)
one_found p (suc n) a k low high passes one =
    let sum = sym (sum_by-cons (λ y. cond (p y) 1 0) a (range_with_len (a + 1) n)) ∙ one in
    elim (p a) as (λ b. p a ≡ b → cond b 1 0 + count_by p (range_with_len (a + 1) n) ≡ 1 → cond b (Some a) (find p (range_with_len (a + 1) n)) ≡ Some k) [
      | true ↦ λ t s. ap (λ (x : ℕ). Some x) (same s)
      | false ↦ λ t s.
          let other : a ≢ k = λ e. (let f : true ≡ false = sym passes ∙ ap p (sym e) ∙ t in cc) in
          one_found p n (a + 1) k (omega (arith, other)) (omega arith) passes (omega (arith, s))
    ] refl sum
  where
    same : 1 + count_by p (range_with_len (a + 1) n) ≡ 1 → a ≡ k
    same s = elim (nat_le (a + 1) k) as (λ b. nat_le (a + 1) k ≡ b → a ≡ k) [
      | true ↦ λ e. absurd (let more = count_some p n (a + 1) k (leb-true (a + 1) k e) (omega arith) passes in omega (arith, more, s))
      | false ↦ λ e. (let less = leb-false (a + 1) k e in omega (arith, less))
    ] refl

any_kept : (q : Inode → Bool) (f : ℕ → Inode) (p : ℕ → Bool) (xs : List ℕ) → list_any q (map f (filter p xs)) ≡ list_any (λ i. p i && q (f i)) xs
any_kept q f p [] = refl
any_kept q f p (x ∷ xs) =
    elim (p x) as (λ b. list_any q (map f (cond b (x ∷ filter p xs) (filter p xs))) ≡ (b && q (f x)) || list_any (λ i. p i && q (f i)) xs) [
      | true ↦ ap (λ b. q (f x) || b) (any_kept q f p xs)
      | false ↦ any_kept q f p xs
    ]

module _ (L : Layout) (leaves : ℕ → List ℕ) where
  told_id : (i : ℕ) → (inode_of i (leaves i)).id ≡ identifier_in (leaves i)
  unfolding inode_of
  told_id i = refl

  any_same : (p q : ℕ → Bool) (xs : List ℕ) → ((i : ℕ) → q i ≡ p i) → list_any q xs ≡ list_any p xs
  any_same p q [] same = refl
  any_same p q (x ∷ xs) same = ap (λ b. b || list_any q xs) (same x) ∙ ap (λ r. p x || r) (any_same p q xs same)

  -- an identifier that an inode before has
  pub doubled_is : (n : ℕ) (id : List ℕ) → id ≡ identifier_in (leaves n) → list_any (λ inode. bytes_eq inode.id id) (inodes_below L leaves n) ≡ is_doubled L leaves n
  unfolding inodes_below is_doubled
  doubled_is n id is =
      any_kept (λ inode. bytes_eq inode.id id) (λ i. inode_of i (leaves i)) (λ i. is_inode L leaves i) (range_with_len 0 n)
      ∙ any_same (λ i. is_inode L leaves i && bytes_eq (identifier_in (leaves i)) (identifier_in (leaves n))) (λ i. is_inode L leaves i && bytes_eq (inode_of i (leaves i)).id id) (range_with_len 0 n)
      (λ i. ap (λ (x : List ℕ). is_inode L leaves i && bytes_eq x id) (told_id i) ∙ ap (λ (x : List ℕ). is_inode L leaves i && bytes_eq (identifier_in (leaves i)) x) is)

  in_range : (i n : ℕ) → i < n → get_or (range_with_len 0 n) i 0 ≡ i
  in_range i n below = get_or-range_with_len 0 n i 0 below ∙ (let e : 0 + i ≡ i = omega arith in e)

  -- data at an index that isn't one leaf's alone
  pub index_wrong : (inode index : ℕ) → index < data_leaves (length_in (leaves inode)) → has_one L leaves inode index ≡ false → has_data L leaves inode ≡ false
  unfolding has_data
  index_wrong inode index below one =
      and_left _ _ (list_all_at (λ x. has_one L leaves inode x) (range_with_len 0 (data_leaves (length_in (leaves inode)))) index 0
      (omega (arith, below, length-range_with_len 0 (data_leaves (length_in (leaves inode)))))
      (ap (λ (x : ℕ). has_one L leaves inode x) (in_range index (data_leaves (length_in (leaves inode))) below) ∙ one))

  -- data past the end
  pub past_wrong : (inode i : ℕ) → i < L.leaves → is_data_of L leaves inode i ≡ true → data_leaves (length_in (leaves inode)) ≤ (entry_at L leaves i).index → has_data L leaves inode ≡ false
  unfolding has_data numbers
  past_wrong inode i below of_inode past =
      let here : is_past L leaves inode i ≡ true = ap (λ b. b && nat_le (data_leaves (length_in (leaves inode))) (entry_at L leaves i).index) of_inode
      ∙ le-leb (data_leaves (length_in (leaves inode))) (entry_at L leaves i).index past in
      and_right _ _ (ap not (list_any_at (λ j. is_past L leaves inode j) (range_with_len 0 L.leaves) i 0 (omega (arith, below, length-range_with_len 0 L.leaves))
      (ap (λ (x : ℕ). is_past L leaves inode x) (in_range i L.leaves below) ∙ here)))

  -- data of an index that is found at another leaf
  pub elsewhere_wrong : (inode i : ℕ) → i < L.leaves → is_data_of L leaves inode i ≡ true → (entry_at L leaves i).index < data_leaves (length_in (leaves inode))
      → leaf_of L leaves inode (entry_at L leaves i).index ≢ Some i → has_data L leaves inode ≡ false
  unfolding leaf_of numbers
  elsewhere_wrong inode i below of_inode before other =
      let x : ℕ = (entry_at L leaves i).index in
      let here : is_data_at L leaves inode (entry_at L leaves i).index i ≡ true = ap (λ b. b && ((entry_at L leaves i).index == (entry_at L leaves i).index)) of_inode
      ∙ eq-eqb (entry_at L leaves i).index (entry_at L leaves i).index refl in
      index_wrong inode (entry_at L leaves i).index before
      (elim (has_one L leaves inode (entry_at L leaves i).index) as (λ b. has_one L leaves inode (entry_at L leaves i).index ≡ b → b ≡ false) [
        | true ↦ λ e. absurd (other (one_found (λ j. is_data_at L leaves inode (entry_at L leaves i).index j) L.leaves 0 i (omega arith) (omega arith) here (eqb-true _ 1 e)))
        | false ↦ λ e. refl
      ] refl)

-- what the code tests
pub none_is : (r : Option ℕ) (b : Bool) → is_some r ≡ not b → b ≡ true → r ≡ None
none_is None b is told = refl
none_is (Some x) b is told = absurd (let f : true ≡ false = is ∙ ap not told in cc)

pub other_leaf : (first leaf : ℕ) → (first == leaf) ≡ false → Some first ≡ Some leaf → ⊥
other_leaf first leaf apart same = (let e : first ≡ leaf = cc in let f : true ≡ false = sym (eq-eqb first leaf e) ∙ apart in cc)

told_number : (leaves : ℕ → List ℕ) (n : ℕ) → (inode_of n (leaves n)).number ≡ n
unfolding inode_of
told_number leaves n = refl

told_length : (leaves : ℕ → List ℕ) (n : ℕ) → (inode_of n (leaves n)).length ≡ length_in (leaves n)
unfolding inode_of
told_length leaves n = refl

pub number_is : (leaves : ℕ → List ℕ) (n : ℕ) (block : List ℕ) (inode : Inode) → block ≡ leaves n → inode ≡ inode_of n block → inode.number ≡ n
number_is leaves n block inode read is = ap (λ (x : Inode). x.number) is ∙ ap (λ (b : List ℕ). (inode_of n b).number) read ∙ told_number leaves n

pub length_is : (leaves : ℕ → List ℕ) (n : ℕ) (block : List ℕ) (inode : Inode) → block ≡ leaves n → inode ≡ inode_of n block → inode.length ≡ length_in (leaves inode.number)
length_is leaves n block inode read is =
    ap (λ (x : Inode). x.length) is ∙ ap (λ (b : List ℕ). (inode_of n b).length) read ∙ told_length leaves n ∙ ap (λ (k : ℕ). length_in (leaves k)) (sym (number_is leaves n block inode read is))

module _ (L : Layout) (laid : IsLaid L) where
  pub of_inode : (leaves : ℕ → List ℕ) (inode i : ℕ) (e : Entry) → e ≡ entry_at L leaves i → e.kind ≡ 2 → e.inode ≡ inode → is_data_of L leaves inode i ≡ true
  of_inode leaves inode i e is kind owner =
      ap (λ (x : Entry). (x.kind == DATA) && (x.inode == inode)) (sym is) ∙ and_from (e.kind == DATA) (e.inode == inode) (eq-eqb e.kind 2 kind) (eq-eqb e.inode inode owner)

  pub past_entry : (leaves : ℕ → List ℕ) (inode i blocks : ℕ) (e : Entry) → i < L.leaves → e ≡ entry_at L leaves i → e.kind ≡ 2 → e.inode ≡ inode →
      blocks ≡ data_leaves (length_in (leaves inode)) → blocks ≤ e.index → has_data L leaves inode ≡ false
  past_entry leaves inode i blocks e below is kind owner long past =
      past_wrong L leaves inode i below (of_inode leaves inode i e is kind owner) (subst (λ (x : Entry). data_leaves (length_in (leaves inode)) ≤ x.index) is
      (subst (λ (n : ℕ). n ≤ e.index) long past))

  pub elsewhere_entry : (leaves : ℕ → List ℕ) (inode i blocks : ℕ) (e : Entry) (r : Option ℕ) → i < L.leaves → e ≡ entry_at L leaves i → e.kind ≡ 2 → e.inode ≡ inode →
      blocks ≡ data_leaves (length_in (leaves inode)) → e.index < blocks
      → r ≡ leaf_of L leaves inode e.index → (r ≡ Some i → ⊥) → has_data L leaves inode ≡ false
  elsewhere_entry leaves inode i blocks e r below is kind owner long before found other =
      elsewhere_wrong L leaves inode i below (of_inode leaves inode i e is kind owner)
      (subst (λ (x : Entry). x.index < data_leaves (length_in (leaves inode))) is (subst (λ (n : ℕ). e.index < n) long before))
      (λ same. other (found ∙ ap (λ (x : Entry). leaf_of L leaves inode x.index) is ∙ same))

  -- whether an inode that was read has the identifier of one before it
  pub known_is : (leaves : ℕ → List ℕ) (n : ℕ) (inode : Inode) (before : List Inode) → inode ≡ inode_of n (leaves n) → before ≡ inodes_below L leaves n →
      is_none (inode_with inode.id before) ≡ not (is_doubled L leaves n)
  known_is leaves n inode before is earlier =
      let id_is : inode.id ≡ identifier_in (leaves n) = ap (λ (x : Inode). x.id) is ∙ told_id L leaves n in
      sym (none_among inode.id before) ∙ ap not (ap (λ (l : List Inode). list_any (λ x. bytes_eq x.id inode.id) l) earlier ∙ doubled_is L leaves n inode.id id_is)
