-- The inodes of a region after leaves of it were written.
use Rattle.std.proofs.Common.{◌≡◌, ◌≢◌, ◌<◌, ◌≤◌, ◌+◌, ◌-◌, ◌*◌, inl, inr, ◌⊎◌, ℕ, zero, suc, Bool, true, false, not}
use Rattle.std.proofs.Common.{cond, List, [], ◌∷◌, ◌++◌, length, map, take, drop, None, Some, refl, sym, ◌∙◌, ap, subst, arith}
use Rattle.std.specs.Prelude.{◌==◌, ◌&&◌, ◌||◌, if◌then◌else◌, is_none, Ok, Err, Result}
use Rattle.std.specs.List.{All, filter, insert, range_with_len, remove}
use Rattle.std.specs.Option.{option_or}
use Rattle.std.specs.Str.{bytes_eq}
use Rattle.std.proofs.lemmas.Bool.{eqb-true, eqb-false, true≢false}
use Rattle.std.proofs.lemmas.Bool.{cases_lt}
use Rattle.std.proofs.lemmas.List.Elements.{All-append, All-cons, All-drop, All-take}
use Rattle.std.proofs.lemmas.List.Folds.{find-append}
use Rattle.std.proofs.lemmas.Slice.Eq.{bytes_eq-Decides}
use Rattle.store_api.specs.declared.answer.StoreAnswer.{StoreAnswer}
use Rattle.store_api.specs.declared.answer.StoreAnswer.TheVariants.{NoMemory}
use Rattle.store_api.specs.declared.leaves.Leaf.{Leaf}
use Rattle.store_api.specs.Volumes.{leaf_after}
use Rattle.region_plan.specs.Entries.{is_inode, number_in}
use Rattle.region_plan.specs.Inodes.{identifier_in, inode_of, is_inode_leaf}
use Rattle.region_plan.specs.Layout.{Layout}
use Rattle.region_plan.specs.Orders.{leaf_at}
use Rattle.region_plan.specs.Places.{IsMapOf, entries_in}
use Rattle.region_plan.specs.Plans.{IsMapLeaf, NamesInodes, is_named, with_leaves}
use Rattle.region_plan.specs.Regions.{inode_numbers, inodes_of, numbers}
use Rattle.region_plan.specs.Tables.{inode_with, inodes_below}
use Rattle.region_plan.specs.Written.{AreInodesThen, AreWritten, FitsAt, comes, stays, unwritten_from}
use Rattle.region_plan.specs.declared.entry.Entry.{Entry}
use Rattle.region_plan.specs.declared.entry.TheConstants.{INODE}
use Rattle.region_plan.specs.declared.inode.Inode.{Inode}
use Rattle.region_plan.proofs.FormLemmas.{IsLaid}
use Rattle.region_plan.proofs.MapLemmas.{mapped_by, mapped_leaf}
use Rattle.region_plan.proofs.SoundLemmas.{Sound, and_both}
use Rattle.region_plan.proofs.TableLemmas.{inodes_none, inodes_more, inodes_stay, inodes_all}

-- what a leaf has that isn't written
pub unwritten : (named : List Leaf) (i : ℕ) (old : List ℕ) → is_named named i ≡ false → leaf_after named i old ≡ old
unwritten [] i old isnt = refl
unwritten (leaf ∷ named) i old isnt =
    elim (leaf.number == i) as (λ b. (b || is_named named i) ≡ false → (if b then leaf.bytes else leaf_after named i old) ≡ old) [
      | true ↦ λ e. absurd (true≢false e)
      | false ↦ λ e. unwritten named i old e
    ] isnt

-- and one that is
pub written_same : (named : List Leaf) (i : ℕ) (old other : List ℕ) → is_named named i ≡ true → leaf_after named i old ≡ leaf_after named i other
written_same [] i old other is = absurd (true≢false (sym is))
written_same (leaf ∷ named) i old other is =
    elim (leaf.number == i) as (λ b. (b || is_named named i) ≡ true → (if b then leaf.bytes else leaf_after named i old) ≡ (if b then leaf.bytes else leaf_after named i other)) [
      | true ↦ λ e. refl
      | false ↦ λ e. written_same named i old other e
    ] is

pub are_written : (named : List Leaf) (leaves : ℕ → List ℕ) → AreWritten named (with_leaves named leaves)
are_written named leaves i is = written_same named i (leaves i) [] is

-- a list of which some were kept so far
pub record KeptSoFar (p : Inode → Bool) (all now : List Inode) (place n : ℕ) : Type 0 where
  pub is : now ≡ filter p (take n all) ++ drop n all
  pub at : place ≡ length (filter p (take n all))

pub none_kept : (p : Inode → Bool) (all : List Inode) → KeptSoFar p all all 0 0
none_kept p [] = record { is = refl; at = refl }
none_kept p (x ∷ xs) = record { is = refl; at = refl }

taken_more : (p : Inode → Bool) (all : List Inode) (n : ℕ) → n < length all
    → (x : Inode) × (drop n all ≡ x ∷ drop (suc n) all) × (filter p (take (suc n) all) ≡ filter p (take n all) ++ cond (p x) (x ∷ []) [])
taken_more p [] n low = absurd (omega (arith, low))
taken_more p (y ∷ ys) zero low = (y, refl, refl)
taken_more p (y ∷ ys) (suc n) low =
    let rest = taken_more p ys n (omega (arith, low)) in (
      rest.0,
      rest.1,
      elim (p y) as (λ b. cond b (y ∷ filter p (take (suc n) ys)) (filter p (take (suc n) ys)) ≡ cond b (y ∷ filter p (take n ys)) (filter p (take n ys)) ++ cond (p rest.0)
          (rest.0 ∷ []) []) [
            | true ↦ ap (λ (l : List Inode). y ∷ l) rest.2
            | false ↦ rest.2
          ],
    )

leaf_here : (xs : List Inode) (y : Inode) (ys : List Inode) → leaf_at (xs ++ y ∷ ys) (length xs) ≡ y.number
leaf_here [] y ys = refl
leaf_here (x ∷ xs) y ys = leaf_here xs y ys

longer_here : (xs : List Inode) (y : Inode) (ys : List Inode) → length xs < length (xs ++ y ∷ ys)
longer_here [] y ys = omega arith
longer_here (x ∷ xs) y ys = (let rest = longer_here xs y ys in omega (arith, rest))

joined : (xs : List Inode) (y : Inode) (ys : List Inode) → (xs ++ y ∷ []) ++ ys ≡ xs ++ y ∷ ys
joined [] y ys = refl
joined (x ∷ xs) y ys = ap (λ (l : List Inode). x ∷ l) (joined xs y ys)

all_joined : (xs ys : List Inode) → (xs ++ []) ++ ys ≡ xs ++ ys
all_joined [] ys = refl
all_joined (x ∷ xs) ys = ap (λ (l : List Inode). x ∷ l) (all_joined xs ys)

longer : (xs : List Inode) (y : Inode) → length (xs ++ y ∷ []) ≡ length xs + 1
longer [] y = refl
longer (x ∷ xs) y = (let rest = longer xs y in omega (arith, rest))

same_long : (xs : List Inode) → length (xs ++ []) ≡ length xs
same_long [] = refl
same_long (x ∷ xs) = ap suc (same_long xs)

pub removed_here : (xs : List Inode) (y : Inode) (ys : List Inode) (place : ℕ) → place ≡ length xs → remove (xs ++ y ∷ ys) place ≡ xs ++ ys
removed_here [] y ys zero is = refl
removed_here [] y ys (suc p) is = absurd (omega (arith, is))
removed_here (x ∷ xs) y ys zero is = absurd (omega (arith, is))
removed_here (x ∷ xs) y ys (suc p) is = ap (λ (l : List Inode). x ∷ l) (removed_here xs y ys p (omega (arith, is)))

pub inserted_here : (xs : List Inode) (y : Inode) (ys : List Inode) (place : ℕ) → place ≡ length xs → insert (xs ++ ys) place y ≡ xs ++ y ∷ ys
inserted_here [] y [] zero is = refl
inserted_here [] y (z ∷ ys) zero is = refl
inserted_here [] y ys (suc p) is = absurd (omega (arith, is))
inserted_here (x ∷ xs) y ys zero is = absurd (omega (arith, is))
inserted_here (x ∷ xs) y ys (suc p) is = ap (λ (l : List Inode). x ∷ l) (inserted_here xs y ys p (omega (arith, is)))

module _ (q : ℕ → Bool) (all now : List Inode) (place n : ℕ) (so_far : KeptSoFar (λ inode. q inode.number) all now place n) (low : n < length all) where
  abbrev p : Inode → Bool
  p inode = q inode.number

  abbrev before : List Inode
  before = filter p (take n all)

  here : (x : Inode) × (drop n all ≡ x ∷ drop (suc n) all) × (filter p (take (suc n) all) ≡ before ++ cond (p x) (x ∷ []) [])
  here = taken_more p all n low

  now_is : now ≡ before ++ here.0 ∷ drop (suc n) all
  now_is = so_far.is ∙ ap (λ (l : List Inode). before ++ l) here.1

  pub kept_inside : place < length now
  kept_inside = (let e = so_far.at in let long = longer_here before here.0 (drop (suc n) all) in let same = ap length now_is in omega (arith, e, long, same))

  leaf_is : leaf_at now place ≡ here.0.number
  leaf_is = (λ i. leaf_at (now_is i) (so_far.at i)) ∙ leaf_here before here.0 (drop (suc n) all)

  pub kept_more : (m place' : ℕ) → m ≡ n + 1 → place' ≡ place + 1 → q (leaf_at now place) ≡ true → KeptSoFar p all now place' m
  kept_more m place' is_m is_place stays' =
      let passes : p here.0 ≡ true = ap q (sym leaf_is) ∙ stays' in
      let next : filter p (take (suc n) all) ≡ before ++ here.0 ∷ [] = here.2 ∙ ap (λ b. before ++ cond b (here.0 ∷ []) []) passes in
      let at : suc n ≡ m = omega (arith, is_m) in
      subst (λ (k : ℕ). KeptSoFar p all now place' k) at (record {
        is = now_is ∙ sym (joined before here.0 (drop (suc n) all)) ∙ ap (λ (l : List Inode). l ++ drop (suc n) all) (sym next);
        at = (let e = so_far.at in let one = longer before here.0 in let long = ap length next in omega (arith, is_place, e, one, long));
      })

  pub kept_less : (m : ℕ) (next : List Inode) → m ≡ n + 1 → next ≡ remove now place → q (leaf_at now place) ≡ false → KeptSoFar p all next place m
  kept_less m next is_m is_next goes =
      let fails : p here.0 ≡ false = ap q (sym leaf_is) ∙ goes in
      let passed : filter p (take (suc n) all) ≡ before ++ [] = here.2 ∙ ap (λ b. before ++ cond b (here.0 ∷ []) []) fails in
      let at : suc n ≡ m = omega (arith, is_m) in
      subst (λ (k : ℕ). KeptSoFar p all next place k) at (record {
        is = is_next ∙ ap (λ (l : List Inode). remove l place) now_is ∙ removed_here before here.0 (drop (suc n) all) place so_far.at
            ∙ sym (all_joined before (drop (suc n) all)) ∙ ap (λ (l : List Inode). l ++ drop (suc n) all) (sym passed);
        at = so_far.at ∙ sym (same_long before) ∙ ap length (sym passed);
      })

pub kept_all : (p : Inode → Bool) (all now : List Inode) (place n : ℕ) → KeptSoFar p all now place n → n ≡ length all → now ≡ filter p all
kept_all p all now place n so_far is = so_far.is ∙ (λ i. filter p (take (is i) all) ++ drop (is i) all) ∙ ends all
  where
    ends : (l : List Inode) → filter p (take (length l) l) ++ drop (length l) l ≡ filter p l
    ends [] = refl
    ends (x ∷ l) = elim (p x) as (λ b. cond b (x ∷ filter p (take (length l) l)) (filter p (take (length l) l)) ++ drop (length l) l ≡ cond b (x ∷ filter p l) (filter p l)) [
      | true ↦ ap (λ (r : List Inode). x ∷ r) (ends l)
      | false ↦ ends l
    ]

pub kept_few : (p : Inode → Bool) (l : List Inode) → length (filter p l) ≤ length l
kept_few p [] = omega arith
kept_few p (x ∷ l) = (let rest = kept_few p l in
    elim (p x) as (λ b. length (cond b (x ∷ filter p l) (filter p l)) ≤ suc (length l)) [ true ↦ omega (arith, rest) | false ↦ omega (arith, rest) ])

pub kept_bound : (p : Inode → Bool) (all now : List Inode) (place n : ℕ) → KeptSoFar p all now place n → length now ≤ length all
kept_bound p all now place n so_far = (let e = ap length so_far.is in let few = bound all n in omega (arith, e, few))
  where
    bound : (l : List Inode) (k : ℕ) → length (filter p (take k l) ++ drop k l) ≤ length l
    bound [] zero = omega arith
    bound [] (suc k) = omega arith
    bound (x ∷ l) zero = omega arith
    bound (x ∷ l) (suc k) = (let rest = bound l k in
        elim (p x) as (λ b. length (cond b (x ∷ filter p (take k l)) (filter p (take k l)) ++ drop k l) ≤ suc (length l)) [ true ↦ omega (arith, rest) | false ↦ omega (arith, rest) ])

module _ (L : Layout) (leaves : ℕ → List ℕ) where
  abbrev told : ℕ → Inode
  told i = inode_of i (leaves i)

  told_number : (i : ℕ) → (told i).number ≡ i
  unfolding inode_of
  told_number i = refl

  told_id : (i : ℕ) → (told i).id ≡ identifier_in (leaves i)
  unfolding inode_of
  told_id i = refl

  module _ (named : List Leaf) where
    -- the inodes that stay are those of the leaves then that aren't written
    module _ (laid : IsLaid L) (map' : List Entry) (is : IsMapOf L (with_leaves named leaves) map') (names : NamesInodes L leaves named) where
      abbrev after : ℕ → List ℕ
      after = with_leaves named leaves

      abbrev keeps : Inode → Bool
      keeps inode = stays (entries_in map') named inode.number

      abbrev stay_then : ℕ → Bool
      stay_then j = is_inode L after j && not (is_named named j)

      stays_is : (j : ℕ) → j < L.leaves → stays (entries_in map') named j ≡ stay_then j
      stays_is j low = ap (λ (e : Entry). (e.kind == INODE) && not (is_named named j)) (is j low)

      kept_from : (n a : ℕ) → a + n ≤ L.leaves → filter keeps (map told (filter (λ i. is_inode L leaves i) (range_with_len a n))) ≡ map (λ j. inode_of j (after j)) (filter stay_then
          (range_with_len a n))
      kept_from zero a inside = refl
      kept_from (suc n) a inside =
          let rest = kept_from n (a + 1) (omega (arith, inside)) in
          let here = stays_is a (omega (arith, inside)) in
          elim (is_inode L leaves a) as (λ b. is_inode L leaves a ≡ b → filter keeps (map told (cond b (a ∷ filter (λ i. is_inode L leaves i) (range_with_len (a + 1) n))
          (filter (λ i. is_inode L leaves i) (range_with_len (a + 1) n)))) ≡ map (λ j. inode_of j (after j)) (cond (stay_then a) (a ∷ filter stay_then (range_with_len (a + 1) n)) (filter
          stay_then (range_with_len (a + 1) n)))) [
            | true ↦ λ e.
                ap (λ b. cond b (told a ∷ filter keeps (map told (filter (λ i. is_inode L leaves i) (range_with_len (a + 1) n)))) (filter keeps (map told (filter (λ i. is_inode L leaves i)
                (range_with_len (a + 1) n))))) (ap (λ (k : ℕ). stays (entries_in map') named k) (told_number a) ∙ here)
                ∙ both a (filter keeps (map told (filter (λ i. is_inode L leaves i) (range_with_len (a + 1) n)))) (filter stay_then (range_with_len (a + 1) n)) rest
            | false ↦ λ e. rest ∙ ap (λ b. map (λ j. inode_of j (after j)) (cond b (a ∷ filter stay_then (range_with_len (a + 1) n)) (filter stay_then (range_with_len (a + 1) n)))) (sym
                (no_inode a (omega (arith, inside)) e))
          ] refl
        where
          both : (j : ℕ) (xs : List Inode) (ns : List ℕ) → xs ≡ map (λ k. inode_of k (after k)) ns → cond (stay_then j) (told j ∷ xs) xs ≡ map (λ k. inode_of k (after k)) (cond (stay_then
              j) (j ∷ ns) ns)
          both j xs ns same = elim (stay_then j) as (λ b. stay_then j ≡ b → cond b (told j ∷ xs) xs ≡ map (λ k. inode_of k (after k)) (cond b (j ∷ ns) ns)) [
            | true ↦ λ e. (λ i. inode_of j (stayed j (and_both (is_inode L after j) (not (is_named named j)) e).1 i) ∷ same i)
            | false ↦ λ e. same
          ] refl
            where
              stayed : (k : ℕ) → not (is_named named k) ≡ true → leaves k ≡ after k
              stayed k isnt = sym (unwritten named k (leaves k) (flipped (is_named named k) isnt))
                where
                  flipped : (b : Bool) → not b ≡ true → b ≡ false
                  flipped true e = absurd (true≢false (sym e))
                  flipped false e = refl

          no_inode : (j : ℕ) → j < L.leaves → is_inode L leaves j ≡ false → stay_then j ≡ false
          no_inode j low isnt = elim (is_inode L after j) as (λ b. is_inode L after j ≡ b → (b && not (is_named named j)) ≡ false) [
            | true ↦ λ e. elim (is_named named j) as (λ b. is_named named j ≡ b → not b ≡ false) [
              | true ↦ λ f. refl
              | false ↦ λ f. absurd (true≢false (sym (names j low e f) ∙ isnt))
            ] refl
            | false ↦ λ e. refl
          ] refl

      pub kept_is : filter keeps (inodes_of L leaves) ≡ unwritten_from L after named 0
      unfolding unwritten_from inodes_of inode_numbers numbers
      kept_is = kept_from L.leaves 0 (omega arith)
          ∙ ap (λ (n : ℕ). map (λ j. inode_of j (after j)) (filter stay_then (range_with_len 0 n))) (let e : L.leaves ≡ L.leaves - 0 = omega arith in e)

    abbrev still : ℕ → Bool
    still j = is_inode L leaves j && not (is_named named j)

    -- the inodes from a leaf on, with that of the leaf or without it
    from_next : (a : ℕ) → a < L.leaves → unwritten_from L leaves named a ≡ map told (cond (still a) (a ∷ filter still (range_with_len (a + 1) (L.leaves - (a + 1)))) (filter still
        (range_with_len (a + 1)
        (L.leaves - (a + 1)))))
    unfolding unwritten_from
    from_next a low = ap (λ (k : ℕ). map told (filter still (range_with_len a k))) (let e : L.leaves - a ≡ suc (L.leaves - (a + 1)) = omega (arith, low) in e)

    from_here : (a : ℕ) → a < L.leaves → still a ≡ true → unwritten_from L leaves named a ≡ told a ∷ unwritten_from L leaves named (a + 1)
    unfolding unwritten_from
    from_here a low is = from_next a low ∙ ap (λ b. map told (cond b (a ∷ filter still (range_with_len (a + 1) (L.leaves - (a + 1)))) (filter still (range_with_len (a + 1) (L.leaves - (a +
        1)))))) is

    from_past : (a : ℕ) → a < L.leaves → still a ≡ false → unwritten_from L leaves named a ≡ unwritten_from L leaves named (a + 1)
    unfolding unwritten_from
    from_past a low is = from_next a low ∙ ap (λ b. map told (cond b (a ∷ filter still (range_with_len (a + 1) (L.leaves - (a + 1)))) (filter still (range_with_len (a + 1) (L.leaves - (a +
        1)))))) is

    pub from_end : (a : ℕ) → a ≡ L.leaves → unwritten_from L leaves named a ≡ []
    unfolding unwritten_from
    from_end a is = ap (λ (k : ℕ). map told (filter still (range_with_len a k))) (let e : L.leaves - a ≡ 0 = omega (arith, is) in e)

    few_from : (n a : ℕ) (p : ℕ → Bool) → length (map told (filter p (range_with_len a n))) ≤ n
    few_from zero a p = omega arith
    few_from (suc n) a p = (let rest = few_from n (a + 1) p in
        elim (p a) as (λ b. length (map told (cond b (a ∷ filter p (range_with_len (a + 1) n)) (filter p (range_with_len (a + 1) n)))) ≤ suc n) [
          | true ↦ omega (arith, rest)
          | false ↦ omega
              (arith, rest)
        ])

    from_few : (a : ℕ) → length (unwritten_from L leaves named a) ≤ L.leaves - a
    unfolding unwritten_from
    from_few a = few_from (L.leaves - a) a still

    below_few : (a : ℕ) → length (inodes_below L leaves a) ≤ a
    unfolding inodes_below
    below_few a = few_from a 0 (λ i. is_inode L leaves i)

    -- no inode but the one of a leaf has its identifier
    module _ (sound : Sound L leaves) (leaf : ℕ) (low : leaf < L.leaves) (is : is_inode L leaves leaf ≡ true) where
      other_id : (j : ℕ) → j < L.leaves → j ≢ leaf → is_inode L leaves j ≡ true → bytes_eq (told j).id (told leaf).id ≡ false
      other_id j below other there = elim (bytes_eq (told j).id (told leaf).id) as (λ b. bytes_eq (told j).id (told leaf).id ≡ b → b ≡ false) [
        | true ↦ λ e. absurd (other (sound.apart j leaf below low there is (sym (told_id j) ∙ (bytes_eq-Decides (told j).id (told leaf).id).0 e ∙ told_id leaf)))
        | false ↦ λ e. refl
      ] refl

      none_among : (n a : ℕ) (p : ℕ → Bool) → a + n ≤ L.leaves → ((j : ℕ) → a ≤ j → j < a + n → j ≢ leaf) → ((j : ℕ) → p j ≡ true → is_inode L leaves j ≡ true)
          → inode_with (told leaf).id (map told (filter p (range_with_len a n))) ≡ None
      none_among zero a p inside other real = refl
      none_among (suc n) a p inside other real =
          let rest = none_among n (a + 1) p (omega (arith, inside)) (λ j from to. other j (omega (arith, from)) (omega (arith, to))) real in
          elim (p a) as (λ b. p a ≡ b → inode_with (told leaf).id (map told (cond b (a ∷ filter p (range_with_len (a + 1) n)) (filter p (range_with_len (a + 1) n)))) ≡ None) [
            | true ↦ λ e. ap (λ b. cond b (Some (told a)) (inode_with (told leaf).id (map told (filter p (range_with_len (a + 1) n)))))
                (other_id a (omega (arith, inside)) (other a (omega arith) (omega arith)) (real a e)) ∙ rest
            | false ↦ λ e. rest
          ] refl

      none_below : inode_with (told leaf).id (inodes_below L leaves leaf) ≡ None
      unfolding inodes_below
      none_below = none_among leaf 0 (λ i. is_inode L leaves i) (omega (arith, low)) (λ j from to same. omega (arith, to, same)) (λ j e. e)

      none_from : inode_with (told leaf).id (unwritten_from L leaves named (leaf + 1)) ≡ None
      unfolding unwritten_from
      none_from = none_among (L.leaves - (leaf + 1)) (leaf + 1) still (omega (arith, low)) (λ j from to same. omega (arith, from, same))
          (λ j e. (and_both (is_inode L leaves j) (not (is_named named j)) e).0)

      none_with : inode_with (told leaf).id (inodes_below L leaves leaf ++ unwritten_from L leaves named (leaf + 1)) ≡ None
      none_with = find-append (λ inode. bytes_eq inode.id (told leaf).id) (inodes_below L leaves leaf) (unwritten_from L leaves named (leaf + 1))
          ∙ ap (λ r. option_or r (inode_with (told leaf).id (unwritten_from L leaves named (leaf + 1)))) none_below ∙ none_from

    -- the inodes below a leaf are there, and from it on those that aren't written
    pub record GrownSoFar (now : List Inode) (place leaf : ℕ) : Type 0 where
      pub is : now ≡ inodes_below L leaves leaf ++ unwritten_from L leaves named leaf
      pub at : place ≡ length (inodes_below L leaves leaf)

    pub none_grown : (now : List Inode) → now ≡ unwritten_from L leaves named 0 → GrownSoFar now 0 0
    none_grown now is = record {
      is = is ∙ sym (ap (λ (l : List Inode). l ++ unwritten_from L leaves named 0) (inodes_none L leaves));
      at = sym (ap length (inodes_none L leaves));
    }

    pub grown_all : (now : List Inode) (place leaf : ℕ) → leaf ≡ L.leaves → GrownSoFar now place leaf → now ≡ inodes_of L leaves
    grown_all now place leaf all so_far = so_far.is ∙ (λ i. inodes_all L leaves leaf all i ++ from_end leaf all i) ∙ whole (inodes_of L leaves)
      where
        whole : (l : List Inode) → l ++ [] ≡ l
        whole [] = refl
        whole (x ∷ l) = ap (λ (r : List Inode). x ∷ r) (whole l)

    module _ (now : List Inode) (place leaf : ℕ) (so_far : GrownSoFar now place leaf) (low : leaf < L.leaves) where
      abbrev below : List Inode
      below = inodes_below L leaves leaf

      abbrev rest : List Inode
      rest = unwritten_from L leaves named (leaf + 1)

      -- the leaf is no inode
      pub grown_past : (m : ℕ) → m ≡ leaf + 1 → is_inode L leaves leaf ≡ false → GrownSoFar now place m
      grown_past m is_m isnt =
          let stay = inodes_stay L leaves leaf (leaf + 1) refl isnt in
          subst (λ (k : ℕ). GrownSoFar now place k) (sym is_m) (record {
            is = so_far.is ∙ (λ i. sym stay i ++ from_past leaf low (ap (λ b. b && not (is_named named leaf)) isnt) i);
            at = so_far.at ∙ ap length (sym stay);
          })

      one_more : (m place' : ℕ) (next : List Inode) → m ≡ leaf + 1 → place' ≡ place + 1 → is_inode L leaves leaf ≡ true → next ≡ below ++ told leaf ∷ rest → GrownSoFar next place' m
      one_more m place' next is_m is_place is is_next =
          let more = inodes_more L leaves leaf (leaf + 1) refl is in
          subst (λ (k : ℕ). GrownSoFar next place' k) (sym is_m) (record {
            is = is_next ∙ sym (joined below (told leaf) rest) ∙ ap (λ (l : List Inode). l ++ rest) (sym more);
            at = (let e = so_far.at in let one = longer below (told leaf) in let long = ap length more in omega (arith, is_place, e, one, long));
          })

      -- it is one that isn't written
      pub grown_same : (m place' : ℕ) → m ≡ leaf + 1 → place' ≡ place + 1 → is_inode L leaves leaf ≡ true → is_named named leaf ≡ false → GrownSoFar now place' m
      grown_same m place' is_m is_place is isnt =
          one_more m place' now is_m is_place is (so_far.is ∙ ap (λ (l : List Inode). below ++ l) (from_here leaf low ((λ i. is i && not (isnt i)))))

      now_without : is_named named leaf ≡ true → now ≡ below ++ rest
      now_without written = so_far.is ∙ ap (λ (l : List Inode). below ++ l) (from_past leaf low (none (is_inode L leaves leaf) ∙ refl))
        where
          none : (b : Bool) → (b && not (is_named named leaf)) ≡ false
          none true = ap not written
          none false = refl

      -- or one that is
      pub grown_more : (m place' : ℕ) (next : List Inode) (bytes : List ℕ) → m ≡ leaf + 1 → place' ≡ place + 1 → is_inode L leaves leaf ≡ true → is_named named leaf ≡ true
          → leaves leaf ≡ bytes → next ≡ insert now place (inode_of leaf bytes) → GrownSoFar next place' m
      grown_more m place' next bytes is_m is_place is written has is_next =
          one_more m place' next is_m is_place is
          (is_next ∙ ap (λ (b : List ℕ). insert now place (inode_of leaf b)) (sym has) ∙ ap (λ (l : List Inode). insert l place (told leaf)) (now_without written)
          ∙ inserted_here below (told leaf) rest place so_far.at)

      -- which fits in
      pub grown_fits : (bytes : List ℕ) → IsLaid L → Sound L leaves → is_inode L leaves leaf ≡ true → is_named named leaf ≡ true → leaves leaf ≡ bytes → FitsAt now place leaf bytes
      grown_fits bytes laid sound is written has =
          let size = ap length (now_without written) ∙ length_append below rest in
          let one = below_few leaf in
          let two = from_few (leaf + 1) in
          let at = so_far.at in
          let most = laid.most in
          record {
            few = omega (arith, size, one, two, low, most);
            inside = omega (arith, size, at);
            rules = subst (λ (b : List ℕ). is_inode_leaf b ≡ true) has (sound.inode leaf low is).bytes;
            new = subst (λ (b : List ℕ). is_none (inode_with (inode_of leaf b).id now) ≡ true) has (ap (λ (l : List Inode). is_none (inode_with (told leaf).id l)) (now_without written)
                ∙ ap is_none (none_with sound leaf low is));
          }
        where
          length_append : (xs ys : List Inode) → length (xs ++ ys) ≡ length xs + length ys
          length_append [] ys = (let e : length ys ≡ 0 + length ys = omega arith in e)
          length_append (x ∷ xs) ys = (let e = length_append xs ys in omega (arith, e))

pub ok_same : (a b : List Inode) → ◌≡◌ {A = Result (List Inode) StoreAnswer} (Ok a) (Ok b) → a ≡ b
ok_same a b e = cc

-- one leaf more, whatever it is
module _ (L : Layout) (leaves : ℕ → List ℕ) (named : List Leaf) (map' : List Entry) (is : IsMapOf L leaves map') (written : AreWritten named leaves) (now : List Inode) (place leaf : ℕ)
    (so_far : GrownSoFar L leaves named now place leaf) (low : leaf < L.leaves) where
  inode_is : (b : Bool) → ((entries_in map' leaf).kind == INODE) ≡ b → is_inode L leaves leaf ≡ b
  inode_is b e = ap (λ (x : Entry). x.kind == INODE) (sym (is leaf low)) ∙ e

  pub grown_step : (m place' : ℕ) (next : List Inode) (e : Entry) → m ≡ leaf + 1 → e ≡ entries_in map' leaf
      → (comes (entries_in map') named leaf ≡ true → next ≡ insert now place (inode_of leaf (leaf_after named leaf []))) → (comes (entries_in map') named leaf ≢ true → next ≡ now)
      → (e.kind ≡ 1 → place' ≡ place + 1) → ((e.kind ≡ 1 → ⊥) → place' ≡ place) → GrownSoFar L leaves named next place' m
  grown_step m place' next e is_m is_e more same up stay =
      elim ((entries_in map' leaf).kind == INODE) as (λ b. ((entries_in map' leaf).kind == INODE) ≡ b → GrownSoFar L leaves named next place' m) [
        | true ↦ λ t.
            let kind : e.kind ≡ 1 = ap (λ (x : Entry). x.kind) is_e ∙ eqb-true (entries_in map' leaf).kind 1 t in
            elim (is_named named leaf) as (λ b. is_named named leaf ≡ b → GrownSoFar L leaves named next place' m) [
              | true ↦ λ u. grown_more L leaves named now place leaf so_far low m place' next (leaf_after named leaf []) is_m (up kind) (inode_is true t) u (written leaf u) (more (λ i. t i && u i))
              | false ↦ λ u. subst (λ (l : List Inode). GrownSoFar L leaves named l place' m) (sym (same (λ c. true≢false (sym c ∙ (λ i. t i && u i)))))
                  (grown_same L leaves named now place leaf so_far low m place' is_m (up kind) (inode_is true t) u)
            ] refl
        | false ↦ λ t. subst (λ (l : List Inode). GrownSoFar L leaves named l place' m) (sym (same (λ c. true≢false (sym c ∙ ap (λ b. b && is_named named leaf) t))))
            (subst (λ (k : ℕ). GrownSoFar L leaves named now k m) (sym (stay (λ k. eqb-false (entries_in map' leaf).kind 1 t (ap (λ (x : Entry). x.kind) (sym is_e) ∙ k))))
            (grown_past L leaves named now place leaf so_far low m is_m (inode_is false t)))
      ] refl

  -- it is refused for want of memory alone
  pub grown_then : (r : Result (List Inode) StoreAnswer) (why : StoreAnswer) (wanted : List Inode) → IsLaid L → Sound L leaves → r ≡ Err why
      → (comes (entries_in map') named leaf ≢ true → ◌≡◌ {A = Result (List Inode) StoreAnswer} (Err why) (Ok now)) → (why ≡ NoMemory) ⊎ (FitsAt now place leaf (leaf_after named leaf []) → ⊥)
      → AreInodesThen wanted r
  grown_then r why wanted laid sound is_r same refused =
      subst (λ (x : Result (List Inode) StoreAnswer). AreInodesThen wanted x) (sym is_r)
      (elim ((entries_in map' leaf).kind == INODE) as (λ b. ((entries_in map' leaf).kind == INODE) ≡ b → AreInodesThen wanted (Err why)) [
        | true ↦ λ t. elim (is_named named leaf) as (λ b. is_named named leaf ≡ b → AreInodesThen wanted (Err why)) [
          | true ↦ λ u. each refused (grown_fits L leaves named now place leaf so_far low (leaf_after named leaf []) laid sound (inode_is true t) u (written leaf u))
          | false ↦ λ u. never (same (λ c. true≢false (sym c ∙ (λ i. t i && u i))))
        ] refl
        | false ↦ λ t. never (same (λ c. true≢false (sym c ∙ ap (λ b. b && is_named named leaf) t)))
      ] refl)
    where
      never : {A : Type 0} → ◌≡◌ {A = Result (List Inode) StoreAnswer} (Err why) (Ok now) → A
      never e = cc

      each : (why ≡ NoMemory) ⊎ (FitsAt now place leaf (leaf_after named leaf []) → ⊥) → FitsAt now place leaf (leaf_after named leaf []) → AreInodesThen wanted (Err why)
      each (inl memory) fits = subst (λ (w : StoreAnswer). AreInodesThen wanted (Err w)) (sym memory) tt
      each (inr never') fits = absurd (never' fits)

-- what holds of each inode and of one more
pub all_inserted : (P : Inode → Type 0) (xs : List Inode) (place : ℕ) (x : Inode) → All P xs → P x → All P (insert xs place x)
all_inserted P xs place x all one = All-append P (take place xs) (x ∷ drop place xs) (All-take P place xs all) (All-cons P x (drop place xs) one (All-drop P place xs all))

pub number_kept : (L : Layout) (n leaf : ℕ) → n ≡ leaf → leaf < L.leaves → n < L.leaves
number_kept L n leaf is low = omega (arith, is, low)

module _ (L : Layout) (laid : IsLaid L) (named : List Leaf) where
  -- the leaves of a map below one are those after the writing, and from it on as they were
  pub record TakenBelow (old map' : List Entry) (leaf : ℕ) : Type 0 where
    pub done : (leaves : ℕ → List ℕ) → IsMapOf L leaves old → (k : ℕ) → k < leaf → IsMapLeaf L map' k (with_leaves named leaves k)
    pub rest : (i : ℕ) → 256 * leaf ≤ i → entries_in map' i ≡ entries_in old i
    pub inodes : (i : ℕ) → i < L.leaves → (entries_in map' i).inode < L.leaves

  pub none_taken_below : (old : List Entry) → ((i : ℕ) → i < L.leaves → (entries_in old i).inode < L.leaves) → TakenBelow old old 0
  none_taken_below old fit = record { done = λ leaves is k low. absurd (omega (arith, low)); rest = λ i high. refl; inodes = fit }

  module _ (old map' : List Entry) (leaf m : ℕ) (so_far : TakenBelow old map' leaf) (low : leaf < L.map_leaves) (is_m : m ≡ leaf + 1) where
    -- one more leaf is written
    pub taken_below : (next : List Entry) (block : List ℕ) → ((o : List ℕ) → block ≡ leaf_after named leaf o) → IsMapLeaf L next leaf block
        → ((i : ℕ) → i < 256 * leaf → entries_in next i ≡ entries_in map' i) → ((i : ℕ) → 256 * leaf + 256 ≤ i → entries_in next i ≡ entries_in map' i) → TakenBelow old next m
    taken_below next block bytes taken before behind = record {
      done = λ leaves is k less. elim (k == leaf) as (λ b. (k == leaf) ≡ b → IsMapLeaf L next k (with_leaves named leaves k)) [
        | true ↦ λ e. (let same = eqb-true k leaf e in
            subst (λ (j : ℕ). IsMapLeaf L next j (with_leaves named leaves j)) (sym same) (subst (λ (b : List ℕ). IsMapLeaf L next leaf b) (bytes (leaves leaf)) taken))
        | false ↦ λ e. (let other = eqb-false k leaf e in let early : k < leaf = omega (arith, less, is_m, other) in
            λ place inside. so_far.done leaves is k early place inside ∙ sym (before (256 * k + place) (omega (arith, early, inside))))
      ] refl;
      rest = λ i high. behind i (omega (arith, high, is_m)) ∙ so_far.rest i (omega (arith, high, is_m));
      inodes = λ i inside. elim (cases_lt i (256 * leaf)) [
        | inl early ↦ subst (λ (e : Entry). e.inode < L.leaves) (sym (before i early)) (so_far.inodes i inside)
        | inr late ↦ elim (cases_lt i (256 * leaf + 256)) [
          | inl here ↦
              let at : 256 * leaf + (i - 256 * leaf) ≡ i = omega (arith, late) in
              subst (λ (e : Entry). e.inode < L.leaves) (taken (i - 256 * leaf) (omega (arith, late, here)) ∙ ap (λ (j : ℕ). entries_in next j) at) (laid.inode (number_in block (i - 256 * leaf)))
          | inr past ↦ subst (λ (e : Entry). e.inode < L.leaves) (sym (behind i past)) (so_far.inodes i inside)
        ]
      ];
    }

    -- or isn't
    pub passed_below : ((o : List ℕ) → o ≡ leaf_after named leaf o) → TakenBelow old map' m
    passed_below bytes = record {
      done = λ leaves is k less. elim (k == leaf) as (λ b. (k == leaf) ≡ b → IsMapLeaf L map' k (with_leaves named leaves k)) [
        | true ↦ λ e. (let same = eqb-true k leaf e in
            subst (λ (j : ℕ). IsMapLeaf L map' j (with_leaves named leaves j)) (sym same) (subst (λ (b : List ℕ). IsMapLeaf L map' leaf b) (bytes (leaves leaf))
            (λ place inside. mapped_leaf L laid leaves old is leaf low place inside ∙ sym (so_far.rest (256 * leaf + place) (omega arith)))))
        | false ↦ λ e. (let other = eqb-false k leaf e in so_far.done leaves is k (omega (arith, less, is_m, other)))
      ] refl;
      rest = λ i high. so_far.rest i (omega (arith, high, is_m));
      inodes = so_far.inodes;
    }

  pub all_taken : (old map' : List Entry) (leaf : ℕ) → TakenBelow old map' leaf → leaf ≡ L.map_leaves → (leaves : ℕ → List ℕ) → IsMapOf L leaves old → IsMapOf L (with_leaves named leaves) map'
  all_taken old map' leaf so_far all leaves is = mapped_by L laid (with_leaves named leaves) map' (λ k low. so_far.done leaves is k (omega (arith, low, all)))
