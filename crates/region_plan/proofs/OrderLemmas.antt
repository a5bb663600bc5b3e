-- Inodes in the order of their identifiers, and what is found by it.
use Rattle.std.proofs.Common.{◌≡◌, ◌≢◌, ◌<◌, ◌≤◌, ◌⊎◌, inl, inr, ℕ, zero, suc, true, false, cond, not, List, [], ◌∷◌, length, get_or, Option, None, Some, option_copied, Bor}
use Rattle.std.proofs.Common.{Result, Ok, Err, IfOk, IfErr, refl, sym, ◌∙◌, ap, subst, arith}
use Rattle.std.specs.Prelude.{◌||◌, nat_lt, is_none, IfSome}
use Rattle.std.specs.declared.cmp.Ordering.{Ordering}
use Rattle.std.specs.declared.cmp.Ordering.TheVariants.{Less, Equal, Greater}
use Rattle.std.specs.Ordering.{ordering_index}
use Rattle.std.specs.Cmp.{tied_itself}
use Rattle.std.specs.Cmp.Lexicographic.{nat_list_cmp_total}
use Rattle.std.specs.List.{All, list_any, slice_get}
use Rattle.std.specs.List.Sorted.{IsBinarySearchResult, IsNonDecreasingBy, IsSearchInRange}
use Rattle.std.specs.Slice.{IsItemAt}
use Rattle.std.specs.Str.{bytes_eq}
use Rattle.std.proofs.Math.Nat.{eq-or-lt_of_le}
use Rattle.std.proofs.lemmas.Bool.{cases_lt}
use Rattle.std.proofs.lemmas.Bool.Decides.{nat_tests}
use Rattle.std.proofs.lemmas.Grind.{get_or_default_zero}
use Rattle.std.proofs.lemmas.List.Sorted.{IsNonDecreasingBy-from_default}
use Rattle.std.proofs.lemmas.Option.{get_or_from_slice_get, slice_get_past, slice_get_read}
use Rattle.std.proofs.lemmas.Slice.Eq.{bytes_eq-Decides}
use Rattle.store_api.proofs.Costs.{by_bytes, tied_same}
use Rattle.region_plan.specs.Orders.{IsOrder, IsLess, StandsAt, WouldStandAt, id_at, ordered_id, place_at}
use Rattle.region_plan.specs.Tables.{inode_with}
use Rattle.region_plan.specs.declared.inode.Inode.{Inode}
use Rattle.region_plan.proofs.NextLemmas.{turned}

-- the item of a list that was lent
pub lent_is : {X : Type 0} (xs : List X) (i : ℕ) (r : Option (Bor X)) → IsItemAt xs i r → option_copied r ≡ slice_get xs i
lent_is xs i None is = sym (slice_get_past xs i (let none : false ≡ nat_lt i (length xs) = is.0 in grind (arith, nat_tests)))
lent_is xs i (Some b) is = sym (slice_get_read xs (length xs) i b.now refl (let some' : true ≡ nat_lt i (length xs) = is.0 in grind (arith, nat_tests)) is.1)

-- two numbers, compared
pub compared : (m n : ℕ) → (m < n) ⊎ ((m ≡ n) ⊎ (n < m))
compared m n = elim (cases_lt m n) [
  | inl less ↦ inl less
  | inr high ↦ elim (eq-or-lt_of_le high) [ inl same ↦ inr (inl (sym same)) | inr more ↦ inr (inr more) ]
]

-- a place that was read
pub placed_is : (order : List ℕ) (n place : ℕ) → n < length order → place ≡ get_or order n place → place ≡ place_at order n
placed_is order n place low is = is ∙ get_or_default_zero order n place low

-- nothing is less than itself
pub never_less : (id : List ℕ) → IsLess id id → ⊥
never_less id less = (let tied : by_bytes id id ≡ Equal = tied_itself nat_list_cmp_total id in let both : Less ≡ Equal = sym less ∙ tied in cc)

-- comparisons with an identifier rise where what is compared does
rising : (a b id : List ℕ) → IsLess a b → (s : Ordering) → by_bytes b id ≡ s → ordering_index (by_bytes a id) ≤ ordering_index s
rising a b id less Less is = subst (λ (r : Ordering). ordering_index r ≤ 0) (sym (nat_list_cmp_total.trans a b id less is)) (omega arith)
rising a b id less Equal is = subst (λ (c : List ℕ). ordering_index (by_bytes a c) ≤ 1) (tied_same b id is) (subst (λ (r : Ordering). ordering_index r ≤ 1) (sym less) (omega arith))
rising a b id less Greater is = at_most (by_bytes a id)
  where
    at_most : (r : Ordering) → ordering_index r ≤ 2
    at_most Less = omega arith
    at_most Equal = omega arith
    at_most Greater = omega arith

module _ (inodes : List Inode) (order : List ℕ) (is : IsOrder inodes order) (id : List ℕ) where
  rises : IsNonDecreasingBy (λ place. ordering_index (by_bytes (id_at inodes place) id)) order
  rises = IsNonDecreasingBy-from_default (λ place. ordering_index (by_bytes (id_at inodes place) id)) order 0 (λ i j le in_range.
      elim (compared i j) [
        | inl less ↦ rising _ _ id (is.ascending i j less in_range) _ refl
        | inr (inl same) ↦ subst (λ (n : ℕ). ordering_index (by_bytes (ordered_id inodes order i) id) ≤ ordering_index (by_bytes (ordered_id inodes order n) id)) same (omega arith)
        | inr (inr more) ↦ absurd (omega (arith, le, more))
      ])

  -- what a binary search among the identifiers finds
  pub searched : (r : Result ℕ ℕ) → IsSearchInRange r (length order) → IsBinarySearchResult (λ place. by_bytes (id_at inodes place) id) order r →
      record { found : IfOk r (λ n. StandsAt inodes order id n); absent : IfErr r (λ n. WouldStandAt inodes order id n) }
  searched (Ok n) inside equal = record { found = record { inside = inside; is = tied_same _ _ (equal 0) }; absent = tt }
  searched (Err n) inside parted = record {
    found = tt;
    absent = record {
      inside = inside;
      before = λ m low. (parted rises).0 m 0 (omega arith) low;
      behind = λ m high low. turned (ordered_id inodes order m) id Greater ((parted rises).1 m 0 high low);
    };
  }

  -- an identifier that would stand somewhere is that of no inode
  pub absent_among : (n : ℕ) → WouldStandAt inodes order id n → (place : ℕ) → place < length inodes → id_at inodes place ≢ id
  absent_among n gap place low same =
      let at = is.each place low in
      let here : ordered_id inodes order at.0 ≡ id = ap (id_at inodes) at.2 ∙ same in
      elim (cases_lt at.0 n) [
        | inl less ↦ never_less id (subst (λ (x : List ℕ). IsLess x id) here (gap.before at.0 less))
        | inr high ↦ never_less id (subst (λ (x : List ℕ). IsLess id x) here (gap.behind at.0 high at.1))
      ]

  -- no other inode has the identifier of an inode
  pub alone_among : (n : ℕ) → StandsAt inodes order id n → (place : ℕ) → place < length inodes → id_at inodes place ≡ id → place ≡ place_at order n
  alone_among n stands place low same =
      let at = is.each place low in
      let here : ordered_id inodes order at.0 ≡ ordered_id inodes order n = ap (id_at inodes) at.2 ∙ same ∙ sym stands.is in
      elim (compared at.0 n) [
        | inl less ↦ absurd (never_less (ordered_id inodes order n) (subst (λ (x : List ℕ). IsLess x (ordered_id inodes order n)) here (is.ascending at.0 n less stands.inside)))
        | inr (inl one) ↦ sym at.2 ∙ ap (place_at order) one
        | inr (inr more) ↦ absurd (never_less (ordered_id inodes order n) (subst (λ (x : List ℕ). IsLess (ordered_id inodes order n) x) here (is.ascending n at.0 more at.1)))
      ]

-- an inode of a list
pub missing : (inodes : List Inode) (k : ℕ) → k < length inodes → slice_get inodes k ≡ None → ⊥
missing [] k low none = omega (arith, low)
missing (x ∷ xs) zero low none = cc
missing (x ∷ xs) (suc k) low none = missing xs k (omega (arith, low)) none

pub id_got : (inodes : List Inode) (k : ℕ) (x : Inode) → slice_get inodes k ≡ Some x → id_at inodes k ≡ x.id
id_got [] k x is = absurd (let e : None ≡ Some x = is in cc)
id_got (y ∷ ys) zero x is = (let e : Some y ≡ Some x = is in let same : y ≡ x = cc in ap (λ (i : Inode). i.id) same)
id_got (y ∷ ys) (suc k) x is = id_got ys k x is

pub got_within : (P : Inode → Type 0) (inodes : List Inode) (k : ℕ) (x : Inode) → All P inodes → k < length inodes → slice_get inodes k ≡ Some x → P x
got_within P inodes k x all low is = subst P (get_or_from_slice_get inodes k x x is) (all k x low)

-- a look-up where no inode has the identifier
pub with_none : (inodes : List Inode) (id : List ℕ) → ((place : ℕ) → place < length inodes → id_at inodes place ≢ id) → inode_with id inodes ≡ None
with_none [] id none = refl
with_none (x ∷ xs) id none =
    elim (bytes_eq x.id id) as (λ b. bytes_eq x.id id ≡ b → cond b (Some x) (inode_with id xs) ≡ None) [
      | true ↦ λ t. absurd (none 0 (omega arith) ((bytes_eq-Decides x.id id).0 t))
      | false ↦ λ f. with_none xs id (λ place low. none (suc place) (omega (arith, low)))
    ] refl

-- and where one alone has it
pub with_one : (inodes : List Inode) (id : List ℕ) (k : ℕ) → k < length inodes → id_at inodes k ≡ id → ((place : ℕ) → place < length inodes → id_at inodes place ≡ id → place ≡ k) →
    inode_with id inodes ≡ slice_get inodes k
with_one [] id k low is alone = absurd (omega (arith, low))
with_one (x ∷ xs) id zero low is alone = ap (λ b. cond b (Some x) (inode_with id xs)) ((bytes_eq-Decides x.id id).1 is)
with_one (x ∷ xs) id (suc k) low is alone =
    elim (bytes_eq x.id id) as (λ b. bytes_eq x.id id ≡ b → cond b (Some x) (inode_with id xs) ≡ slice_get xs k) [
      | true ↦ λ t. absurd (let zero_is : 0 ≡ suc k = alone 0 (omega arith) ((bytes_eq-Decides x.id id).0 t) in omega (arith, zero_is))
      | false ↦ λ f. with_one xs id k (omega (arith, low)) is (λ place below same. (let one = alone (suc place) (omega (arith, below)) same in omega (arith, one)))
    ] refl

-- what was looked up is an inode of the list
pub found_among : (inodes : List Inode) (id : List ℕ) (x : Inode) → inode_with id inodes ≡ Some x → (k : ℕ) × (k < length inodes) × (slice_get inodes k ≡ Some x)
found_among [] id x is = absurd (let e : None ≡ Some x = is in cc)
found_among (y ∷ ys) id x is =
    elim (bytes_eq y.id id) as (λ b. cond b (Some y) (inode_with id ys) ≡ Some x → (k : ℕ) × (k < length (y ∷ ys)) × (slice_get (y ∷ ys) k ≡ Some x)) [
      | true ↦ λ e. (0, omega arith, e)
      | false ↦ λ e. let rest = found_among ys id x e in (suc rest.0, (let low = rest.1 in omega (arith, low)), rest.2)
    ] is

-- an identifier that stands somewhere is that of an inode
pub stands_among : (inodes : List Inode) (order : List ℕ) → IsOrder inodes order → (id : List ℕ) (n : ℕ) → StandsAt inodes order id n → is_none (inode_with id inodes) ≡ false
stands_among inodes order is id n stands = some_is (inode_with id inodes) (λ none. missing inodes (place_at order n) (is.inside n stands.inside)
    (sym (with_one inodes id (place_at order n) (is.inside n stands.inside) stands.is (alone_among inodes order is id n stands)) ∙ none))
  where
    some_is : (r : Option Inode) → (r ≡ None → ⊥) → is_none r ≡ false
    some_is None never = absurd (never refl)
    some_is (Some x) never = refl

-- what is found of an identifier where it stands, and where it doesn't, in a list that is this one
pub standing_is : (inodes : List Inode) (order : List ℕ) → IsOrder inodes order → (id : List ℕ) (n place : ℕ) (r : Option (Bor Inode)) → StandsAt inodes order id n →
    place ≡ place_at order n → IsItemAt inodes place r → option_copied r ≡ inode_with id inodes
standing_is inodes order is id n place r stands here lent =
    lent_is inodes place r lent ∙ ap (slice_get inodes) here
    ∙ sym (with_one inodes id (place_at order n) (is.inside n stands.inside) stands.is (alone_among inodes order is id n stands))

pub absent_is : (inodes : List Inode) (order : List ℕ) → IsOrder inodes order → (id : List ℕ) (n : ℕ) → WouldStandAt inodes order id n → inode_with id inodes ≡ None
absent_is inodes order is id n gap = with_none inodes id (absent_among inodes order is id n gap)

-- what was found is within what holds of each
pub found_within : (P : Inode → Type 0) (id : List ℕ) (inodes : List Inode) (r : Option (Bor Inode)) → All P inodes → option_copied r ≡ inode_with id inodes → IfSome r (λ inode. P inode.now)
found_within P id inodes None all is = tt
found_within P id inodes (Some b) all is = (let at = found_among inodes id b.now (sym is) in got_within P inodes at.0 b.now all at.1 at.2)

-- to find none is to have none
pub none_is : (id : List ℕ) (inodes : List Inode) → not (list_any (λ inode. bytes_eq inode.id id) inodes) ≡ is_none (inode_with id inodes)
none_is id [] = refl
none_is id (x ∷ xs) =
    elim (bytes_eq x.id id) as (λ b. not (b || list_any (λ inode. bytes_eq inode.id id) xs) ≡ is_none (cond b (Some x) (inode_with id xs))) [ true ↦ refl | false ↦ none_is id xs ]
