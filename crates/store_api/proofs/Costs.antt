-- What stores cost, and that they stay within their limits.
use Rattle.std.proofs.Common.{◌≡◌, ℕ, ◌+◌, ◌-◌, ◌≤◌, Bool, true, false, cond, not, List, [], ◌∷◌, length, map, None, Some, refl, sym, ◌∙◌, ap, subst, arith}
use Rattle.std.specs.Prelude.{T, ◌&&◌}
use Rattle.std.specs.List.{sum_by}
use Rattle.std.proofs.lemmas.List.Sums.{sum_by-cons}
use Rattle.std.specs.declared.cmp.Ordering.{Ordering}
use Rattle.std.specs.declared.cmp.Ordering.TheVariants.{Less, Equal, Greater}
use Rattle.std.specs.Ordering.{nat_cmp, is_eq, is_lt, eq_by_cmp}
use Rattle.std.specs.Cmp.{eq_by_cmp_equiv}
use Rattle.std.specs.Cmp.Lexicographic.{slice_cmp, nat_list_cmp_total}
use Rattle.std.specs.FinMap as finite
use Rattle.std.specs.FinMap.Entries as at_keys
use Rattle.store_api.specs.declared.object.Object.{Object}
use Rattle.store_api.specs.Stores.{Store, object_at, blocks_for, cost, quota}
use Rattle.store_api.specs.Objects.{blocks_at}
use Rattle.store_api.specs.Limits.{IsIdentifier, IsWithinLimits}

abbrev pub by_bytes : List ℕ → List ℕ → Ordering
by_bytes = slice_cmp nat_cmp

-- only equal identifiers tie
pub tied_same : (x y : List ℕ) → by_bytes x y ≡ Equal → x ≡ y
tied_same = finite.slice_cmp-IsAntisymmetric finite.nat_cmp-IsAntisymmetric

abbrev pub Entries : Type 0
Entries = List (List ℕ × Object)

-- the entries of the other identifiers
abbrev pub others : List ℕ → Entries → Entries
others k es = at_keys.where_key by_bytes (λ x. not (eq_by_cmp by_bytes k x)) es

abbrev pub blocks : Object → ℕ
blocks o = blocks_for (length o.content)

abbrev pub cost_of : Entries → ℕ
cost_of [] = 0
cost_of (e ∷ es) = blocks e.1 + cost_of es

cost_is : (es : Entries) → sum_by (λ o. blocks_for (length o.content)) (map (λ e. e.1) es) ≡ cost_of es
cost_is [] = refl
cost_is (e ∷ es) = sum_by-cons blocks e.1 (map (λ x. x.1) es) ∙ ap (λ n. blocks e.1 + n) (cost_is es)

both : (a b : Bool) → T a → T b → T (a && b)
both true b p q = q
both false b p q = p

pub first : (a b : Bool) → T (a && b) → T a
first true b p = tt
first false b p = p

pub second : (a b : Bool) → T (a && b) → T b
second true b p = p
second false b p = absurd p

less : (r : Ordering) → T (is_lt r) → r ≡ Less
less Less p = refl
less Equal p = absurd p
less Greater p = absurd p

pub equal : (r : Ordering) → is_eq r ≡ true → r ≡ Equal
equal Less p = cc
equal Equal p = refl
equal Greater p = cc

turned : {A : Type 0} (b : Bool) (x y : A) → cond (not b) x y ≡ cond b y x
turned true x y = refl
turned false x y = refl

-- what is below all entries is none of them
pub keeps : (k : List ℕ) (es : Entries) → T (at_keys.below_all by_bytes k es) → others k es ≡ es
keeps k [] h = refl
keeps k (e ∷ es) h =
    elim (by_bytes k e.0) as (λ r. T (is_lt r && at_keys.below_all by_bytes k es) → cond (not (is_eq r)) (e ∷ others k es) (others k es) ≡ e ∷ es) [
      | Less ↦ λ b. ap (λ (l : Entries). e ∷ l) (keeps k es b)
      | Equal ↦ λ b. absurd b
      | Greater ↦ λ b. absurd b
    ] h

below_less : (x y : List ℕ) (es : Entries) → by_bytes x y ≡ Less → T (at_keys.below_all by_bytes y es) → T (at_keys.below_all by_bytes x es)
below_less x y [] p h = tt
below_less x y (e ∷ es) p h =
    both _ _ (subst (λ r. T (is_lt r)) (sym (nat_list_cmp_total.trans x y e.0 p (less _ (first _ _ h)))) tt) (below_less x y es p (second _ _ h))

pub below_tied : (x y : List ℕ) (es : Entries) → by_bytes x y ≡ Equal → T (at_keys.below_all by_bytes y es) → T (at_keys.below_all by_bytes x es)
below_tied x y es p h = subst (λ z. T (at_keys.below_all by_bytes z es)) (sym (tied_same x y p)) h

later : (e p v o : ℕ) → p ≡ v + o → e + p ≡ v + (e + o)
later e p v o is = omega arith

later_without : (e w x c : ℕ) → w + x ≡ c → (e + w) + x ≡ e + c
later_without e w x c is = omega arith

swapped : (a b : ℕ) → a + b ≡ b + a
swapped a b = omega arith

-- an entry in its place costs what it costs beside the others
cost_of-put : (k : List ℕ) (v : Object) (es : Entries) → T (finite.is_sorted by_bytes es) → cost_of (finite.put by_bytes k v es) ≡ blocks v + cost_of (others k es)
cost_of-put k v [] h = refl
cost_of-put k v (e ∷ es) h =
    elim (by_bytes k e.0) as (λ r. by_bytes k e.0 ≡ r → cost_of (at_keys.by_order r ((k, v) ∷ e ∷ es) ((e.0, v) ∷ es) (e ∷ finite.put by_bytes k v es)) ≡ blocks v + cost_of
    (cond (not (is_eq r)) (e ∷ others k es) (others k es))) [
      | Less ↦ λ p. ap (λ (l : Entries). blocks v + (blocks e.1 + cost_of l)) (sym (keeps k es (below_less k e.0 es p (first _ _ h))))
      | Equal ↦ λ p. ap (λ (l : Entries). blocks v + cost_of l) (sym (keeps k es (below_tied k e.0 es p (first _ _ h))))
      | Greater ↦ λ p. later (blocks e.1) _ (blocks v) _ (cost_of-put k v es (second _ _ h))
    ] refl

-- the others cost what is left
cost_of-others : (k : List ℕ) (es : Entries) → T (finite.is_sorted by_bytes es) → cost_of (others k es) + blocks_at (finite.find by_bytes k es) ≡ cost_of es
cost_of-others k [] h = refl
cost_of-others k (e ∷ es) h =
    elim (is_eq (by_bytes k e.0)) as (λ b. is_eq (by_bytes k e.0) ≡ b → cost_of (cond (not b) (e ∷ others k es) (others k es)) + blocks_at
    (cond b (Some e.1) (finite.find by_bytes k es)) ≡ blocks e.1 + cost_of es) [
      | true ↦ λ t. ap (λ (l : Entries). cost_of l + blocks e.1) (keeps k es (below_tied k e.0 es (equal _ t) (first _ _ h))) ∙ swapped (cost_of es) (blocks e.1)
      | false ↦ λ t. later_without (blocks e.1) (cost_of (others k es)) _ (cost_of es) (cost_of-others k es (second _ _ h))
    ] refl

-- what is found among the others
find-others : (k q : List ℕ) (es : Entries) → finite.find by_bytes q (others k es) ≡ cond (eq_by_cmp by_bytes q k) None (finite.find by_bytes q es)
find-others k q es =
    at_keys.find-where_key by_bytes (λ x. not (eq_by_cmp by_bytes k x)) q (λ x t. ap (λ z. not (eq_by_cmp by_bytes k z)) (sym (tied_same q x t))) es
    ∙ turned (eq_by_cmp by_bytes k q) (finite.find by_bytes q es) None
    ∙ ap (λ b. cond b None (finite.find by_bytes q es)) ((eq_by_cmp_equiv nat_list_cmp_total).symm k q)

pub entries-remove : (m : Store) (k : List ℕ) → finite.entries (finite.remove m k) ≡ others k (finite.entries m)
entries-remove m k =
    at_keys.same_entries by_bytes nat_list_cmp_total tied_same (finite.entries (finite.remove m k)) (others k (finite.entries m))
    (finite.entries_sorted (finite.remove m k)) (at_keys.is_sorted-where_key by_bytes _ (finite.entries m) (finite.entries_sorted m))
    (λ q. sym (finite.get-entries (finite.remove m k) q) ∙ finite.get-remove nat_list_cmp_total m k q ∙ ap (cond (eq_by_cmp by_bytes q k) None) (finite.get-entries m q)
    ∙ sym (find-others k q (finite.entries m)))

-- an object costs what it costs beside the others
pub cost-insert : (m : Store) (k : List ℕ) (v : Object) → cost (finite.insert m k v) ≡ blocks v + cost (finite.remove m k)
cost-insert m k v =
    cost_is (finite.entries (finite.insert m k v)) ∙ ap cost_of (finite.entries-insert nat_list_cmp_total m k v) ∙ cost_of-put k v (finite.entries m) (finite.entries_sorted m)
    ∙ ap (λ (l : Entries). blocks v + cost_of l) (sym (entries-remove m k)) ∙ ap (λ n. blocks v + n) (sym (cost_is (finite.entries (finite.remove m k))))

-- the others cost what is left
pub cost-remove : (m : Store) (k : List ℕ) → cost (finite.remove m k) + blocks_at (object_at m k) ≡ cost m
cost-remove m k =
    ap (λ n. n + blocks_at (object_at m k)) (cost_is (finite.entries (finite.remove m k)))
    ∙ ap (λ (l : Entries). cost_of l + blocks_at (object_at m k)) (entries-remove m k) ∙ ap (λ o. cost_of (others k (finite.entries m)) + blocks_at o) (finite.get-entries m k)
    ∙ cost_of-others k (finite.entries m) (finite.entries_sorted m) ∙ sym (cost_is (finite.entries m))

-- no object costs more than all
pub blocks_at_most : (m : Store) (k : List ℕ) (o : Object) → object_at m k ≡ Some o → blocks o ≤ cost m
blocks_at_most m k o is = let left = cost-remove m k in let own : blocks_at (object_at m k) ≡ blocks o = ap blocks_at is in omega (arith, left, own)

-- what holds of an object and its identifier where it is put, and of those that were there, holds of all
pub inserted : (P : List ℕ → Object → Type 0) (m : Store) (k : List ℕ) (v : Object) → P k v → ((q : List ℕ) (o : Object) → object_at m q ≡ Some o → P q o) →
    (q : List ℕ) (o : Object) → object_at (finite.insert m k v) q ≡ Some o → P q o
inserted P m k v here there q o is =
    let got : cond (eq_by_cmp by_bytes q k) (Some v) (object_at m q) ≡ Some o = sym (finite.get-insert nat_list_cmp_total m k v q) ∙ is in
    elim (eq_by_cmp by_bytes q k) as (λ b. eq_by_cmp by_bytes q k ≡ b → cond b (Some v) (object_at m q) ≡ Some o → P q o) [
      | true ↦ λ t e. let same : v ≡ o = cc in subst (λ x. P q x) same (subst (λ x. P x v) (sym (tied_same q k (equal _ t))) here)
      | false ↦ λ t e. there q o e
    ] refl got

pub removed : (P : List ℕ → Object → Type 0) (m : Store) (k : List ℕ) → ((q : List ℕ) (o : Object) → object_at m q ≡ Some o → P q o) → (q : List ℕ) (o : Object) →
    object_at (finite.remove m k) q ≡ Some o → P q o
removed P m k there q o is =
    let got : cond (eq_by_cmp by_bytes q k) None (object_at m q) ≡ Some o = sym (finite.get-remove nat_list_cmp_total m k q) ∙ is in
    elim (eq_by_cmp by_bytes q k) as (λ b. cond b None (object_at m q) ≡ Some o → P q o) [
      | true ↦ λ e. cc
      | false ↦ λ e. there q o e
    ] got

pub limits-insert : (m : Store) (k : List ℕ) (v : Object) → IsWithinLimits m → IsIdentifier k → length v.secret ≤ 128 → cost (finite.insert m k v) ≤ quota → IsWithinLimits (finite.insert m k v)
limits-insert m k v limits named short paid = record {
  paid = paid;
  identifiers = inserted (λ q o. IsIdentifier q) m k v named limits.identifiers;
  secrets = inserted (λ q o. length o.secret ≤ 128) m k v short limits.secrets;
}

pub limits-remove : (m : Store) (k : List ℕ) → IsWithinLimits m → IsWithinLimits (finite.remove m k)
limits-remove m k limits = record {
  paid = let left = cost-remove m k in omega (arith, left, limits.paid);
  identifiers = removed (λ q o. IsIdentifier q) m k limits.identifiers;
  secrets = removed (λ q o. length o.secret ≤ 128) m k limits.secrets;
}

pub cost_at_most : (m : Store) (k : List ℕ) → blocks_at (object_at m k) ≤ cost m
cost_at_most m k = let left = cost-remove m k in omega (arith, left)

-- what all cost once an object is put, in place of the one that was there
pub cost_after : (m : Store) (k : List ℕ) (o : Object) → cost m - blocks_at (object_at m k) + blocks o ≡ cost (finite.insert m k o)
cost_after m k o = let new = cost-insert m k o in let left = cost-remove m k in omega (arith, new, left)

either_way : {A : Type 0} (b : Bool) (x : A) → cond b x x ≡ x
either_way true x = refl
either_way false x = refl

-- to move an object costs nothing
cost-moved : (m : Store) (k to : List ℕ) (v : Object) → object_at m to ≡ None → object_at m k ≡ Some v → cost (finite.remove (finite.insert m to v) k) ≡ cost m
cost-moved m k to v absent here =
    let put = cost-insert m to v in
    let beside = cost-remove m to in
    let nothing : blocks_at (object_at m to) ≡ 0 = ap blocks_at absent in
    let left = cost-remove (finite.insert m to v) k in
    let found : object_at (finite.insert m to v) k ≡ Some v =
    finite.get-insert nat_list_cmp_total m to v k ∙ ap (cond (eq_by_cmp by_bytes k to) (Some v)) here ∙ either_way (eq_by_cmp by_bytes k to) (Some v) in
    let own : blocks_at (object_at (finite.insert m to v) k) ≡ blocks v = ap blocks_at found in
    omega (arith, put, beside, nothing, left, own)

pub limits-moved : (m : Store) (k to : List ℕ) (v : Object) → IsWithinLimits m → IsIdentifier to → object_at m to ≡ None → object_at m k ≡ Some v →
    (cost (finite.remove (finite.insert m to v) k) ≡ cost m) × IsWithinLimits (finite.remove (finite.insert m to v) k)
limits-moved m k to v limits named absent here = (
  cost-moved m k to v absent here,
  record {
    paid = let same = cost-moved m k to v absent here in omega (arith, same, limits.paid);
    identifiers = removed (λ q o. IsIdentifier q) (finite.insert m to v) k (inserted (λ q o. IsIdentifier q) m to v named limits.identifiers);
    secrets = removed (λ q o. length o.secret ≤ 128) (finite.insert m to v) k (inserted (λ q o. length o.secret ≤ 128) m to v (limits.secrets k v here) limits.secrets);
  },
)
