-- The least identifier greater than another one.
use Rattle.std.proofs.Common.{◌≡◌, ℕ, Bool, true, false, cond, List, [], ◌∷◌, Option, None, Some, find, refl, sym, ◌∙◌, ap, subst}
use Rattle.std.specs.Prelude.{T, ◌&&◌}
use Rattle.std.specs.declared.cmp.Ordering.{Ordering}
use Rattle.std.specs.declared.cmp.Ordering.TheVariants.{Less, Equal, Greater}
use Rattle.std.specs.Ordering.{is_lt, ordering_reverse}
use Rattle.std.specs.Cmp.{tied_itself}
use Rattle.std.specs.Cmp.Lexicographic.{nat_list_cmp_total}
use Rattle.std.specs.FinMap as finite
use Rattle.std.specs.FinMap.Entries as at_keys
use Rattle.store_api.specs.declared.object.Object.{Object}
use Rattle.store_api.specs.Stores.{is_after}
use Rattle.store_api.proofs.Costs.{by_bytes, tied_same, first, second}

abbrev Entries : Type 0
Entries = List (List ℕ × Object)

less : (r : Ordering) → T (is_lt r) → r ≡ Less
less Less p = refl
less Equal p = absurd p
less Greater p = absurd p

-- the lesser of an entry, where it is one, and the best one so far
abbrev pub merged : Bool → List ℕ → Object → Option (List ℕ × Object) → Option (List ℕ × Object)
merged false k v best = best
merged true k v None = Some (k, v)
merged true k v (Some e) = cond (is_lt (by_bytes e.0 k)) (Some e) (Some (k, v))

pub turned : (x y : List ℕ) (r : Ordering) → by_bytes x y ≡ r → by_bytes y x ≡ ordering_reverse r
turned x y r is = nat_list_cmp_total.antisymm y x ∙ ap ordering_reverse is

-- what is met among entries above a key is above it
met_above : (p : List ℕ → Bool) (k : List ℕ) (es : Entries) (f : List ℕ × Object) → T (at_keys.below_all by_bytes k es) → find (λ e. p e.0) es ≡ Some f → by_bytes k f.0 ≡ Less
met_above p k [] f below is = cc
met_above p k (e ∷ es) f below is =
    elim (p e.0) as (λ b. cond b (Some e) (find (λ x. p x.0) es) ≡ Some f → by_bytes k f.0 ≡ Less) [
      | true ↦ λ i. let same : e ≡ f = cc in subst (λ x. by_bytes k x.0 ≡ Less) same (less _ (first _ _ below))
      | false ↦ λ i. met_above p k es f (second _ _ below) i
    ] is

both : (a b : Bool) → T a → T b → T (a && b)
both true b p q = q
both false b p q = p

below_less : (x y : List ℕ) (es : Entries) → by_bytes x y ≡ Less → T (at_keys.below_all by_bytes y es) → T (at_keys.below_all by_bytes x es)
below_less x y [] p h = tt
below_less x y (e ∷ es) p h =
    both _ _ (subst (λ r. T (is_lt r)) (sym (nat_list_cmp_total.trans x y e.0 p (less _ (first _ _ h)))) tt) (below_less x y es p (second _ _ h))

-- a key below all is lesser than what is met
merged_first : (p : List ℕ → Bool) (k : List ℕ) (v : Object) (es : Entries) (r : Option (List ℕ × Object)) → T (at_keys.below_all by_bytes k es) → find (λ e. p e.0) es ≡ r →
    (b : Bool) → cond b (Some (k, v)) r ≡ merged b k v r
merged_first p k v es r below is false = refl
merged_first p k v es None below is true = refl
merged_first p k v es (Some f) below is true = sym (ap (λ (o : Ordering). cond (is_lt o) (Some f) (Some (k, v))) (turned k f.0 Less (met_above p k es f below is)))

-- an entry is put in the place of the first one
put_tied : (p : List ℕ → Bool) (k : List ℕ) (v : Object) (e : List ℕ × Object) (es : Entries) → by_bytes k e.0 ≡ Equal →
    find (λ x. p x.0) ((e.0, v) ∷ es) ≡ merged (p k) k v (find (λ x. p x.0) (e ∷ es))
put_tied p k v e es is =
    let same : k ≡ e.0 = tied_same k e.0 is in
    subst (λ x. find (λ y. p y.0) ((e.0, v) ∷ es) ≡ merged (p x) x v (find (λ y. p y.0) (e ∷ es))) (sym same)
    (elim (p e.0) as (λ b. cond b (Some (e.0, v)) (find (λ y. p y.0) es) ≡ merged b e.0 v (cond b (Some e) (find (λ y. p y.0) es))) [
      | true ↦ sym (ap (λ (o : Ordering). cond (is_lt o) (Some e) (Some (e.0, v))) (tied_itself nat_list_cmp_total e.0))
      | false ↦ refl
    ])

-- an entry is put behind the first one
put_after : (p : List ℕ → Bool) → ((x y : List ℕ) → p x ≡ true → by_bytes x y ≡ Less → p y ≡ true) →
    (k : List ℕ) (v : Object) (e : List ℕ × Object) (rest put : Option (List ℕ × Object)) → by_bytes k e.0 ≡ Greater
    → put ≡ merged (p k) k v rest → cond (p e.0) (Some e) put ≡ merged (p k) k v (cond (p e.0) (Some e) rest)
put_after p upward k v e rest put is same =
    let back : by_bytes e.0 k ≡ Less = turned k e.0 Greater is in
    elim (p e.0) as (λ b. p e.0 ≡ b → cond b (Some e) put ≡ merged (p k) k v (cond b (Some e) rest)) [
      | true ↦ λ t. sym (ap (λ b. merged b k v (Some e)) (upward e.0 k t back) ∙ ap (λ (o : Ordering). cond (is_lt o) (Some e) (Some (k, v))) back)
      | false ↦ λ t. same
    ] refl

-- where what comes after what passes, passes: the first entry that passes, after one more is put
pub find_put : (p : List ℕ → Bool) → ((x y : List ℕ) → p x ≡ true → by_bytes x y ≡ Less → p y ≡ true) → (k : List ℕ) (v : Object) (es : Entries) → T (finite.is_sorted by_bytes es)
    → find (λ e. p e.0) (finite.put by_bytes k v es) ≡ merged (p k) k v (find (λ e. p e.0) es)
find_put p upward k v [] sorted = elim (p k) as (λ b. cond b (Some (k, v)) None ≡ merged b k v None) [ true ↦ refl | false ↦ refl ]
find_put p upward k v (e ∷ es) sorted =
    let rest = find_put p upward k v es (second _ _ sorted) in
    elim (by_bytes k e.0) as (λ r. by_bytes k e.0 ≡ r → find (λ x. p x.0) (at_keys.by_order r ((k, v) ∷ e ∷ es) ((e.0, v) ∷ es) (e ∷ finite.put by_bytes k v es)) ≡ merged (p k) k v
    (find (λ x. p x.0) (e ∷ es))) [
      | Less ↦ λ is. merged_first p k v (e ∷ es) (find (λ x. p x.0) (e ∷ es)) (both _ _ (subst (λ r. T (is_lt r)) (sym is) tt) (below_less k e.0 es is (first _ _ sorted))) refl (p k)
      | Equal ↦ λ is. put_tied p k v e es is
      | Greater ↦ λ is. put_after p upward k v e (find (λ x. p x.0) es) (find (λ x. p x.0) (finite.put by_bytes k v es)) is rest
    ] refl

-- what comes after an identifier that comes after the last one does so too
pub after_upward : (last : Option (List ℕ)) (x y : List ℕ) → is_after last x ≡ true → by_bytes x y ≡ Less → is_after last y ≡ true
after_upward None x y is less' = refl
after_upward (Some last) x y is less' = ap is_lt (nat_list_cmp_total.trans last x y (less _ (subst T (sym is) tt)) less')
