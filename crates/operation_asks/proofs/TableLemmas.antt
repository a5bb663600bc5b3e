-- Values that are operations, one by one: what is found, counted, changed, added and taken out of the one is of the other.
use Rattle.std.proofs.Common.{◌≡◌, ◌<◌, ℕ, zero, suc, Bool, true, false, not, cond, List, None, Some, [], ◌∷◌, ◌++◌, length, get_or}
use Rattle.std.proofs.Common.{set, filter, map, position, nat_lt, count_by, refl, sym, ap, subst, ◌∙◌, ⊎_elim, arith}
use Rattle.std.specs.List.{position_or_len}
use Rattle.std.proofs.lemmas.Bool.{cases_Bool, cond-true, ltb-false}
use Rattle.std.proofs.lemmas.List.Quantifiers.{position-Some}
use Rattle.std.proofs.lemmas.List.Sums.{sum_by-cons, fails_before_first}
use Rattle.crypto_ops.specs.declared.operation.Operation.{Operation}
use Rattle.crypto_ops.specs.Operations.{CryptoOperation}
use Rattle.crypto_ops.specs.Represents.{Represents}
use Rattle.operation_asks.specs.declared.table.Entry.{Entry}
use Rattle.operation_asks.specs.Table.{NumberedOperation, is_at, is_of, operation_at, with_changed}
use Rattle.operation_asks.specs.Represents.{IsEntry, AreOperations, has_number, has_instance}

same_number : (i n : ℕ) (v : Entry) (o : NumberedOperation) → IsEntry v o → has_number i n v ≡ is_at i n o
same_number i n v o e = rw (e.instance_is, e.number_is) refl

same_instance : (i : ℕ) (v : Entry) (o : NumberedOperation) → IsEntry v o → has_instance i v ≡ is_of i o
same_instance i v o e = rw e.instance_is refl

-- ---- one of them

-- the value at this place is the instance's operation of this number, and can be changed with it
pub record Slot (i n : ℕ) (values : List Entry) (os : List NumberedOperation) (k : ℕ) (v : Entry) : Type 0 where
  pub operation : CryptoOperation
  pub found : operation_at os i n ≡ Some operation
  pub means : Represents v.operation operation
  pub at_place : (d : NumberedOperation) → operation ≡ (get_or os k d).operation
  pub keep : (w : Operation) → Represents w operation → AreOperations (set values k (record v { operation = w })) os
  pub put : (w : Operation) (p : CryptoOperation) → Represents w p → AreOperations (set values k (record v { operation = w })) (with_changed i n p os)

pub slot_at : (i n : ℕ) (values : List Entry) (os : List NumberedOperation) (k : ℕ) (d : Entry)
    → AreOperations values os → k < length values → has_number i n (get_or values k d) ≡ true
    → ((j : ℕ) → j < k → has_number i n (get_or values j d) ≡ false)
    → Slot i n values os k (get_or values k d)
slot_at i n [] os k d are inside here before = absurd (omega (arith, inside))
slot_at i n (v ∷ vs) [] k d are inside here before = absurd are
slot_at i n (v ∷ vs) (o ∷ os) zero d are inside here before =
    let yes : is_at i n o ≡ true = sym (same_number i n v o are.0) ∙ here in
    record {
      operation = o.operation;
      found = rw yes refl;
      means = are.0.operation_is;
      at_place = λ d. refl;
      keep = λ w r. (record { instance_is = are.0.instance_is; number_is = are.0.number_is; operation_is = r }, are.1);
      put = λ w p r. rw yes (record { instance_is = are.0.instance_is; number_is = are.0.number_is; operation_is = r }, are.1);
    }
slot_at i n (v ∷ vs) (o ∷ os) (suc k) d are inside here before =
    let no : is_at i n o ≡ false = sym (same_number i n v o are.0) ∙ before zero (omega arith) in
    let rest : Slot i n vs os k (get_or vs k d) = slot_at i n vs os k d are.1 (omega (arith, inside)) here (λ j lt. before (suc j) (omega (arith, lt))) in
    record {
      operation = rest.operation;
      found = rw no rest.found;
      means = rest.means;
      at_place = rest.at_place;
      keep = λ w r. (are.0, rest.keep w r);
      put = λ w p r. rw no (are.0, rest.put w p r);
    }

pub slot : (i n : ℕ) (values ys : List Entry) (os : List NumberedOperation) (k : ℕ) (v : Entry)
    → AreOperations values os → Some k ≡ position (has_number i n) ys → ys ≡ values → v ≡ get_or values k v
    → Slot i n values os k v
slot i n values ys os k v are at same read =
    let found = position-Some (has_number i n) values k v (ap (position (has_number i n)) (sym same) ∙ sym at) in
    subst (λ (x : Entry). Slot i n values os k x) (sym read) (slot_at i n values os k v are found.0 found.1 found.2)

pub some_none : {X : Type 0} (x : X) → Some x ≡ None → ⊥
some_none x e = cc

-- the operation at that place, whatever is done with it
pub slot_found : (i n : ℕ) (values ys : List Entry) (os : List NumberedOperation) (k : ℕ)
    → AreOperations values os → Some k ≡ position (has_number i n) ys → ys ≡ values
    → (o : CryptoOperation) × (operation_at os i n ≡ Some o)
slot_found i n [] ys os k are at same = let e : Some k ≡ None = at ∙ ap (position (has_number i n)) same in absurd (some_none k e)
slot_found i n (v ∷ vs) ys os k are at same =
    let found = position-Some (has_number i n) (v ∷ vs) k v (ap (position (has_number i n)) (sym same) ∙ sym at) in
    let s : Slot i n (v ∷ vs) os k (get_or (v ∷ vs) k v) = slot_at i n (v ∷ vs) os k v are found.0 found.1 found.2 in
    (s.operation, s.found)

all_fail : {X : Type 0} (q : X → Bool) (xs : List X) → position q xs ≡ None → (k : ℕ) (d : X) → k < length xs
    → q (get_or xs k d) ≡ false
all_fail q xs e k d lt =
    let at : ℕ = position_or_len q xs in
    fails_before_first q xs k d
    (⊎_elim
    (λ (yes : nat_lt at (length xs) ≡ true). let h : Some at ≡ None = sym (cond-true (nat_lt at (length xs)) (Some at) None yes) ∙ e in absurd (some_none at h))
    (λ (no : nat_lt at (length xs) ≡ false). omega (arith, ltb-false at (length xs) no))
    (cases_Bool (nat_lt at (length xs))))

none_at : (i n : ℕ) (values : List Entry) (os : List NumberedOperation) → AreOperations values os
    → ((k : ℕ) (d : Entry) → k < length values → has_number i n (get_or values k d) ≡ false)
    → operation_at os i n ≡ None
none_at i n [] [] are fails = refl
none_at i n [] (o ∷ os) are fails = absurd are
none_at i n (v ∷ vs) [] are fails = absurd are
none_at i n (v ∷ vs) (o ∷ os) are fails =
    let no : is_at i n o ≡ false = sym (same_number i n v o are.0) ∙ fails zero v (omega arith) in
    rw no (none_at i n vs os are.1 (λ k d lt. fails (suc k) d (omega (arith, lt))))

pub nowhere : (i n : ℕ) (values ys : List Entry) (os : List NumberedOperation) → AreOperations values os
    → None ≡ position (has_number i n) ys → ys ≡ values → operation_at os i n ≡ None
nowhere i n values ys os are at same = none_at i n values os are (all_fail (has_number i n) values (ap (position (has_number i n)) (sym same) ∙ sym at))

-- ---- all of them

pub count_same : (i : ℕ) (values : List Entry) (os : List NumberedOperation) → AreOperations values os
    → count_by (has_instance i) values ≡ count_by (is_of i) os
count_same i [] [] are = refl
count_same i [] (o ∷ os) are = absurd are
count_same i (v ∷ vs) [] are = absurd are
count_same i (v ∷ vs) (o ∷ os) are =
    omega (
      arith,
      sum_by-cons (λ (e : Entry). cond (has_instance i e) 1 0) v vs,
      sum_by-cons (λ (e : NumberedOperation). cond (is_of i e) 1 0) o os,
      ap {B = ℕ} (λ (b : Bool). cond b 1 0) (same_instance i v o are.0),
      count_same i vs os are.1,
    )

pub numbers_same : (i : ℕ) (values : List Entry) (os : List NumberedOperation) → AreOperations values os
    → map (λ e. e.number) (filter (has_instance i) values) ≡ map (λ o. o.number) (filter (is_of i) os)
numbers_same i [] [] are = refl
numbers_same i [] (o ∷ os) are = absurd are
numbers_same i (v ∷ vs) [] are = absurd are
numbers_same i (v ∷ vs) (o ∷ os) are =
    ⊎_elim
    (λ (yes : is_of i o ≡ true). rw (same_instance i v o are.0 ∙ yes, yes)
    (ap (λ n. n ∷ map (λ (e : Entry). e.number) (filter (has_instance i) vs)) are.0.number_is ∙ ap (λ ns. o.number ∷ ns)
    (numbers_same i vs os are.1)))
    (λ (no : is_of i o ≡ false). rw (same_instance i v o are.0 ∙ no, no) (numbers_same i vs os are.1))
    (cases_Bool (is_of i o))

-- those that pass a test, where the tests of the one and of the other agree
kept : (p : Entry → Bool) (q : NumberedOperation → Bool)
    → ((v : Entry) (o : NumberedOperation) → IsEntry v o → p v ≡ q o)
    → (values : List Entry) (os : List NumberedOperation) → AreOperations values os
    → AreOperations (filter p values) (filter q os)
kept p q agree [] [] are = are
kept p q agree [] (o ∷ os) are = absurd are
kept p q agree (v ∷ vs) [] are = absurd are
kept p q agree (v ∷ vs) (o ∷ os) are =
    ⊎_elim
    (λ (yes : q o ≡ true). rw (agree v o are.0 ∙ yes, yes) (are.0, kept p q agree vs os are.1))
    (λ (no : q o ≡ false). rw (agree v o are.0 ∙ no, no) (kept p q agree vs os are.1))
    (cases_Bool (q o))

pub freed_same : (i n : ℕ) (values : List Entry) (os : List NumberedOperation) → AreOperations values os
    → AreOperations (filter (λ e. not (has_number i n e)) values) (filter (λ o. not (is_at i n o)) os)
freed_same i n = kept (λ e. not (has_number i n e)) (λ o. not (is_at i n o)) (λ v o e. ap not (same_number i n v o e))

pub all_freed_same : (i : ℕ) (values : List Entry) (os : List NumberedOperation) → AreOperations values os
    → AreOperations (filter (λ e. not (has_instance i e)) values) (filter (λ o. not (is_of i o)) os)
all_freed_same i = kept (λ e. not (has_instance i e)) (λ o. not (is_of i o)) (λ v o e. ap not (same_instance i v o e))

pub push_same : (values : List Entry) (os : List NumberedOperation) (v : Entry) (o : NumberedOperation)
    → AreOperations values os → IsEntry v o → AreOperations (values ++ v ∷ []) (os ++ o ∷ [])
push_same [] [] v o are e = (e, are)
push_same [] (p ∷ os) v o are e = absurd are
push_same (w ∷ vs) [] v o are e = absurd are
push_same (w ∷ vs) (p ∷ os) v o are e = (are.0, push_same vs os v o are.1 e)
