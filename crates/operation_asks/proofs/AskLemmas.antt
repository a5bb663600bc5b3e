-- What an ask does to values that are operations, one by one.
use Rattle.std.proofs.Common.{◌≡◌, ◌-◌, ◌<◌, ◌≤◌, ◌==◌, ℕ, true, false, not, ◌||◌, ⊎_elim, List, Option, None, Some, Result, Ok, Err, [], ◌∷◌}
use Rattle.std.proofs.Common.{◌++◌, length, get_or, set, filter, map, count_by, nat_le, nat_lt, refl, sym, ap, subst, ◌∙◌, arith, eq-eqb}
use Rattle.std.specs.Prelude.{IfOk, OnErr}
use Rattle.std.proofs.lemmas.Result.{IfOk-weaker}
use Rattle.std.proofs.lemmas.List.Quantifiers.{position-Some}
use Rattle.std.specs.List.{position}
use Rattle.std.proofs.lemmas.List.{set-get_or, set-append_left, set-append_right, get_or_append_left, get_or-append_right}
use Rattle.std.proofs.lemmas.Bool.{cases_Bool}
use Rattle.std.proofs.lemmas.Bool.Decides.{nat_tests}
use Rattle.tee_base.specs.Numbers.{lowest_free}
use Rattle.tee_base.specs.declared.codes.TheConstants.Code.{BUSY}
use Rattle.tee_base.specs.declared.NoMemory.{NoMemory}
use Rattle.app_api.specs.declared.ask.Ask.{Ask}
use Rattle.app_api.specs.declared.ask.Answer.TheVariants as answers
use Rattle.transient_obj.specs.declared.object_key.ObjectKey.{ObjectKey}
use Rattle.crypto_ops.specs.declared.operation.Operation.{Operation}
use Rattle.crypto_ops.specs.declared.algorithm.Algorithm.{Algorithm}
use Rattle.crypto_ops.specs.declared.answer.OpAnswer.{OpAnswer}
use Rattle.crypto_ops.specs.Algorithms.{is_digest, algorithm_number, mode_number, key_kind}
use Rattle.crypto_ops.specs.Operations.{may_change_key, clear_key_answer, without_key, is_active, CryptoOperation, KeyFits, KeyOfKind, after_ok}
use Rattle.crypto_ops.specs.Operations.{copy_answer, with_copy_of, with_key, set_key_answer, key_bits}
use Rattle.secret.specs.Bits.{bits_of}
use Rattle.crypto_ops.specs.Represents.{Represents, IsAllocated}
use Rattle.operation_asks.specs.declared.outcome.Outcome.{Outcome}
use Rattle.operation_asks.specs.declared.outcome.Outcome.TheVariants.{Answered, Panicked}
use Rattle.operation_asks.specs.declared.outcome.CryptoOutcome.TheVariants as asked
use Rattle.operation_asks.specs.declared.table.Entry.{Entry}
use Rattle.operation_asks.specs.Effects.{Effect, told_refusal, told_done}
use Rattle.operation_asks.specs.OneOperation.{one_effect}
use Rattle.operation_asks.specs.Table.{NumberedOperation, with_changed, is_full, free_number, operation_at, without_numbered}
use Rattle.operation_asks.specs.Asks.{Resolution, Settled, WantsKey, resolution_in, set_key_resolution, new_by, free_effect, on_operation, copy_effect, key_set}
use Rattle.operation_asks.specs.Represents.{AreOperations, IsEffect, IsResolution, told_by, left_by, has_number, has_instance}
use Rattle.operation_asks.proofs.TableLemmas.{Slot, slot, slot_at, some_none, count_same, numbers_same, freed_same, push_same}

pub same_some : {X : Type 0} (a b : X) → Some a ≡ Some b → a ≡ b
same_some a b e = cc

-- told in other words
pub with_told : {V S : Type 0} (IsValue : V → S → Type 0) (told stated : Outcome) (effect : Effect S) (new : V)
    → told ≡ stated → IsEffect IsValue stated effect new → IsEffect IsValue told effect new
with_told IsValue told stated effect new same h = record { told_is = same ∙ h.told_is; leaves = h.leaves }

pub with_settled : {V S : Type 0} (IsValue : V → S → Type 0) (told stated : Outcome) (resolution : Resolution S) (old : S) (new : V)
    → told ≡ stated → IsResolution IsValue (asked.Settled stated) resolution old new
    → IsResolution IsValue (asked.Settled told) resolution old new
with_settled IsValue told stated resolution old new same h = record { told_is = ap asked.Settled same ∙ h.told_is; leaves = h.leaves }

sub-self : (n : ℕ) → n - n ≡ 0
sub-self n = omega arith

pub not_zero : (n : ℕ) → (n ≡ 0 → ⊥) → (n == 0) ≡ false
not_zero n h = grind (arith, nat_tests)

pub at_least : (n m : ℕ) → n ≤ m → nat_le n m ≡ true
at_least n m h = grind (arith, nat_tests)

pub fewer : (n m : ℕ) → m < n → nat_le n m ≡ false
fewer n m h = grind (arith, nat_tests)

-- ---- a new operation

pub new_refused : (r : Result CryptoOperation OpAnswer) (answer : OpAnswer) (i : ℕ) (values : List Entry) (os : List NumberedOperation)
    → IsAllocated (Err answer) r → AreOperations values os
    → IsEffect AreOperations (told_refusal answer) (new_by os i r) values
new_refused (Ok o) answer i values os h are = absurd h
new_refused (Err stated) answer i values os h are = record { told_is = ap told_refusal h; leaves = are }

pub new_busy : (r : Result CryptoOperation OpAnswer) (value : Operation) (i : ℕ) (values : List Entry) (os : List NumberedOperation)
    → IsAllocated (Ok value) r → AreOperations values os → nat_le 8 (count_by (has_instance i) values) ≡ true
    → IsEffect AreOperations (Answered (answers.Refused BUSY)) (new_by os i r) values
new_busy (Err stated) value i values os h are full = absurd h
new_busy (Ok o) value i values os h are full =
    let busy : is_full os i ≡ true = ap (nat_le 8) (sym (count_same i values os are)) ∙ full in
    rw busy (record { told_is = refl; leaves = are })

abbrev pub entry_of : ℕ → ℕ → Operation → Entry
entry_of instance number operation = record { instance = instance; number = number; operation = operation }

pub new_made : (r : Result CryptoOperation OpAnswer) (value : Operation) (i number : ℕ) (values now : List Entry) (os : List NumberedOperation)
    → IsAllocated (Ok value) r → AreOperations values os → nat_le 8 (count_by (has_instance i) values) ≡ false
    → number ≡ lowest_free (map (λ e. e.number) (filter (has_instance i) values))
    → now ≡ values ++ entry_of i number value ∷ []
    → IsEffect AreOperations (Answered (answers.Number number)) (new_by os i r) now
new_made (Err stated) value i number values now os h are room lowest pushed = absurd h
new_made (Ok o) value i number values now os h are room lowest pushed =
    let free : is_full os i ≡ false = ap (nat_le 8) (sym (count_same i values os are)) ∙ room in
    let same : number ≡ free_number os i = lowest ∙ ap lowest_free (numbers_same i values os are) in
    rw free (record {
      told_is = ap (λ n. Answered (answers.Number n)) same;
      leaves = subst (λ (vs : List Entry). AreOperations vs (os ++ record { instance = i; number = free_number os i; operation = o } ∷ [])) (sym pushed)
          (push_same values os (entry_of i number value) (record { instance = i; number = free_number os i; operation = o }) are (record { instance_is = refl; number_is = same; operation_is = h }));
    })

-- ---- an operation goes

pub free_zero : (i n : ℕ) (values : List Entry) (os : List NumberedOperation) → AreOperations values os
    → n ≡ 0 → IsEffect AreOperations (Answered answers.Done) (free_effect os i n) values
free_zero i n values os are zero_ = rw zero_ (record { told_is = refl; leaves = are })

pub free_none : (i n : ℕ) (values : List Entry) (os : List NumberedOperation) → AreOperations values os
    → (n == 0) ≡ false → operation_at os i n ≡ None
    → IsEffect AreOperations Panicked (free_effect os i n) values
free_none i n values os are some none = rw (some, none) (record { told_is = refl; leaves = are })

pub free_some : (i n : ℕ) (values now : List Entry) (os : List NumberedOperation) (o : CryptoOperation)
    → AreOperations values os → (n == 0) ≡ false → operation_at os i n ≡ Some o
    → now ≡ filter (λ e. not (has_number i n e)) values
    → IsEffect AreOperations (Answered answers.Done) (free_effect os i n) now
free_some i n values now os o are some found rest =
    rw (some, found) (record { told_is = refl; leaves = subst (λ (vs : List Entry). AreOperations vs (without_numbered os i n)) (sym rest) (freed_same i n values os are) })

-- ---- one operation

pub on_none : (i n : ℕ) (values : List Entry) (os : List NumberedOperation) (ask : Ask)
    → AreOperations values os → operation_at os i n ≡ None
    → IsEffect AreOperations Panicked (on_operation os i n ask) values
on_none i n values os ask are none = rw none (record { told_is = refl; leaves = are })

served_on : (i n : ℕ) (values : List Entry) (os : List NumberedOperation) (k : ℕ) (v : Entry) (ask : Ask) (told : Outcome) (w : Operation) (s : Slot i n values os k v)
    → IsEffect Represents told (one_effect s.operation ask) w
    → IsEffect AreOperations told (on_operation os i n ask) (set values k (record v { operation = w }))
served_on i n values os k v ask told w s e = rw s.found (record { told_is = e.told_is; leaves = s.put w (one_effect s.operation ask).after e.leaves })

pub on_slot : (i n : ℕ) (values : List Entry) (os : List NumberedOperation) (k : ℕ) (v : Entry) (ask : Ask) (r : Result Outcome NoMemory) (w : Operation) (s : Slot i n values os k v)
    → IfOk r (λ told. IsEffect Represents told (one_effect s.operation ask) w)
    → IfOk r (λ told. IsEffect AreOperations told (on_operation os i n ask) (set values k (record v { operation = w })))
on_slot i n values os k v ask r w s h = IfOk-weaker r _ _ (λ told e. served_on i n values os k v ask told w s e) h

pub want_slot : (i n : ℕ) (values : List Entry) (os : List NumberedOperation) (k : ℕ) (v : Entry) (r : Result Outcome NoMemory) (w : Operation) (s : Slot i n values os k v)
    → OnErr r (Represents w s.operation)
    → OnErr r (AreOperations (set values k (record v { operation = w })) os)
want_slot i n values os k v (Ok told) w s h = h
want_slot i n values os k v (Err e) w s h = s.keep w h

-- ---- a key

pub key_none : (i n : ℕ) (values : List Entry) (os : List NumberedOperation) (key : ObjectKey)
    → AreOperations values os → operation_at os i n ≡ None
    → IsEffect AreOperations Panicked (key_set os i n key (operation_at os i n)) values
key_none i n values os key are none = rw none (record { told_is = refl; leaves = are })

pub key_slot : (i n : ℕ) (values : List Entry) (os : List NumberedOperation) (k : ℕ) (v : Entry) (key : ObjectKey) (answer : Result (Unit {0}) OpAnswer) (w : Operation) (s : Slot i n values os k v)
    → answer ≡ set_key_answer s.operation key.kind key.usage key.secret
    → Represents w (after_ok answer s.operation (with_key s.operation key.secret))
    → IsEffect AreOperations (told_done answer) (key_set os i n key (operation_at os i n)) (set values k (record v { operation = w }))
key_slot i n values os k v key answer w s e r =
    rw s.found (record {
      told_is = ap told_done e;
      leaves = s.put w _ (subst (λ (a : Result (Unit {0}) OpAnswer). Represents w (after_ok a s.operation (with_key s.operation key.secret))) e r);
    })

-- ---- a key that is taken away, or wanted

pub begin_none : (i op object : ℕ) (values : List Entry) (os : List NumberedOperation)
    → AreOperations values os → operation_at os i op ≡ None
    → IsResolution AreOperations (asked.Settled Panicked) (set_key_resolution os i op object) os values
begin_none i op object values os are none = rw none (record { told_is = refl; leaves = are })

pub begin_refused : (i op object : ℕ) (values : List Entry) (os : List NumberedOperation) (k : ℕ) (v : Entry) (s : Slot i op values os k v)
    → AreOperations values os → may_change_key s.operation ≡ false
    → IsResolution AreOperations (asked.Settled Panicked) (set_key_resolution os i op object) os values
begin_refused i op object values os k v s are barred = rw (s.found, barred) (record { told_is = refl; leaves = are })

pub begin_wants : (i op object : ℕ) (values : List Entry) (os : List NumberedOperation) (k : ℕ) (v : Entry) (s : Slot i op values os k v)
    → AreOperations values os → may_change_key s.operation ≡ true → (object == 0) ≡ false
    → IsResolution AreOperations (asked.WantsKey op object) (set_key_resolution os i op object) os values
begin_wants i op object values os k v s are allowed some = rw (s.found, allowed, some) (record { told_is = refl; leaves = are })

may_clear : (o : CryptoOperation) → may_change_key o ≡ true → clear_key_answer o ≡ Ok tt
may_clear o allowed =
    ⊎_elim
    (λ (t : (is_digest o.algorithm || is_active o.progress) ≡ true). let e : false ≡ true = sym (ap not t) ∙ allowed in cc)
    (λ (f : (is_digest o.algorithm || is_active o.progress) ≡ false). rw f refl)
    (cases_Bool (is_digest o.algorithm || is_active o.progress))

pub begin_cleared : (i op object : ℕ) (values : List Entry) (os : List NumberedOperation) (k : ℕ) (v : Entry) (answer : Result (Unit {0}) OpAnswer) (w : Operation) (s : Slot i op values os k v)
    → may_change_key s.operation ≡ true → object ≡ 0 → answer ≡ clear_key_answer s.operation
    → Represents w (after_ok answer s.operation (without_key s.operation))
    → IsResolution AreOperations (asked.Settled (told_done answer)) (set_key_resolution os i op object) os (set values k (record v { operation = w }))
begin_cleared i op object values os k v answer w s allowed zero_ e r =
    let fine : answer ≡ Ok tt = e ∙ may_clear s.operation allowed in
    rw (s.found, allowed, zero_) (record {
      told_is = ap (λ (a : Result (Unit {0}) OpAnswer). asked.Settled (told_done a)) fine;
      leaves = s.put w _ (subst (λ (a : Result (Unit {0}) OpAnswer). Represents w (after_ok a s.operation (without_key s.operation))) fine r);
    })

-- ---- a copy

pub copy_no_target : (i to from : ℕ) (values : List Entry) (os : List NumberedOperation)
    → AreOperations values os → operation_at os i to ≡ None
    → IsEffect AreOperations Panicked (copy_effect os i to from) values
copy_no_target i to from values os are none = rw none (record { told_is = refl; leaves = are })

pub copy_no_source : (i to from : ℕ) (values : List Entry) (os : List NumberedOperation) (o : CryptoOperation)
    → AreOperations values os → operation_at os i to ≡ Some o → operation_at os i from ≡ None
    → IsEffect AreOperations Panicked (copy_effect os i to from) values
copy_no_source i to from values os o are found none = rw (found, none) (record { told_is = refl; leaves = are })

pub copy_slots : (i to from : ℕ) (values : List Entry) (os : List NumberedOperation) (k l : ℕ) (v x : Entry) (answer : Result (Unit {0}) OpAnswer)
    (w : Operation) (s : Slot i to values os k v) (t : Slot i from values os l x)
    → answer ≡ copy_answer s.operation t.operation
    → Represents w (after_ok answer s.operation (with_copy_of s.operation t.operation))
    → IsEffect AreOperations (told_done answer) (copy_effect os i to from) (set values k (record v { operation = w }))
copy_slots i to from values os k l v x answer w s t e r =
    rw (s.found, t.found) (record {
      told_is = ap told_done e;
      leaves = s.put w _ (subst (λ (a : Result (Unit {0}) OpAnswer). Represents w (after_ok a s.operation (with_copy_of s.operation t.operation))) e r);
    })

-- the operation at the front of two parts has key and state of the one that begins the back, and the other way round; d and e are
-- the two entries as they were read
pub copy_front : (values front back : List Entry) (os : List NumberedOperation) (k l : ℕ) (d e : Entry) (answer : Result (Unit {0}) OpAnswer) (w : Operation) (i to from : ℕ)
    → AreOperations values os → values ≡ front ++ back → k < length front → length front ≡ l → 0 < length back
    → d ≡ get_or front k d → e ≡ get_or back 0 e → position (has_number i to) values ≡ Some k
    → position (has_number i from) values ≡ Some l
    → ((t o : CryptoOperation) → Represents (get_or front k d).operation t → Represents (get_or back 0 e).operation o → answer ≡ copy_answer t o)
    → ((t o : CryptoOperation) → Represents (get_or front k d).operation t → Represents (get_or back 0 e).operation o → Represents w (after_ok answer t (with_copy_of t o)))
    → IsEffect AreOperations (told_done answer) (copy_effect os i to from) (set front k (record (get_or front k d) { operation = w }) ++ back)
copy_front values front back os k l d e answer w i to from are parts inside cut some read_d read_e at_to at_from answers after =
    let d_is : d ≡ get_or values k d = read_d ∙ sym (ap (λ (vs : List Entry). get_or vs k d) parts ∙ get_or_append_left front back d k inside) in
    let e_is : e ≡ get_or values l e = read_e ∙ sym (ap (λ (vs : List Entry). get_or vs l e) parts ∙ get_or-append_right front back l l e cut (omega arith) ∙ ap (λ n. get_or back n e) (sub-self l)) in
    let s : Slot i to values os k d = slot i to values values os k d are (sym at_to) refl d_is in
    let t : Slot i from values os l e = slot i from values values os l e are (sym at_from) refl e_is in
    let means_d : Represents (get_or front k d).operation s.operation = subst (λ (x : Entry). Represents x.operation s.operation) read_d s.means in
    let means_e : Represents (get_or back 0 e).operation t.operation = subst (λ (x : Entry). Represents x.operation t.operation) read_e t.means in
    let whole : IsEffect AreOperations (told_done answer) (copy_effect os i to from) (set values k (record d { operation = w })) =
    copy_slots i to from values os k l d e answer w s t (answers s.operation t.operation means_d means_e) (after s.operation t.operation means_d means_e) in
    let joined : set values k (record d { operation = w }) ≡ set front k (record (get_or front k d) { operation = w }) ++ back =
    ap (λ (vs : List Entry). set vs k (record d { operation = w })) parts ∙ set-append_left front back k (record d { operation = w }) inside ∙ ap
    (λ (x : Entry). set front k (record x { operation = w }) ++ back) read_d in
    subst (λ (vs : List Entry). IsEffect AreOperations (told_done answer) (copy_effect os i to from) vs) joined whole

pub copy_back : (values front back : List Entry) (os : List NumberedOperation) (k l : ℕ) (d e : Entry) (answer : Result (Unit {0}) OpAnswer) (w : Operation) (i to from : ℕ)
    → AreOperations values os → values ≡ front ++ back → l < length front → length front ≡ k → 0 < length back
    → d ≡ get_or back 0 d → e ≡ get_or front l e → position (has_number i to) values ≡ Some k
    → position (has_number i from) values ≡ Some l
    → ((t o : CryptoOperation) → Represents (get_or back 0 d).operation t → Represents (get_or front l e).operation o → answer ≡ copy_answer t o)
    → ((t o : CryptoOperation) → Represents (get_or back 0 d).operation t → Represents (get_or front l e).operation o → Represents w (after_ok answer t (with_copy_of t o)))
    → IsEffect AreOperations (told_done answer) (copy_effect os i to from) (front ++ set back 0 (record (get_or back 0 d) { operation = w }))
copy_back values front back os k l d e answer w i to from are parts inside cut some read_d read_e at_to at_from answers after =
    let d_is : d ≡ get_or values k d = read_d ∙ sym (ap (λ (vs : List Entry). get_or vs k d) parts ∙ get_or-append_right front back k k d cut (omega arith) ∙ ap (λ n. get_or back n d) (sub-self k)) in
    let e_is : e ≡ get_or values l e = read_e ∙ sym (ap (λ (vs : List Entry). get_or vs l e) parts ∙ get_or_append_left front back e l inside) in
    let s : Slot i to values os k d = slot i to values values os k d are (sym at_to) refl d_is in
    let t : Slot i from values os l e = slot i from values values os l e are (sym at_from) refl e_is in
    let means_d : Represents (get_or back 0 d).operation s.operation = subst (λ (x : Entry). Represents x.operation s.operation) read_d s.means in
    let means_e : Represents (get_or front l e).operation t.operation = subst (λ (x : Entry). Represents x.operation t.operation) read_e t.means in
    let whole : IsEffect AreOperations (told_done answer) (copy_effect os i to from) (set values k (record d { operation = w })) =
    copy_slots i to from values os k l d e answer w s t (answers s.operation t.operation means_d means_e) (after s.operation t.operation means_d means_e) in
    let joined : set values k (record d { operation = w }) ≡ front ++ set back 0 (record (get_or back 0 d) { operation = w }) =
    ap (λ (vs : List Entry). set vs k (record d { operation = w })) parts ∙ set-append_right front back k k (record d { operation = w }) cut
    (omega arith) ∙ ap (λ n. front ++ set back n (record d { operation = w })) (sub-self k) ∙ ap
    (λ (x : Entry). front ++ set back 0 (record x { operation = w })) read_d in
    subst (λ (vs : List Entry). IsEffect AreOperations (told_done answer) (copy_effect os i to from) vs) joined whole

-- a key that fits isn't above the greatest size
key_within : (kind : Option ℕ) (max_bits : ℕ) (key : List ℕ) → KeyOfKind kind max_bits key → bits_of key ≤ max_bits
key_within None max_bits key h = absurd h
key_within (Some kind) max_bits key h = h.1

own_key_within : (a : Algorithm) (max_bits : ℕ) (key : Option (List ℕ)) → KeyFits a max_bits key
    → key_bits key ≤ max_bits
own_key_within a max_bits None h = omega arith
own_key_within a max_bits (Some key) h = key_within (key_kind a) max_bits key h

self_copy : (o : CryptoOperation) → KeyFits o.algorithm o.max_bits o.key → copy_answer o o ≡ Ok tt
self_copy o h =
    let within : key_bits o.key ≤ o.max_bits = own_key_within o.algorithm o.max_bits o.key h in
    let small : nat_lt o.max_bits (key_bits o.key) ≡ false = grind (arith, nat_tests) in
    rw (eq-eqb (algorithm_number o.algorithm) (algorithm_number o.algorithm) refl, eq-eqb (mode_number o.algorithm) (mode_number o.algorithm) refl, small) refl

copy_at : (i to from : ℕ) (values : List Entry) (os : List NumberedOperation) (k : ℕ) (d : Entry) (s : Slot i to values os k (get_or values k d)) (t : Slot i from values os k (get_or values k d))
    → IsEffect AreOperations (Answered answers.Done) (copy_effect os i to from) values
copy_at i to from values os k d s t =
    let same : t.operation ≡ s.operation =
    let o : NumberedOperation = record { instance = 0; number = 0; operation = s.operation } in t.at_place o ∙ sym (s.at_place o) in
    let fine : copy_answer s.operation s.operation ≡ Ok tt = self_copy s.operation s.means.key_fits in
    rw (s.found, t.found ∙ ap Some same, fine) (record {
      told_is = refl;
      leaves = subst (λ (vs : List Entry). AreOperations vs (with_changed i to s.operation os)) (set-get_or values k d) (s.put (get_or values k d).operation s.operation s.means);
    })

-- both numbers are of one place: it is a copy of an operation onto itself
pub copy_itself : (i to from : ℕ) (values : List Entry) (os : List NumberedOperation) (k : ℕ)
    → AreOperations values os → position (has_number i to) values ≡ Some k
    → position (has_number i from) values ≡ Some k
    → IsEffect AreOperations (Answered answers.Done) (copy_effect os i to from) values
copy_itself i to from [] os k are at_to at_from = absurd (some_none k (sym at_to))
copy_itself i to from (v ∷ vs) os k are at_to at_from =
    let f = position-Some (has_number i to) (v ∷ vs) k v at_to in
    let g = position-Some (has_number i from) (v ∷ vs) k v at_from in
    copy_at i to from (v ∷ vs) os k v (slot_at i to (v ∷ vs) os k v are f.0 f.1 f.2) (slot_at i from (v ∷ vs) os k v are g.0 g.1 g.2)

-- ---- of a larger whole

pub told_in : {S W : Type 0} (put : S → W) (resolution : Resolution S) → told_by (resolution_in put resolution) ≡ told_by resolution
told_in put (Settled effect) = refl
told_in put (WantsKey op object) = refl

pub left_in : {S W : Type 0} (put : S → W) (s : S) (resolution : Resolution S)
    → left_by (put s) (resolution_in put resolution) ≡ put (left_by s resolution)
left_in put s (Settled effect) = refl
left_in put s (WantsKey op object) = refl
