-- A panic leaves what there was.
use Rattle.std.proofs.Common.{ℕ, ◌≡◌, ◌==◌, Bool, true, false, not, cond, List, [], ◌∷◌, Option, None, Some, option_map, find, Result, Ok, Err, refl, sym, ap, subst, ◌∙◌}
use Rattle.std.proofs.lemmas.Bool.{cond_both}
use Rattle.app_api.specs.declared.ask.Ask.{Ask}
use Rattle.app_api.specs.declared.ask.Ask.TheVariants as asked
use Rattle.app_api.specs.declared.ask.Answer.TheVariants as answers
use Rattle.rand_chacha.specs.ChaCha.{ChaCha}
use Rattle.tee_base.specs.declared.codes.TheConstants.Code.{BUSY, MAC_INVALID}
use Rattle.transient_obj.specs.declared.object_key.ObjectKey.{ObjectKey}
use Rattle.crypto_ops.specs.declared.answer.OpAnswer.{OpAnswer}
use Rattle.crypto_ops.specs.declared.sealed.OpSealed.{OpSealed}
use Rattle.crypto_ops.specs.declared.answer.OpAnswer.TheVariants.{MacInvalid, Misuse, NotSupported, Short, NoMemory}
use Rattle.crypto_ops.specs.Operations.{CryptoOperation, allocate_answer, after_comparison, after_ok, copy_answer, with_copy_of}
use Rattle.crypto_ops.specs.Operations.{is_too_much, ae_open_answer, ae_seal_answer, with_key, may_change_key, mac_compare_answer, set_key_answer, without_key}
use Rattle.crypto_ops.specs.Random.{stream_after, random_from}
use Rattle.transient_obj.specs.declared.look.KeyLook.{KeyLook}
use Rattle.transient_obj.specs.declared.look.KeyLook.TheVariants as gives
use Rattle.operation_asks.specs.declared.outcome.Outcome.TheVariants.{Answered, Panicked}
use Rattle.operation_asks.proofs.AskLemmas.{same_some}
use Rattle.operation_asks.specs.Asks.{CryptoState, Resolution, Settled, WantsKey, copy_between, resolution_in, free_by, free_effect, key_set, new_by, on_found}
use Rattle.operation_asks.specs.Asks.{operation_resolution, random_effect, set_key_on, with_operations}
use Rattle.operation_asks.specs.Effects.{Effect, answer_effect, content_by, done_effect, done_by, effect_in, panic_effect, refusal_effect, told_content, told_done, told_sealed}
use Rattle.operation_asks.specs.OneOperation.{one_effect}
use Rattle.operation_asks.specs.Past.{key_effect}
use Rattle.operation_asks.specs.Table.{NumberedOperation, with_numbered, with_changed, free_number, is_at, is_full, operation_at}

-- where it tells a panic, it leaves this
abbrev pub KeepsAtPanic : {S : Type 0} → S → Effect S → Type 0
KeepsAtPanic s e = e.told ≡ Panicked → e.after ≡ s

abbrev pub ResolutionKeeps : {S : Type 0} → S → Resolution S → Type 0
ResolutionKeeps s (Settled effect) = KeepsAtPanic s effect
ResolutionKeeps s (WantsKey op object) = Unit {0}

either : {S : Type 0} (s : S) (b : Bool) (x y : Effect S) → KeepsAtPanic s x → KeepsAtPanic s y → KeepsAtPanic s (cond b x y)
either s b x y here there = cond_both b x y (KeepsAtPanic s) (λ _. here) (λ _. there)

-- ---- one operation

by_done : (answer : Result (Unit {0}) OpAnswer) (old new : CryptoOperation) → KeepsAtPanic old (done_by answer old new)
by_done (Ok nothing) old new e = absurd (let h : Answered answers.Done ≡ Panicked = e in cc)
by_done (Err answer) old new e = refl

by_content : (answer : Result (List ℕ) OpAnswer) (old new : CryptoOperation) → KeepsAtPanic old (content_by answer old new)
by_content (Ok content) old new e = absurd (let h : Answered (answers.Content content) ≡ Panicked = e in cc)
by_content (Err answer) old new e = refl

by_comparison : (answer : Result (Unit {0}) OpAnswer) (o : CryptoOperation) → told_done answer ≡ Panicked → after_comparison answer o ≡ o
by_comparison (Ok nothing) o e = absurd (let h : Answered answers.Done ≡ Panicked = e in cc)
by_comparison (Err MacInvalid) o e = absurd (let h : Answered (answers.Refused MAC_INVALID) ≡ Panicked = e in cc)
by_comparison (Err NotSupported) o e = refl
by_comparison (Err (Short needed)) o e = refl
by_comparison (Err Misuse) o e = refl
by_comparison (Err NoMemory) o e = refl

by_sealed : (answer : Result OpSealed OpAnswer) (old new : CryptoOperation) → told_sealed answer ≡ Panicked → after_ok answer old new ≡ old
by_sealed (Ok sealed) old new e = absurd (let h : Answered (answers.Sealed sealed.content sealed.tag) ≡ Panicked = e in cc)
by_sealed (Err answer) old new e = refl

by_opened : (answer : Result (List ℕ) OpAnswer) (o : CryptoOperation) → told_content answer ≡ Panicked → after_comparison answer o ≡ o
by_opened (Ok content) o e = absurd (let h : Answered (answers.Content content) ≡ Panicked = e in cc)
by_opened (Err MacInvalid) o e = absurd (let h : Answered (answers.Refused MAC_INVALID) ≡ Panicked = e in cc)
by_opened (Err NotSupported) o e = refl
by_opened (Err (Short needed)) o e = refl
by_opened (Err Misuse) o e = refl
by_opened (Err NoMemory) o e = refl

one_keeps : (o : CryptoOperation) (ask : Ask) → KeepsAtPanic o (one_effect o ask)
unfolding one_effect
one_keeps o (asked.OpInfo op) e = refl
one_keeps o (asked.OpReset op) e = by_done _ o _ e
one_keeps o (asked.CipherInit op iv) e = by_done _ o _ e
one_keeps o (asked.CipherUpdate op bytes room) e = by_content _ o _ e
one_keeps o (asked.CipherFinal op bytes room) e = by_content _ o _ e
one_keeps o (asked.MacInit op) e = by_done _ o _ e
one_keeps o (asked.MacUpdate op bytes) e = by_done _ o _ e
one_keeps o (asked.MacFinal op bytes room) e = by_content _ o _ e
one_keeps o (asked.MacCompare op bytes mac) e = by_comparison (mac_compare_answer o bytes mac) o e
one_keeps o (asked.DigestUpdate op bytes) e = by_done _ o _ e
one_keeps o (asked.DigestFinal op bytes room) e = by_content _ o _ e
one_keeps o (asked.AeInit op nonce tag_bits) e = by_done _ o _ e
one_keeps o (asked.AeAad op bytes) e = by_done _ o _ e
one_keeps o (asked.AeUpdate op bytes room) e = by_content _ o _ e
one_keeps o (asked.AeSeal op bytes room tag_room) e = by_sealed (ae_seal_answer o bytes room tag_room) o _ e
one_keeps o (asked.AeOpen op bytes room tag) e = by_opened (ae_open_answer o bytes room tag) o e
one_keeps o ask e = refl

-- ---- among the operations

-- whether the first of them is it
at_head : (i n : ℕ) (o : CryptoOperation) (x : NumberedOperation) (xs : List NumberedOperation) (b : Bool) → is_at i n x ≡ b → operation_at (x ∷ xs) i n ≡ Some o
    → (operation_at xs i n ≡ Some o → with_changed i n o xs ≡ xs) → with_changed i n o (x ∷ xs) ≡ x ∷ xs
at_head i n o x xs true here found rest =
    let first : Some x.operation ≡ Some o =
    subst (λ (b : Bool). option_map (λ (y : NumberedOperation). y.operation) (cond b (Some x) (find (is_at i n) xs)) ≡ Some o) here found in
    ap (λ (b : Bool). cond b (record x { operation = o } ∷ xs) (x ∷ with_changed i n o xs)) here
    ∙ ap (λ (p : CryptoOperation). record x { operation = p } ∷ xs) (sym (same_some x.operation o first))
at_head i n o x xs false there found rest =
    ap (λ (b : Bool). cond b (record x { operation = o } ∷ xs) (x ∷ with_changed i n o xs)) there
    ∙ ap (λ (ys : List NumberedOperation). x ∷ ys)
    (rest (subst (λ (b : Bool). option_map (λ (y : NumberedOperation). y.operation) (cond b (Some x) (find (is_at i n) xs)) ≡ Some o) there found))

-- changed to what it is, the list is the same
same_list : (i n : ℕ) (o : CryptoOperation) (os : List NumberedOperation) → operation_at os i n ≡ Some o → with_changed i n o os ≡ os
same_list i n o [] found = refl
same_list i n o (x ∷ xs) found = at_head i n o x xs (is_at i n x) refl found (same_list i n o xs)

placed : (os : List NumberedOperation) (i n : ℕ) (o : CryptoOperation) (e : Effect CryptoOperation) → operation_at os i n ≡ Some o → KeepsAtPanic o e
    → KeepsAtPanic os (effect_in (λ p. with_changed i n p os) e)
placed os i n o e found keeps told = ap (λ (p : CryptoOperation). with_changed i n p os) (keeps told) ∙ same_list i n o os found

on_keeps : (os : List NumberedOperation) (i n : ℕ) (ask : Ask) (o : Option CryptoOperation) → operation_at os i n ≡ o → KeepsAtPanic os (on_found os i n ask o)
on_keeps os i n ask None found e = refl
on_keeps os i n ask (Some o) found e = placed os i n o (one_effect o ask) found (one_keeps o ask) e

refusal_keeps : (os : List NumberedOperation) (i : ℕ) (r : Result CryptoOperation OpAnswer) → KeepsAtPanic os (new_by os i r)
refusal_keeps os i (Err answer) = λ e. refl
refusal_keeps os i (Ok o) =
    either os (is_full os i) (refusal_effect os BUSY) (answer_effect (with_numbered os i o) (answers.Number (free_number os i)))
    (λ e. refl) (λ e. absurd (let h : Answered (answers.Number (free_number os i)) ≡ Panicked = e in cc))

freed_keeps : (os : List NumberedOperation) (i n : ℕ) (o : Option CryptoOperation) → KeepsAtPanic os (free_by os i n o)
freed_keeps os i n None e = refl
freed_keeps os i n (Some o) e = absurd (let h : Answered answers.Done ≡ Panicked = e in cc)

free_keeps : (os : List NumberedOperation) (i n : ℕ) → KeepsAtPanic os (free_effect os i n)
free_keeps os i n = either os (n == 0) (done_effect os) (free_by os i n (operation_at os i n)) (λ e. refl) (freed_keeps os i n (operation_at os i n))

copy_keeps : (os : List NumberedOperation) (i to : ℕ) (target source : Option CryptoOperation) → operation_at os i to ≡ target → KeepsAtPanic os (copy_between os i to target source)
copy_keeps os i to None source found e = refl
copy_keeps os i to (Some target) None found e = refl
copy_keeps os i to (Some target) (Some source) found e = placed os i to target (done_by (copy_answer target source) target (with_copy_of target source)) found (by_done _ target _) e

set_keeps : (os : List NumberedOperation) (i n object : ℕ) (o : Option CryptoOperation) → ResolutionKeeps os (set_key_on os i n object o)
set_keeps os i n object None = λ e. refl
set_keeps os i n object (Some o) =
    cond_both (not (may_change_key o)) (Settled (panic_effect os)) (cond (object == 0) (Settled (done_effect (with_changed i n (without_key o) os))) (WantsKey n object))
    (ResolutionKeeps os) (λ _ e. refl)
    (λ _. cond_both (object == 0) (Settled (done_effect (with_changed i n (without_key o) os))) (WantsKey n object) (ResolutionKeeps os) (λ _ e. absurd (let h : Answered answers.Done
    ≡ Panicked = e in cc)) (λ _. tt))

key_keeps : (os : List NumberedOperation) (i n : ℕ) (key : ObjectKey) (o : Option CryptoOperation) → operation_at os i n ≡ o → KeepsAtPanic os (key_set os i n key o)
key_keeps os i n key None found e = refl
key_keeps os i n key (Some o) found e = placed os i n o (done_by (set_key_answer o key.kind key.usage key.secret) o (with_key o key.secret)) found (by_done _ o _) e

-- ---- all of it

in_state : (s : CryptoState) (e : Effect (List NumberedOperation)) → KeepsAtPanic s.operations e → KeepsAtPanic s (effect_in (with_operations s) e)
in_state s e keeps told = ap (λ (os : List NumberedOperation). with_operations s os) (keeps told)

resolution_in_state : (s : CryptoState) (c : Resolution (List NumberedOperation)) → ResolutionKeeps s.operations c → ResolutionKeeps s (resolution_in (with_operations s) c)
resolution_in_state s (Settled effect) keeps = in_state s effect keeps
resolution_in_state s (WantsKey op object) keeps = tt

random_keeps : (s : CryptoState) (count : ℕ) → KeepsAtPanic s.random (random_effect s.random count)
random_keeps s count =
    either s.random (is_too_much count) (panic_effect s.random) (answer_effect (stream_after s.random count) (answers.Content (random_from s.random count))) (λ e. refl)
    (λ e. absurd (let h : Answered (answers.Content (random_from s.random count)) ≡ Panicked = e in cc))

-- an ask that panics leaves the operations and the stream as they were
pub resolution_keeps : (s : CryptoState) (i : ℕ) (ask : Ask) → ResolutionKeeps s (operation_resolution s i ask)
unfolding operation_resolution
resolution_keeps s i (asked.Random count) = λ e. ap (λ (r : ChaCha). record s { random = r }) (random_keeps s count e)
resolution_keeps s i (asked.OpNew alg mode max_bits) = in_state s _ (refusal_keeps s.operations i (allocate_answer alg mode max_bits))
resolution_keeps s i (asked.OpFree op) = in_state s _ (free_keeps s.operations i op)
resolution_keeps s i (asked.OpSetKey op object) = resolution_in_state s _ (set_keeps s.operations i op object (operation_at s.operations i op))
resolution_keeps s i (asked.OpCopy to from) = in_state s _ (copy_keeps s.operations i to (operation_at s.operations i to) (operation_at s.operations i from) refl)
resolution_keeps s i (asked.OpInfo op) = in_state s _ (on_keeps s.operations i op (asked.OpInfo op) (operation_at s.operations i op) refl)
resolution_keeps s i (asked.OpReset op) = in_state s _ (on_keeps s.operations i op (asked.OpReset op) (operation_at s.operations i op) refl)
resolution_keeps s i (asked.CipherInit op iv) = in_state s _ (on_keeps s.operations i op (asked.CipherInit op iv) (operation_at s.operations i op) refl)
resolution_keeps s i (asked.CipherUpdate op bytes room) = in_state s _ (on_keeps s.operations i op (asked.CipherUpdate op bytes room) (operation_at s.operations i op) refl)
resolution_keeps s i (asked.CipherFinal op bytes room) = in_state s _ (on_keeps s.operations i op (asked.CipherFinal op bytes room) (operation_at s.operations i op) refl)
resolution_keeps s i (asked.MacInit op) = in_state s _ (on_keeps s.operations i op (asked.MacInit op) (operation_at s.operations i op) refl)
resolution_keeps s i (asked.MacUpdate op bytes) = in_state s _ (on_keeps s.operations i op (asked.MacUpdate op bytes) (operation_at s.operations i op) refl)
resolution_keeps s i (asked.MacFinal op bytes room) = in_state s _ (on_keeps s.operations i op (asked.MacFinal op bytes room) (operation_at s.operations i op) refl)
resolution_keeps s i (asked.MacCompare op bytes mac) = in_state s _ (on_keeps s.operations i op (asked.MacCompare op bytes mac) (operation_at s.operations i op) refl)
resolution_keeps s i (asked.DigestUpdate op bytes) = in_state s _ (on_keeps s.operations i op (asked.DigestUpdate op bytes) (operation_at s.operations i op) refl)
resolution_keeps s i (asked.DigestFinal op bytes room) = in_state s _ (on_keeps s.operations i op (asked.DigestFinal op bytes room) (operation_at s.operations i op) refl)
resolution_keeps s i (asked.AeInit op nonce tag_bits) = in_state s _ (on_keeps s.operations i op (asked.AeInit op nonce tag_bits) (operation_at s.operations i op) refl)
resolution_keeps s i (asked.AeAad op bytes) = in_state s _ (on_keeps s.operations i op (asked.AeAad op bytes) (operation_at s.operations i op) refl)
resolution_keeps s i (asked.AeUpdate op bytes room) = in_state s _ (on_keeps s.operations i op (asked.AeUpdate op bytes room) (operation_at s.operations i op) refl)
resolution_keeps s i (asked.AeSeal op bytes room tag_room) = in_state s _ (on_keeps s.operations i op (asked.AeSeal op bytes room tag_room) (operation_at s.operations i op) refl)
resolution_keeps s i (asked.AeOpen op bytes room tag) = in_state s _ (on_keeps s.operations i op (asked.AeOpen op bytes room tag) (operation_at s.operations i op) refl)
resolution_keeps s i ask = λ e. refl

-- so does the rest of an ask for a key
pub key_effect_keeps : (s : CryptoState) (i op : ℕ) (given : KeyLook) → KeepsAtPanic s (key_effect s i op given)
key_effect_keeps s i op (gives.Key key) = in_state s _ (key_keeps s.operations i op key (operation_at s.operations i op) refl)
key_effect_keeps s i op gives.NoKey = λ e. refl
key_effect_keeps s i op (gives.Refused code) = λ e. refl
