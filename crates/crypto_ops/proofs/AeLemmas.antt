-- Numbers tell algorithms apart, and a refusal of a message is one of the operation.
use Rattle.std.proofs.Common.{◌≡◌, ◌&&◌, ◌+◌, ◌^◌, nat_lt, cond, length, take, drop, List, ◌++◌, arith, Bool, true, false, ℕ, Some, Result, Ok, Err, refl, sym, ap, ◌∙◌, subst, rules}
use Rattle.std.proofs.lemmas.Grind.{common_steps}
use Rattle.std.proofs.lemmas.Bool.{eqb-true, both_ways, cond_both}
use Rattle.aes_modes.specs.declared.modes.Mode.TheVariants.{Ecb, Cbc, Ctr}
use Rattle.aes_modes.specs.declared.modes.Way.TheVariants as ways
use Rattle.ae_modes.specs.Message.{Message, aad_answer}
use Rattle.ae_modes.specs.declared.answers.AeAnswer.{AeAnswer}
use Rattle.ae_modes.specs.declared.answers.AeAnswer.TheVariants.{Late, TooLong, ShortBuffer}
use Rattle.mac_digest.specs.declared.digests.Hash.TheVariants.{Sha256, Sha384, Sha512}
use Rattle.crypto_ops.specs.declared.algorithm.Algorithm.{Algorithm}
use Rattle.crypto_ops.specs.declared.algorithm.Algorithm.TheVariants.{Cipher, Gcm, Mac, Cmac, Digest}
use Rattle.crypto_ops.specs.Algorithms.{algorithm_at, algorithm_number, mode_number}
use Rattle.crypto_ops.specs.Operations.{CryptoOperation, is_same_algorithm, ae_given, after_comparison, Answers}
use Rattle.crypto_ops.specs.declared.answer.OpAnswer.{OpAnswer}
use Rattle.crypto_ops.specs.declared.answer.OpAnswer.TheVariants.{Misuse, Short}
use Rattle.crypto_ops.specs.Represents.{Serves}
use Rattle.crypto_ops.specs.declared.operation.State.{State}
use Rattle.crypto_ops.specs.declared.operation.State.TheVariants as states

-- the algorithm is found by its two numbers
found : (a : Algorithm) → algorithm_at (algorithm_number a) (mode_number a) ≡ Some a
unfolding algorithm_at
found (Cipher Ecb ways.Encrypt) = refl
found (Cipher Ecb ways.Decrypt) = refl
found (Cipher Cbc ways.Encrypt) = refl
found (Cipher Cbc ways.Decrypt) = refl
found (Cipher Ctr ways.Encrypt) = refl
found (Cipher Ctr ways.Decrypt) = refl
found (Gcm ways.Encrypt) = refl
found (Gcm ways.Decrypt) = refl
found (Mac Sha256) = refl
found (Mac Sha384) = refl
found (Mac Sha512) = refl
found Cmac = refl
found (Digest Sha256) = refl
found (Digest Sha384) = refl
found (Digest Sha512) = refl

both : (x y : Bool) → (x && y) ≡ true → (x ≡ true) × (y ≡ true)
both true y e = (refl, e)
both false y e = absurd (both_ways _ refl e)

-- so that two of the same numbers are one
pub same_numbers : (a b : Algorithm) → is_same_algorithm a b ≡ true → a ≡ b
same_numbers a b e =
    let two = both _ _ e in
    let number : algorithm_number a ≡ algorithm_number b = eqb-true _ _ two.0 in
    let mode : mode_number a ≡ mode_number b = eqb-true _ _ two.1 in
    let one : Some a ≡ Some b = sym (found a) ∙ (ap (λ n. algorithm_at n (mode_number a)) number ∙ (ap (λ m. algorithm_at (algorithm_number b) m) mode ∙ found b)) in
    cc

-- what stands in the place of the message doesn't depend on the greatest size of a key
pub serves_at : (s : State) (op : CryptoOperation) (max_bits : ℕ) → Serves s op → Serves s (record op { max_bits = max_bits })
serves_at states.Initial op max_bits h = h
serves_at (states.Cipher stream) op max_bits h = h
serves_at (states.Gcm gcm) op max_bits h = h
serves_at (states.Mac mac) op max_bits h = h
serves_at (states.Cmac code) op max_bits h = h
serves_at (states.Digest digester) op max_bits h = h

-- ---- refusals

-- where more bytes of a message are refused, so is all that looks for their room first
pub refused_first : (B : Type 0) (long short : Bool) (more : ℕ) (rest : Result ℕ AeAnswer) (given : B) (answer : OpAnswer)
    → Err answer ≡ ae_given (cond long (Err TooLong) (cond short (Err (ShortBuffer more)) (Ok more))) (tt {0})
    → Answers {A = B} (Err answer) (ae_given (cond long (Err TooLong) (cond short (Err (ShortBuffer more)) rest)) given)
refused_first B true short more rest given answer e =
    let same : answer ≡ Misuse = cc in
    subst (λ (a : OpAnswer). Answers {A = B} (Err a) (Err Misuse)) (sym same) refl
refused_first B false true more rest given answer e =
    let same : answer ≡ Short more = cc in
    subst (λ (a : OpAnswer). Answers {A = B} (Err a) (Err (Short more))) (sym same) refl
refused_first B false false more rest given answer e = search rules

-- and the operation is left as it was
pub refused_leaves : (B : Type 0) (long short : Bool) (more : ℕ) (op : CryptoOperation) (answer : OpAnswer)
    → Err answer ≡ ae_given (cond long (Err TooLong) (cond short (Err (ShortBuffer more)) (Ok more))) (tt {0})
    → after_comparison {A = B} (Err answer) op ≡ op
refused_leaves B true short more op answer e =
    let same : answer ≡ Misuse = cc in
    subst (λ (a : OpAnswer). after_comparison {A = B} (Err a) op ≡ op) (sym same) refl
refused_leaves B false true more op answer e =
    let same : answer ≡ Short more = cc in
    subst (λ (a : OpAnswer). after_comparison {A = B} (Err a) op ≡ op) (sym same) refl
refused_leaves B false false more op answer e = search rules

-- where there is room for more bytes of a message, it may have them
pub room_fits : (long short : Bool) (more : ℕ) (done : Unit {0})
    → Ok done ≡ ae_given (cond long (Err TooLong) (cond short (Err (ShortBuffer more)) (Ok more))) (tt {0})
    → (long ≡ false) × (short ≡ false)
room_fits true short more done e = search rules
room_fits false true more done e = search rules
room_fits false false more done e = (refl, refl)

-- refused associated data are misuse
pub aad_misuse : (m : Message) (n : ℕ) (e : AeAnswer) → aad_answer m n ≡ Err e → ae_given (aad_answer m n) (tt {0}) ≡ Err Misuse
aad_misuse m n e =
    let P : Result (Unit {0}) AeAnswer → Type 0 = λ r. r ≡ Err e → ae_given r (tt {0}) ≡ Err Misuse in
    let inner : Result (Unit {0}) AeAnswer = cond (nat_lt (2 ^ 32) (length m.aad + n)) (Err TooLong) (Ok tt) in
    cond_both (nat_lt 0 (length m.message)) (Err Late) inner P (λ _ h. refl)
    (λ _. cond_both (nat_lt (2 ^ 32) (length m.aad + n)) (Err TooLong) (Ok tt) P (λ _ h. refl) (λ _ h. cc))

-- ---- memory

-- the bytes of a vector that were all written over
pub written : (len n : ℕ) (new items : List ℕ) → len ≡ length items → length new ≡ length items → n ≡ length items
    → take len (new ++ drop (length new) items) ≡ take n new
written len n new items a b e = grind (arith, common_steps)
