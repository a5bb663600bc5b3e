-- Counter mode over a whole block, and that it undoes itself.
use Rattle.std.proofs.Common.{◌≡◌, ℕ, suc, ◌+◌, ◌/◌, ◌%◌, List, [], ◌∷◌, ◌++◌, Result, Ok, IfOk, bit_xor, length, take, get_or, refl, sym, ap, subst, ◌∙◌, arith}
use Rattle.std.proofs.lemmas.List.{take_all}
use lib.Bits.{xor_assoc, xor_self, xor_zero_r}
use Rattle.aes_core.specs.Cipher.{cipher}
use Rattle.aes_modes.specs.Conversion.{begun, with_more, text_of, update_answer}
use Rattle.aes_modes.specs.Modes.{number_of, counter_block, ctr_from, mode_text}
use Rattle.aes_modes.specs.declared.modes.Mode.TheVariants.{Ctr}
use Rattle.aes_modes.specs.declared.modes.ModeAnswer.{ModeAnswer}
use Rattle.aes_modes.specs.declared.modes.Way.{Way}
use Rattle.aes_modes.specs.declared.modes.Way.TheVariants.{Decrypt}
use Rattle.seal.specs.Sealing.{cipher_key, ciphertext}

-- a block has room for a block
pub whole_answer : (key : List ℕ) (way : Way) (iv : List ℕ) (count room : ℕ) → count ≡ 1024 → room ≡ 1024 → update_answer (begun key Ctr way iv) count room ≡ Ok 1024
whole_answer key way iv count room long wide = rw (long, wide) refl

-- and all of it is written
pub whole_text : (way : Way) (key iv from into : List ℕ) (answer : Result ℕ ModeAnswer) → length into ≡ 1024 → answer ≡ Ok 1024
    → IfOk answer (λ n. text_of (with_more (begun key Ctr way iv) from) ≡ text_of (begun key Ctr way iv) ++ take n into)
    → into ≡ mode_text Ctr way key iv from
unfolding mode_text ctr_from
whole_text way key iv from into answer long ok text =
    let P : Result ℕ ModeAnswer → Type 0 = λ a. IfOk a (λ n. text_of (with_more (begun key Ctr way iv) from) ≡ text_of (begun key Ctr way iv) ++ take n into) in
    let whole : ctr_from key iv 0 from ≡ take 1024 into = subst P ok text in
    sym (whole ∙ take_all 1024 into (omega (arith, long)))

undone : (key iv : List ℕ) (i : ℕ) (m : List ℕ) → ctr_from key iv i (ctr_from key iv i m) ≡ m
unfolding ctr_from
undone key iv i [] = refl
undone key iv i (x ∷ xs) = rw (undone key iv (suc i) xs) (ap (λ (z : ℕ). z ∷ xs) (twice x (get_or (cipher key (counter_block (number_of iv + i / 16))) (i % 16) 0))) where
  twice : (a b : ℕ) → bit_xor (bit_xor a b) b ≡ a
  twice a b = xor_assoc a b b ∙ ap (bit_xor a) (xor_self b) ∙ xor_zero_r a

-- a block that was sealed is opened to itself
pub reopened : (key iv plain cipher : List ℕ) → cipher ≡ ciphertext key iv plain → mode_text Ctr Decrypt (cipher_key key) iv cipher ≡ plain
unfolding ciphertext mode_text
reopened key iv plain cipher sealed = rw sealed (undone (cipher_key key) iv 0 plain)
