-- Each entry of a table is what the arithmetic of the field gives: one test over the whole table, and one lemma.
use Rattle.std.proofs.Common.{◌≡◌, ℕ, ◌<◌, ◌≤◌, ◌^◌, ◌+◌, ◌-◌, ◌%◌, arith, List, [], map, length, take, drop, get_or, refl, sym, ap, ◌∙◌, subst, zero-add}
use Rattle.std.proofs.lemmas.List.{get_or-map, get_or-take, get_or-drop}
use Rattle.std.proofs.lemmas.List.FromFn.{get_or-map-range_with_len, get_or-range_with_len}
use Rattle.std.specs.List.{range_with_len}
use Rattle.aes_core.specs.declared.tables.TheConstants.{SUBSTITUTE, INVERSE_SUBSTITUTE, ENCRYPT, LAST, DECRYPT, ROUND_CONSTANTS}
use Rattle.aes_core.specs.Field.{xtimes, multiply_powers, multiply, power, byte_of_bits, affine, inverse_affine, substitute, inverse_substitute}
use Rattle.aes_core.specs.Columns.{mixed_0, mixed_1, mixed_2, mixed_3, placed_0, placed_1, placed_2, placed_3, inv_mixed_0, inv_mixed_1, inv_mixed_2, inv_mixed_3}
use Rattle.aes_core.specs.KeyExpansion.{round_constant}
use Rattle.aes_core.specs.Words.{word_bytes}
use Rattle.aes_core.proofs.PowerLemmas.{all_bytes, at_byte, square, by_squares, inverse_by_squares, inverse-by_squares}

-- the substitutions with the inverse by squares
squared_substitute : ℕ → ℕ
squared_substitute x = affine (inverse_by_squares x)

squared_inverse_substitute : ℕ → ℕ
squared_inverse_substitute x = inverse_by_squares (inverse_affine x)

table_substitute : SUBSTITUTE ≡ map squared_substitute (range_with_len 0 256)
unfolding xtimes multiply_powers multiply square by_squares inverse_by_squares byte_of_bits affine squared_substitute
table_substitute = refl

table_inverse_substitute : INVERSE_SUBSTITUTE ≡ map squared_inverse_substitute (range_with_len 0 256)
unfolding xtimes multiply_powers multiply square by_squares inverse_by_squares byte_of_bits inverse_affine squared_inverse_substitute
table_inverse_substitute = refl

test_affine_bytes : all_bytes (λ (x : ℕ). inverse_affine x % 256) ≡ all_bytes inverse_affine
unfolding all_bytes byte_of_bits inverse_affine
test_affine_bytes = refl

inverse_affine_below : (x : ℕ) → x < 256 → inverse_affine x < 256
inverse_affine_below x h =
    let e : inverse_affine x % 256 ≡ inverse_affine x = at_byte (λ (y : ℕ). inverse_affine y % 256) inverse_affine test_affine_bytes x h in
    omega arith

-- the substitutions at one byte
pub entry_substitute : (t : List ℕ) (x : ℕ) → t ≡ SUBSTITUTE → x < 2 ^ 8 → get_or t x 0 ≡ substitute x
unfolding substitute squared_substitute
entry_substitute t x e h =
    ap (λ (l : List ℕ). get_or l x 0) (e ∙ table_substitute)
    ∙ get_or-map-range_with_len squared_substitute 0 256 x x 0 h (zero-add x) ∙ ap affine (sym (inverse-by_squares x h))

pub entry_inverse_substitute : (t : List ℕ) (x : ℕ) → t ≡ INVERSE_SUBSTITUTE → x < 2 ^ 8 → get_or t x 0 ≡ inverse_substitute x
unfolding inverse_substitute squared_inverse_substitute
entry_inverse_substitute t x e h =
    ap (λ (l : List ℕ). get_or l x 0) (e ∙ table_inverse_substitute)
    ∙ get_or-map-range_with_len squared_inverse_substitute 0 256 x x 0 h (zero-add x)
    ∙ sym (inverse-by_squares (inverse_affine x) (inverse_affine_below x h))

-- one quarter of a table of words at one byte, from a test of that quarter against a table of bytes
word_entry : (t s : List ℕ) (f : ℕ → List ℕ) (from x : ℕ) → map word_bytes (take 256 (drop from t)) ≡ map f s → length (take 256 (drop from t)) ≡ 256
    → length s ≡ 256 → x < 256 → word_bytes (get_or t (from + x) 0) ≡ f (get_or s x 0)
word_entry t s f from x e long same h =
    let none : List ℕ = [] in
    let below : ℕ → Type 0 = λ n. x < n in
    let quarter : List ℕ = take 256 (drop from t) in
    ap word_bytes (sym (get_or-take 256 (drop from t) x 0 h ∙ get_or-drop from t x 0))
    ∙ sym (get_or-map word_bytes quarter x 0 none (subst below (sym long) h))
    ∙ ap (λ (l : List (List ℕ)). get_or l x none) e ∙ get_or-map f s x 0 none (subst below (sym same) h)

test_encrypt_0 : map word_bytes (take 256 (drop 0 ENCRYPT)) ≡ map mixed_0 SUBSTITUTE
unfolding xtimes multiply_powers multiply word_bytes mixed_0
test_encrypt_0 = refl

pub entry_encrypt_0 : (t : List ℕ) (x : ℕ) → t ≡ ENCRYPT → x < 2 ^ 8 → word_bytes (get_or t x 0) ≡ mixed_0 (substitute x)
entry_encrypt_0 t x e h =
    ap (λ (k : ℕ). word_bytes (get_or t k 0)) (sym (zero-add x)) ∙ word_entry t SUBSTITUTE mixed_0 0 x (ap (λ (l : List ℕ). map word_bytes (take 256 (drop 0 l))) e ∙ test_encrypt_0)
    (ap (λ (l : List ℕ). length (take 256 (drop 0 l))) e ∙ refl) refl h
    ∙ ap mixed_0 (entry_substitute SUBSTITUTE x refl h)

test_encrypt_1 : map word_bytes (take 256 (drop 256 ENCRYPT)) ≡ map mixed_1 SUBSTITUTE
unfolding xtimes multiply_powers multiply word_bytes mixed_1
test_encrypt_1 = refl

pub entry_encrypt_1 : (t : List ℕ) (x : ℕ) → t ≡ ENCRYPT → x < 2 ^ 8 → word_bytes (get_or t (256 + x) 0) ≡ mixed_1 (substitute x)
entry_encrypt_1 t x e h =
    word_entry t SUBSTITUTE mixed_1 256 x (ap (λ (l : List ℕ). map word_bytes (take 256 (drop 256 l))) e ∙ test_encrypt_1)
    (ap (λ (l : List ℕ). length (take 256 (drop 256 l))) e ∙ refl) refl h
    ∙ ap mixed_1 (entry_substitute SUBSTITUTE x refl h)

test_encrypt_2 : map word_bytes (take 256 (drop 512 ENCRYPT)) ≡ map mixed_2 SUBSTITUTE
unfolding xtimes multiply_powers multiply word_bytes mixed_2
test_encrypt_2 = refl

pub entry_encrypt_2 : (t : List ℕ) (x : ℕ) → t ≡ ENCRYPT → x < 2 ^ 8 → word_bytes (get_or t (512 + x) 0) ≡ mixed_2 (substitute x)
entry_encrypt_2 t x e h =
    word_entry t SUBSTITUTE mixed_2 512 x (ap (λ (l : List ℕ). map word_bytes (take 256 (drop 512 l))) e ∙ test_encrypt_2)
    (ap (λ (l : List ℕ). length (take 256 (drop 512 l))) e ∙ refl) refl h
    ∙ ap mixed_2 (entry_substitute SUBSTITUTE x refl h)

test_encrypt_3 : map word_bytes (take 256 (drop 768 ENCRYPT)) ≡ map mixed_3 SUBSTITUTE
unfolding xtimes multiply_powers multiply word_bytes mixed_3
test_encrypt_3 = refl

pub entry_encrypt_3 : (t : List ℕ) (x : ℕ) → t ≡ ENCRYPT → x < 2 ^ 8 → word_bytes (get_or t (768 + x) 0) ≡ mixed_3 (substitute x)
entry_encrypt_3 t x e h =
    word_entry t SUBSTITUTE mixed_3 768 x (ap (λ (l : List ℕ). map word_bytes (take 256 (drop 768 l))) e ∙ test_encrypt_3)
    (ap (λ (l : List ℕ). length (take 256 (drop 768 l))) e ∙ refl) refl h
    ∙ ap mixed_3 (entry_substitute SUBSTITUTE x refl h)

test_last_0 : map word_bytes (take 256 (drop 0 LAST)) ≡ map placed_0 SUBSTITUTE
unfolding word_bytes placed_0
test_last_0 = refl

pub entry_last_0 : (t : List ℕ) (x : ℕ) → t ≡ LAST → x < 2 ^ 8 → word_bytes (get_or t x 0) ≡ placed_0 (substitute x)
entry_last_0 t x e h =
    ap (λ (k : ℕ). word_bytes (get_or t k 0)) (sym (zero-add x)) ∙ word_entry t SUBSTITUTE placed_0 0 x (ap (λ (l : List ℕ). map word_bytes (take 256 (drop 0 l))) e ∙ test_last_0)
    (ap (λ (l : List ℕ). length (take 256 (drop 0 l))) e ∙ refl) refl h
    ∙ ap placed_0 (entry_substitute SUBSTITUTE x refl h)

test_last_1 : map word_bytes (take 256 (drop 256 LAST)) ≡ map placed_1 SUBSTITUTE
unfolding word_bytes placed_1
test_last_1 = refl

pub entry_last_1 : (t : List ℕ) (x : ℕ) → t ≡ LAST → x < 2 ^ 8 → word_bytes (get_or t (256 + x) 0) ≡ placed_1 (substitute x)
entry_last_1 t x e h =
    word_entry t SUBSTITUTE placed_1 256 x (ap (λ (l : List ℕ). map word_bytes (take 256 (drop 256 l))) e ∙ test_last_1)
    (ap (λ (l : List ℕ). length (take 256 (drop 256 l))) e ∙ refl) refl h
    ∙ ap placed_1 (entry_substitute SUBSTITUTE x refl h)

test_last_2 : map word_bytes (take 256 (drop 512 LAST)) ≡ map placed_2 SUBSTITUTE
unfolding word_bytes placed_2
test_last_2 = refl

pub entry_last_2 : (t : List ℕ) (x : ℕ) → t ≡ LAST → x < 2 ^ 8 → word_bytes (get_or t (512 + x) 0) ≡ placed_2 (substitute x)
entry_last_2 t x e h =
    word_entry t SUBSTITUTE placed_2 512 x (ap (λ (l : List ℕ). map word_bytes (take 256 (drop 512 l))) e ∙ test_last_2)
    (ap (λ (l : List ℕ). length (take 256 (drop 512 l))) e ∙ refl) refl h
    ∙ ap placed_2 (entry_substitute SUBSTITUTE x refl h)

test_last_3 : map word_bytes (take 256 (drop 768 LAST)) ≡ map placed_3 SUBSTITUTE
unfolding word_bytes placed_3
test_last_3 = refl

pub entry_last_3 : (t : List ℕ) (x : ℕ) → t ≡ LAST → x < 2 ^ 8 → word_bytes (get_or t (768 + x) 0) ≡ placed_3 (substitute x)
entry_last_3 t x e h =
    word_entry t SUBSTITUTE placed_3 768 x (ap (λ (l : List ℕ). map word_bytes (take 256 (drop 768 l))) e ∙ test_last_3)
    (ap (λ (l : List ℕ). length (take 256 (drop 768 l))) e ∙ refl) refl h
    ∙ ap placed_3 (entry_substitute SUBSTITUTE x refl h)

test_decrypt_0 : map word_bytes (take 256 (drop 0 DECRYPT)) ≡ map inv_mixed_0 INVERSE_SUBSTITUTE
unfolding xtimes multiply_powers multiply word_bytes inv_mixed_0
test_decrypt_0 = refl

pub entry_decrypt_0 : (t : List ℕ) (x : ℕ) → t ≡ DECRYPT → x < 2 ^ 8 → word_bytes (get_or t x 0) ≡ inv_mixed_0 (inverse_substitute x)
entry_decrypt_0 t x e h =
    ap (λ (k : ℕ). word_bytes (get_or t k 0)) (sym (zero-add x)) ∙ word_entry t INVERSE_SUBSTITUTE inv_mixed_0 0 x (ap (λ (l : List ℕ). map word_bytes (take 256 (drop 0 l))) e ∙ test_decrypt_0)
    (ap (λ (l : List ℕ). length (take 256 (drop 0 l))) e ∙ refl) refl h
    ∙ ap inv_mixed_0 (entry_inverse_substitute INVERSE_SUBSTITUTE x refl h)

test_decrypt_1 : map word_bytes (take 256 (drop 256 DECRYPT)) ≡ map inv_mixed_1 INVERSE_SUBSTITUTE
unfolding xtimes multiply_powers multiply word_bytes inv_mixed_1
test_decrypt_1 = refl

pub entry_decrypt_1 : (t : List ℕ) (x : ℕ) → t ≡ DECRYPT → x < 2 ^ 8 → word_bytes (get_or t (256 + x) 0) ≡ inv_mixed_1 (inverse_substitute x)
entry_decrypt_1 t x e h =
    word_entry t INVERSE_SUBSTITUTE inv_mixed_1 256 x (ap (λ (l : List ℕ). map word_bytes (take 256 (drop 256 l))) e ∙ test_decrypt_1)
    (ap (λ (l : List ℕ). length (take 256 (drop 256 l))) e ∙ refl) refl h
    ∙ ap inv_mixed_1 (entry_inverse_substitute INVERSE_SUBSTITUTE x refl h)

test_decrypt_2 : map word_bytes (take 256 (drop 512 DECRYPT)) ≡ map inv_mixed_2 INVERSE_SUBSTITUTE
unfolding xtimes multiply_powers multiply word_bytes inv_mixed_2
test_decrypt_2 = refl

pub entry_decrypt_2 : (t : List ℕ) (x : ℕ) → t ≡ DECRYPT → x < 2 ^ 8 → word_bytes (get_or t (512 + x) 0) ≡ inv_mixed_2 (inverse_substitute x)
entry_decrypt_2 t x e h =
    word_entry t INVERSE_SUBSTITUTE inv_mixed_2 512 x (ap (λ (l : List ℕ). map word_bytes (take 256 (drop 512 l))) e ∙ test_decrypt_2)
    (ap (λ (l : List ℕ). length (take 256 (drop 512 l))) e ∙ refl) refl h
    ∙ ap inv_mixed_2 (entry_inverse_substitute INVERSE_SUBSTITUTE x refl h)

test_decrypt_3 : map word_bytes (take 256 (drop 768 DECRYPT)) ≡ map inv_mixed_3 INVERSE_SUBSTITUTE
unfolding xtimes multiply_powers multiply word_bytes inv_mixed_3
test_decrypt_3 = refl

pub entry_decrypt_3 : (t : List ℕ) (x : ℕ) → t ≡ DECRYPT → x < 2 ^ 8 → word_bytes (get_or t (768 + x) 0) ≡ inv_mixed_3 (inverse_substitute x)
entry_decrypt_3 t x e h =
    word_entry t INVERSE_SUBSTITUTE inv_mixed_3 768 x (ap (λ (l : List ℕ). map word_bytes (take 256 (drop 768 l))) e ∙ test_decrypt_3)
    (ap (λ (l : List ℕ). length (take 256 (drop 768 l))) e ∙ refl) refl h
    ∙ ap inv_mixed_3 (entry_inverse_substitute INVERSE_SUBSTITUTE x refl h)

-- what the substitution gives is a byte
test_bytes : map (λ (s : ℕ). s % 256) SUBSTITUTE ≡ SUBSTITUTE
test_bytes = refl

pub substitute_below : (x : ℕ) → x < 2 ^ 8 → substitute x < 256
substitute_below x h =
    let e : get_or SUBSTITUTE x 0 ≡ substitute x = entry_substitute SUBSTITUTE x refl h in
    let m : get_or SUBSTITUTE x 0 ≡ get_or SUBSTITUTE x 0 % 256 =
    ap (λ (l : List ℕ). get_or l x 0) (sym test_bytes) ∙ get_or-map (λ (s : ℕ). s % 256) SUBSTITUTE x 0 0 h in
    omega arith

test_inverse_bytes : map (λ (s : ℕ). s % 256) INVERSE_SUBSTITUTE ≡ INVERSE_SUBSTITUTE
test_inverse_bytes = refl

pub inverse_substitute_below : (x : ℕ) → x < 2 ^ 8 → inverse_substitute x < 256
inverse_substitute_below x h =
    let e : get_or INVERSE_SUBSTITUTE x 0 ≡ inverse_substitute x = entry_inverse_substitute INVERSE_SUBSTITUTE x refl h in
    let m : get_or INVERSE_SUBSTITUTE x 0 ≡ get_or INVERSE_SUBSTITUTE x 0 % 256 =
    ap (λ (l : List ℕ). get_or l x 0) (sym test_inverse_bytes) ∙ get_or-map (λ (s : ℕ). s % 256) INVERSE_SUBSTITUTE x 0 0 h in
    omega arith

-- the substitution of each byte is undone, and so is its inverse: each table leads back through the other
undone_at : (s t : List ℕ) (f g : ℕ → ℕ) (x : ℕ) → map (λ (y : ℕ). get_or t y 0) s ≡ range_with_len 0 256 → length s ≡ 256 → x < 256
    → get_or s x 0 ≡ f x → get_or t (f x) 0 ≡ g (f x) → g (f x) ≡ x
undone_at s t f g x e long h there back =
    sym back ∙ ap (λ (y : ℕ). get_or t y 0) (sym there)
    ∙ sym (get_or-map (λ (y : ℕ). get_or t y 0) s x 0 0 (subst (λ (n : ℕ). x < n) (sym long) h))
    ∙ ap (λ (l : List ℕ). get_or l x 0) e ∙ get_or-range_with_len 0 256 x 0 h ∙ zero-add x

pub inverse_substitute-substitute : (x : ℕ) → x < 2 ^ 8 → inverse_substitute (substitute x) ≡ x
inverse_substitute-substitute x h =
    undone_at SUBSTITUTE INVERSE_SUBSTITUTE substitute inverse_substitute x refl refl h (entry_substitute SUBSTITUTE x refl h)
    (entry_inverse_substitute INVERSE_SUBSTITUTE (substitute x) refl (substitute_below x h))

pub substitute-inverse_substitute : (x : ℕ) → x < 2 ^ 8 → substitute (inverse_substitute x) ≡ x
substitute-inverse_substitute x h =
    undone_at INVERSE_SUBSTITUTE SUBSTITUTE inverse_substitute substitute x refl refl h (entry_inverse_substitute INVERSE_SUBSTITUTE x refl h)
    (entry_substitute SUBSTITUTE (inverse_substitute x) refl (inverse_substitute_below x h))

test_round_constants : ROUND_CONSTANTS ≡ map round_constant (range_with_len 1 10)
unfolding xtimes multiply_powers multiply power round_constant
test_round_constants = refl

pub entry_round_constant : (t : List ℕ) (j : ℕ) → t ≡ ROUND_CONSTANTS → 1 ≤ j → j ≤ 10 → get_or t (j - 1) 0 ≡ round_constant j
entry_round_constant t j e low high =
    ap (λ (l : List ℕ). get_or l (j - 1) 0) (e ∙ test_round_constants)
    ∙ get_or-map-range_with_len round_constant 1 10 (j - 1) j 0 (omega arith) (omega arith)
