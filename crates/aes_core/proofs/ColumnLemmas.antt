-- Words and their bytes: sums of words, and the columns of a round.
use Rattle.std.proofs.Common.{◌≡◌, ℕ, ◌%◌, ◌/◌, ◌^◌, List, [], ◌∷◌, bit_xor, slice_index, arith, refl, sym, ap, ◌∙◌}
use Rattle.std.proofs.lemmas.Nat.{xor_comm, xor_shr, xor_mod}
use lib.Bits.{xor_assoc, xor_zero_l, xor_zero_r}
use Rattle.aes_core.specs.Columns.{mixed_0, mixed_1, mixed_2, mixed_3, placed_0, placed_1, placed_2, placed_3, inv_mixed_0, inv_mixed_1, inv_mixed_2, inv_mixed_3}
use Rattle.aes_core.specs.Field.{substitute, inverse_substitute}
use Rattle.aes_core.specs.KeyExpansion.{inv_mixed_word}
use Rattle.aes_core.specs.Transformations.{mix_column, inv_mix_column}
use Rattle.aes_core.specs.Words.{word_bytes, add_columns}
use Rattle.aes_core.proofs.TableEntries.{inverse_substitute-substitute}

pub xor_part : (x y k : ℕ) → bit_xor x y / 2 ^ k % 2 ^ 8 ≡ bit_xor (x / 2 ^ k % 2 ^ 8) (y / 2 ^ k % 2 ^ 8)
xor_part x y k = ap (λ (z : ℕ). z % 2 ^ 8) (xor_shr x y k) ∙ xor_mod (x / 2 ^ k) (y / 2 ^ k) 8

four : (a b c d p q r s : ℕ) → a ≡ p → b ≡ q → c ≡ r → d ≡ s → a ∷ b ∷ c ∷ d ∷ [] ≡ p ∷ q ∷ r ∷ s ∷ []
four a b c d p q r s ea eb ec ed = cc

-- the bytes of a sum of words
pub word_bytes-bit_xor : (x y : ℕ) → word_bytes (bit_xor x y) ≡ add_columns (word_bytes x) (word_bytes y)
unfolding word_bytes
word_bytes-bit_xor x y = four _ _ _ _ _ _ _ _ (xor_part x y 24) (xor_part x y 16) (xor_part x y 8) (xor_mod x y 8)

-- one more word in a sum
pub sum_more : (p q : ℕ) (bp bq : List ℕ) → word_bytes p ≡ bp → word_bytes q ≡ bq → word_bytes (bit_xor p q) ≡ add_columns bp bq
sum_more p q bp bq ep eq =
    word_bytes-bit_xor p q ∙ ap (λ (z : List ℕ). add_columns z (word_bytes q)) ep ∙ ap (λ (z : List ℕ). add_columns bp z) eq

-- the bytes of the sum of five words
sum_five : (p q r s k : ℕ) (bp bq br bs : List ℕ) → word_bytes p ≡ bp → word_bytes q ≡ bq → word_bytes r ≡ br → word_bytes s ≡ bs
    → word_bytes (bit_xor (bit_xor (bit_xor (bit_xor p q) r) s) k) ≡ add_columns (add_columns (add_columns (add_columns bp bq) br) bs) (word_bytes k)
sum_five p q r s k bp bq br bs ep eq er es =
    sum_more _ k _ (word_bytes k) (sum_more _ s _ bs (sum_more _ r _ br (sum_more p q bp bq ep eq) er) es) refl

pub encrypt_column_is : (a b c d p q r s k : ℕ) → word_bytes p ≡ mixed_0 a → word_bytes q ≡ mixed_1 b → word_bytes r ≡ mixed_2 c → word_bytes s ≡ mixed_3 d
    → word_bytes (bit_xor (bit_xor (bit_xor (bit_xor p q) r) s) k) ≡ add_columns (mix_column a b c d) (word_bytes k)
unfolding mixed_0 mixed_1 mixed_2 mixed_3 mix_column
encrypt_column_is a b c d p q r s k ep eq er es = sum_five p q r s k (mixed_0 a) (mixed_1 b) (mixed_2 c) (mixed_3 d) ep eq er es

pub decrypt_column_is : (a b c d p q r s k : ℕ) → word_bytes p ≡ inv_mixed_0 a → word_bytes q ≡ inv_mixed_1 b → word_bytes r ≡ inv_mixed_2 c → word_bytes s ≡ inv_mixed_3 d
    → word_bytes (bit_xor (bit_xor (bit_xor (bit_xor p q) r) s) k) ≡ add_columns (inv_mix_column a b c d) (word_bytes k)
unfolding inv_mixed_0 inv_mixed_1 inv_mixed_2 inv_mixed_3 inv_mix_column
decrypt_column_is a b c d p q r s k ep eq er es = sum_five p q r s k (inv_mixed_0 a) (inv_mixed_1 b) (inv_mixed_2 c) (inv_mixed_3 d) ep eq er es

-- the sum of four words from the bytes b of a word, each substituted before
pub inverse_mixed_word_is : (x : ℕ) (b : List ℕ) (i j k l p q r s : ℕ) → b ≡ word_bytes x
    → i ≡ substitute (slice_index b 0) → j ≡ substitute (slice_index b 1) → k ≡ substitute (slice_index b 2) → l ≡ substitute (slice_index b 3)
    → word_bytes p ≡ inv_mixed_0 (inverse_substitute i) → word_bytes q ≡ inv_mixed_1 (inverse_substitute j)
    → word_bytes r ≡ inv_mixed_2 (inverse_substitute k) → word_bytes s ≡ inv_mixed_3 (inverse_substitute l)
    → word_bytes (bit_xor (bit_xor (bit_xor p q) r) s) ≡ inv_mixed_word x
unfolding word_bytes inv_mixed_0 inv_mixed_1 inv_mixed_2 inv_mixed_3 inv_mixed_word inv_mix_column
inverse_mixed_word_is x b i j k l p q r s eb ei ej ek el ep eq er es =
    let back : (y : ℕ) → inverse_substitute (substitute (y % 2 ^ 8)) ≡ y % 2 ^ 8 =
    λ y. inverse_substitute-substitute (y % 2 ^ 8) (omega arith) in
    let fp : word_bytes p ≡ inv_mixed_0 (x / 2 ^ 24 % 2 ^ 8) = rw (ei, eb, back (x / 2 ^ 24)) at ep in
    let fq : word_bytes q ≡ inv_mixed_1 (x / 2 ^ 16 % 2 ^ 8) = rw (ej, eb, back (x / 2 ^ 16)) at eq in
    let fr : word_bytes r ≡ inv_mixed_2 (x / 2 ^ 8 % 2 ^ 8) = rw (ek, eb, back (x / 2 ^ 8)) at er in
    let fs : word_bytes s ≡ inv_mixed_3 (x % 2 ^ 8) = rw (el, eb, back x) at es in
    sum_more _ s _ _ (sum_more _ r _ _ (sum_more p q _ _ fp fq) fr) fs

-- ---- a column whose sum lacked one byte
xor_swap : (x y z : ℕ) → bit_xor (bit_xor x y) z ≡ bit_xor (bit_xor x z) y
xor_swap x y z = xor_assoc x y z ∙ ap (bit_xor x) (xor_comm y z) ∙ sym (xor_assoc x z y)

pub without_3_is : (a b c d p q r s k : ℕ) → word_bytes p ≡ mixed_0 a → word_bytes q ≡ mixed_1 b → word_bytes r ≡ mixed_2 c → word_bytes s ≡ mixed_3 d
    → word_bytes (bit_xor (bit_xor (bit_xor (bit_xor p q) r) k) s) ≡ add_columns (mix_column a b c d) (word_bytes k)
without_3_is a b c d p q r s k ep eq er es =
    ap word_bytes (xor_swap (bit_xor (bit_xor p q) r) k s) ∙ encrypt_column_is a b c d p q r s k ep eq er es

pub without_2_is : (a b c d p q r s k : ℕ) → word_bytes p ≡ mixed_0 a → word_bytes q ≡ mixed_1 b → word_bytes r ≡ mixed_2 c → word_bytes s ≡ mixed_3 d
    → word_bytes (bit_xor (bit_xor (bit_xor (bit_xor p q) s) k) r) ≡ add_columns (mix_column a b c d) (word_bytes k)
without_2_is a b c d p q r s k ep eq er es =
    ap word_bytes (xor_swap (bit_xor (bit_xor p q) s) k r)
    ∙ ap (λ (z : ℕ). word_bytes (bit_xor z k)) (xor_swap (bit_xor p q) s r)
    ∙ encrypt_column_is a b c d p q r s k ep eq er es

pub without_1_is : (a b c d p q r s k : ℕ) → word_bytes p ≡ mixed_0 a → word_bytes q ≡ mixed_1 b → word_bytes r ≡ mixed_2 c → word_bytes s ≡ mixed_3 d
    → word_bytes (bit_xor (bit_xor (bit_xor (bit_xor p r) s) k) q) ≡ add_columns (mix_column a b c d) (word_bytes k)
without_1_is a b c d p q r s k ep eq er es =
    ap word_bytes (xor_swap (bit_xor (bit_xor p r) s) k q)
    ∙ ap (λ (z : ℕ). word_bytes (bit_xor z k)) (xor_swap (bit_xor p r) s q)
    ∙ ap (λ (z : ℕ). word_bytes (bit_xor (bit_xor z s) k)) (xor_swap p r q)
    ∙ encrypt_column_is a b c d p q r s k ep eq er es

pub without_0_is : (a b c d p q r s k : ℕ) → word_bytes p ≡ mixed_0 a → word_bytes q ≡ mixed_1 b → word_bytes r ≡ mixed_2 c → word_bytes s ≡ mixed_3 d
    → word_bytes (bit_xor (bit_xor (bit_xor (bit_xor q r) s) k) p) ≡ add_columns (mix_column a b c d) (word_bytes k)
without_0_is a b c d p q r s k ep eq er es =
    ap word_bytes (xor_swap (bit_xor (bit_xor q r) s) k p)
    ∙ ap (λ (z : ℕ). word_bytes (bit_xor z k)) (xor_swap (bit_xor q r) s p)
    ∙ ap (λ (z : ℕ). word_bytes (bit_xor (bit_xor z s) k)) (xor_swap q r p ∙ ap (λ (z : ℕ). bit_xor z r) (xor_comm q p))
    ∙ encrypt_column_is a b c d p q r s k ep eq er es

-- ---- a column that began with its key
add_columns_comm : (x y : List ℕ) → add_columns x y ≡ add_columns y x
add_columns_comm x y =
    four _ _ _ _ _ _ _ _ (xor_comm (slice_index x 0) (slice_index y 0)) (xor_comm (slice_index x 1) (slice_index y 1))
    (xor_comm (slice_index x 2) (slice_index y 2)) (xor_comm (slice_index x 3) (slice_index y 3))

add_columns_swap : (x y z : List ℕ) → add_columns (add_columns x y) z ≡ add_columns (add_columns x z) y
add_columns_swap x y z =
    four _ _ _ _ _ _ _ _ (xor_swap (slice_index x 0) (slice_index y 0) (slice_index z 0)) (xor_swap (slice_index x 1) (slice_index y 1) (slice_index z 1))
    (xor_swap (slice_index x 2) (slice_index y 2) (slice_index z 2)) (xor_swap (slice_index x 3) (slice_index y 3) (slice_index z 3))

-- the first of a sum goes last
turned_3 : (x a b : List ℕ) → add_columns (add_columns x a) b ≡ add_columns (add_columns a b) x
turned_3 x a b = ap (λ (z : List ℕ). add_columns z b) (add_columns_comm x a) ∙ add_columns_swap a x b

turned_4 : (x a b c : List ℕ) → add_columns (add_columns (add_columns x a) b) c ≡ add_columns (add_columns (add_columns a b) c) x
turned_4 x a b c = ap (λ (z : List ℕ). add_columns z c) (turned_3 x a b) ∙ add_columns_swap (add_columns a b) x c

turned_5 : (x a b c d : List ℕ) → add_columns (add_columns (add_columns (add_columns x a) b) c) d ≡ add_columns (add_columns (add_columns (add_columns a b) c) d) x
turned_5 x a b c d = ap (λ (z : List ℕ). add_columns z d) (turned_4 x a b c) ∙ add_columns_swap (add_columns (add_columns a b) c) x d

-- the four shares of a column
pub mixed_sum : (a b c d : ℕ) → add_columns (add_columns (add_columns (mixed_0 a) (mixed_1 b)) (mixed_2 c)) (mixed_3 d) ≡ mix_column a b c d
unfolding mixed_0 mixed_1 mixed_2 mixed_3 mix_column
mixed_sum a b c d = refl

pub placed_sum : (a b c d : ℕ) → add_columns (add_columns (add_columns (placed_0 a) (placed_1 b)) (placed_2 c)) (placed_3 d) ≡ a ∷ b ∷ c ∷ d ∷ []
unfolding placed_0 placed_1 placed_2 placed_3
placed_sum a b c d =
    four _ _ _ _ a b c d (xor_zero_r (bit_xor (bit_xor a 0) 0) ∙ xor_zero_r (bit_xor a 0) ∙ xor_zero_r a)
    (xor_zero_r (bit_xor (bit_xor 0 b) 0) ∙ xor_zero_r (bit_xor 0 b) ∙ xor_zero_l b) (xor_zero_r (bit_xor 0 c) ∙ xor_zero_l c) (xor_zero_l d)

-- a word to which four columns were added one after the other
four_added : (p q r s : ℕ) (k w x y z : List ℕ) → word_bytes p ≡ add_columns k w → word_bytes q ≡ add_columns (word_bytes p) x
    → word_bytes r ≡ add_columns (word_bytes q) y → word_bytes s ≡ add_columns (word_bytes r) z
    → word_bytes s ≡ add_columns (add_columns (add_columns (add_columns k w) x) y) z
four_added p q r s k w x y z ep eq er es =
    es ∙ ap (λ (l : List ℕ). add_columns l z) (er ∙ ap (λ (l : List ℕ). add_columns l y) (eq ∙ ap (λ (l : List ℕ). add_columns l x) ep))

-- the column of a round, whose shares w, x, y and z were added to the key from any of them on
pub column_from_0 : (k p q r s : ℕ) (w x y z t : List ℕ) → add_columns (add_columns (add_columns w x) y) z ≡ t
    → word_bytes p ≡ add_columns (word_bytes k) w → word_bytes q ≡ add_columns (word_bytes p) x
    → word_bytes r ≡ add_columns (word_bytes q) y → word_bytes s ≡ add_columns (word_bytes r) z → word_bytes s ≡ add_columns t (word_bytes k)
column_from_0 k p q r s w x y z t sum ep eq er es =
    four_added p q r s (word_bytes k) w x y z ep eq er es
    ∙ turned_5 (word_bytes k) w x y z ∙ ap (λ (l : List ℕ). add_columns l (word_bytes k)) sum

pub column_from_3 : (k p q r s : ℕ) (w x y z t : List ℕ) → add_columns (add_columns (add_columns w x) y) z ≡ t
    → word_bytes p ≡ add_columns (word_bytes k) z → word_bytes q ≡ add_columns (word_bytes p) w
    → word_bytes r ≡ add_columns (word_bytes q) x → word_bytes s ≡ add_columns (word_bytes r) y → word_bytes s ≡ add_columns t (word_bytes k)
column_from_3 k p q r s w x y z t sum ep eq er es =
    column_from_0 k p q r s z w x y t (turned_4 z w x y ∙ sum) ep eq er es

pub column_from_2 : (k p q r s : ℕ) (w x y z t : List ℕ) → add_columns (add_columns (add_columns w x) y) z ≡ t
    → word_bytes p ≡ add_columns (word_bytes k) y → word_bytes q ≡ add_columns (word_bytes p) z
    → word_bytes r ≡ add_columns (word_bytes q) w → word_bytes s ≡ add_columns (word_bytes r) x → word_bytes s ≡ add_columns t (word_bytes k)
column_from_2 k p q r s w x y z t sum ep eq er es =
    column_from_3 k p q r s z w x y t (turned_4 z w x y ∙ sum) ep eq er es

pub column_from_1 : (k p q r s : ℕ) (w x y z t : List ℕ) → add_columns (add_columns (add_columns w x) y) z ≡ t
    → word_bytes p ≡ add_columns (word_bytes k) x → word_bytes q ≡ add_columns (word_bytes p) y
    → word_bytes r ≡ add_columns (word_bytes q) z → word_bytes s ≡ add_columns (word_bytes r) w → word_bytes s ≡ add_columns t (word_bytes k)
column_from_1 k p q r s w x y z t sum ep eq er es =
    column_from_2 k p q r s z w x y t (turned_4 z w x y ∙ sum) ep eq er es
