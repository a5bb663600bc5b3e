-- A round over four words is the round over the bytes of the block.
use Rattle.std.proofs.Common.{◌≡◌, ℕ, List, [], ◌∷◌, ◌++◌, bit_xor, slice_index, refl, length}
use Rattle.std.proofs.lemmas.List.FromFn.{fill_by_all}
use Rattle.aes_core.specs.Field.{substitute, inverse_substitute}
use Rattle.aes_core.specs.Transformations.{state_of, sub_bytes, shift_rows, mix_column, mix_columns, add_round_key, inv_sub_bytes, inv_shift_rows, inv_mix_column, inv_mix_columns}
use Rattle.aes_core.specs.Words.{word_bytes, block_of, add_columns}
use Rattle.aes_core.proofs.ColumnLemmas.{word_bytes-bit_xor}

pub four_words : (p q r s : ℕ) (p' q' r' s' : List ℕ) → word_bytes p ≡ p' → word_bytes q ≡ q' → word_bytes r ≡ r' → word_bytes s ≡ s'
    → block_of p q r s ≡ p' ++ (q' ++ (r' ++ s'))
four_words p q r s p' q' r' s' ep eq er es = rw (ep, eq, er, es) refl

pub add_key_is : (a b c d k l m n : ℕ) → block_of (bit_xor a k) (bit_xor b l) (bit_xor c m) (bit_xor d n) ≡ add_round_key (block_of a b c d) (block_of k l m n)
unfolding add_round_key word_bytes
add_key_is a b c d k l m n =
    four_words _ _ _ _ _ _ _ _ (word_bytes-bit_xor a k) (word_bytes-bit_xor b l) (word_bytes-bit_xor c m) (word_bytes-bit_xor d n)

pub encrypt_round_is : (a b c d k l m n p q r s : ℕ) (A B C D : List ℕ)
    → A ≡ word_bytes a → B ≡ word_bytes b → C ≡ word_bytes c → D ≡ word_bytes d
    → word_bytes p ≡ add_columns (mix_column (substitute (slice_index A 0)) (substitute (slice_index B 1)) (substitute (slice_index C 2)) (substitute (slice_index D 3))) (word_bytes k)
    → word_bytes q ≡ add_columns (mix_column (substitute (slice_index B 0)) (substitute (slice_index C 1)) (substitute (slice_index D 2)) (substitute (slice_index A 3))) (word_bytes l)
    → word_bytes r ≡ add_columns (mix_column (substitute (slice_index C 0)) (substitute (slice_index D 1)) (substitute (slice_index A 2)) (substitute (slice_index B 3))) (word_bytes m)
    → word_bytes s ≡ add_columns (mix_column (substitute (slice_index D 0)) (substitute (slice_index A 1)) (substitute (slice_index B 2)) (substitute (slice_index C 3))) (word_bytes n)
    → block_of p q r s ≡ add_round_key (mix_columns (shift_rows (sub_bytes (block_of a b c d)))) (block_of k l m n)
unfolding add_round_key mix_columns mix_column shift_rows sub_bytes word_bytes
encrypt_round_is a b c d k l m n p q r s A B C D ea eb ec ed ep eq er es =
    four_words p q r s _ _ _ _ (rw (ea, eb, ec, ed) at ep) (rw (ea, eb, ec, ed) at eq) (rw (ea, eb, ec, ed) at er) (rw (ea, eb, ec, ed) at es)

pub last_encrypt_round_is : (a b c d k l m n p q r s : ℕ) (A B C D : List ℕ)
    → A ≡ word_bytes a → B ≡ word_bytes b → C ≡ word_bytes c → D ≡ word_bytes d
    → word_bytes p ≡ add_columns (substitute (slice_index A 0) ∷ substitute (slice_index B 1) ∷ substitute (slice_index C 2) ∷ substitute (slice_index D 3) ∷ []) (word_bytes k)
    → word_bytes q ≡ add_columns (substitute (slice_index B 0) ∷ substitute (slice_index C 1) ∷ substitute (slice_index D 2) ∷ substitute (slice_index A 3) ∷ []) (word_bytes l)
    → word_bytes r ≡ add_columns (substitute (slice_index C 0) ∷ substitute (slice_index D 1) ∷ substitute (slice_index A 2) ∷ substitute (slice_index B 3) ∷ []) (word_bytes m)
    → word_bytes s ≡ add_columns (substitute (slice_index D 0) ∷ substitute (slice_index A 1) ∷ substitute (slice_index B 2) ∷ substitute (slice_index C 3) ∷ []) (word_bytes n)
    → block_of p q r s ≡ add_round_key (shift_rows (sub_bytes (block_of a b c d))) (block_of k l m n)
unfolding add_round_key shift_rows sub_bytes word_bytes
last_encrypt_round_is a b c d k l m n p q r s A B C D ea eb ec ed ep eq er es =
    four_words p q r s _ _ _ _ (rw (ea, eb, ec, ed) at ep) (rw (ea, eb, ec, ed) at eq) (rw (ea, eb, ec, ed) at er) (rw (ea, eb, ec, ed) at es)

pub decrypt_round_is : (a b c d k l m n p q r s : ℕ) (A B C D : List ℕ)
    → A ≡ word_bytes a → B ≡ word_bytes b → C ≡ word_bytes c → D ≡ word_bytes d
    → word_bytes p ≡ add_columns (inv_mix_column (inverse_substitute (slice_index A 0)) (inverse_substitute (slice_index D 1)) (inverse_substitute (slice_index C 2))
    (inverse_substitute (slice_index B 3))) (word_bytes k)
    → word_bytes q ≡ add_columns (inv_mix_column (inverse_substitute (slice_index B 0)) (inverse_substitute (slice_index A 1)) (inverse_substitute (slice_index D 2))
    (inverse_substitute (slice_index C 3))) (word_bytes l)
    → word_bytes r ≡ add_columns (inv_mix_column (inverse_substitute (slice_index C 0)) (inverse_substitute (slice_index B 1)) (inverse_substitute (slice_index A 2))
    (inverse_substitute (slice_index D 3))) (word_bytes m)
    → word_bytes s ≡ add_columns (inv_mix_column (inverse_substitute (slice_index D 0)) (inverse_substitute (slice_index C 1)) (inverse_substitute (slice_index B 2))
    (inverse_substitute (slice_index A 3))) (word_bytes n)
    → block_of p q r s ≡ add_round_key (inv_mix_columns (inv_sub_bytes (inv_shift_rows (block_of a b c d)))) (block_of k l m n)
unfolding add_round_key inv_mix_columns inv_mix_column inv_shift_rows inv_sub_bytes word_bytes
decrypt_round_is a b c d k l m n p q r s A B C D ea eb ec ed ep eq er es =
    four_words p q r s _ _ _ _ (rw (ea, eb, ec, ed) at ep) (rw (ea, eb, ec, ed) at eq) (rw (ea, eb, ec, ed) at er) (rw (ea, eb, ec, ed) at es)

pub last_decrypt_round_is : (a b c d p q r s : ℕ) (A B C D : List ℕ)
    → A ≡ word_bytes a → B ≡ word_bytes b → C ≡ word_bytes c → D ≡ word_bytes d
    → word_bytes p ≡ (inverse_substitute (slice_index A 0)) ∷ (inverse_substitute (slice_index D 1)) ∷ (inverse_substitute (slice_index C 2)) ∷ (inverse_substitute (slice_index B 3)) ∷ []
    → word_bytes q ≡ (inverse_substitute (slice_index B 0)) ∷ (inverse_substitute (slice_index A 1)) ∷ (inverse_substitute (slice_index D 2)) ∷ (inverse_substitute (slice_index C 3)) ∷ []
    → word_bytes r ≡ (inverse_substitute (slice_index C 0)) ∷ (inverse_substitute (slice_index B 1)) ∷ (inverse_substitute (slice_index A 2)) ∷ (inverse_substitute (slice_index D 3)) ∷ []
    → word_bytes s ≡ (inverse_substitute (slice_index D 0)) ∷ (inverse_substitute (slice_index C 1)) ∷ (inverse_substitute (slice_index B 2)) ∷ (inverse_substitute (slice_index A 3)) ∷ []
    → block_of p q r s ≡ inv_sub_bytes (inv_shift_rows (block_of a b c d))
unfolding inv_shift_rows inv_sub_bytes word_bytes
last_decrypt_round_is a b c d p q r s A B C D ea eb ec ed ep eq er es =
    four_words p q r s _ _ _ _ (rw (ea, eb, ec, ed) at ep) (rw (ea, eb, ec, ed) at eq) (rw (ea, eb, ec, ed) at er) (rw (ea, eb, ec, ed) at es)

-- a block of 16 bytes, written out
pub block_written : (b : List ℕ) → length b ≡ 16 → b ≡ state_of (λ i. slice_index b i)
block_written b len = fill_by_all (λ (i : ℕ). slice_index b i) b 16 0 len (λ i h. refl)
