-- The block cipher (FIPS 197, sections 5.1 and 5.3): a key of 16, 24 or 32 bytes, and blocks of 16 bytes.
use Rattle.std.specs.Prelude.{ℕ, zero, suc, ◌-◌, List}
use Rattle.aes_core.specs.Transformations.{sub_bytes, shift_rows, mix_columns, add_round_key, inv_sub_bytes, inv_shift_rows, inv_mix_columns}
use Rattle.aes_core.specs.KeyExpansion.{round_key_words, round_count, round_key}

-- the state after the first round key and n rounds
unfoldable pub cipher_rounds : List ℕ → List ℕ → ℕ → List ℕ
cipher_rounds w b zero = add_round_key b (round_key w 0)
cipher_rounds w b (suc n) =
    add_round_key (mix_columns (shift_rows (sub_bytes (cipher_rounds w b n)))) (round_key w (suc n))

-- the last round mixes no columns
unfoldable pub cipher_from : List ℕ → ℕ → List ℕ → List ℕ
cipher_from w rounds b =
    add_round_key (shift_rows (sub_bytes (cipher_rounds w b (rounds - 1)))) (round_key w rounds)

-- the block that a key encrypts a block to (5.1)
unfoldable pub cipher : List ℕ → List ℕ → List ℕ
cipher key b = cipher_from (round_key_words key) (round_count key) b

-- the state after the last round key and n inverse rounds
unfoldable pub inv_cipher_rounds : List ℕ → ℕ → List ℕ → ℕ → List ℕ
inv_cipher_rounds w rounds b zero = add_round_key b (round_key w rounds)
inv_cipher_rounds w rounds b (suc n) =
    inv_mix_columns
    (add_round_key (inv_sub_bytes (inv_shift_rows (inv_cipher_rounds w rounds b n))) (round_key w (rounds - suc n)))

-- the last inverse round mixes no columns
unfoldable pub inv_cipher_from : List ℕ → ℕ → List ℕ → List ℕ
inv_cipher_from w rounds b =
    add_round_key (inv_sub_bytes (inv_shift_rows (inv_cipher_rounds w rounds b (rounds - 1)))) (round_key w 0)

-- the block that a key decrypts a block to (5.3)
unfoldable pub inv_cipher : List ℕ → List ℕ → List ℕ
inv_cipher key b = inv_cipher_from (round_key_words key) (round_count key) b
