-- The transformations of the state (FIPS 197, sections 5.1 and 5.3). A state is a list of 16 bytes, column by column.
use Rattle.std.specs.Prelude.{ℕ, List, [], ◌∷◌, ◌++◌, map, bit_xor, slice_index}
use Rattle.std.specs.List.{range_with_len}
use Rattle.aes_core.specs.Field.{multiply, substitute, inverse_substitute}

-- the state with these bytes
abbrev pub state_of : (ℕ → ℕ) → List ℕ
state_of byte = map byte (range_with_len 0 16)

-- the sum of four bytes
abbrev pub sum_of : ℕ → ℕ → ℕ → ℕ → ℕ
sum_of a b c d = bit_xor (bit_xor (bit_xor a b) c) d

-- 5.1.1
unfoldable pub sub_bytes : List ℕ → List ℕ
sub_bytes s = state_of (λ i. substitute (slice_index s i))

-- row r moves r places to the left (5.1.2)
unfoldable pub shift_rows : List ℕ → List ℕ
shift_rows s = map (slice_index s)
    (0 ∷ 5 ∷ 10 ∷ 15 ∷ 4 ∷ 9 ∷ 14 ∷ 3 ∷ 8 ∷ 13 ∷ 2 ∷ 7 ∷ 12 ∷ 1 ∷ 6 ∷ 11 ∷ [])

-- one column by the matrix of MixColumns (5.1.3)
unfoldable pub mix_column : ℕ → ℕ → ℕ → ℕ → List ℕ
mix_column a b c d =
    sum_of (multiply 2 a) (multiply 3 b) c d
    ∷ sum_of a (multiply 2 b) (multiply 3 c) d
    ∷ sum_of a b (multiply 2 c) (multiply 3 d)
    ∷ sum_of (multiply 3 a) b c (multiply 2 d) ∷ []

-- one map over the four columns of a state
abbrev pub each_column : (ℕ → ℕ → ℕ → ℕ → List ℕ) → List ℕ → List ℕ
each_column f s =
    f (slice_index s 0) (slice_index s 1) (slice_index s 2) (slice_index s 3)
    ++ (f (slice_index s 4) (slice_index s 5) (slice_index s 6) (slice_index s 7)
    ++ (f (slice_index s 8) (slice_index s 9) (slice_index s 10) (slice_index s 11)
    ++ f (slice_index s 12) (slice_index s 13) (slice_index s 14) (slice_index s 15)))

-- 5.1.3
unfoldable pub mix_columns : List ℕ → List ℕ
mix_columns s = each_column mix_column s

-- 5.1.4
unfoldable pub add_round_key : List ℕ → List ℕ → List ℕ
add_round_key s k = state_of (λ i. bit_xor (slice_index s i) (slice_index k i))

-- row r moves r places to the right (5.3.1)
unfoldable pub inv_shift_rows : List ℕ → List ℕ
inv_shift_rows s = map (slice_index s)
    (0 ∷ 13 ∷ 10 ∷ 7 ∷ 4 ∷ 1 ∷ 14 ∷ 11 ∷ 8 ∷ 5 ∷ 2 ∷ 15 ∷ 12 ∷ 9 ∷ 6 ∷ 3 ∷ [])

-- 5.3.2
unfoldable pub inv_sub_bytes : List ℕ → List ℕ
inv_sub_bytes s = state_of (λ i. inverse_substitute (slice_index s i))

-- one column by the matrix of InvMixColumns (5.3.3)
unfoldable pub inv_mix_column : ℕ → ℕ → ℕ → ℕ → List ℕ
inv_mix_column a b c d =
    sum_of (multiply 14 a) (multiply 11 b) (multiply 13 c) (multiply 9 d)
    ∷ sum_of (multiply 9 a) (multiply 14 b) (multiply 11 c) (multiply 13 d)
    ∷ sum_of (multiply 13 a) (multiply 9 b) (multiply 14 c) (multiply 11 d)
    ∷ sum_of (multiply 11 a) (multiply 13 b) (multiply 9 c) (multiply 14 d) ∷ []

-- 5.3.3
unfoldable pub inv_mix_columns : List ℕ → List ℕ
inv_mix_columns s = each_column inv_mix_column s
