-- What one byte adds to its column in MixColumns and InvMixColumns, row by row: the columns of the two matrices.
use Rattle.std.specs.Prelude.{ℕ, List, [], ◌∷◌}
use Rattle.aes_core.specs.Field.{multiply}

-- the byte stands in row 0, 1, 2 or 3 (FIPS 197, section 5.1.3)
unfoldable pub mixed_0 : ℕ → List ℕ
mixed_0 s = multiply 2 s ∷ s ∷ s ∷ multiply 3 s ∷ []

-- what a byte of row 1 adds to its mixed column (section 5.1.3)
unfoldable pub mixed_1 : ℕ → List ℕ
mixed_1 s = multiply 3 s ∷ multiply 2 s ∷ s ∷ s ∷ []

-- what a byte of row 2 adds to its mixed column (section 5.1.3)
unfoldable pub mixed_2 : ℕ → List ℕ
mixed_2 s = s ∷ multiply 3 s ∷ multiply 2 s ∷ s ∷ []

-- what a byte of row 3 adds to its mixed column (section 5.1.3)
unfoldable pub mixed_3 : ℕ → List ℕ
mixed_3 s = s ∷ s ∷ multiply 3 s ∷ multiply 2 s ∷ []

-- the same for the inverse (section 5.3.3)
unfoldable pub inv_mixed_0 : ℕ → List ℕ
inv_mixed_0 s = multiply 14 s ∷ multiply 9 s ∷ multiply 13 s ∷ multiply 11 s ∷ []

-- what a byte of row 1 adds to its column of the inverse (section 5.3.3)
unfoldable pub inv_mixed_1 : ℕ → List ℕ
inv_mixed_1 s = multiply 11 s ∷ multiply 14 s ∷ multiply 9 s ∷ multiply 13 s ∷ []

-- what a byte of row 2 adds to its column of the inverse (section 5.3.3)
unfoldable pub inv_mixed_2 : ℕ → List ℕ
inv_mixed_2 s = multiply 13 s ∷ multiply 11 s ∷ multiply 14 s ∷ multiply 9 s ∷ []

-- what a byte of row 3 adds to its column of the inverse (section 5.3.3)
unfoldable pub inv_mixed_3 : ℕ → List ℕ
inv_mixed_3 s = multiply 9 s ∷ multiply 13 s ∷ multiply 11 s ∷ multiply 14 s ∷ []

-- what the byte is to its column in the last round, which mixes no columns (section 5.1)
unfoldable pub placed_0 : ℕ → List ℕ
placed_0 s = s ∷ 0 ∷ 0 ∷ 0 ∷ []

-- what a byte of row 1 is to its column in the last round (section 5.1)
unfoldable pub placed_1 : ℕ → List ℕ
placed_1 s = 0 ∷ s ∷ 0 ∷ 0 ∷ []

-- what a byte of row 2 is to its column in the last round (section 5.1)
unfoldable pub placed_2 : ℕ → List ℕ
placed_2 s = 0 ∷ 0 ∷ s ∷ 0 ∷ []

-- what a byte of row 3 is to its column in the last round (section 5.1)
unfoldable pub placed_3 : ℕ → List ℕ
placed_3 s = 0 ∷ 0 ∷ 0 ∷ s ∷ []
