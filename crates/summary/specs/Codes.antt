-- The codes in lines, and how often each is there.
use Rattle.std.specs.Prelude.{ℕ, ◌≡◌, ◌≤◌, ◌==◌, Bool, false, List, [], ◌∷◌, Option, None, Some, Result, Ok, Err, count_by, map}
use Rattle.std.specs.List.{AllByRecursion, filter_map, slice_split, starts_with}
use Rattle.std.specs.List.Sorted.{IsStrictlySortedBy}
use Rattle.std.specs.Map.{lookup}
use Rattle.std.specs.BTreeMap.{is_at}
use Rattle.std.specs.Option.{unwrap_or}
use Rattle.std.specs.Ordering.{nat_cmp}
use Rattle.std.specs.Int.{w32, from_be_bytes}
use Rattle.hex.specs.Hex.{decode_sized}
use Rattle.hex.specs.declared.error.FromHexError.{FromHexError}
use Rattle.tee_base.specs.Words.{Text}

-- ---- lines

-- no space is in the word
abbrev pub IsWord : List ℕ → Type 0
IsWord word = AllByRecursion (λ c. (c == 32) ≡ false) word

-- the number of four bytes, where there are such
abbrev pub number_by : Result (List ℕ) FromHexError → Option ℕ
number_by (Ok bytes) = Some (from_be_bytes w32 bytes)
number_by (Err e) = None

-- the code that a word of eight hexadecimal digits says
abbrev pub code_of : List ℕ → Option ℕ
code_of word = number_by (decode_sized word 4)

-- the code is the third word
abbrev pub third : List (List ℕ) → Option ℕ
third [] = None
third (name ∷ []) = None
third (name ∷ op ∷ []) = None
third (name ∷ op ∷ code ∷ more) = code_of code

-- the code in a line
abbrev pub code_in : Text → Option ℕ
code_in line = third (slice_split (λ c. c == 32) line)

-- the codes in lines, in order
abbrev pub codes_in : List (List ℕ) → List ℕ
codes_in lines = filter_map code_in lines

-- whether a line begins with this text
abbrev pub begins_with : List ℕ → Text → Bool
begins_with front line = starts_with (λ a b. a == b) line front

-- ---- counts

-- how often a code is counted
abbrev pub count_at : ℕ → List (ℕ × ℕ) → ℕ
count_at code counts = unwrap_or (lookup (is_at (nat_cmp code)) counts) 0

-- each code that is there has its count, in ascending order of the codes, and no other has one
pub record IsTally (found : List ℕ) (counts : List (ℕ × ℕ)) : Type 0 where
  pub sorted : IsStrictlySortedBy nat_cmp (map (λ e. e.0) counts)
  pub counted : (code : ℕ) → count_at code counts ≡ count_by (λ c. c == code) found
  pub there : AllByRecursion (λ e. 1 ≤ e.1) counts
