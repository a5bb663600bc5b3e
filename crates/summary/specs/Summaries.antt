-- What a summary knows of the text that was written.
use Rattle.std.specs.Prelude.{ℕ, ◌≡◌, ◌==◌, true, false, ⊤, List, ◌++◌, Option, None, Some, codes}
use Rattle.std.specs.List.{AllByRecursion, flat_map}
use Rattle.mac_digest.specs.declared.digests.Hash.TheVariants.{Sha256}
use Rattle.mac_digest.specs.declared.digests.Digester.{Digester}
use Rattle.mac_digest.specs.Digester.{HoldsMessage}
use Rattle.mac_digest.specs.Hash.{digest_of}
use Rattle.summary.specs.Codes.{IsTally, begins_with, codes_in}
use Rattle.summary.specs.declared.cut.Cut.{Cut}
use Rattle.summary.specs.declared.cut.Cut.TheVariants as cuts
use Rattle.tee_base.specs.Words.{Text}

-- no line feed is in the line
abbrev pub IsOneLine : Text → Type 0
IsOneLine line = AllByRecursion (λ c. (c == 10) ≡ false) line

-- lines, a line feed behind each
abbrev pub with_line_feeds : List (List ℕ) → List ℕ
with_line_feeds lines = flat_map (λ line. line ++ codes "\n") lines

-- a text is these lines, none of which is the board's, and then what stands behind its last line feed
pub record HasLines (text : Text) (lines : List (List ℕ)) (rest : List ℕ) : Type 0 where
  pub all : text ≡ with_line_feeds lines ++ rest
  pub each : AllByRecursion IsOneLine lines
  pub last : IsOneLine rest
  pub own : AllByRecursion (λ line. begins_with (codes "board ") line ≡ false) lines

-- why no more is taken, by the line that isn't whole: it says that a turn lost the storage, or it is another of the board's
abbrev pub IsCutBy : Option Cut → Text → Type 0
IsCutBy None line = ⊤
IsCutBy (Some cuts.Lost) line = begins_with (codes "board lost ") line ≡ true
IsCutBy (Some cuts.Board) line = (begins_with (codes "board ") line ≡ true) × (begins_with (codes "board lost ") line ≡ false)
IsCutBy (Some cuts.NoMemory) line = ⊤

-- no whole line of a text is the board's, and the one that isn't whole is by what the text was cut short, if it was
pub record IsCutAt (text line : Text) (cut : Option Cut) : Type 0 where
  pub lines : List (List ℕ)
  pub has : HasLines text lines line
  pub by_line : IsCutBy cut line

-- the whole lines of the text were hashed and their codes counted; the last line isn't whole, and by it no more is taken, if so
pub record IsSummed (text line : Text) (counts : List (ℕ × ℕ)) (digester : Digester) (cut : Option Cut) : Type 0 where
  pub lines : List (List ℕ)
  pub has : HasLines text lines line
  pub by_line : IsCutBy cut line
  pub tally : IsTally (codes_in lines) counts
  pub hashed : HoldsMessage digester Sha256 (with_line_feeds lines)

-- the hash of a text, and the counts of the codes in its whole lines, none of which is the board's
pub record IsSummary (text hash : List ℕ) (counts : List (ℕ × ℕ)) : Type 0 where
  pub lines : List (List ℕ)
  pub rest : List ℕ
  pub has : HasLines text lines rest
  pub tally : IsTally (codes_in lines) counts
  pub hashed : hash ≡ digest_of Sha256 text

-- what a sink shows that sums up: the text so far, the line of it that isn't whole, why it was cut short, if it was, and how often it
-- failed
pub record Summing : Type 0 where
  pub text : Text
  pub line : Text
  pub cut : Option Cut
  pub faults : ℕ
