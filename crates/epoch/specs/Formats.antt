-- What an opening takes of a form.
use Rattle.std.specs.Prelude.{◌≡◌, ◌||◌, ℕ, Bool, true, nat_lt, not, Option, None, Some}
use Rattle.epoch.specs.Forms.{Form}
use Rattle.epoch.specs.declared.header.Header.{Header}
use Rattle.epoch.specs.declared.format.Format.{Format}

-- a version is accepted: from the oldest to the newest
abbrev pub accepts : Format → ℕ → Bool
accepts format version = not (nat_lt version format.oldest || nat_lt format.newest version)

-- a header that counts is of an accepted version
abbrev pub IsAccepted : Format → Option Header → Type 0
IsAccepted format None = Unit {0}
IsAccepted format (Some header) = accepts format header.version ≡ true

-- the versions and the number of blocks are those of the form
pub record IsFormatOf (f : Form) (format : Format) : Type 0 where
  pub known : f.known ≡ accepts format
  pub blocks : f.blocks ≡ format.blocks
