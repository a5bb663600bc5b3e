-- Names of what definitions speak of, so that a signature reads. Each is another word for its type: bytes are numbers below 256.
use Rattle.std.specs.Prelude.{ℕ, List}

-- what a board holds: the bytes of each block, by its number
abbrev pub Image : Type 0
Image = ℕ → List ℕ

-- what a volume holds: the bytes of each leaf, by its region and its number there
abbrev pub Leaves : Type 0
Leaves = ℕ → ℕ → List ℕ

-- what one region holds: the bytes of each leaf, by its number
abbrev pub RegionLeaves : Type 0
RegionLeaves = ℕ → List ℕ

-- the bytes of a key
abbrev pub Key : Type 0
Key = List ℕ

-- the bytes by which an application names a persistent object
abbrev pub Identifier : Type 0
Identifier = List ℕ

-- the number of an instance; a single instance has its number again after it was destroyed and made anew
abbrev pub InstanceNumber : Type 0
InstanceNumber = ℕ

-- the number of a handle among those of its instance
abbrev pub HandleNumber : Type 0
HandleNumber = ℕ

-- what the board's monotonic counter shows
abbrev pub Counter : Type 0
Counter = ℕ

-- the number of a commit: each has the next one
abbrev pub Sequence : Type 0
Sequence = ℕ

-- the bytes of a line or of a script
abbrev pub Text : Type 0
Text = List ℕ
