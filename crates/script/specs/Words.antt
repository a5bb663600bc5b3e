-- The words of a line, and what numbers and parameters are in them.
use Rattle.std.specs.Prelude.{ℕ, ◌≡◌, ◌≢◌, ◌<◌, ◌≤◌, ◌^◌, ◌+◌, ◌==◌, ◌⊎◌, List, [], ◌∷◌, ◌++◌, Ok, codes, if◌then◌else◌, replicate}
use Rattle.std.specs.List.{AllByRecursion}
use Rattle.std.specs.Str.Parse.{IsNumeral, digits_value}
use Rattle.hex.specs.Hex.{decode_of}
use Rattle.tee_base.specs.declared.limits.TheConstants.{MAX_ASK_BYTES}
use Rattle.app_api.specs.declared.param.Param.{Param}
use Rattle.app_api.specs.declared.param.Param.TheVariants.{Nothing, ValueIn, ValueOut, ValueInOut, MemIn, MemOut, MemInOut, Whole, Part}
use Rattle.tee_base.specs.Words.{Text}

-- spaces alone, or nothing
abbrev pub AreSpaces : Text → Type 0
AreSpaces text = AllByRecursion (λ c. c ≡ 32) text

-- a word: one or more bytes, and no space among them
abbrev pub IsWord : List ℕ → Type 0
IsWord word = (word ≢ []) × AllByRecursion (λ c. c ≢ 32) word

-- the words of a line: one or more spaces stand between them, and there may be spaces before and behind them
unfoldable pub AreWords : Text → List (List ℕ) → Type 0
AreWords text [] = AreSpaces text
AreWords text (word ∷ []) =
    (before after : List ℕ) × AreSpaces before × IsWord word × AreSpaces after × (text ≡ before ++ word ++ after)
AreWords text (word ∷ next ∷ words) =
    (before rest : List ℕ) × AreSpaces before × IsWord word × AreWords rest (next ∷ words) × (text ≡ before ++ word ++ codes " " ++ rest)

-- a number: one or more decimal digits, and there may be zeros before it
abbrev pub IsNumber : List ℕ → ℕ → Type 0
IsNumber digits n = IsNumeral 10 digits × (digits_value 10 digits ≡ n)

-- a number of 32 bits
abbrev pub IsNumber32 : List ℕ → ℕ → Type 0
IsNumber32 digits n = IsNumber digits n × (n < 2 ^ 32)

-- two numbers behind a kind's word, with a colon between them
abbrev pub IsPair : List ℕ → List ℕ → ℕ → ℕ → Type 0
IsPair kind word a b = (x y : List ℕ) × IsNumber32 x a × IsNumber32 y b × (word ≡ kind ++ x ++ codes ":" ++ y)

-- two hexadecimal digits of either case for each byte, behind a kind's word
abbrev pub IsMemory : List ℕ → List ℕ → List ℕ → Type 0
IsMemory kind word bytes = (digits : List ℕ) × (decode_of digits ≡ Ok bytes) × (word ≡ kind ++ digits)

-- how many bytes are filled in, no more than a memory reference may have, and in two hexadecimal digits the byte that each of them is
abbrev pub IsFilled : List ℕ → List ℕ → ℕ → Type 0
IsFilled word bytes fill =
    (byte : ℕ) × (size digits : List ℕ) × IsNumber size fill × (decode_of digits ≡ Ok (byte ∷ []))
    × (word ≡ codes "mf:" ++ size ++ codes ":" ++ digits) × (bytes ≡ replicate fill byte) × (fill ≤ MAX_ASK_BYTES)

-- the word of a whole block of shared memory: the number of the block
abbrev pub IsWhole : List ℕ → ℕ → Type 0
IsWhole word block = (x : List ℕ) × IsNumber32 x block × (word ≡ codes "sw:" ++ x)

-- what the word of a part of a block begins with: its way is 1 for an input, 2 for an output, 3 for both
abbrev pub part_front : ℕ → List ℕ
part_front way = if way == 1 then codes "si:" else if way == 2 then codes "so:" else codes "sio:"

-- the word of a part of a block: the number of the block, where the part begins, and how many bytes it has
abbrev pub IsPart : List ℕ → ℕ → ℕ → ℕ → ℕ → Type 0
IsPart word block way at size =
    (1 ≤ way) × (way ≤ 3) × (x y z : List ℕ) × IsNumber32 x block × IsNumber32 y at × IsNumber32 z size
    × (word ≡ part_front way ++ x ++ codes ":" ++ y ++ codes ":" ++ z)

-- the word of a parameter, for which so many bytes are filled in
unfoldable pub IsParam : List ℕ → Param → ℕ → Type 0
IsParam word Nothing fill = (word ≡ codes "-") × (fill ≡ 0)
IsParam word (ValueIn a b) fill = IsPair (codes "vi:") word a b × (fill ≡ 0)
IsParam word ValueOut fill = (word ≡ codes "vo") × (fill ≡ 0)
IsParam word (ValueInOut a b) fill = IsPair (codes "vio:") word a b × (fill ≡ 0)
IsParam word (MemIn bytes) fill = (IsMemory (codes "mi:") word bytes × (fill ≡ 0)) ⊎ IsFilled word bytes fill
IsParam word (MemOut size) fill = ((digits : List ℕ) × IsNumber32 digits size × (word ≡ codes "mo:" ++ digits)) × (fill ≡ 0)
IsParam word (MemInOut bytes) fill = IsMemory (codes "mio:") word bytes × (fill ≡ 0)
IsParam word (Whole block) fill = IsWhole word block × (fill ≡ 0)
IsParam word (Part block way at size) fill = IsPart word block way at size × (fill ≡ 0)

-- the words of parameters in order; where the words end, the others are left out, and are none
unfoldable pub AreParams : List (List ℕ) → List Param → ℕ → Type 0
AreParams [] [] fills = fills ≡ 0
AreParams (word ∷ words) [] fills = ⊥
AreParams [] (param ∷ params) fills = (param ≡ Nothing) × AreParams [] params fills
AreParams (word ∷ words) (param ∷ params) fills =
    (fill others : ℕ) × IsParam word param fill × AreParams words params others × (fills ≡ fill + others)
