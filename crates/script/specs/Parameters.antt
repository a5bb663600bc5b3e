-- Parameters of a script line, as they are computed from their words.
use Rattle.std.specs.Prelude.{ℕ, ◌+◌, nat_lt, slice_get, ◌≡◌, ◌≤◌, ◌==◌, nat_le, List, [], ◌∷◌, Option, None, Some, Result, Ok, Err, codes, if◌then◌else◌, length, option_map, replicate}
use Rattle.std.specs.Result.{result_ok}
use Rattle.std.specs.List.{slice_split}
use Rattle.script.specs.declared.param.Parameter.{Parameter}
use Rattle.script.specs.declared.param.Parameters.{Parameters}
use Rattle.std.specs.Str.{bytes_eq}
use Rattle.hex.specs.Hex.{decode_of}
use Rattle.app_api.specs.declared.param.Param.{Param}
use Rattle.app_api.specs.declared.param.Param.TheVariants.{Nothing, ValueIn, ValueOut, ValueInOut, MemIn, MemOut, MemInOut, Whole, Part}
use Rattle.script.specs.declared.words.LineError.{LineError}
use Rattle.script.specs.declared.words.LineError.TheVariants.{Bad, NoMemory}
use Rattle.tee_base.specs.declared.limits.TheConstants.{MAX_ASK_BYTES}
use Rattle.script.specs.Numbers.{number32_of}

-- what was read is what the words say, unless memory ran out
abbrev pub Gives : {X : Type 0} → Result X LineError → Option X → Type 0
Gives (Ok x) read = read ≡ Some x
Gives (Err Bad) read = read ≡ None
Gives (Err NoMemory) read = Unit {0}

-- bytes in hexadecimal digits of either case, two for each
abbrev pub hex_of : List ℕ → Option (List ℕ)
hex_of digits = result_ok (decode_of digits)

-- a parameter for which no byte was filled in
abbrev pub plain_parameter : Param → Parameter
plain_parameter param = record { param = param; fill = 0 }

-- no more bytes are filled in than a memory reference may have
abbrev pub IsSmall : Parameter → Type 0
IsSmall p = p.fill ≤ MAX_ASK_BYTES

-- a parameter of one part: none, or a value output
unfoldable pub parameter_of_one : List ℕ → Option Parameter
parameter_of_one kind =
    if bytes_eq kind (codes "-") then Some (plain_parameter Nothing)
    else if bytes_eq kind (codes "vo") then Some (plain_parameter ValueOut)
    else None

-- a parameter of two parts: memory, by its bytes or by its room, or a whole block of shared memory
unfoldable pub parameter_of_two : List ℕ → List ℕ → Option Parameter
parameter_of_two kind a =
    if bytes_eq kind (codes "mi") then option_map (λ x. plain_parameter (MemIn x)) (hex_of a)
    else if bytes_eq kind (codes "mio") then option_map (λ x. plain_parameter (MemInOut x)) (hex_of a)
    else if bytes_eq kind (codes "mo") then option_map (λ x. plain_parameter (MemOut x)) (number32_of a)
    else if bytes_eq kind (codes "sw") then option_map (λ x. plain_parameter (Whole x)) (number32_of a)
    else None

-- two numbers
abbrev pub with_numbers : (ℕ → ℕ → Param) → Option ℕ → Option ℕ → Option Parameter
with_numbers make None b = None
with_numbers make (Some a) b = option_map (λ x. plain_parameter (make a x)) b

-- so many bytes, all of them the one byte, and no more than a memory reference may have
abbrev pub fill_parameter : Option ℕ → Option (List ℕ) → Option Parameter
fill_parameter (Some size) (Some (byte ∷ [])) = if nat_le size MAX_ASK_BYTES then Some (record { param = MemIn (replicate size byte); fill = size }) else None
fill_parameter size bytes = None

-- a parameter of three parts: a value's two numbers, or memory that is filled with one byte
unfoldable pub parameter_of_three : List ℕ → List ℕ → List ℕ → Option Parameter
parameter_of_three kind a b =
    if bytes_eq kind (codes "vi") then with_numbers ValueIn (number32_of a) (number32_of b)
    else if bytes_eq kind (codes "vio") then with_numbers ValueInOut (number32_of a) (number32_of b)
    else if bytes_eq kind (codes "mf") then fill_parameter (number32_of a) (hex_of b)
    else None

-- a part of a block: the number of the block, where the part begins, and how many bytes it has
abbrev pub part_with : ℕ → Option ℕ → Option ℕ → Option ℕ → Option Parameter
part_with way (Some block) (Some at) (Some size) = Some (plain_parameter (Part block way at size))
part_with way block at size = None

-- a parameter of four parts: a part of a block, as an input, as an output, or both
unfoldable pub parameter_of_four : List ℕ → List ℕ → List ℕ → List ℕ → Option Parameter
parameter_of_four kind a b c =
    if bytes_eq kind (codes "si") then part_with 1 (number32_of a) (number32_of b) (number32_of c)
    else if bytes_eq kind (codes "so") then part_with 2 (number32_of a) (number32_of b) (number32_of c)
    else if bytes_eq kind (codes "sio") then part_with 3 (number32_of a) (number32_of b) (number32_of c)
    else None

-- a parameter by its parts
abbrev pub parameter_of_parts : List (List ℕ) → Option Parameter
parameter_of_parts [] = None
parameter_of_parts (kind ∷ []) = parameter_of_one kind
parameter_of_parts (kind ∷ a ∷ []) = parameter_of_two kind a
parameter_of_parts (kind ∷ a ∷ b ∷ []) = parameter_of_three kind a b
parameter_of_parts (kind ∷ a ∷ b ∷ c ∷ []) = parameter_of_four kind a b c
parameter_of_parts (kind ∷ a ∷ b ∷ c ∷ d ∷ more) = None

-- a parameter: its parts stand between colons
abbrev pub parameter_of : List ℕ → Option Parameter
parameter_of word = parameter_of_parts (slice_split (λ c. c == 58) word)

infixl 10 ◌>>=◌
-- one value after another, if each is there
abbrev pub ◌>>=◌ : {X Y : Type 0} → Option X → (X → Option Y) → Option Y
None >>= f = None
(Some x) >>= f = f x

-- the parameter that a word says; none where there is no word
abbrev pub parameter_in : Option (List ℕ) → Option Parameter
parameter_in None = Some (plain_parameter Nothing)
parameter_in (Some word) = parameter_of word

-- the parameter of this index; one that is left out is none
abbrev pub parameter_at : List (List ℕ) → ℕ → Option Parameter
parameter_at words index = parameter_in (slice_get words index)

-- the four of them: at most four words
unfoldable pub parameters_of : List (List ℕ) → Option Parameters
parameters_of words = if nat_lt 4 (length words) then None else do
  a ← parameter_at words 0
  b ← parameter_at words 1
  c ← parameter_at words 2
  d ← parameter_at words 3
  Some (record { params = record { p0 = a.param; p1 = b.param; p2 = c.param; p3 = d.param }; fills = a.fill + b.fill + c.fill + d.fill })
