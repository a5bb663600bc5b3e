-- A message on its way through a mode, and what becomes of it.
use Rattle.std.specs.Prelude.{ℕ, ◌+◌, ◌*◌, ◌/◌, ◌%◌, ◌==◌, nat_lt, not, Bool, false, List, [], ◌++◌, length, Result, Ok, Err, if◌then◌else◌}
use Rattle.aes_modes.specs.Modes.{mode_text}
use Rattle.aes_modes.specs.declared.modes.Mode.{Mode}
use Rattle.aes_modes.specs.declared.modes.Mode.TheVariants.{Ctr}
use Rattle.aes_modes.specs.declared.modes.ModeAnswer.{ModeAnswer}
use Rattle.aes_modes.specs.declared.modes.ModeAnswer.TheVariants.{ShortBuffer, Incomplete}
use Rattle.aes_modes.specs.declared.modes.Way.{Way}

-- a key, a mode, a way and a vector, and the message so far
pub record Conversion : Type 0 where
  pub key : List ℕ
  pub mode : Mode
  pub way : Way
  pub iv : List ℕ
  pub message : List ℕ

-- what the mode makes of the message so far
abbrev pub text_of : Conversion → List ℕ
text_of c = mode_text c.mode c.way c.key c.iv c.message

-- with more bytes of the message
abbrev pub with_more : Conversion → List ℕ → Conversion
with_more c bytes = record c { message = c.message ++ bytes }

-- as at its start
abbrev pub at_start : Conversion → Conversion
at_start c = record c { message = [] }

-- the start of a message
abbrev pub begun : List ℕ → Mode → Way → List ℕ → Conversion
begun key mode way iv = record { key = key; mode = mode; way = way; iv = iv; message = [] }

-- how many bytes a mode gives for `more` bytes behind `held` bytes that wait: whole blocks, or each byte
abbrev pub needed_by : Mode → ℕ → ℕ → ℕ
needed_by Ctr held more = more
needed_by mode held more = (held + more) / 16 * 16

-- how many bytes are needed for `more` bytes of the message
abbrev pub needed_of : Conversion → ℕ → ℕ
needed_of c more = needed_by c.mode (length c.message % 16) more

-- whether the message would end within a block that its mode needs whole
abbrev pub ends_within : Mode → ℕ → Bool
ends_within Ctr bytes = false
ends_within mode bytes = not (bytes % 16 == 0)

-- what `update` answers: how many bytes it wrote, or how many it would need room for
abbrev pub update_answer : Conversion → ℕ → ℕ → Result ℕ ModeAnswer
update_answer c more room =
    if nat_lt room (needed_of c more) then Err (ShortBuffer (needed_of c more)) else Ok (needed_of c more)

-- what `finish` answers
abbrev pub finish_answer : Conversion → ℕ → ℕ → Result ℕ ModeAnswer
finish_answer c more room =
    if ends_within c.mode (length c.message + more) then Err Incomplete else update_answer c more room
