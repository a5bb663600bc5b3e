-- The commands of Pin: what each asks for first, by the kinds of its parameters.
use Rattle.std.specs.Prelude.{ℕ, Bool, ◌&&◌, ◌==◌, nat_lt, nat_le, if◌then◌else◌, List, ◌∷◌, length, codes}
use Rattle.app_api.specs.declared.ask.Ask.TheVariants.{ObjCreate, ObjOpen}
use Rattle.app_api.specs.declared.param.Param.{Param}
use Rattle.app_api.specs.declared.param.Param.TheVariants.{Nothing, ValueOut, MemIn}
use Rattle.app_kit.specs.Reactions.{ask_for, fail_with}
use Rattle.app_kit.specs.declared.reaction.Reaction.{Reaction}
use Rattle.tee_base.specs.declared.codes.TheConstants.Code.{BAD_PARAMETERS}
use Rattle.example_pin.specs.declared.pin.Pin.{Pin}
use Rattle.example_pin.specs.declared.pin.Pin.TheVariants.{Idle, Setting, Opening}

-- how many tries a new PIN has, and one that was guessed
abbrev pub all_tries : ℕ
all_tries = 3

-- how many bytes a PIN has at most
abbrev pub most_bytes : ℕ
most_bytes = 16

-- private storage
abbrev pub private_storage : ℕ
private_storage = 1

-- flags: read and write, beside nobody, and over no object that is there
abbrev pub read_write : ℕ
read_write = 0x3

-- the bytes may be a PIN
abbrev pub may_be_pin : List ℕ → Bool
may_be_pin bytes = nat_lt 0 (length bytes) && nat_le (length bytes) most_bytes

-- 1: a new object with all tries and the PIN
abbrev pub set_pin : List ℕ → Reaction Pin
set_pin pin =
    if may_be_pin pin then ask_for Setting (ObjCreate private_storage (codes "pin") read_write 0 (all_tries ∷ pin))
    else fail_with Idle BAD_PARAMETERS

-- 2: the object, for a guess
abbrev pub try_pin : List ℕ → Reaction Pin
try_pin guess = ask_for (Opening guess) (ObjOpen private_storage (codes "pin") read_write)

-- the command of a number, which takes these bytes
abbrev pub command_with : ℕ → List ℕ → Reaction Pin
command_with number bytes =
    if number == 1 then set_pin bytes
    else if number == 2 then try_pin bytes
    else fail_with Idle BAD_PARAMETERS

-- both commands take bytes and show a value
unfoldable pub begin : ℕ → Param → Param → Param → Param → Reaction Pin
begin number (MemIn bytes) ValueOut Nothing Nothing = command_with number bytes
begin number p0 p1 p2 p3 = fail_with Idle BAD_PARAMETERS
