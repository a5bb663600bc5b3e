-- The sample application Rogue, which misbehaves.
use Rattle.std.specs.Prelude.{ℕ, ◌+◌, ◌==◌, nat_lt, [], ◌∷◌, Option, None, Some, if◌then◌else◌}
use Rattle.app_api.specs.declared.ask.Answer.{Answer}
use Rattle.app_api.specs.declared.ask.Answer.TheVariants.{Done, Refused, Number, Truth}
use Rattle.app_api.specs.declared.ask.Ask.{Ask}
use Rattle.app_api.specs.declared.ask.Ask.TheVariants as asked
use Rattle.app_api.specs.declared.ask.Given.{Given}
use Rattle.app_api.specs.declared.ask.Given.TheVariants as givens
use Rattle.app_api.specs.declared.ask.Entry.{Entry}
use Rattle.app_api.specs.declared.ask.Entry.TheVariants.{Create, Destroy, Start, Stop, Invoke}
use Rattle.app_api.specs.declared.out.Out.TheVariants.{Value, Size}
use Rattle.app_api.specs.declared.param.Param.{Param}
use Rattle.app_api.specs.declared.param.Param.TheVariants.{Nothing, ValueIn, ValueOut, MemOut}
use Rattle.app_api.specs.declared.param.Params.{Params}
use Rattle.app_api.specs.Outs.{no_outs}
use Rattle.app_kit.specs.declared.reaction.Reaction.{Reaction}
use Rattle.sample_apps.specs.declared.rogue.Rogue.{Rogue}
use Rattle.sample_apps.specs.declared.rogue.Rogue.TheVariants.{Idle, ClosingUnknown, Looping, Creating, Closing, Replacing, MakingKeys}
use Rattle.sample_apps.specs.declared.rogue.commands.Command.{Command}
use Rattle.sample_apps.specs.declared.rogue.commands.Command.TheVariants.{Panic, CloseUnknown, Loop, Fill, TellSize, Replace, MakeKeys}
use Rattle.tee_base.specs.declared.keys.TheConstants.{KIND_AES}
use Rattle.tee_base.specs.declared.limits.TheConstants.{MAX_ASKS}
use Rattle.tee_base.specs.declared.codes.TheConstants.Code.{GENERIC, BAD_PARAMETERS, SHORT_BUFFER, STORAGE_NO_SPACE}
use Rattle.app_kit.specs.Reactions.{ask_for, return_with, succeed_with, fail_with, at_p0}

-- ---- numbers

-- a handle that no instance has, since it has at most 16
abbrev pub unknown_handle : ℕ
unknown_handle = 99

-- the size that an output of memory is said to need
abbrev pub size_told : ℕ
size_told = 1000

-- private storage (TEE Internal Core API 1.3, section 5.4)
abbrev pub private_storage : ℕ
private_storage = 1

-- access for reading and writing (section 5.4)
abbrev pub read_write : ℕ
read_write = 0x3

-- access for reading, writing and changes of the object, which takes the place of one that is there
abbrev pub exclusive_overwrite : ℕ
exclusive_overwrite = 0x407

-- the identifier of the object that is made anew
abbrev pub replaced_identifier : ℕ
replaced_identifier = 0x68

-- the greatest size of a key that is made, in bits
abbrev pub key_bits : ℕ
key_bits = 256

-- ---- the commands, by their numbers and the kinds of their parameters

-- 1: a panic with a code
unfoldable pub panic_of : Param → Param → Param → Param → Option Command
panic_of (ValueIn code b) Nothing Nothing Nothing = Some (Panic code)
panic_of p0 p1 p2 p3 = None

-- 2, 3 and 6: no parameters
unfoldable pub without_parameters : Command → Param → Param → Param → Param → Option Command
without_parameters command Nothing Nothing Nothing Nothing = Some command
without_parameters command p0 p1 p2 p3 = None

-- 4 and 7: an output for how many were made
unfoldable pub with_number : Command → Param → Param → Param → Param → Option Command
with_number command ValueOut Nothing Nothing Nothing = Some command
with_number command p0 p1 p2 p3 = None

-- 5: an output of memory
unfoldable pub tell_size_of : Param → Param → Param → Param → Option Command
tell_size_of (MemOut room) Nothing Nothing Nothing = Some TellSize
tell_size_of p0 p1 p2 p3 = None

-- the command of a number, or none: the number is unknown, or the parameters are of other kinds
unfoldable pub command_of : ℕ → Params → Option Command
command_of n ps =
    if n == 1 then panic_of ps.p0 ps.p1 ps.p2 ps.p3
    else if n == 2 then without_parameters CloseUnknown ps.p0 ps.p1 ps.p2 ps.p3
    else if n == 3 then without_parameters Loop ps.p0 ps.p1 ps.p2 ps.p3
    else if n == 4 then with_number Fill ps.p0 ps.p1 ps.p2 ps.p3
    else if n == 5 then tell_size_of ps.p0 ps.p1 ps.p2 ps.p3
    else if n == 6 then without_parameters Replace ps.p0 ps.p1 ps.p2 ps.p3
    else if n == 7 then with_number MakeKeys ps.p0 ps.p1 ps.p2 ps.p3
    else None

-- ---- what a command asks for

-- an object of a one-byte identifier in private storage, empty and without attributes
abbrev pub creation_of : ℕ → ℕ → Ask
creation_of identifier flags = asked.ObjCreate private_storage (identifier ∷ []) flags 0 []

-- 4: the object of this identifier
abbrev pub creation_at : ℕ → Reaction Rogue
creation_at identifier = ask_for (Creating identifier) (creation_of identifier read_write)

-- 4: how many objects were made
abbrev pub count_shown : ℕ → Reaction Rogue
count_shown count = succeed_with Idle (at_p0 (Value count 0))

-- 7: one key more than so many
abbrev pub key_wanted : ℕ → Reaction Rogue
key_wanted made = ask_for (MakingKeys made) (asked.KeyNew KIND_AES key_bits)

-- what a command asks for first
unfoldable pub reaction_to_command : Command → Reaction Rogue
reaction_to_command (Panic code) = ask_for Idle (asked.Panic (record { 0 = code }))
reaction_to_command CloseUnknown = ask_for ClosingUnknown (asked.ObjClose unknown_handle)
reaction_to_command Loop = ask_for Looping asked.CancelFlag
reaction_to_command Fill = creation_at 0
reaction_to_command TellSize = return_with Idle SHORT_BUFFER (at_p0 (Size size_told))
reaction_to_command Replace = ask_for Replacing (creation_of replaced_identifier exclusive_overwrite)
reaction_to_command MakeKeys = key_wanted 0

-- an unknown command, or one with parameters of other kinds, is refused
unfoldable pub reaction_to_invocation : Option Command → Reaction Rogue
reaction_to_invocation None = fail_with Idle BAD_PARAMETERS
reaction_to_invocation (Some command) = reaction_to_command command

-- an entry begins anew, whatever waited
unfoldable pub reaction_to_entry : Entry → Reaction Rogue
reaction_to_entry Create = succeed_with Idle no_outs
reaction_to_entry Destroy = succeed_with Idle no_outs
reaction_to_entry (Start session ps) = succeed_with Idle no_outs
reaction_to_entry (Stop session) = succeed_with Idle no_outs
reaction_to_entry (Invoke session n ps) = reaction_to_invocation (command_of n ps)

-- ---- what follows the answers. A refusal ends the command with its code; an answer that the ask can't give ends it with GENERIC

-- an answer that isn't the one hoped for
abbrev pub refusal_of : Answer → Reaction Rogue
refusal_of (Refused code) = fail_with Idle code
refusal_of answer = fail_with Idle GENERIC

-- 2: the handle that there can't be was closed
unfoldable pub after_unknown_close : Answer → Reaction Rogue
after_unknown_close Done = succeed_with Idle no_outs
after_unknown_close answer = refusal_of answer

-- 3: whatever the flag is, it is asked for again
unfoldable pub after_flag : Answer → Reaction Rogue
after_flag (Truth flag) = ask_for Looping asked.CancelFlag
after_flag answer = refusal_of answer

-- 4: the new object's handle is closed; where there is no space, so many objects were made as there are lesser identifiers
unfoldable pub after_creation : ℕ → Answer → Reaction Rogue
after_creation identifier (Number object) = ask_for (Closing identifier) (asked.ObjClose object)
after_creation identifier (Refused code) = if code.0 == STORAGE_NO_SPACE.0 then count_shown identifier else fail_with Idle code
after_creation identifier answer = fail_with Idle GENERIC

-- 4: the next identifier, up to 255
unfoldable pub after_close : ℕ → Answer → Reaction Rogue
after_close identifier Done = if nat_lt identifier 255 then creation_at (identifier + 1) else count_shown 256
after_close identifier answer = refusal_of answer

-- 6: the object is made anew
unfoldable pub after_replacement : Answer → Reaction Rogue
after_replacement (Number object) = succeed_with Idle no_outs
after_replacement answer = refusal_of answer

-- 7: keys are asked for until one is refused: shown are how many were made, and the refusal's code. An entry has no more asks than MAX_ASKS
unfoldable pub after_key : ℕ → Answer → Reaction Rogue
after_key made (Number object) = if nat_lt made MAX_ASKS then key_wanted (made + 1) else fail_with Idle GENERIC
after_key made (Refused code) = succeed_with Idle (at_p0 (Value made code.0))
after_key made answer = fail_with Idle GENERIC

-- an answer comes to the command that waits; where none waits, none can come
unfoldable pub reaction_to_answer : Rogue → Answer → Reaction Rogue
reaction_to_answer Idle answer = fail_with Idle GENERIC
reaction_to_answer ClosingUnknown answer = after_unknown_close answer
reaction_to_answer Looping answer = after_flag answer
reaction_to_answer (Creating identifier) answer = after_creation identifier answer
reaction_to_answer (Closing identifier) answer = after_close identifier answer
reaction_to_answer Replacing answer = after_replacement answer
reaction_to_answer (MakingKeys made) answer = after_key made answer

-- what Rogue does with what it is given
unfoldable pub reaction : Rogue → Given → Reaction Rogue
reaction s (givens.Entry entry) = reaction_to_entry entry
reaction s (givens.Answer answer) = reaction_to_answer s answer

-- the state after what is given
abbrev pub next_state : Rogue → Given → Rogue
next_state s given = (reaction s given).state

-- what is asked for
abbrev pub next_ask : Rogue → Given → Ask
next_ask s given = (reaction s given).ask
