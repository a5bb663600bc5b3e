-- The printed lines.
use Rattle.std.specs.Prelude.{ℕ, List, [], ◌++◌, codes}
use Rattle.std.specs.Fmt.{decimal}
use Rattle.std.specs.List.{flat_map}
use Rattle.std.specs.Int.{w32, to_be_bytes}
use Rattle.hex.specs.Hex.{encode_lower}
use Rattle.tee_base.specs.Codes.{number_of}
use Rattle.tee_base.specs.declared.codes.Code.{Code}
use Rattle.alone.specs.declared.turn.TurnKind.{TurnKind}
use Rattle.alone.specs.declared.turn.TurnKind.TheVariants.{Plain, Lost, Starved, Corrupted}
use Rattle.alone.specs.declared.power.Power.{Power}
use Rattle.alone.specs.declared.power.Power.TheVariants.{Clean, Kept, Absent}
use Rattle.alone.specs.declared.reply.Reply.{Reply}
use Rattle.alone.specs.declared.reply.Outputs.{Outputs}
use Rattle.alone.specs.declared.reply.Shown.{Shown}
use Rattle.alone.specs.declared.reply.Shown.TheVariants.{Nothing, Value, Mem, Size}

-- a code is its four bytes, the most significant first, in hexadecimal digits
abbrev pub code_text : Code → List ℕ
code_text code = encode_lower (to_be_bytes w32 code.0)

-- what stands before an output
abbrev pub parameter_text : ℕ → List ℕ
parameter_text index = codes " p" ++ decimal index ++ codes "="

-- an output as it is shown; nothing where none is
abbrev pub shown_text : ℕ → Shown → List ℕ
shown_text index Nothing = []
shown_text index (Value a b) = parameter_text index ++ decimal a ++ codes "," ++ decimal b
shown_text index (Mem size bytes) = parameter_text index ++ decimal size ++ codes ":" ++ encode_lower bytes
shown_text index (Size size) = parameter_text index ++ decimal size ++ codes "!"

-- the four outputs of a reply, in order
abbrev pub outputs_text : Outputs → List ℕ
outputs_text outputs = shown_text 0 outputs.p0 ++ shown_text 1 outputs.p1 ++ shown_text 2 outputs.p2 ++ shown_text 3 outputs.p3

-- a reply's line
abbrev pub reply_text : List ℕ → Reply → List ℕ
reply_text name reply =
    name ++ codes " " ++ decimal reply.op ++ codes " " ++ code_text reply.code ++ codes " " ++ decimal (number_of reply.origin)
    ++ outputs_text reply.outputs ++ codes "\n"

-- what the board did to a turn of the application of this name
abbrev pub mark_text : List ℕ → List ℕ → ℕ → List ℕ
mark_text word name turn = codes "board " ++ word ++ codes " " ++ name ++ codes " " ++ decimal turn ++ codes "\n"

-- a plain turn has no line
abbrev pub happened_text : List ℕ → TurnKind → ℕ → List ℕ
happened_text name Plain turn = []
happened_text name (Lost change) turn = mark_text (codes "lost") name turn
happened_text name Starved turn = mark_text (codes "starve") name turn
happened_text name Corrupted turn = mark_text (codes "corrupt") name turn

-- what a power left of the change in doubt, which is that of the application of this name
abbrev pub power_text : List ℕ → Power → List ℕ
power_text name Clean = codes "board power clean\n"
power_text name (Kept app) = codes "board power kept " ++ name ++ codes "\n"
power_text name (Absent app) = codes "board power absent " ++ name ++ codes "\n"

-- how often a code comes
abbrev pub count_text : ℕ × ℕ → List ℕ
count_text counted = codes "code " ++ code_text (record { 0 = counted.0 }) ++ codes " " ++ decimal counted.1 ++ codes "\n"

-- the summary of a run of so many lines: the hash of the script, that of what was written, and how often each code comes
abbrev pub summary_text : ℕ → List ℕ → List ℕ → List (ℕ × ℕ) → List ℕ
summary_text lines script replies counts =
    codes "lines " ++ decimal lines ++ codes "\nscript " ++ encode_lower script ++ codes "\nreplies " ++ encode_lower replies ++ codes "\n"
    ++ flat_map count_text counts
