-- A whole script, as it is computed by cutting its text at the line feeds.
use Rattle.std.specs.Prelude.{ℕ, ◌≡◌, ◌==◌, ◌+◌, ◌-◌, nat_lt, slice_index, slice_index_or, take, List, [], ◌∷◌, ◌++◌, Option, None, Some, Result, Ok, Err, if◌then◌else◌, length}
use Rattle.std.specs.List.{slice_split}
use Rattle.std.specs.Str.Lines.{strip_carriage_return}
use Rattle.tee_base.specs.declared.limits.TheConstants.{MAX_FILL_BYTES}
use Rattle.app_api.specs.declared.host.Host.{Host}
use Rattle.script.specs.declared.dialect.Dialect.{Dialect}
use Rattle.script.specs.declared.line.Line.{Line}
use Rattle.script.specs.declared.line.Meaning.{Meaning}
use Rattle.script.specs.declared.line.Meaning.TheVariants.{Nothing, Client, Script}
use Rattle.script.specs.declared.line.ReadMeaning.{ReadMeaning}
use Rattle.script.specs.declared.script.ScriptAnswer.{ScriptAnswer}
use Rattle.script.specs.declared.script.ScriptAnswer.TheVariants.{BadLine, NoMemory}
use Rattle.script.specs.Dialects.{takes}
use Rattle.script.specs.Lines.{meaning_of}
use Rattle.tee_base.specs.Words.{Text}

-- what was read so far: the client whose lines come, how many bytes were filled in, and the lines
pub record Reading : Type 0 where
  pub client : ℕ
  pub filled : ℕ
  pub lines : List Line

-- what is read after one more line of this meaning, with so many bytes filled in, where the dialect takes it
abbrev pub with_meaning : Dialect → Reading → ℕ → Meaning → Option Reading
with_meaning dialect r filled Nothing = Some (record { client = r.client; filled = filled; lines = r.lines })
with_meaning dialect r filled (Client n) = Some (record { client = n; filled = filled; lines = r.lines })
with_meaning dialect r filled (Script line) = if takes dialect line then Some (record { client = r.client; filled = filled; lines = r.lines ++ line ∷ [] }) else None

-- a line that means nothing known, or with which more bytes are filled in than a script may have, isn't read
abbrev pub with_line : Dialect → Reading → Option ReadMeaning → Option Reading
with_line dialect r None = None
with_line dialect r (Some read) = if nat_lt MAX_FILL_BYTES (r.filled + read.fills) then None else with_meaning dialect r (r.filled + read.fills) read.meaning

-- what is read after one more line
unfoldable pub reading_after : {A : Type 0} → Dialect → List (Host A) → Reading → Text → Option Reading
reading_after dialect hosts r line = with_line dialect r (meaning_of hosts r.client line)

-- what comes after line n, where it is read
abbrev pub onward : {X : Type 0} → ℕ → Option Reading → (Reading → Result X ℕ) → Result X ℕ
onward n None more = Err n
onward n (Some r) more = more r

-- what is read after pieces that ended at line feeds, the first of them line n
abbrev pub read_from : {A : Type 0} → Dialect → List (Host A) → ℕ → Reading → List (List ℕ) → Result Reading ℕ
read_from dialect hosts n r [] = Ok r
read_from dialect hosts n r (piece ∷ pieces) = onward n (reading_after dialect hosts r (strip_carriage_return piece)) (λ next. read_from dialect hosts (n + 1) next pieces)

-- the lines, where what stands behind the last line feed is nothing, or a last line without an end, which is line n
abbrev pub ended_by : {A : Type 0} → Dialect → List (Host A) → ℕ → Reading → List ℕ → Result (List Line) ℕ
ended_by dialect hosts n r [] = Ok r.lines
ended_by dialect hosts n r (c ∷ cs) =
    if slice_index (c ∷ cs) (length (c ∷ cs) - 1) == 13 then Err n else onward n (reading_after dialect hosts r (c ∷ cs)) (λ next. Ok next.lines)

-- what comes after lines that were read
abbrev pub after_lines : Result Reading ℕ → (Reading → Result (List Line) ℕ) → Result (List Line) ℕ
after_lines (Ok r) more = more r
after_lines (Err n) more = Err n

-- nothing was read so far, and client 0's lines come
abbrev pub no_reading : Reading
no_reading = record { client = 0; filled = 0; lines = [] }

-- the pieces of a text between line feeds: the last stands behind the last line feed
abbrev pub script_from : {A : Type 0} → Dialect → List (Host A) → List (List ℕ) → Result (List Line) ℕ
script_from dialect hosts pieces =
    after_lines (read_from dialect hosts 1 no_reading (take (length pieces - 1) pieces)) (λ r. ended_by dialect hosts (length pieces) r (slice_index_or pieces (length pieces - 1) []))

-- the script that a text is, or the number of the first line that is none
abbrev pub script_of : {A : Type 0} → Dialect → List (Host A) → Text → Result (List Line) ℕ
script_of dialect hosts text = script_from dialect hosts (slice_split (λ c. c == 10) text)

-- what was answered, seen by view, is what the text reads to, unless memory ran out
abbrev pub AnswersWith : {X Y : Type 0} → (X → Y) → Result X ScriptAnswer → Result Y ℕ → Type 0
AnswersWith view (Ok x) read = read ≡ Ok (view x)
AnswersWith view (Err (BadLine n)) read = read ≡ Err n
AnswersWith view (Err NoMemory) read = Unit {0}

-- what was answered is what the text reads to, unless memory ran out
abbrev pub Answers : {X : Type 0} → Result X ScriptAnswer → Result X ℕ → Type 0
Answers result read = AnswersWith (λ x. x) result read
