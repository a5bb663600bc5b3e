-- The board's lines of a text, and the weather by them.
use Rattle.std.specs.Prelude.{ℕ, ◌≡◌, ◌≢◌, ◌⊎◌, ◌-◌, ◌<◌, ◌==◌, All, Bool, List, [], ◌++◌, codes, filter, length, take, slice_index_or}
use Rattle.std.specs.List.{flat_map, list_any, slice_split, starts_with}
use Rattle.std.specs.Str.{bytes_eq}
use Rattle.alone.specs.Marks.{Marks}
use Rattle.alone.specs.declared.power.Power.{Power}
use Rattle.alone.specs.declared.power.Power.TheVariants.{Clean, Kept, Absent}
use Rattle.alone.specs.declared.turn.TurnKind.{TurnKind}
use Rattle.report.specs.Texts.{happened_text, mark_text, power_text}
use Rattle.run_board.specs.Transcript.{Weather, power_line}
use Rattle.tee_base.specs.Words.{Text}

-- whether a line begins with this text
abbrev pub begins_with : List ℕ → Text → Bool
begins_with front line = starts_with (λ a b. a == b) line front

-- the whole lines of a text, without their line feeds: what stands behind the last line feed is none
abbrev pub whole_lines : Text → List (List ℕ)
whole_lines text = let parts = slice_split (λ c. c == 10) text in take (length parts - 1) parts

-- the text up to its last line feed
abbrev pub whole_text : Text → List ℕ
whole_text text = flat_map (λ line. line ++ codes "\n") (whole_lines text)

-- whether the line, its line feed included, is one of the text's
abbrev pub has_line : Text → Text → Bool
has_line text line = list_any (λ whole. bytes_eq (whole ++ codes "\n") line) (whole_lines text)

-- how the turns of each application went, by its index: a turn is lost, damaged or starved where the printed line of that is in the text
abbrev pub marks_in : List (List ℕ) → Text → ℕ → Marks
marks_in names text app = let name = slice_index_or names app [] in record {
  lost = λ turn. has_line text (mark_text (codes "lost") name turn);
  corrupt = λ turn. has_line text (mark_text (codes "corrupt") name turn);
  starved = λ turn. has_line text (mark_text (codes "starve") name turn);
}

-- the lines of a text about losses of power, in order
abbrev pub power_lines : Text → List (List ℕ)
power_lines text = filter (begins_with (codes "board power ")) (whole_lines text)

-- how many lines of a text say that a turn lost the storage
abbrev pub lost_lines : Text → ℕ
lost_lines text = length (filter (begins_with (codes "board lost ")) (whole_lines text))

-- whether the line about the loss of power of this number, from 0, is the printed one that the change in doubt of the application of
-- this name is kept
abbrev pub says_kept : List (List ℕ) → Text → ℕ → ℕ → Bool
says_kept names text power app =
    bytes_eq (slice_index_or (power_lines text) power [] ++ codes "\n") (power_text (slice_index_or names app []) (Kept app))

-- the weather by the board's lines of a text
abbrev pub weather_in : List (List ℕ) → Text → Weather
weather_in names text = record { marks = marks_in names text; kept = says_kept names text }

-- at most one line about a turn: that one of an application of these names was lost, damaged or starved
pub record IsMarkOrNone (names : List (List ℕ)) (text : Text) : Type 0 where
  pub app : ℕ
  pub known : app < length names
  pub kind : TurnKind
  pub turn : ℕ
  pub here : text ≡ happened_text (slice_index_or names app []) kind turn

-- the application whose change was in doubt is one of so many, if there was one
abbrev pub IsOwnerKnown : ℕ → Power → Type 0
IsOwnerKnown count Clean = Unit {0}
IsOwnerKnown count (Kept app) = app < count
IsOwnerKnown count (Absent app) = app < count

-- the line of a loss of power
pub record IsPowerLine (names : List (List ℕ)) (text : Text) : Type 0 where
  pub told : Power
  pub known : IsOwnerKnown (length names) told
  pub here : text ≡ power_line names told

-- at most one line of the board
abbrev pub IsBoardLineOrNone : List (List ℕ) → Text → Type 0
IsBoardLineOrNone names text = IsMarkOrNone names text ⊎ IsPowerLine names text

-- names that begin no line of the board: none has a space or a line feed in it, and none is the word that those lines begin with
abbrev pub AreFirstWords : List (List ℕ) → Type 0
AreFirstWords names = All (λ name. All (λ c. (c ≢ 32) × (c ≢ 10)) name × (name ≢ codes "board")) names
