-- What was told of the events of a run, in order, and the text of it.
use Rattle.std.specs.Prelude.{ℕ, ◌≡◌, ◌++◌, ◌==◌, ◌<◌, ◌≤◌, ◌^◌, Bool, false, List, [], ◌∷◌, Option, None, Some, filter, length, map, slice_get, slice_index_or}
use Rattle.std.specs.List.{AllByRecursion, flat_map}
use Rattle.alone.specs.Marks.{SameAt}
use Rattle.alone.specs.declared.power.Power.{Power}
use Rattle.tee_core.specs.declared.happened.Happened.{Happened}
use Rattle.tee_core.specs.Happenings.{marks_of}
use Rattle.tee_core.specs.Powers.{kept_by}
use Rattle.run_board.specs.BoardLines.{IsOwnerKnown}
use Rattle.run_board.specs.Transcript.{Weather, happened_lines, power_line}
use Rattle.tee_base.specs.Words.{Text}

-- what was told, and of which application
pub record Entry : Type 0 where
  pub app : ℕ
  pub told : Happened

-- an entry of an application, or what was told of a loss of power
pub data Item : Type 0 where
  OfApp : (entry : Entry) → Item
  OfBoard : (told : Power) → Item

-- the entries of applications
abbrev pub entries_in : List Item → List Entry
entries_in [] = []
entries_in (OfApp entry ∷ log) = entry ∷ entries_in log
entries_in (OfBoard told ∷ log) = entries_in log

-- what was told of losses of power
abbrev pub powers_told : List Item → List Power
powers_told [] = []
powers_told (OfApp entry ∷ log) = powers_told log
powers_told (OfBoard told ∷ log) = told ∷ powers_told log

-- what is written of one of them
abbrev pub item_text : List (List ℕ) → Item → List ℕ
item_text names (OfApp entry) = happened_lines (slice_index_or names entry.app []) entry.told
item_text names (OfBoard told) = power_line names told

-- what is written of a log
abbrev pub log_text : List (List ℕ) → List Item → List ℕ
log_text names log = flat_map (item_text names) log

-- what was told of one application
abbrev pub told_of_app : ℕ → List Entry → List Happened
told_of_app app entries = map (λ e. e.told) (filter (λ e. e.app == app) entries)

-- whether the change in doubt of the application of this index was kept, as was told; it wasn't where nothing was told
abbrev pub kept_at : Option Power → ℕ → Bool
kept_at None app = false
kept_at (Some told) app = kept_by told app

-- the weather that is read off a log
abbrev pub log_weather : List Item → Weather
log_weather log = record {
  marks = λ app. marks_of (told_of_app app (entries_in log));
  kept = λ power app. kept_at (slice_get (powers_told log) power) app;
}

-- the weather is the same for so many applications
pub record SameWeather (count : ℕ) (these those : Weather) : Type 0 where
  pub marks : (app turn : ℕ) → app < count → turn < 2 ^ 64 → SameAt turn (these.marks app) (those.marks app)
  pub kept : (power app : ℕ) → app < count → these.kept power app ≡ those.kept power app

-- it is of applications of these names, and the numbers of their turns are such as the code counts
pub record AreKnown (names : List (List ℕ)) (log : List Item) : Type 0 where
  pub known : AllByRecursion (λ e. e.app < length names) (entries_in log)
  pub counted : AllByRecursion (λ e. e.told.turn < 2 ^ 64) (entries_in log)
  pub owners : AllByRecursion (IsOwnerKnown (length names)) (powers_told log)

-- the text of a log, of which the last may not have been written to its end
pub record IsWrittenOf (names : List (List ℕ)) (log : List Item) (text : Text) : Type 0 where
  pub done : List Item
  pub last : List Item
  pub few : length last ≤ 1
  pub all : log ≡ done ++ last
  pub cut : List ℕ
  pub rest : List ℕ
  pub piece : log_text names last ≡ cut ++ rest
  pub here : text ≡ log_text names done ++ cut
