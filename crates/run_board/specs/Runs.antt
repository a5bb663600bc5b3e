-- What a run of the program is given, and what it writes.
use Rattle.app_api.specs.Behaviours.{Behaviour}
use Rattle.std.specs.Prelude.{ℕ, ◌≡◌, ◌++◌, ◌⊎◌, List, [], ◌∷◌, Option, Result, Ok, Err, codes, map, String, string_bytes}
use Rattle.std.specs.Global.{Global}
use Rattle.std.specs.Io.KnownBytes.{Appends}
use Rattle.tee_base.specs.Faults.{Rose}
use Rattle.app_api.specs.declared.host.Host.{Host}
use Rattle.store_api.specs.Stores.{Store}
use Rattle.script.specs.declared.line.Line.{Line}
use Rattle.script.specs.declared.line.Line.TheVariants as lines
use Rattle.script.specs.Grammar.{names_of}
use Rattle.board.specs.Moment.{Order, View}
use Rattle.epoch.specs.Forms.{Form}
use Rattle.tee_core.specs.World.{World, world_of}
use Rattle.run_board.specs.Boards.{GoesAlong, IsOrder, IsSpan, LeavesStores, RunsAlong, with_orders}
use Rattle.run_board.specs.BoardLines.{IsBoardLineOrNone, weather_in, whole_text}
use Rattle.run_board.specs.Parts.{HasNoDamage, IsTextOfAllBut}
use Rattle.run_board.specs.Transcript.{WorldEvent, after_events, events_of, transcript}
use Rattle.run_board.specs.declared.lines.Stop.{Stop}
use Rattle.run_board.specs.declared.status.Status.{Status}
use Rattle.run_board.specs.declared.status.Status.TheVariants.{Done}
use Rattle.tee_base.specs.Words.{Text}
use Rattle.run_board.specs.Statuses.{stopped_as}

-- the words of a run: the one word, or that and the name of an image
abbrev pub AreRunWords : List (String Global) → Type 0
AreRunWords words =
    (map (λ word. string_bytes word) words ≡ codes "run" ∷ [])
    ⊎ ((image : List ℕ) × (map (λ word. string_bytes word) words ≡ codes "run" ∷ image ∷ []))

-- how a run ends whose lines ended so
abbrev pub ended_as : {X : Type 0} → Result X Stop → Status
ended_as (Ok x) = Done
ended_as (Err stop) = stopped_as stop

-- the program is run by these hosts, this seed and this script, from a board with these stores
module _ {A : Type 0} (behaviour : Behaviour A) (form : Form) (hosts : List (Host A)) (seed : List ℕ) (stores : ℕ → Store) (script : List Line) where
  -- how the world begins
  abbrev pub begin : World A
  begin = world_of hosts seed stores

  -- the events of the script in the weather that the board's lines of a text tell
  abbrev pub events_by : Text → List WorldEvent
  events_by text = events_of behaviour (weather_in (names_of hosts) text) begin script

  -- what the script is written as in that weather
  abbrev pub transcript_by : Text → List ℕ
  transcript_by text = transcript behaviour (weather_in (names_of hosts) text) hosts seed stores script

  -- the script was run to its end. The text that was appended is its transcript, in the weather that the text itself tells; no turn
  -- met damage; the board went along with the events; and what a crash may leave of it has the stores of the world at the end
  pub record RunsWhole (old new : View) (before after : Option (List ℕ)) : Type 0 where
    pub text : Text
    pub appended : Appends before after text
    pub all : text ≡ transcript_by text
    pub undamaged : HasNoDamage (events_by text)
    pub board : RunsAlong behaviour form begin (events_by text) old new
    pub left : LeavesStores form new (after_events behaviour begin (events_by text))

  -- the first events of the script were made, in the weather that the whole lines of the text that was appended tell, and at most one
  -- line of the board further. The text is theirs, and at most that of the last wasn't written to its end; and what a crash may leave
  -- of the board has the stores of the world behind them
  pub record RunsFront (new : View) (before after : Option (List ℕ)) : Type 0 where
    pub text : Text
    pub appended : Appends before after text
    pub further : List ℕ
    pub one : IsBoardLineOrNone (names_of hosts) further
    pub made : List WorldEvent
    pub behind : List WorldEvent
    pub first : events_by (whole_text text ++ further) ≡ made ++ behind
    pub cut : IsTextOfAllBut behaviour (names_of hosts) begin made text
    pub left : LeavesStores form new (after_events behaviour begin made)

-- the lines before one of a power were run to their end, and the board went along with them. Then its order was made, and a call of
-- the board failed behind it, before the board was opened again: a crash may leave the stores of the world behind these lines
pub record RunsToPower {A : Type 0} (behaviour : Behaviour A) (form : Form) (hosts : List (Host A)) (seed : List ℕ) (stores : ℕ → Store) (script : List Line) (old new : View)
    (before after : Option (List ℕ)) : Type 0 where
  pub front : List Line
  pub pick : ℕ
  pub rest : List Line
  pub split : script ≡ front ++ lines.Power pick ∷ rest
  pub text : Text
  pub appended : Appends before after text
  pub all : text ≡ transcript_by behaviour form hosts seed stores front text
  pub size : new.size ≡ old.size
  pub key : new.key ≡ old.key
  pub made : List Order
  pub power : Order
  pub ordered : new.ordered ≡ power ∷ with_orders made old.ordered
  pub board : GoesAlong behaviour form old.key old.state 0 (world_of hosts seed stores)
      (events_by behaviour form hosts seed stores front text) made power.before
  pub order : IsOrder pick power
  pub behind : IsSpan 0 power.after new.state
  pub failed : Rose power.after.faults new.state.faults
  pub left : LeavesStores form new (after_events behaviour (world_of hosts seed stores) (events_by behaviour form hosts seed stores front text))
