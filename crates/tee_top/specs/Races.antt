-- What a race of a script writes.
use Rattle.app_api.specs.Behaviours.{Behaviour}
use Rattle.std.specs.Prelude.{ℕ, ◌≡◌, ◌<◌, ◌⊎◌, ⊤, IsTrue, List, [], ◌∷◌, ◌++◌, Option, Result, Ok, Err, codes, length, map, String, string_bytes}
use Rattle.std.specs.Global.{Global}
use Rattle.std.specs.Io.KnownBytes.{Appends}
use Rattle.tee_base.specs.Faults.{Rose}
use Rattle.tee_base.specs.Transfer.{AppendsFront}
use Rattle.tee_base.specs.Words.{Counter, Text}
use Rattle.tee_base.specs.declared.io.Sink.{Ghosts as SinkGhosts}
use Rattle.app_api.specs.declared.host.Host.{Host}
use Rattle.store_api.specs.Stores.{Store}
use Rattle.board.specs.Moment.{View}
use Rattle.board.specs.declared.Board.{Ghosts as BoardGhosts}
use Rattle.epoch.specs.Forms.{Form}
use Rattle.epoch.specs.declared.answer.OpenAnswer.{OpenAnswer}
use Rattle.alone.specs.Logs.{Logged}
use Rattle.script.specs.Grammar.{names_of}
use Rattle.script.specs.declared.line.Line.{Line}
use Rattle.report.specs.LogTexts.{log_text}
use Rattle.tee_core.specs.World.{world_of}
use Rattle.race.specs.declared.client.Stopped.{Stopped}
use Rattle.race.specs.declared.client.Stopped.TheVariants as stops
use Rattle.race.specs.Races.{CameTo, RunsOn}
use Rattle.run_board.specs.Boards.{FailsAtFirst, HasOpened, HasOrders, IsRefusedAt, IsRefusedByRule, IsRuleAnswer, LeavesStores}
use Rattle.run_board.specs.Reading.{IsUnopened}
use Rattle.run_board.specs.declared.status.Status.{Status}
use Rattle.run_board.specs.declared.status.Status.TheVariants.{Done, StoreRefused, LogFull, NoMemory, WriteFault, BoardFault}

-- the words of a race: the one word
abbrev pub AreRaceWords : List (String Global) → Type 0
AreRaceWords words = map (λ word. string_bytes word) words ≡ codes "race" ∷ []

-- the text of the log of each host, in order, each under its host's name
abbrev pub logs_text : List (List ℕ) → List (List Logged) → List ℕ
logs_text [] logs = []
logs_text (name ∷ names) [] = []
logs_text (name ∷ names) (log ∷ logs) = log_text name log ++ logs_text names logs

-- ---- statuses

-- a status under which the logs were written
abbrev pub IsRaced : Status → Type 0
IsRaced Done = ⊤
IsRaced (LogFull app) = ⊤
IsRaced status = ⊥

-- how a race ends whose lines ended so and whose logs could be written
abbrev pub raced_as : Result (Unit {0}) Stopped → Status
raced_as (Ok done) = Done
raced_as (Err (stops.LogFull app)) = LogFull app
raced_as (Err stops.NoMemory) = NoMemory

-- ---- the race

-- whatever the board: a race ended as this status says, the board went along with its logs, and this is so of their text
pub record WritesLogs {A : Type 0} (hosts : List (Host A)) (script : List Line) (status : Status) (IsWritten : List ℕ → Type 0) (old new : View) : Type 0 where
  pub logs : List (List Logged)
  pub ended : Result (Unit {0}) Stopped
  pub told : raced_as ended ≡ status
  pub board : RunsOn (length hosts) script ended logs old new
  pub written : IsWritten (logs_text (names_of hosts) logs)

-- behaviour has the applications' two stated functions
module _ {A : Type 0} (behaviour : Behaviour A) (form : Form) (hosts : List (Host A)) (seed : List ℕ) (stores : ℕ → Store) (script : List Line) where
  -- over a board that began with these stores the same, of legal logs whose entries are those of the lines
  pub record Races (status : Status) (IsWritten : List ℕ → Type 0) (old new : View) : Type 0 where
    pub writes : WritesLogs hosts script status IsWritten old new
    pub came : CameTo behaviour hosts seed stores script form writes.ended writes.logs new

  -- the logs were to be written, and a front of their text was
  abbrev pub RacesFront : View → View → Option (List ℕ) → Option (List ℕ) → Type 0
  RacesFront old new before after = (status : Status) × IsRaced status × Races status (λ text. AppendsFront text before after) old new

  -- nothing was written: no line was begun, and a crash leaves the stores of the beginning; or the lines ended for want of memory
  abbrev pub RacesUnwritten : View → View → Type 0
  RacesUnwritten old new = LeavesStores form new (world_of hosts seed stores) ⊎ Races NoMemory (λ text. ⊤) old new

-- ---- what a status says of a race

-- lines ended so, and a text of logs was to be written, unless that was for want of memory
module _ {W : Type 0} (H : SinkGhosts W) (ended : Result (Unit {0}) Stopped) (text : Text) (sink written : W) where
  -- what a status says of what was written. No other status comes
  abbrev pub WroteAs : Status → Type 0
  WroteAs Done = (raced_as ended ≡ Done) × Appends (H.written sink) (H.written written) text
  WroteAs (LogFull app) = (raced_as ended ≡ LogFull app) × Appends (H.written sink) (H.written written) text
  WroteAs WriteFault =
      Rose (H.failures sink) (H.failures written) × IsRaced (raced_as ended) × AppendsFront text (H.written sink) (H.written written)
  WroteAs NoMemory =
      ((written ≡ sink) × (raced_as ended ≡ NoMemory)) ⊎ (IsRaced (raced_as ended) × AppendsFront text (H.written sink) (H.written written))
  WroteAs status = ⊥

-- the opening rule refuses the board, and this is its answer: an honest one as it was handed in, and one that tells its reads at some counter
pub record IsRefusedFirst {B : Type 0} (G : BoardGhosts B) (form : Form) (board left : B) (why : OpenAnswer) : Type 0 where
  pub answer : IsRuleAnswer why
  pub refused : G.honest board → IsRefusedByRule form (G.view board) why
  pub rule : IsTrue G.tells_reads → (counter : Counter) × IsRefusedAt form (G.view board) (G.view left).state.reads counter why

-- a board before and after a race, and its sink before and after. Of says of a fact of lines that it is one of those of the script
module _ {B W A : Type 0} (G : BoardGhosts B) (H : SinkGhosts W) (form : Form) (hosts : List (Host A)) (Of : (List Line → Type 0) → Type 0) (board left : B) (sink written : W) where
  -- what a status says whatever the board: the logs that were written, or to be written, tell of a loss only where the board has its fault,
  -- and a full log is that of a host. Under a status that no row names nothing was written, and the board is as it was handed in
  abbrev pub RaceEndsAs : Status → Type 0
  RaceEndsAs Done =
      Of (λ script. WritesLogs hosts script Done (λ text. Appends (H.written sink) (H.written written) text) (G.view board) (G.view left))
  RaceEndsAs (LogFull app) =
      (app < length hosts)
      × Of (λ script. WritesLogs hosts script (LogFull app) (λ text. Appends (H.written sink) (H.written written) text) (G.view board) (G.view left))
  RaceEndsAs WriteFault =
      Rose (H.failures sink) (H.failures written)
      × Of (λ script. (told : Status) × IsRaced told
      × WritesLogs hosts script told (λ text. AppendsFront text (H.written sink) (H.written written)) (G.view board) (G.view left))
  RaceEndsAs BoardFault = (written ≡ sink) × FailsAtFirst (G.view board) (G.view left)
  RaceEndsAs (StoreRefused why) = (written ≡ sink) × IsRefusedFirst G form board left why
  RaceEndsAs NoMemory = ⊤
  RaceEndsAs status = (written ≡ sink) × (left ≡ board)

  -- what its status says of a race; no order was made; and one that wrote something opened its board, where that is honest, by the rule
  pub record RaceEnds (status : Status) : Type 0 where
    pub says : RaceEndsAs status
    pub orders : HasOrders [] (G.view board) (G.view left)
    pub opened : G.honest board → ((written ≡ sink) × IsUnopened status) ⊎ HasOpened form (G.view board)

module _ {B W A : Type 0} (G : BoardGhosts B) (H : SinkGhosts W) (behaviour : Behaviour A) (form : Form) (hosts : List (Host A)) (seed : List ℕ) (Of : (List Line → Type 0) → Type 0)
    (board left : B) (sink written : W) where
  -- what a status says over a sound board with these stores. A status that no row names says no more of it
  abbrev pub RacesAs : (ℕ → Store) → Status → Type 0
  RacesAs stores Done =
      Of (λ script. Races behaviour form hosts seed stores script Done (λ text. Appends (H.written sink) (H.written written) text) (G.view board) (G.view left))
  RacesAs stores (LogFull app) =
      Of (λ script. Races behaviour form hosts seed stores script (LogFull app) (λ text. Appends (H.written sink) (H.written written) text) (G.view board) (G.view left))
  RacesAs stores WriteFault = Of (λ script. RacesFront behaviour form hosts seed stores script (G.view board) (G.view left) (H.written sink) (H.written written))
  RacesAs stores NoMemory =
      ((written ≡ sink) × (left ≡ board))
      ⊎ Of (λ script. ((written ≡ sink) × RacesUnwritten behaviour form hosts seed stores script (G.view board) (G.view left))
      ⊎ RacesFront behaviour form hosts seed stores script (G.view board) (G.view left) (H.written sink) (H.written written))
  RacesAs stores BoardFault = LeavesStores form (G.view left) (world_of hosts seed stores)
  RacesAs stores (StoreRefused why) = ⊥
  RacesAs stores status = ⊤
