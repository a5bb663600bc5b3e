-- A generated workload: the words that ask for it, its run in weather without marks, and the summary of that.
use Rattle.app_api.specs.Behaviours.{Behaviour}
use Rattle.std.specs.Prelude.{ℕ, ◌≡◌, ◌<◌, ◌^◌, ◌⊎◌, ⊤, true, false, List, [], ◌∷◌, Option, Some, codes, length, map, String, string_bytes}
use Rattle.std.specs.Global.{Global}
use Rattle.std.specs.Io.KnownBytes.{Appends}
use Rattle.app_api.specs.declared.host.Host.{Host}
use Rattle.alone.specs.Marks.{no_marks}
use Rattle.board.specs.Moment.{View}
use Rattle.board.specs.declared.Board.{Ghosts as BoardGhosts}
use Rattle.epoch.specs.Forms.{Form}
use Rattle.mac_digest.specs.Hash.{digest_of}
use Rattle.mac_digest.specs.declared.digests.Hash.TheVariants.{Sha256}
use Rattle.report.specs.Texts.{summary_text}
use Rattle.script.specs.Canonical.{canonical}
use Rattle.script.specs.Words.{IsNumber}
use Rattle.script.specs.declared.line.Line.{Line}
use Rattle.store_api.specs.Stores.{Store}
use Rattle.summary.specs.Codes.{IsTally, codes_in}
use Rattle.summary.specs.Summaries.{HasLines}
use Rattle.tee_base.specs.Faults.{Rose}
use Rattle.tee_base.specs.Transfer.{AppendsFront}
use Rattle.tee_base.specs.Words.{Text}
use Rattle.tee_base.specs.declared.io.Sink.{Ghosts as SinkGhosts}
use Rattle.tee_core.specs.World.{World, world_of}
use Rattle.run_board.specs.BoardLines.{begins_with, whole_lines}
use Rattle.run_board.specs.Boards.{HasOpened, HasOrders, LeavesStores}
use Rattle.run_board.specs.Endings.{IsRefusedAs, OnSound}
use Rattle.run_board.specs.Reading.{IsUnopened}
use Rattle.run_board.specs.Runs.{AreRunWords, RunsFront}
use Rattle.run_board.specs.Transcript.{Weather, after_events, events_of, transcript}
use Rattle.run_board.specs.declared.status.Status.{Status}
use Rattle.run_board.specs.declared.status.Status.TheVariants.{Done, StoreRefused, NoMemory, WriteFault, BoardFault}

-- the words that ask for the workload of a number, which is written as a script has numbers
abbrev pub AreGenWords : List (String Global) → ℕ → Type 0
AreGenWords words number =
    (digits : List ℕ) × (map (λ word. string_bytes word) words ≡ codes "gen" ∷ digits ∷ []) × IsNumber digits number × (number < 2 ^ 64)

-- the words of a command: those of a run, or those that ask for a workload
abbrev pub AreCommandWords : List (String Global) → Type 0
AreCommandWords words = AreRunWords words ⊎ ((number : ℕ) × AreGenWords words number)

-- weather without marks: no turn is lost, damaged or starved, and no loss of power keeps a change in doubt
abbrev pub calm : Weather
calm = record { marks = λ app. no_marks; kept = λ power app. false }

-- a text was to be written to a sink, and what a status says of that: it was, or a front of it, and a write failed; or there was no memory,
-- and nothing was
abbrev pub WritesAs : {W : Type 0} → SinkGhosts W → Text → W → W → Status → Type 0
WritesAs H text sink written Done = Appends (H.written sink) (H.written written) text
WritesAs H text sink written WriteFault = AppendsFront text (H.written sink) (H.written written) × Rose (H.failures sink) (H.failures written)
WritesAs H text sink written NoMemory = written ≡ sink
WritesAs H text sink written status = ⊥

-- these hosts run this script from a board with these stores
module _ {A : Type 0} (behaviour : Behaviour A) (form : Form) (hosts : List (Host A)) (seed : List ℕ) (stores : ℕ → Store) (script : List Line) where
  -- what is written of the script in weather without marks
  abbrev pub calm_text : List ℕ
  calm_text = transcript behaviour calm hosts seed stores script

  -- the world after the script in that weather
  abbrev pub calm_end : World A
  calm_end = after_events behaviour (world_of hosts seed stores) (events_of behaviour calm (world_of hosts seed stores) script)

  -- a text is the summary of that run: the number of lines, the hash of the script in its canonical text, the hash of what is
  -- written of it, and how often each code stands in the lines of that, which are those of replies
  pub record IsSummaryOf (text : Text) : Type 0 where
    pub counts : List (ℕ × ℕ)
    pub tally : IsTally (codes_in (whole_lines calm_text)) counts
    pub here : text ≡ summary_text (length script) (digest_of Sha256 (canonical hosts script)) (digest_of Sha256 calm_text) counts

  -- the summary was appended, and what a crash may leave of the board has the stores of the world after the script
  pub record RunsSummed (new : View) (before after : Option (List ℕ)) : Type 0 where
    pub text : Text
    pub summary : IsSummaryOf text
    pub appended : Appends before after text
    pub left : LeavesStores form new calm_end

  -- a front of the summary was appended, and what a crash may leave of the board has the stores of the world after the script
  pub record RunsCut (new : View) (before after : Option (List ℕ)) : Type 0 where
    pub text : Text
    pub summary : IsSummaryOf text
    pub front : AppendsFront text before after
    pub left : LeavesStores form new calm_end

  -- the first events of the script were made, and these replies are what was to be summed up of them: lines of which none is the board's,
  -- and then one that isn't whole
  pub record SumsFront (new : View) : Type 0 where
    pub replies : Text
    pub lines : List Text
    pub line : Text
    pub has : HasLines replies lines line
    pub front : RunsFront behaviour form hosts seed stores script new (Some []) (Some replies)

  -- as such replies, of which the last line says that a turn lost the storage
  abbrev pub SumsToLost : View → Type 0
  SumsToLost new = (front : SumsFront new) × (begins_with (codes "board lost ") front.line ≡ true)

-- a board before and after a run of these lines for its summary alone, and its sink before and after
module _ {B W A : Type 0} (G : BoardGhosts B) (H : SinkGhosts W) (behaviour : Behaviour A) (form : Form) (hosts : List (Host A)) (seed : List ℕ) (script : List Line)
    (board left : B) (sink written : W) where
  -- what a status says whatever the board. No other status comes
  abbrev pub SumsEndAs : Status → Type 0
  SumsEndAs Done = ⊤
  SumsEndAs WriteFault = Rose (H.failures sink) (H.failures written)
  SumsEndAs NoMemory = written ≡ sink
  SumsEndAs BoardFault = (written ≡ sink) × Rose (G.view board).state.faults (G.view left).state.faults
  SumsEndAs (StoreRefused why) = (written ≡ sink) × IsRefusedAs G form (λ So. ⊥) board left sink written why
  SumsEndAs status = ⊥

  -- what a status says over a sound board with these stores. No other status comes
  abbrev pub SumsAs : (ℕ → Store) → Status → Type 0
  SumsAs stores Done = RunsSummed behaviour form hosts seed stores script (G.view left) (H.written sink) (H.written written)
  SumsAs stores WriteFault = RunsCut behaviour form hosts seed stores script (G.view left) (H.written sink) (H.written written)
  SumsAs stores NoMemory = SumsFront behaviour form hosts seed stores script (G.view left)
  SumsAs stores BoardFault =
      LeavesStores form (G.view left) (world_of hosts seed stores) ⊎ SumsToLost behaviour form hosts seed stores script (G.view left)
  SumsAs stores status = ⊥

  -- what its status says of such a run; no order was made; one that made something happen opened its board, where that is honest, by the
  -- rule; and where no write failed and no call of a sound board, it is done, unless there was no memory
  pub record RunsGenerated (status : Status) : Type 0 where
    pub says : SumsEndAs status
    pub sound : OnSound G form (length hosts) board (λ stores. SumsAs stores status)
    pub orders : HasOrders [] (G.view board) (G.view left)
    pub opened : G.honest board → ((written ≡ sink) × IsUnopened status) ⊎ HasOpened form (G.view board)
    pub complete : ¬ Rose (H.failures sink) (H.failures written) → ¬ Rose (G.view board).state.faults (G.view left).state.faults
        → OnSound G form (length hosts) board (λ stores. (status ≡ Done) ⊎ (status ≡ NoMemory))
