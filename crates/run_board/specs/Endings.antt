-- How a run ends: what its status says of the words, of the board and of what is written.
use Rattle.app_api.specs.Behaviours.{Behaviour}
use Rattle.std.specs.Prelude.{ℕ, ◌≡◌, ◌⊎◌, ◌↔◌, ⊤, IsTrue, List}
use Rattle.app_api.specs.declared.host.Host.{Host}
use Rattle.board.specs.declared.Board.{Ghosts as BoardGhosts}
use Rattle.epoch.specs.Forms.{Form}
use Rattle.epoch.specs.declared.answer.OpenAnswer.{OpenAnswer}
use Rattle.script.specs.declared.line.Line.{Line}
use Rattle.store_api.specs.Stores.{Store}
use Rattle.tee_base.specs.Faults.{Rose}
use Rattle.tee_base.specs.Words.{Counter}
use Rattle.tee_base.specs.declared.io.Sink.{Ghosts as SinkGhosts}
use Rattle.tee_core.specs.World.{world_of}
use Rattle.run_board.specs.Boards.{BeginsWith, FailsAtFirst, FailsAtPower, HasFirstOrders, HasOpened, HasOrders, HasPower, LeavesStores, WritesLosses, orders_of}
use Rattle.run_board.specs.Boards.{IsRefusedAt, IsRefusedByRule, IsRuleAnswer}
use Rattle.run_board.specs.Reading.{IsUnopened}
use Rattle.run_board.specs.Runs.{RunsFront, RunsToPower, RunsWhole}
use Rattle.run_board.specs.declared.status.Status.{Status}
use Rattle.run_board.specs.declared.status.Status.TheVariants.{Done, BadWords, StoreRefused, LogFull, NoMemory, WriteFault, BoardFault}

-- words of no command are told as such, and only those; then Same is so: nothing is read, written or opened
pub record AnswersWords (Words : Type 0) (status : Status) (Same : Type 0) : Type 0 where
  pub bad_words : (status ≡ BadWords) ↔ ¬ Words
  pub same : status ≡ BadWords → Same

-- over an honest board at rest, whose image is sound for so many hosts, this is so of the stores of their regions
abbrev pub OnSound : {B : Type 0} → BoardGhosts B → Form → ℕ → B → ((ℕ → Store) → Type 0) → Type 0
OnSound G form hosts board So = G.honest board → (stores : ℕ → Store) → BeginsWith form (G.view board) hosts stores → So stores

-- ---- a run

-- a board before and after a run, and its sink before and after. Of says of a fact of lines that it is one of those that were run
module _ {B W : Type 0} (G : BoardGhosts B) (form : Form) (Of : (List Line → Type 0) → Type 0) (board left : B) (sink written : W) where
  -- the opening rule refused the board, and this is its answer: over an honest board as it is handed back. At the first opening nothing was
  -- written, and an honest board is refused as it was handed in, and one that tells its reads at some counter; else a line lost the power
  pub record IsRefusedAs (why : OpenAnswer) : Type 0 where
    pub answer : IsRuleAnswer why
    pub refusal : G.honest board → IsRefusedByRule form (G.view left) why
    pub refused : G.honest board → ((written ≡ sink) × IsRefusedByRule form (G.view board) why) ⊎ Of HasPower
    pub rule : IsTrue G.tells_reads
        → ((written ≡ sink) × (counter : Counter) × IsRefusedAt form (G.view board) (G.view left).state.reads counter why) ⊎ Of HasPower

module _ {B W : Type 0} (G : BoardGhosts B) (H : SinkGhosts W) (form : Form) (Of : (List Line → Type 0) → Type 0) (board left : B) (sink written : W) where
  -- what a status says whatever the board. Under one that no row names nothing was written, and the board is as it was handed in
  abbrev pub EndsAs : Status → Type 0
  EndsAs Done =
      Of (λ script. HasOrders (orders_of script) (G.view board) (G.view left))
      × WritesLosses (H.written sink) (H.written written) (G.view board) (G.view left)
  EndsAs WriteFault = Rose (H.failures sink) (H.failures written)
  EndsAs BoardFault =
      ((written ≡ sink) × FailsAtFirst (G.view board) (G.view left)) ⊎ Of (λ script. FailsAtPower script (G.view board) (G.view left))
  EndsAs (StoreRefused why) = IsRefusedAs G form Of board left sink written why
  EndsAs NoMemory = ⊤
  EndsAs (LogFull app) = ⊥
  EndsAs status = (written ≡ sink) × (left ≡ board)

  -- what its status says of a run; the orders of its first lines were made, and no others; and a run that made something happen opened its
  -- board, where that is honest, by the rule
  pub record RunEnds (status : Status) : Type 0 where
    pub says : EndsAs status
    pub orders : (left ≡ board) ⊎ Of (λ script. HasFirstOrders script (G.view board) (G.view left))
    pub opened : G.honest board → ((written ≡ sink) × IsUnopened status) ⊎ HasOpened form (G.view board)

module _ {B W A : Type 0} (G : BoardGhosts B) (H : SinkGhosts W) (behaviour : Behaviour A) (form : Form) (hosts : List (Host A)) (seed : List ℕ) (Of : (List Line → Type 0) → Type 0)
    (board left : B) (sink written : W) where
  -- what a status says over a sound board with these stores. A status that no row names says no more of it
  abbrev pub RunsAs : (ℕ → Store) → Status → Type 0
  RunsAs stores Done =
      Of (λ script. RunsWhole behaviour form hosts seed stores script (G.view board) (G.view left) (H.written sink) (H.written written))
  RunsAs stores WriteFault = Of (λ script. RunsFront behaviour form hosts seed stores script (G.view left) (H.written sink) (H.written written))
  RunsAs stores NoMemory =
      ((written ≡ sink) × (left ≡ board))
      ⊎ Of (λ script. RunsFront behaviour form hosts seed stores script (G.view left) (H.written sink) (H.written written))
  RunsAs stores BoardFault =
      ((written ≡ sink) × LeavesStores form (G.view left) (world_of hosts seed stores))
      ⊎ Of (λ script. RunsToPower behaviour form hosts seed stores script (G.view board) (G.view left) (H.written sink) (H.written written))
  RunsAs stores (StoreRefused why) = ⊥
  RunsAs stores status = ⊤
