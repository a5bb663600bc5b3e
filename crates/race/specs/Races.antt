-- What a race over a board came to: the log of each application, and what is left of the board.
use Rattle.app_api.specs.Behaviours.{Behaviour}
use Rattle.std.specs.Prelude.{ℕ, ◌≡◌, ◌<◌, ◌≤◌, ◌+◌, ◌⊎◌, true, List, [], ◌∷◌, ◌++◌, Result, Ok, Err, Some, length, map, slice_get}
use Rattle.tee_base.specs.Faults.{Rose}
use Rattle.tee_base.specs.declared.limits.TheConstants.{MAX_LOG_BYTES, MAX_LOG_ENTRIES}
use Rattle.app_api.specs.declared.host.Host.{Host}
use Rattle.store_api.specs.Stores.{Store}
use Rattle.board.specs.Moment.{View}
use Rattle.epoch.specs.Forms.{Form}
use Rattle.epoch.specs.Mounts.{LeavesOpening}
use Rattle.epoch.specs.declared.answer.OpenAnswer.{OpenAnswer}
use Rattle.epoch.specs.declared.answer.OpenAnswer.TheVariants as answers
use Rattle.store_api.specs.Volumes.{Held}
use Rattle.alone.specs.Logs.{IsLegal, KeptLog, Logged, bytes_in, is_full, machine_by}
use Rattle.alone.specs.Machine.{Machine, start}
use Rattle.script.specs.declared.line.Line.{Line}
use Rattle.shared_parts.specs.HostedApps.{AreOfClients, tells_loss}
use Rattle.tee_core.specs.Moments.{LeavesStoresAt}
use Rattle.tee_core.specs.World.{World, world_of}
use Rattle.race.specs.Following.{Follows, FollowsCut, FollowsFirst}
use Rattle.race.specs.Wishes.{Wish, bytes_of_wish, wishes_of}
use Rattle.race.specs.declared.client.Stopped.{Stopped}
use Rattle.race.specs.declared.client.Stopped.TheVariants as stops

-- ---- logs

-- the entries of logs
abbrev pub entries_of : List KeptLog → List (List Logged)
entries_of logs = map (λ log. log.entries) logs

-- none has more parameter bytes than one log may hold
abbrev pub AllKeep : List KeptLog → Type 0
AllKeep logs = (app : ℕ) (log : KeptLog) → slice_get logs app ≡ Some log → bytes_in log.entries ≤ MAX_LOG_BYTES

-- one of the logs tells of a loss of the storage
abbrev pub OneTellsLoss : List (List Logged) → Type 0
OneTellsLoss logs = (app : ℕ) × (log : List Logged) × (slice_get logs app ≡ Some log) × (tells_loss log ≡ true)

-- behaviour has the applications' two stated functions. Each machine begins with its host's start over its store
module _ {A : Type 0} (behaviour : Behaviour A) (hosts : List (Host A)) (seed : List ℕ) (stores : ℕ → Store) where
  -- the log of the application of this index, which this host brings, is one from its start on: each event may stand where it stands, and
  -- its replies are those of its step. All entries are of the eight clients
  pub record IsLogOf (app : ℕ) (host : Host A) (log : List Logged) : Type 0 where
    pub legal : IsLegal behaviour (start host app seed (stores app)) log
    pub clients : AreOfClients log

  -- there is one such log for each host, in order
  pub record AreLogs (logs : List (List Logged)) : Type 0 where
    pub as_many : length logs ≡ length hosts
    pub each : (app : ℕ) (host : Host A) (log : List Logged) → slice_get hosts app ≡ Some host → slice_get logs app ≡ Some log → IsLogOf app host log

  -- the machines to which the logs lead, of applications of which the first has this index
  abbrev pub world_from : ℕ → List (Host A) → List (List Logged) → World A
  world_from app [] logs = []
  world_from app (host ∷ more) [] = []
  world_from app (host ∷ more) (log ∷ logs) = machine_by behaviour (start host app seed (stores app)) log ∷ world_from (app + 1) more logs

-- ---- lines

-- behaviour has the application's two stated functions. The log is folded from the machine m on
module _ {A : Type 0} (behaviour : Behaviour A) (m : Machine A) (client : ℕ) where
  -- the client's entries are those of these lines; the last line may be cut short, in a log that holds as many entries as one may hold
  abbrev pub FollowsOrCut : List Logged → List Wish → Type 0
  FollowsOrCut log first = Follows behaviour m client log first ⊎ ((MAX_LOG_ENTRIES ≤ length log) × FollowsCut behaviour m client log first)

  -- they are those of the first of these lines, of which the last may be cut short so
  pub record FollowsFull (log : List Logged) (wishes : List Wish) : Type 0 where
    pub first : List Wish
    pub rest : List Wish
    pub wishes_are : wishes ≡ first ++ rest
    pub follows : FollowsOrCut log first

  -- what a client's entries are of its lines, in a race that ended so. Where there was no memory, a line may be cut short in any log
  abbrev pub FollowsAs : Result (Unit {0}) Stopped → List Logged → List Wish → Type 0
  FollowsAs (Ok done) log wishes = Follows behaviour m client log wishes
  FollowsAs (Err (stops.LogFull full)) log wishes = FollowsFull log wishes
  FollowsAs (Err stops.NoMemory) log wishes = FollowsFirst behaviour m client log wishes

-- the log has no place for what this line of the client brings, which is a line for its application
pub record HasNoPlace (app : ℕ) (script : List Line) (log : List Logged) : Type 0 where
  pub client : ℕ
  pub among : client < 8
  pub made : List Wish
  pub next : Wish
  pub rest : List Wish
  pub wishes_are : wishes_of app client script ≡ made ++ next ∷ rest
  pub full : is_full log (bytes_of_wish next) ≡ true

-- where a full log ended the race, it is the one of the application named
abbrev pub IsFullAs : Result (Unit {0}) Stopped → List Line → List (List Logged) → Type 0
IsFullAs (Ok done) script logs = Unit {0}
IsFullAs (Err (stops.LogFull full)) script logs = (log : List Logged) × (slice_get logs full ≡ Some log) × HasNoPlace full script log
IsFullAs (Err stops.NoMemory) script logs = Unit {0}

-- behaviour has the applications' two stated functions. Each machine begins with its host's start over its store
module _ {A : Type 0} (behaviour : Behaviour A) (hosts : List (Host A)) (seed : List ℕ) (stores : ℕ → Store) (script : List Line) where
  -- in a race that ended so, each client's entries in each log are those of its lines for that application
  abbrev pub AllFollow : Result (Unit {0}) Stopped → List (List Logged) → Type 0
  AllFollow ended logs = (app : ℕ) (host : Host A) (log : List Logged) (client : ℕ) → slice_get hosts app ≡ Some host → slice_get logs app ≡ Some log → client < 8
      → FollowsAs behaviour (start host app seed (stores app)) client ended log (wishes_of app client script)

  -- the log of this application had no place for a client's next line: those before it are made, and of itself there is nothing, or what a
  -- full log cut short
  pub record StopsAtFull (app : ℕ) (logs : List (List Logged)) : Type 0 where
    pub host : Host A
    pub hosted : slice_get hosts app ≡ Some host
    pub log : List Logged
    pub here : slice_get logs app ≡ Some log
    pub none : HasNoPlace app script log
    pub made : Follows behaviour (start host app seed (stores app)) none.client log none.made
        ⊎ ((MAX_LOG_ENTRIES ≤ length log) × FollowsCut behaviour (start host app seed (stores app)) none.client log (none.made ++ none.next ∷ []))

  -- where a full log ended the race, it is the one of the application named
  abbrev pub StopsAs : Result (Unit {0}) Stopped → List (List Logged) → Type 0
  StopsAs (Ok done) logs = Unit {0}
  StopsAs (Err (stops.LogFull full)) logs = StopsAtFull full logs
  StopsAs (Err stops.NoMemory) logs = Unit {0}

  -- a race over a board with these stores ended so, with these logs: each is legal, each client's entries are those of its lines, and each
  -- image and counter that a crash may leave of the board has the stores of the machines to which the logs lead, with the change in doubt
  -- or without it
  pub record CameTo (form : Form) (ended : Result (Unit {0}) Stopped) (logs : List (List Logged)) (new : View) : Type 0 where
    pub are : AreLogs behaviour hosts seed stores logs
    pub follow : AllFollow ended logs
    pub stops : StopsAs ended logs
    pub left : LeavesStoresAt form new.key new.state (world_from behaviour hosts seed stores 0 hosts logs)

-- ---- the board

-- it is of its size and under its key, no order was made to it, and its count of faults didn't fall
pub record IsUnordered (old new : View) : Type 0 where
  pub size : new.size ≡ old.size
  pub key : new.key ≡ old.key
  pub orders : new.state.orders ≡ old.state.orders
  pub ordered : new.ordered ≡ old.ordered
  pub later : old.state.faults ≤ new.state.faults

-- whatever the board: so it is handed back with these logs of a race that ended so, one for each of so many applications. Its count of
-- faults rose where a log tells of a loss
pub record RunsOn (apps : ℕ) (script : List Line) (ended : Result (Unit {0}) Stopped) (logs : List (List Logged)) (old new : View) : Type 0 where
  pub as_many : length logs ≡ apps
  pub full : IsFullAs ended script logs
  pub board : IsUnordered old new
  pub lost : OneTellsLoss logs → Rose old.state.faults new.state.faults

-- whatever the board: it wasn't opened for this reason, or there was no memory once it was, and so it is handed back
pub record ComesBack (why : OpenAnswer) (old new : View) : Type 0 where
  pub board : IsUnordered old new
  pub cause : why ≡ answers.Failed → Rose old.state.faults new.state.faults

-- a crash leaves what was held, or what its opening makes of that; or it leaves the stores of the hosts' machines at their start
abbrev pub LeavesBegin : {A : Type 0} → Form → List (Host A) → List ℕ → (ℕ → Store) → Held → View → View → Type 0
LeavesBegin form hosts seed stores held old new =
    LeavesOpening form held old new ⊎ LeavesStoresAt form new.key new.state (world_of hosts seed stores)
