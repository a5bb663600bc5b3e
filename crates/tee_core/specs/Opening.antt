-- What an opening of all applications promises.
use Rattle.std.specs.Prelude.{ℕ, ◌≡◌, ◌<◌, Bool, Some, Ok}
use Rattle.board.specs.Moment.{View}
use Rattle.board.specs.Steps.{CallRun}
use Rattle.epoch.specs.Forms.{Form, held_in}
use Rattle.object_dir.specs.Regions.{region_in}
use Rattle.store_api.specs.Stores.{Store}
use Rattle.store_api.specs.Volumes.{Held}
use Rattle.tee_base.specs.Words.{Counter}

-- an image beside this counter is sound for so many hosts, and these are its stores: it is blank, or a header counts in the slot
-- of its sequence and the leaves under its root are sealed, and each host's region stands for its store
pub record IsSoundFor (f : Form) (view : View) (counter : Counter) (h : Held) (hosts : ℕ) (stores : ℕ → Store) : Type 0 where
  pub opens : held_in f view.key view.state.reads counter ≡ Some h
  pub stand : (app : ℕ) → app < hosts → region_in app h ≡ Ok (stores app)

-- the board was opened by a run of its calls, none of which failed where this is true
abbrev pub IsOpenedOver : Bool → View → View → Type 0
IsOpenedOver made old new = CallRun made old new
