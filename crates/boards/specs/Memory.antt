-- A board in memory as its contracts see it, and what its calls do exactly.
use Rattle.std.specs.Prelude.{◌≡◌, ◌+◌, ◌==◌, ◌&&◌, if◌then◌else◌, ℕ, Bool, false, List, []}
use Rattle.std.specs.List.{list_any}
use Rattle.board.specs.declared.fuse.Fate.{Fate}
use Rattle.board.specs.declared.fuse.Fate.TheVariants.{Pass, Interrupt, Refuse}
use Rattle.board.specs.declared.fuse.Fuse.TheVariants.{Unset}
use Rattle.board.specs.Fuse.{fate_by, passes}
use Rattle.board.specs.Moment.{View, IsSettled}
use Rattle.board.specs.Steps.{up_to_limit}
use Rattle.boards.specs.Landing.{digits_of, landed_counter, landed_image}
use Rattle.tee_base.specs.Words.{Key}

-- the board in memory: what contracts see of every board, and what decides which of its calls fail and what a crash leaves
pub record Memory : Type 0 where
  pub view : View
  -- the last bytes that a write offered to each block
  pub offered : ℕ → List ℕ
  -- an advance was interrupted since the last power, and no call has told the counter since
  pub unsettled : Bool
  -- how many calls of the device were made; it stays at its type's end
  pub calls : ℕ
  -- the numbers of the calls that are to be interrupted
  pub failing : List ℕ

-- what becomes of a call that is named as failing, or isn't
abbrev pub fate_of : Bool → Fate → Fate
fate_of named Pass = if named then Interrupt else Pass
fate_of named Interrupt = Interrupt
fate_of named Refuse = Refuse

-- the call's number is among those that are to fail
abbrev pub is_named : ℕ → List ℕ → Bool
is_named call failing = list_any (λ n. n == call) failing

-- what becomes of the next call
abbrev pub next_fate : Memory → Fate
next_fate m = fate_of (is_named m.calls m.failing) (fate_by m.view.fuse)

-- a call passes exactly where it is possible, isn't named as failing, and the fuse lets it pass
pub record IsExact (possible ok : Bool) (old new : Memory) : Type 0 where
  pub passed : ok ≡ (passes (next_fate old) && possible)
  pub faults : new.view.state.faults ≡ (if ok then old.view.state.faults else up_to_limit (old.view.state.faults + 1))
  pub calls : new.calls ≡ up_to_limit (old.calls + 1)
  pub failing : new.failing ≡ old.failing

-- an order is no call of the device, and it can't fail
pub record IsOrder (old new : Memory) : Type 0 where
  pub faults : new.view.state.faults ≡ old.view.state.faults
  pub calls : new.calls ≡ old.calls
  pub failing : new.failing ≡ old.failing
  pub offered : new.offered ≡ old.offered

-- the image and the counter that a loss of power leaves
abbrev pub image_after : ℕ → Memory → ℕ → List ℕ
image_after pick m = landed_image (digits_of m.unsettled pick) m.view.state.pending m.view.state.durable m.offered

-- the counter that a loss of power leaves, by the number that picks one
abbrev pub counter_after : ℕ → Memory → ℕ
counter_after pick m = landed_counter m.unsettled pick m.view.state.counter

-- a board that was just made: nothing is pending, and no call was made
pub record IsNew (key : Key) (size counter : ℕ) (m : Memory) : Type 0 where
  pub its_key : m.view.key ≡ key
  pub its_size : m.view.size ≡ size
  pub its_counter : m.view.state.counter ≡ counter
  pub settled : IsSettled m.view.state
  pub unsettled : m.unsettled ≡ false
  pub faults : m.view.state.faults ≡ 0
  pub orders : m.view.state.orders ≡ 0
  pub writes : m.view.writes ≡ 0
  pub ordered : m.view.ordered ≡ []
  pub fuse : m.view.fuse ≡ Unset
  pub past : m.view.past ≡ []
  pub calls : m.calls ≡ 0
  pub failing : m.failing ≡ []
