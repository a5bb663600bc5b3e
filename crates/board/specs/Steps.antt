-- What each call of a board does: the first two hold for every board, the others for an honest one.
use Rattle.std.specs.Prelude.{◌≡◌, ◌≢◌, ◌≤◌, ◌<◌, ◌+◌, ◌-◌, ◌%◌, ◌^◌, min, ℕ, Bool, true, false, List, ◌∷◌, Result, Ok, Err}
use Rattle.tee_base.specs.Faults.{Rose}
use Rattle.board.specs.declared.BoardFailed.{BoardFailed}
use Rattle.board.specs.declared.fuse.Fuse.TheVariants.{Unset}
use Rattle.board.specs.Fuse.{fate_by, fuse_after_call, passes, is_refused}
use Rattle.board.specs.Moment.{CrashImage, Moment, Order, View, IsCounter, IsLeft}

-- a count that stays at its type's end
abbrev pub up_to_limit : ℕ → ℕ
up_to_limit n = min n (2 ^ 64 - 1)

-- a call of the device: it fails where the count of faults rises, which stays where the call is Ok; and it fails where the fuse
-- stops it
pub record Called (ok : Bool) (old new : View) : Type 0 where
  pub size : new.size ≡ old.size
  pub key : new.key ≡ old.key
  pub orders : new.state.orders ≡ old.state.orders
  pub ordered : new.ordered ≡ old.ordered
  pub faults : old.state.faults ≤ new.state.faults
  pub cause : ok ≡ false → Rose old.state.faults new.state.faults
  pub steady : ok ≡ true → new.state.faults ≡ old.state.faults
  pub fuse : new.fuse ≡ fuse_after_call old.fuse
  pub stopped : passes (fate_by old.fuse) ≡ false → ok ≡ false

-- a run of calls, one after another: it fails where the count of faults rose, and is Ok where none of them failed; no call of it
-- sets the fuse
pub record CallRun (ok : Bool) (old new : View) : Type 0 where
  pub size : new.size ≡ old.size
  pub key : new.key ≡ old.key
  pub orders : new.state.orders ≡ old.state.orders
  pub ordered : new.ordered ≡ old.ordered
  pub faults : old.state.faults ≤ new.state.faults
  pub cause : ok ≡ false → Rose old.state.faults new.state.faults
  pub steady : ok ≡ true → new.state.faults ≡ old.state.faults
  pub unset : old.fuse ≡ Unset → new.fuse ≡ Unset

-- an order with this number, which is made of the board as it is before and behind it: the count of orders wraps, and it is no call that
-- could fail
pub record Ordered (number : ℕ) (old new : View) : Type 0 where
  pub size : new.size ≡ old.size
  pub key : new.key ≡ old.key
  pub orders : new.state.orders ≡ (old.state.orders + 1) % 2 ^ 64
  pub ordered : new.ordered ≡ record { number = number; before = old.state; after = new.state } ∷ old.ordered
  pub faults : new.state.faults ≡ old.state.faults
  pub writes : new.writes ≡ old.writes

-- the clock goes on by one moment
pub record Passes (old new : View) : Type 0 where
  pub past : new.past ≡ old.state ∷ old.past

-- the disk stays as it is, and what a crash may leave too
pub record Unchanged (old new : Moment) : Type 0 where
  pub reads : new.reads ≡ old.reads
  pub durable : new.durable ≡ old.durable
  pub pending : new.pending ≡ old.pending
  pub counter : new.counter ≡ old.counter
  pub slack : new.slack ≡ old.slack

-- the clock goes on, and a call after the fuse has blown does nothing
pub record Answered (old new : View) : Type 0 where
  pub time : Passes old new
  pub refused : is_refused (fate_by old.fuse) ≡ true → Unchanged old.state new.state

-- a write that fails may leave anything to read in its block
pub record Wrote (block : ℕ) (bytes : List ℕ) (ok : Bool) (old new : Moment) : Type 0 where
  pub here : ok ≡ true → new.reads block ≡ bytes
  pub elsewhere : (k : ℕ) → k ≢ block → new.reads k ≡ old.reads k
  pub durable : new.durable ≡ old.durable
  pub pending : (k : ℕ) → k ≢ block → new.pending k ≡ old.pending k
  pub counter : new.counter ≡ old.counter
  pub slack : new.slack ≡ old.slack

-- a sync that succeeds makes durable what a read gives
pub record Synced (ok : Bool) (old new : Moment) : Type 0 where
  pub reads : new.reads ≡ old.reads
  pub durable : ok ≡ true → (k : ℕ) → new.durable k ≡ old.reads k
  pub settled : ok ≡ true → (k : ℕ) → new.pending k ≡ false
  pub failed_durable : ok ≡ false → new.durable ≡ old.durable
  pub failed_pending : ok ≡ false → new.pending ≡ old.pending
  pub counter : new.counter ≡ old.counter
  pub slack : new.slack ≡ old.slack

-- the blocks stay as they are
pub record SameBlocks (old new : Moment) : Type 0 where
  pub reads : new.reads ≡ old.reads
  pub durable : new.durable ≡ old.durable
  pub pending : new.pending ≡ old.pending

-- a counter that is told is settled: it is one that a crash might have left
pub record Settles (n : ℕ) (old new : Moment) : Type 0 where
  pub among : IsCounter old n
  pub counter : new.counter ≡ n
  pub slack : new.slack ≡ 0

-- the new counter is one greater than one that a crash might have left before
pub record Raises (n : ℕ) (old new : Moment) : Type 0 where
  pub positive : 0 < n
  pub among : IsCounter old (n - 1)
  pub counter : new.counter ≡ n
  pub slack : new.slack ≡ 0

-- a counter that is told is settled; where telling it failed, what a crash may leave of it stays
abbrev pub CounterTold : Result ℕ BoardFailed → Moment → Moment → Type 0
CounterTold (Ok n) old new = Settles n old new
CounterTold (Err _) old new = (new.counter ≡ old.counter) × (new.slack ≡ old.slack)

-- after an advance that failed the counter is the old or the new value
abbrev pub CounterRaised : Result ℕ BoardFailed → Moment → Moment → Type 0
CounterRaised (Ok n) old new = Raises n old new
CounterRaised (Err _) old new = (new.counter ≡ old.counter) × (new.slack ≤ old.slack + 1)

-- a call that tells the counter: the blocks stay, and the counter is settled or stays
pub record Counted (result : Result ℕ BoardFailed) (old new : Moment) : Type 0 where
  pub blocks : SameBlocks old new
  pub counter : CounterTold result old new

-- a call that advances the counter: the blocks stay, and the counter is one greater, or is in doubt after a failure
pub record Advanced (result : Result ℕ BoardFailed) (old new : Moment) : Type 0 where
  pub blocks : SameBlocks old new
  pub counter : CounterRaised result old new

-- a power leaves one of the images and counters that a crash may leave, all of it durable
pub record Powered (old new : Moment) : Type 0 where
  pub left : CrashImage
  pub may : IsLeft old left
  pub reads : (k : ℕ) → new.reads k ≡ left.image k
  pub durable : (k : ℕ) → new.durable k ≡ left.image k
  pub pending : (k : ℕ) → new.pending k ≡ false
  pub counter : new.counter ≡ left.counter
  pub slack : new.slack ≡ 0
