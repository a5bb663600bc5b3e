-- What a device of blocks was between two calls, what a crash leaves of it, and the orders that were made to it.
use Rattle.std.specs.Prelude.{◌+◌, ◌%◌, ◌^◌, ℕ, Bool, List, [], ◌∷◌}
use Rattle.tee_base.specs.Words.{Counter, Image}

-- what a crash leaves, and how far the counts of faults and orders were
pub record CrashImage : Type 0 where
  pub image : Image
  pub counter : Counter
  pub faults : ℕ
  pub orders : ℕ

-- a device between two calls
pub record Moment : Type 0 where
  -- what a read of each block gives
  pub reads : ℕ → List ℕ
  -- what each block holds on the disk
  pub durable : Image
  -- the blocks that a crash may change: written, or their write failed, since the last Ok of a sync
  pub pending : ℕ → Bool
  -- the least counter that a crash may leave, and how far above it another may be
  pub counter : Counter
  pub slack : ℕ
  pub faults : ℕ
  pub orders : ℕ

-- an order: its number, and what the device was when it came and right behind it
pub record Order : Type 0 where
  pub number : ℕ
  pub before : Moment
  pub after : Moment

-- the sum of the numbers of orders, which wraps
abbrev pub sum_of_orders : List Order → ℕ
sum_of_orders [] = 0
sum_of_orders (order ∷ earlier) = (sum_of_orders earlier + order.number) % 2 ^ 64
