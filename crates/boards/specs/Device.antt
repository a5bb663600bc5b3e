-- What a board was between two calls, by what is kept of it for contracts alone.
use Rattle.std.specs.Prelude.{ℕ, [], false}
use Rattle.board.specs.Moment.{Moment, Order}
use Rattle.boards.specs.Disk.{state_of}
use Rattle.boards.specs.declared.disk.Disk.{Disk}

-- a disk in memory, or files, of which the counts of faults and of orders alone are told
pub data Device : Type 0 where
  OfDisk : (disk : Disk) → Device
  OfFiles : (faults orders : ℕ) → Device

-- files as a moment of the disk model: the bytes of the blocks and the counter are left out
abbrev pub files_at : ℕ → ℕ → Moment
files_at faults orders = record {
  reads = λ k. [];
  durable = λ k. [];
  pending = λ k. false;
  counter = 0;
  slack = 0;
  faults = faults;
  orders = orders;
}

-- the board as a moment of the disk model
abbrev pub moment_of : Device → Moment
moment_of (OfDisk disk) = state_of disk
moment_of (OfFiles faults orders) = files_at faults orders

-- an order that was made: its number, and what the board was before and behind it
pub record Made : Type 0 where
  pub number : ℕ
  pub before : Device
  pub after : Device

-- the same over moments of the disk model
abbrev pub order_of : Made → Order
order_of made = record { number = made.number; before = moment_of made.before; after = moment_of made.after }
