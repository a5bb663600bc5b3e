-- What the disk in memory holds, as a moment of the disk model.
use Rattle.std.specs.Prelude.{◌≡◌, ◌≢◌, ◌<◌, ◌^◌, ℕ, if◌then◌else◌, Bool, true, false, List}
use Rattle.board.specs.Moment.{Moment}
use Rattle.boards.specs.Landing.{landed_image}
use Rattle.boards.specs.Offer.{last_offered}
use Rattle.boards.specs.Pending.{IsPending, durable_or, is_pending, offered_in}
use Rattle.boards.specs.Row.{IsRow, block_of}
use Rattle.boards.specs.declared.disk.Disk.{Disk}
use Rattle.boards.specs.declared.row.Row.{Row}
use Rattle.tee_base.specs.Words.{Image}

-- how many blocks it has
abbrev pub size_of : Disk → ℕ
size_of d = d.seen.written.count

-- what a read of each block gives
abbrev pub reads_of : Disk → ℕ → List ℕ
reads_of d k = block_of d.seen k

-- what is on the disk in each block: what a read gives, where it isn't pending
abbrev pub durable_of : Disk → ℕ → List ℕ
durable_of d k = durable_or d.pending k (reads_of d k)

-- the last bytes that a write offered
abbrev pub offered_of : Disk → ℕ → List ℕ
offered_of d k = last_offered d.offers k

-- the blocks that are written and not yet durable
abbrev pub pending_of : Disk → ℕ → Bool
pending_of d k = is_pending d.pending k

-- the disk as a moment of the disk model
abbrev pub state_of : Disk → Moment
state_of d = record {
  reads = reads_of d;
  durable = durable_of d;
  pending = pending_of d;
  counter = d.counter;
  slack = if d.unsettled then 1 else 0;
  faults = d.faults;
  orders = d.orders;
}

-- each block has 1,024 bytes, a pending one what was offered to it last, and any other is read as it is on the disk
pub record IsWhole (d : Disk) : Type 0 where
  pub seen : IsRow d.seen
  pub pending : IsPending d.pending
  pub count : d.pending.listed.count ≡ d.seen.written.count
  pub as_read : (k : ℕ) → pending_of d k ≡ false → reads_of d k ≡ durable_of d k
  pub offers : (k : ℕ) → pending_of d k ≡ true → offered_in d.pending k ≡ offered_of d k
  pub counter : d.counter < 2 ^ 64
  pub faults : d.faults < 2 ^ 64
  pub orders : d.orders < 2 ^ 64

-- a write that isn't refused offers its bytes, and a crash may leave some of them
pub record Offers (block : ℕ) (bytes : List ℕ) (refused : Bool) (pending : ℕ → Bool) (old new : Image) : Type 0 where
  pub here : refused ≡ false → new block ≡ bytes
  pub pending_here : refused ≡ false → pending block ≡ true
  pub elsewhere : (k : ℕ) → k ≢ block → new k ≡ old k
  pub unchanged : refused ≡ true → new block ≡ old block

-- each pending block took what its digit picks, all of it durable, and nothing else is changed
pub record HasLanded (digits : ℕ) (old new : Disk) : Type 0 where
  pub whole : IsWhole new
  pub size : size_of new ≡ size_of old
  pub image : (k : ℕ) → reads_of new k ≡ landed_image digits (pending_of old) (durable_of old) (offered_of old) k
  pub durable : (k : ℕ) → durable_of new k ≡ reads_of new k
  pub pending : (k : ℕ) → pending_of new k ≡ false
  pub offers : new.offers ≡ old.offers
  pub counter : new.counter ≡ old.counter
  pub unsettled : new.unsettled ≡ old.unsettled
  pub faults : new.faults ≡ old.faults
  pub orders : new.orders ≡ old.orders

-- the disk holds these blocks and this counter, and nothing is pending
pub record HoldsRow (row : Row) (number : ℕ) (d : Disk) : Type 0 where
  pub whole : IsWhole d
  pub seen : d.seen ≡ row
  pub counter : d.counter ≡ number
  pub pending : (k : ℕ) → pending_of d k ≡ false
  pub unsettled : d.unsettled ≡ false
  pub faults : d.faults ≡ 0
  pub orders : d.orders ≡ 0
