-- The disk model: what a board reads as at a moment, and what a crash at that moment may leave.
use Rattle.std.specs.Prelude.{◌≡◌, ◌≤◌, ◌<◌, ◌⊎◌, ◌+◌, ◌^◌, ℕ, Bool, true, false, List, [], ◌∷◌, ◌++◌, length}
use Rattle.tee_base.specs.declared.limits.TheConstants.{BLOCK_BYTES}
use Rattle.board.specs.declared.fuse.Fuse.{Fuse}
pub use Rattle.tee_base.specs.Moments.{CrashImage, Moment, Order, sum_of_orders}
use Rattle.tee_base.specs.Words.{Key}

-- a board as its contracts see it
pub record View : Type 0 where
  pub size : ℕ
  pub key : Key
  pub writes : ℕ
  -- the orders that were made, the last of them first
  pub ordered : List Order
  pub fuse : Fuse
  pub state : Moment
  -- the moments before, the last of them first
  pub past : List Moment

-- a counter that a crash at this moment may leave
pub record IsCounter (m : Moment) (n : ℕ) : Type 0 where
  pub least : m.counter ≤ n
  pub greatest : n ≤ m.counter + m.slack
  pub fits : n < 2 ^ 64

-- what a crash at this moment may leave: any 1,024 bytes in each pending block, and all others as they are on the disk
pub record IsLeft (m : Moment) (c : CrashImage) : Type 0 where
  pub kept : (k : ℕ) → m.pending k ≡ false → c.image k ≡ m.durable k
  pub any : (k : ℕ) → m.pending k ≡ true → length (c.image k) ≡ BLOCK_BYTES
  pub counter : IsCounter m c.counter
  pub faults : c.faults ≡ m.faults
  pub orders : c.orders ≡ m.orders

-- what a crash at one of these moments, from the t-th on, may have left
abbrev pub WasLeft : List Moment → ℕ → CrashImage → Type 0
WasLeft [] t c = ⊥
WasLeft (m ∷ past) t c = ((t ≤ length past) × IsLeft m c) ⊎ WasLeft past t c

-- the clock: how many moments there were before
abbrev pub moment : View → ℕ
moment v = length v.past

-- what a crash at some moment from t on, or now, may have left
abbrev pub left_since : View → ℕ → CrashImage → Type 0
left_since v t c = IsLeft v.state c ⊎ WasLeft v.past t c

-- the one view is the other, or was before it: its state is then among the moments before the other
abbrev pub IsBehind : View → View → Type 0
IsBehind old new =
    ((new.state ≡ old.state) × (new.past ≡ old.past))
    ⊎ ((more : List Moment) × (new.past ≡ more ++ old.state ∷ old.past))

-- an honest board as it reads is one of its images, and what is pending is within its size
pub record IsConsistent (v : View) : Type 0 where
  pub as_read : (k : ℕ) → v.state.pending k ≡ false → v.state.reads k ≡ v.state.durable k
  pub whole : (k : ℕ) → k < v.size → length (v.state.reads k) ≡ BLOCK_BYTES
  pub within : (k : ℕ) → v.state.pending k ≡ true → k < v.size
  pub counter : v.state.counter < 2 ^ 64

-- nothing is pending: a crash leaves what a read gives, and this counter
pub record IsSettled (m : Moment) : Type 0 where
  pub pending : (k : ℕ) → m.pending k ≡ false
  pub slack : m.slack ≡ 0
