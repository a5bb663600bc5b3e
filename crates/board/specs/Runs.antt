-- Runs of calls on an honest board that change some blocks and no others.
use Rattle.std.specs.Prelude.{◌≡◌, ◌≤◌, ◌+◌, ℕ, Bool, false, List}
use Rattle.tee_base.specs.Crash.{LeavesOnly}
use Rattle.board.specs.Moment.{CrashImage, Moment, View, moment, left_since}
use Rattle.tee_base.specs.Words.{Image}

-- each block that isn't open is the base's, read and on the disk, and the counter is between these two
pub record IsBase (open_at : ℕ → Bool) (base : Image) (low high : ℕ) (m : Moment) : Type 0 where
  pub reads : (k : ℕ) → open_at k ≡ false → m.reads k ≡ base k
  pub durable : (k : ℕ) → open_at k ≡ false → m.durable k ≡ base k
  pub pending : (k : ℕ) → open_at k ≡ false → m.pending k ≡ false
  pub least : low ≤ m.counter
  pub greatest : m.counter + m.slack ≤ high

-- the same of what a crash leaves
pub record LeavesBase (open_at : ℕ → Bool) (base : Image) (low high : ℕ) (c : CrashImage) : Type 0 where
  pub image : (k : ℕ) → open_at k ≡ false → c.image k ≡ base k
  pub least : low ≤ c.counter
  pub greatest : c.counter ≤ high

-- a run that a crash at any moment finds so
pub record RunsOver (open_at : ℕ → Bool) (base : Image) (low high : ℕ) (old new : View) : Type 0 where
  pub leaves : LeavesOnly moment left_since old new (LeavesBase open_at base low high)
  pub now : IsBase open_at base low high new.state

-- a crash leaves what a read gives, and this counter
pub record Rests (n : ℕ) (m : Moment) : Type 0 where
  pub as_read : (k : ℕ) → m.reads k ≡ m.durable k
  pub pending : (k : ℕ) → m.pending k ≡ false
  pub counter : m.counter ≡ n
  pub slack : m.slack ≡ 0
