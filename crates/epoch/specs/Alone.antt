-- Blocks that a run of calls leaves alone.
use Rattle.std.specs.Prelude.{◌≡◌, ◌≢◌, ℕ, false}
use Rattle.tee_base.specs.Crash.{LeavesOnly}
use Rattle.board.specs.Moment.{View, left_since, moment}
use Rattle.epoch.specs.Past.{KeepsPast}

-- each of them reads as before; one that no crash could change no crash may change since, and at every moment one leaves it as it
-- read
pub record LeavesAlone (alone : ℕ → Type 0) (old new : View) : Type 0 where
  pub reads : (k : ℕ) → alone k → new.state.reads k ≡ old.state.reads k
  pub pending : (k : ℕ) → alone k → old.state.pending k ≡ false → new.state.pending k ≡ false
  pub crash : (k : ℕ) → alone k → old.state.pending k ≡ false
      → LeavesOnly moment left_since old new (λ c. c.image k ≡ old.state.reads k)

-- nothing of the past is forgotten, and of these blocks none changes at any moment
pub record StaysAlone (Stays : ℕ → Type 0) (old new : View) : Type 0 where
  pub past : KeepsPast old new
  pub alone : LeavesAlone Stays old new

-- nothing of the past is forgotten, and every other block reads as before
pub record TouchesBlock (block : ℕ) (old new : View) : Type 0 where
  pub past : KeepsPast old new
  pub elsewhere : (k : ℕ) → k ≢ block → new.state.reads k ≡ old.state.reads k
