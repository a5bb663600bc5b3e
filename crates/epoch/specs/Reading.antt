-- What calls that read leaves keep of a board, and whether one answers that a call of the board failed.
use Rattle.std.specs.Prelude.{ℕ, not, Bool, true, false, Result, Ok, Err}
use Rattle.store_api.specs.declared.leaves.LeafAnswer.{LeafAnswer}
use Rattle.store_api.specs.declared.leaves.LeafAnswer.TheVariants as answers
use Rattle.board.specs.Moment.{View}
use Rattle.board.specs.Runs.{RunsOver}
use Rattle.board.specs.Steps.{Unchanged}
use Rattle.epoch.specs.Past.{KeepsPast}
use Rattle.tee_base.specs.Words.{Image}

-- the disk stays as it is, nothing of the past is forgotten, and every run goes on
pub record OnlyReads (old new : View) : Type 0 where
  pub state : Unchanged old.state new.state
  pub past : KeepsPast old new
  pub run : (open_at : ℕ → Bool) (base : Image) (low high : ℕ) (first : View)
      → RunsOver open_at base low high first old → RunsOver open_at base low high first new

-- the answer is that a call of the board failed
abbrev pub is_failure : LeafAnswer → Bool
is_failure answers.Failed = true
is_failure _ = false

-- a call on leaves answers anything but that
abbrev pub no_fault : {A : Type 0} → Result A LeafAnswer → Bool
no_fault (Ok done) = true
no_fault (Err answer) = not (is_failure answer)
