-- What a run of calls keeps of what a crash might have left before it.
use Rattle.std.specs.Prelude.{◌≤◌, ℕ}
use Rattle.board.specs.Moment.{CrashImage, View, IsBehind, moment, left_since}

-- the clock doesn't fall, and what a crash since an earlier moment might have left, it might have left still; what the board was
-- is among what it was before now
pub record KeepsPast (old new : View) : Type 0 where
  pub later : moment old ≤ moment new
  pub past : (t : ℕ) (c : CrashImage) → t ≤ moment old → left_since old t c → left_since new t c
  pub behind : IsBehind old new
