-- A fuse: how many calls of the device still pass before one is interrupted.
use Rattle.std.specs.Prelude.{ℕ, ◌-◌, ◌==◌, if◌then◌else◌, Bool, true, false}
use Rattle.board.specs.declared.fuse.Fuse.{Fuse}
use Rattle.board.specs.declared.fuse.Fuse.TheVariants.{Unset, Passing, Blown}
use Rattle.board.specs.declared.fuse.Fate.{Fate}
use Rattle.board.specs.declared.fuse.Fate.TheVariants.{Pass, Interrupt, Refuse}

-- what the fuse makes of the next call: the one after the last that passes is interrupted, and every later one refused
abbrev pub fate_by : Fuse → Fate
fate_by Unset = Pass
fate_by (Passing calls) = if calls == 0 then Interrupt else Pass
fate_by Blown = Refuse

-- the fuse after that call
abbrev pub fuse_after_call : Fuse → Fuse
fuse_after_call Unset = Unset
fuse_after_call (Passing calls) = if calls == 0 then Blown else Passing (calls - 1)
fuse_after_call Blown = Blown

-- the fuse after it was set: the later number counts in place of the earlier, but what has blown stays so
abbrev pub fuse_after_set : Fuse → ℕ → Fuse
fuse_after_set Unset calls = Passing calls
fuse_after_set (Passing _) calls = Passing calls
fuse_after_set Blown _ = Blown

-- the call passes
abbrev pub passes : Fate → Bool
passes Pass = true
passes Interrupt = false
passes Refuse = false

-- the call fails and does nothing
abbrev pub is_refused : Fate → Bool
is_refused Pass = false
is_refused Interrupt = false
is_refused Refuse = true

-- the call fails half way
abbrev pub is_interrupted : Fate → Bool
is_interrupted Pass = false
is_interrupted Interrupt = true
is_interrupted Refuse = false
