-- How lines stop before their end.
use Rattle.std.specs.Prelude.{Result, Ok, Err}
use Rattle.epoch.specs.declared.answer.OpenAnswer.{OpenAnswer}
use Rattle.run_board.specs.declared.lines.Stop.{Stop}
use Rattle.run_board.specs.declared.lines.Stop.TheVariants as stops

-- the lines didn't stop because the board wasn't opened again
abbrev pub IsNoRefusal : {X : Type 0} → Result X Stop → Type 0
IsNoRefusal (Ok x) = Unit {0}
IsNoRefusal (Err stops.NoMemory) = Unit {0}
IsNoRefusal (Err stops.WriteFault) = Unit {0}
IsNoRefusal (Err (stops.Refused why)) = ⊥

-- a fact of lines that stopped for want of memory or at a failed write
abbrev pub UnlessRefused : {X : Type 0} → Result X Stop → Type 0 → Type 0
UnlessRefused (Ok x) fact = Unit {0}
UnlessRefused (Err stops.NoMemory) fact = fact
UnlessRefused (Err stops.WriteFault) fact = fact
UnlessRefused (Err (stops.Refused why)) fact = Unit {0}

-- a fact of lines that stopped because the board wasn't opened again, and why
abbrev pub IfRefused : {X : Type 0} → Result X Stop → (OpenAnswer → Type 0) → Type 0
IfRefused (Ok x) fact = Unit {0}
IfRefused (Err stops.NoMemory) fact = Unit {0}
IfRefused (Err stops.WriteFault) fact = Unit {0}
IfRefused (Err (stops.Refused why)) fact = fact why
