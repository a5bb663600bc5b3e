-- What a check of a script may say.
use Rattle.script.specs.declared.dialect.Dialect.TheVariants.{Whole}
use Rattle.std.specs.Prelude.{ℕ, ⊤, List, Option}
use Rattle.app_api.specs.declared.host.Host.{Host}
use Rattle.script.specs.declared.line.Line.{Line}
use Rattle.run_board.specs.Reading.{IsReadStatus, ReadsTo}
use Rattle.run_board.specs.declared.status.Status.{Status}
use Rattle.run_board.specs.declared.status.Status.TheVariants.{Done}

-- what the source had left, where it tells that, is a script
abbrev pub HasScript : {A : Type 0} → List (Host A) → Option (List ℕ) → Type 0
HasScript hosts left = (script : List Line) × ReadsTo Whole hosts left script

-- a status of a check: that of a script, or one of reading it
abbrev pub IsCheckStatus : Status → Type 0
IsCheckStatus Done = ⊤
IsCheckStatus status = IsReadStatus status
