-- How a turn went, by how the store did in it.
use Rattle.object_asks.specs.declared.turn.TurnKind.{TurnKind as Served}
use Rattle.object_asks.specs.declared.turn.TurnKind.TheVariants as served
use Rattle.alone.specs.declared.turn.TurnKind.{TurnKind}
use Rattle.alone.specs.declared.turn.TurnKind.TheVariants.{Plain, Lost, Corrupted}

-- the machine's kind of a turn in which the store did so
abbrev pub kind_by : Served → TurnKind
kind_by served.Plain = Plain
kind_by (served.Lost change) = Lost change
kind_by served.Corrupted = Corrupted
