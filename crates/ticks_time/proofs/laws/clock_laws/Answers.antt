use Rattle.ticks_time.proofs.HistoryLemmas.{ticks_are, never_is, gone_is}
use Rattle.ticks_time.proofs.laws.clock_laws.Goals as goal

pub returns-clause-ticks : goal.returns-clause-ticks
returns-clause-ticks c = ticks_are

pub returns-clause-not_set : goal.returns-clause-not_set
returns-clause-not_set c = never_is

pub returns-clause-needs_reset : goal.returns-clause-needs_reset
returns-clause-needs_reset c = gone_is
