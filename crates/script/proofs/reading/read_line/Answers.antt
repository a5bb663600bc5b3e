use Rattle.script.specs.Scripts.{reading_after}
use Rattle.std.proofs.Common.{rules}
use Rattle.script.proofs.reading.read_line.Goals as goal

pub returns-in-Err-clause-value : goal.returns-in-Err-clause-value
unfolding reading_after
returns-in-Err-clause-value g c = search rules

pub returns-then-filled-gt-MAX_FILL_BYTES-clause-value : goal.returns-then-filled-gt-MAX_FILL_BYTES-clause-value
unfolding reading_after
returns-then-filled-gt-MAX_FILL_BYTES-clause-value g c = search rules

pub returns-clause-value : goal.returns-clause-value
unfolding reading_after
returns-clause-value g c = search rules
