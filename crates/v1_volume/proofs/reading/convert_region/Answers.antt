use Rattle.std.proofs.Common.{arith}
use Rattle.v1_volume.proofs.OldLemmas.{above_more}
use Rattle.v1_volume.proofs.reading.convert_region.Goals as goal

pub returns-in_ok-convert-in-Ok-clause-numbers : goal.returns-in_ok-convert-in-Ok-clause-numbers
returns-in_ok-convert-in-Ok-clause-numbers g c = above_more c.in_ok-convert-in-Ok.field-0 259 1024 (omega arith) c.in_ok-convert-in-Ok.ensures.named
