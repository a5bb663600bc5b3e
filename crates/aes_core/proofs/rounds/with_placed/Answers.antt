use Rattle.std.proofs.Common.{refl}
use Rattle.aes_core.specs.Words.{word_bytes}
use Rattle.aes_core.proofs.ColumnLemmas.{sum_more}
use Rattle.aes_core.proofs.rounds.with_placed.Goals as goal

pub returns-clause-first : goal.returns-clause-first
unfolding word_bytes
returns-clause-first c = sum_more _ _ _ _ refl (rw c.to_be_bytes-b.ensures at c.last_0.ensures)

pub returns-clause-second : goal.returns-clause-second
unfolding word_bytes
returns-clause-second c = sum_more _ _ _ _ refl (rw c.to_be_bytes-b.ensures at c.last_3.ensures)

pub returns-clause-third : goal.returns-clause-third
unfolding word_bytes
returns-clause-third c = sum_more _ _ _ _ refl (rw c.to_be_bytes-b.ensures at c.last_2.ensures)

pub returns-clause-fourth : goal.returns-clause-fourth
unfolding word_bytes
returns-clause-fourth c = sum_more _ _ _ _ refl (rw c.to_be_bytes-b.ensures at c.last_1.ensures)
