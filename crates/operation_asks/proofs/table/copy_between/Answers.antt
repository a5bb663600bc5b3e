use Rattle.std.proofs.Common.{arith}
use Rattle.operation_asks.specs.Represents.{AreOperations}
use Rattle.operation_asks.proofs.AskLemmas.{copy_front, copy_back, with_told}
use Rattle.operation_asks.proofs.table.copy_between.Goals as goal

pub returns-then-target-source : goal.returns-then-target-source
returns-then-target-source c os i to from are at_to at_from =
    with_told AreOperations _ _ _ _ c.told_done.ensures
    (copy_front c.args.entries.now c.split_at_mut-front.result.0.now c.split_at_mut-front.result.1.now os c.args.target c.args.source
    c.index-front-target.result c.index-back-0.result c.copy_from.result c.copy_from.new.self i to from are c.split_at_mut-front.ensures.value
    (omega arith) c.split_at_mut-front.ensures.front_len (omega arith) c.index-front-target.is c.index-back-0.is at_to at_from
    c.copy_from.ensures.answer c.copy_from.ensures.after)

pub returns-else-target-source : goal.returns-else-target-source
returns-else-target-source c os i to from are at_to at_from =
    with_told AreOperations _ _ _ _ c.told_done-else-target-source.ensures
    (copy_back c.args.entries.now c.split_at_mut-front-else-target-source.result.0.now c.split_at_mut-front-else-target-source.result.1.now os
    c.args.target c.args.source c.index-back-0-else-target-source.result c.index-front-source.result c.copy_from-else-target-source.result
    c.copy_from-else-target-source.new.self i to from are c.split_at_mut-front-else-target-source.ensures.value (omega arith)
    c.split_at_mut-front-else-target-source.ensures.front_len (omega arith) c.index-back-0-else-target-source.is c.index-front-source.is at_to
    at_from c.copy_from-else-target-source.ensures.answer c.copy_from-else-target-source.ensures.after)
