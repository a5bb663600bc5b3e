use Rattle.std.proofs.Common.{◌+◌}
use Rattle.region_plan.proofs.OrderedLemmas.{gap_next, stands_next, told_next}
use Rattle.region_plan.proofs.inodes.next_number.Goals as goal

pub returns-in-Ok : goal.returns-in-Ok
returns-in-Ok c =
    told_next c.args.inodes.now c.args.order.now c.args.last c.in-Some.last c.in-Some.is (c.in-Ok.n + 1)
    (stands_next c.args.inodes.now c.args.order.now c.requires c.in-Some.last.now c.in-Ok.n c.in-Ok.ensures.found)

pub returns-in-Err : goal.returns-in-Err
returns-in-Err c =
    told_next c.args.inodes.now c.args.order.now c.args.last c.in-Some.last c.in-Some.is c.in-Err.n
    (gap_next c.args.inodes.now c.args.order.now c.requires c.in-Some.last.now c.in-Err.n c.in-Err.ensures.absent)
