use Rattle.std.proofs.Common.{ap, length, length-append, arith}
use Rattle.alone.proofs.reply.move_all.Goals as goal

pub push_reserved-requires : goal.push_reserved-requires
push_reserved-requires c =
    let kept = c.loop-place.invariant in
    let all = ap length kept.all in
    let now = length-append c.loop-place.into.items c.loop-place.items.items in
    let was = length-append c.args.into.now.items c.args.items.now.items in
    omega (arith, all, now, was, kept.left, kept.room, c.requires, c.loop-place-test.true, c.len-place-end.ensures.value)
