use Rattle.std.proofs.Common.{◌≡◌, ◌<◌, length, arith}
use Rattle.boards.proofs.Landings.{all_landed, landed_more}
use Rattle.boards.proofs.disk.Disk.land.Goals as goal

pub loop-place-preserved : goal.loop-place-preserved
loop-place-preserved c =
    let p = c.args.self.now.pending in
    let within : c.loop-place.place < length p.listed.blocks.items = omega (arith, c.loop-place-test.true, c.len-place-end.ensures, p.listed.blocks.ok) in
    landed_more c.loop-place.place c.args.digits c.args.self.now c.loop-place.self c.loop-place.invariant c.requires.whole within c.block.result c.block.ensures.value c.landed-block.result
    c.landed-block.ensures c.set.new.self c.set.ensures

pub returns : goal.returns
returns c =
    let p = c.args.self.now.pending in
    let all : c.loop-place.place ≡ length p.listed.blocks.items = omega (arith, c.loop-place-test.false, c.loop-place.auto.place-end, c.len-place-end.ensures, p.listed.blocks.ok) in
    all_landed c.loop-place.place c.args.digits c.args.self.now c.loop-place.self c.clear.new.self c.loop-place.invariant c.requires.whole all c.clear.ensures.pending c.clear.ensures.count
    c.clear.ensures.empty c.clear.ensures.durable
