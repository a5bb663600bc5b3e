use Rattle.std.proofs.Common.{arith}
use Rattle.shared_parts.proofs.OpeningLemmas.{views_more}
use Rattle.shared_parts.proofs.opening.views_of.Goals as goal

pub loop-place-preserved : goal.loop-place-preserved
loop-place-preserved g c =
    let was = c.loop-place.invariant in
    record {
      values = views_more c.loop-place.seen.items c.push_reserved.new.self.items c.of.result c.loop-place.place c.args.volume.now c.push_reserved.ensures.items c.of.ensures was.values;
      long = let more = c.push_reserved.ensures.len in let n = was.long in omega (arith, more, n);
      room = let same = c.push_reserved.ensures.capacity in let n = was.room in omega (arith, same, n);
    }
