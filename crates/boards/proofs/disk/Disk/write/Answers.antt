use Rattle.std.proofs.Common.{refl}
use Rattle.boards.proofs.Writes.{durable_offered, durable_written}
use Rattle.boards.proofs.disk.Disk.write.Goals as goal

pub returns-then-eq-2-clause-wrote : goal.returns-then-eq-2-clause-wrote
returns-then-eq-2-clause-wrote c =
    let d = c.args.self.now in
    let o = c.offer.ensures in
    rw c.fail-then-eq-2.ensures (record {
      here = λ ok. absurd (cc);
      elsewhere = λ k ne. refl;
      durable = λ i k. durable_offered c.args.block c.args.from.now c.get.result d.seen d.pending c.offer.new.self o c.get.ensures k i;
      pending = o.elsewhere;
      counter = refl;
      slack = refl;
    })

pub returns-clause-wrote : goal.returns-clause-wrote
returns-clause-wrote c =
    let d = c.args.self.now in
    let o = c.offer.ensures in
    let s = c.set.ensures in
    record {
      here = λ ok. s.here;
      elsewhere = s.elsewhere;
      durable = λ i k. durable_written c.args.block c.args.from.now c.get.result d.seen d.pending c.offer.new.self o c.get.ensures c.set.new.self s k i;
      pending = o.elsewhere;
      counter = refl;
      slack = refl;
    }
