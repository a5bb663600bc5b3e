use Rattle.std.proofs.Common.{sym, subst}
use Rattle.store_api.specs.Volumes.{Held}
use Rattle.tee_core.specs.Directories.{AreHeld}
use Rattle.tee_core.proofs.Powers.{stand_ordered}
use Rattle.tee_core.proofs.tee.TeeOver.fuse.Goals as goal

pub returns-clause-world : goal.returns-clause-world
returns-clause-world g c = λ world whole.
    let ordered = c.fuse.ensures.same whole.stand.honest in
    record {
      stand = stand_ordered g.V.Volume.keeper g.met.V.Volume.rests g.met.V.Volume.since_earlier g.A.Application.behaviour c.args.self.now.sides.items world c.args.self.now.volume
          c.fuse.new.self whole.stand ordered.honest ordered.same c.fuse.ensures.lost ordered.leaves;
      held = subst (λ (h : Held). AreHeld h.leaves c.args.self.now.kept.places) (sym ordered.same) whole.held;
    }
