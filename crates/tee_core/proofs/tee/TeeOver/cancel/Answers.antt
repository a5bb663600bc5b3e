use Rattle.std.proofs.Common.{refl}
use Rattle.tee_core.proofs.Counts.{booted_kept, cancelled_boot, cancelled_turns, lost_kept, set_length, turns_kept}
use Rattle.tee_core.proofs.EventLemmas.{stand_cancelled}
use Rattle.tee_core.proofs.SideLemmas.{side_here}
use Rattle.tee_core.proofs.Still.{counts_still, moments_still}
use Rattle.tee_core.proofs.Steps.{happened_is}
use Rattle.tee_core.proofs.tee.TeeOver.cancel.Goals as goal

pub invariant_of-self-clause-served : goal.invariant_of-self-clause-served
invariant_of-self-clause-served g c =
    let tee = c.args.self.now in
    lost_kept (g.V.Volume.keeper.condition tee.volume).lost tee.sides.items c.args.app c.index_mut-side.result.now _ c.cancel-replies.new.self tee.served c.requires.known
    c.index_mut-side.ensures.value
    c.cancel-replies.ensures.lost

pub invariant_of-self-clause-booted : goal.invariant_of-self-clause-booted
invariant_of-self-clause-booted g c =
    let tee = c.args.self.now in
    booted_kept tee.boots tee.sides.items c.args.app c.index_mut-side.result.now _ c.cancel-replies.new.self tee.booted c.requires.known c.index_mut-side.ensures.value
    (cancelled_boot c.index_mut-side.result.now c.cancel-replies.new.self c.args.op c.cancel-replies.ensures.step)

pub returns-clause-made : goal.returns-clause-made
returns-clause-made g c =
    let tee = c.args.self.now in
    record {
      world = λ world whole. record {
        stand = stand_cancelled g.V.Volume.keeper g.A.Application.behaviour tee.sides.items tee.volume world c.args.app c.args.op c.index_mut-side.result.now _ c.cancel-replies.new.self
            c.requires.known c.index_mut-side.ensures.value c.cancel-replies.ensures.step whole.stand;
        held = whole.held;
      };
      stands = λ world m whole here. refl;
      sound = λ world whole. tt;
      moments = λ world whole. moments_still g.V.Volume.keeper tee.sides.items tee.volume tee.volume world _ refl whole.stand;
      damage = tt;
      counts = counts_still (g.V.Volume.keeper.condition tee.volume);
      below = λ below. below;
    }

pub returns-clause-told : goal.returns-clause-told
returns-clause-told g c = λ world m whole here.
    let stands = side_here c.args.self.now.sides.items world c.args.app c.index_mut-side.result.now _ m whole.stand.sides_are c.requires.known c.index_mut-side.ensures.value here in
    happened_is _ _ _ _ _ _ _ _ _ _ refl (c.turns.ensures.machine _ (c.cancel-replies.ensures.step m stands)) refl refl (c.cancel-replies.ensures.replies m stands)

pub returns-clause-kept : goal.returns-clause-kept
returns-clause-kept g c = record {
  apps = set_length c.args.self.now.sides.items c.args.app c.cancel-replies.new.self;
  others = λ other apart.
      turns_kept c.args.self.now.sides.items c.args.app c.index_mut-side.result.now _ c.cancel-replies.new.self c.requires.known c.index_mut-side.ensures.value
      (cancelled_turns c.index_mut-side.result.now c.cancel-replies.new.self c.args.op c.cancel-replies.ensures.step) other;
  boots = refl;
}

pub returns-clause-turns : goal.returns-clause-turns
returns-clause-turns g c =
    turns_kept c.args.self.now.sides.items c.args.app c.index_mut-side.result.now _ c.cancel-replies.new.self c.requires.known c.index_mut-side.ensures.value
    (cancelled_turns c.index_mut-side.result.now c.cancel-replies.new.self c.args.op c.cancel-replies.ensures.step) c.args.app
