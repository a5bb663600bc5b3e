use Rattle.std.proofs.Common.{refl, arith}
use Rattle.tee_core.proofs.Counts.{booted_kept, called_boot, called_turns, lost_kept, same_boot, same_turns, set_length, turns_kept}
use Rattle.tee_core.proofs.EventLemmas.{stand_called, stand_kept}
use Rattle.tee_core.proofs.SideLemmas.{side_here, sides_kept}
use Rattle.tee_core.proofs.Still.{counts_still, moments_still}
use Rattle.tee_core.proofs.Steps.{happened_is, on_err_known}
use Rattle.tee_core.proofs.tee.TeeOver.call.Goals as goal

-- ---- there is no memory

pub invariant_of-self : goal.invariant_of-self
invariant_of-self g c =
    let tee = c.args.self.now in
    record {
      few = omega (arith, tee.few, set_length tee.sides.items c.args.app c.call.new.self);
      served = lost_kept (g.V.Volume.keeper.condition tee.volume).lost tee.sides.items c.args.app c.index_mut-side.result.now _ c.call.new.self tee.served c.requires.known
          c.index_mut-side.ensures.value c.call.ensures.lost;
      booted = booted_kept tee.boots tee.sides.items c.args.app c.index_mut-side.result.now _ c.call.new.self tee.booted c.requires.known c.index_mut-side.ensures.value
          (same_boot c.index_mut-side.result.now c.call.new.self c.in_err-made.ensures.err);
    }

pub returns-in_err-made-clause-err : goal.returns-in_err-made-clause-err
returns-in_err-made-clause-err g c =
    let tee = c.args.self.now in
    on_err_known c.from_residual.result _ (λ world whole.
    record {
      stand = stand_kept g.V.Volume.keeper g.A.Application.behaviour tee.sides.items tee.volume world c.args.app c.index_mut-side.result.now _ c.call.new.self c.requires.known
          c.index_mut-side.ensures.value c.in_err-made.ensures.err whole.stand;
      held = whole.held;
    })

pub returns-in_err-made-clause-same : goal.returns-in_err-made-clause-same
returns-in_err-made-clause-same g c =
    on_err_known c.from_residual.result _ (λ world are.
    sides_kept c.args.self.now.sides.items world c.args.app c.index_mut-side.result.now c.call.new.self _ are c.requires.known c.index_mut-side.ensures.value c.in_err-made.ensures.err)

pub returns-in_err-made-clause-kept : goal.returns-in_err-made-clause-kept
returns-in_err-made-clause-kept g c = record {
  apps = set_length c.args.self.now.sides.items c.args.app c.call.new.self;
  others = λ other apart.
      turns_kept c.args.self.now.sides.items c.args.app c.index_mut-side.result.now _ c.call.new.self c.requires.known c.index_mut-side.ensures.value
      (same_turns c.index_mut-side.result.now c.call.new.self c.in_err-made.ensures.err) other;
  boots = refl;
}

pub returns-in_err-made-clause-turns : goal.returns-in_err-made-clause-turns
returns-in_err-made-clause-turns g c =
    turns_kept c.args.self.now.sides.items c.args.app c.index_mut-side.result.now _ c.call.new.self c.requires.known c.index_mut-side.ensures.value
    (same_turns c.index_mut-side.result.now c.call.new.self c.in_err-made.ensures.err) c.args.app

-- ---- it is made

pub invariant_of-self-2 : goal.invariant_of-self-2
invariant_of-self-2 g c =
    let tee = c.args.self.now in
    record {
      few = omega (arith, tee.few, set_length tee.sides.items c.args.app c.call.new.self);
      served = lost_kept (g.V.Volume.keeper.condition tee.volume).lost tee.sides.items c.args.app c.index_mut-side.result.now _ c.call.new.self tee.served c.requires.known
          c.index_mut-side.ensures.value c.call.ensures.lost;
      booted = booted_kept tee.boots tee.sides.items c.args.app c.index_mut-side.result.now _ c.call.new.self tee.booted c.requires.known c.index_mut-side.ensures.value
          (called_boot c.index_mut-side.result.now c.call.new.self c.args.client c.args.call c.in_ok-made.ensures.ok);
    }

pub returns-clause-made : goal.returns-clause-made
returns-clause-made g c =
    let tee = c.args.self.now in
    record {
      world = λ world whole. record {
        stand = stand_called g.V.Volume.keeper g.A.Application.behaviour tee.sides.items tee.volume world c.args.app c.args.client c.args.call c.index_mut-side.result.now _ c.call.new.self
            c.requires.known c.index_mut-side.ensures.value c.in_ok-made.ensures.ok whole.stand;
        held = whole.held;
      };
      stands = λ world m whole here. refl;
      sound = λ world whole. tt;
      moments = λ world whole. moments_still g.V.Volume.keeper tee.sides.items tee.volume tee.volume world _ refl whole.stand;
      damage = tt;
      counts = counts_still (g.V.Volume.keeper.condition tee.volume);
      below = λ below. below;
    }

pub returns-clause-told : goal.returns-clause-told
returns-clause-told g c = λ world m whole here.
    let stands = side_here c.args.self.now.sides.items world c.args.app c.index_mut-side.result.now _ m whole.stand.sides_are c.requires.known c.index_mut-side.ensures.value here in
    happened_is _ _ _ _ _ _ _ _ _ _ refl (c.turns.ensures.machine _ (c.in_ok-made.ensures.ok m stands)) (c.in_ok-made.ensures.number m stands) (c.in_ok-made.ensures.instance m stands)
    (c.in_ok-made.ensures.replies m stands)

pub returns-clause-kept : goal.returns-clause-kept
returns-clause-kept g c = record {
  apps = set_length c.args.self.now.sides.items c.args.app c.call.new.self;
  others = λ other apart.
      turns_kept c.args.self.now.sides.items c.args.app c.index_mut-side.result.now _ c.call.new.self c.requires.known c.index_mut-side.ensures.value
      (called_turns c.index_mut-side.result.now c.call.new.self c.args.client c.args.call c.in_ok-made.ensures.ok) other;
  boots = refl;
}

pub returns-clause-turns : goal.returns-clause-turns
returns-clause-turns g c =
    turns_kept c.args.self.now.sides.items c.args.app c.index_mut-side.result.now _ c.call.new.self c.requires.known c.index_mut-side.ensures.value
    (called_turns c.index_mut-side.result.now c.call.new.self c.args.client c.args.call c.in_ok-made.ensures.ok) c.args.app
