use Rattle.std.proofs.Common.{◌∷◌, ◌++◌, [], List, sym, subst, ◌∙◌, ap, arith}
use Rattle.alone.specs.Step.{Called}
use Rattle.tee_core.specs.declared.happened.Happened.{Happened}
use Rattle.tee_core.specs.Happenings.{IsPlainBehind}
use Rattle.tee_core.specs.Represents.{Represents, turns_made, volume_of}
use Rattle.tee_core.proofs.RunCounts.{call_lossless, call_sound, run_counted, stays_from, stays_still}
use Rattle.tee_core.proofs.Still.{kept_both}
use Rattle.tee_core.proofs.Runs.{run_call, run_none, run_part_from, run_stands, run_told}
use Rattle.tee_core.proofs.SideLemmas.{side_at}
use Rattle.tee_core.proofs.Steps.{on_err_known}
use Rattle.tee_core.proofs.Told.{call_plain}
use Rattle.tee_core.proofs.TurnsMade.{at_step}
use Rattle.tee_core.proofs.tee.TeeOver.run.Goals as goal

pub returns-in_err-made-clause-err : goal.returns-in_err-made-clause-err
returns-in_err-made-clause-err g c = on_err_known c.from_residual.result _ (λ world is.
    let p = side_at c.args.self.now.sides.items world c.args.app is.stand.sides_are c.requires.known in
    run_none g.A.Application.behaviour (λ after. Represents c.call.new.self after) world p.0 c.args.app c.args.client c.args.call p.1
    (g.V.Volume.keeper.condition (volume_of c.args.self.now)) (g.V.Volume.keeper.condition (volume_of c.call.new.self)) (c.in_err-made.ensures.err world is))

pub returns-in_err-push-clause-err : goal.returns-in_err-push-clause-err
returns-in_err-push-clause-err g c = on_err_known c.from_residual-in_err-push.result _ (λ world is.
    let p = side_at c.args.self.now.sides.items world c.args.app is.stand.sides_are c.requires.known in
    run_call g.A.Application.behaviour (λ after. Represents c.call.new.self after) world p.0 c.args.app c.args.client c.args.call p.1
    (g.V.Volume.keeper.condition (volume_of c.args.self.now)) (g.V.Volume.keeper.condition (volume_of c.call.new.self)) (c.in_ok-made.ensures.made.world world is))

pub turn_until-requires : goal.turn_until-requires
turn_until-requires g c = record {
  known = omega (arith, c.requires.known, c.in_ok-made.ensures.kept.apps);
  room = omega (arith, c.requires.room, c.in_ok-made.ensures.turns);
  plain = subst (λ (ts : List Happened). IsPlainBehind (turns_made c.call.new.self c.args.app) ts) (sym (c.in_ok-push.ensures.ok
      ∙ ap (λ (ts : List Happened). ts ++ c.in_ok-made.made ∷ []) c.new-told.ensures))
      (call_plain c.in_ok-made.made (turns_made c.call.new.self c.args.app) c.in_ok-made.ensures.kind);
}

pub returns-in_err-turn_until-clause-err : goal.returns-in_err-turn_until-clause-err
returns-in_err-turn_until-clause-err g c = on_err_known c.from_residual-in_err-turn_until.result _ (λ world is.
    let alone = c.in_ok-push.ensures.ok ∙ ap (λ (ts : List Happened). ts ++ c.in_ok-made.made ∷ []) c.new-told.ensures in
    let behaviour = g.A.Application.behaviour in
    let p = side_at c.args.self.now.sides.items world c.args.app is.stand.sides_are c.requires.known in
    let condition = g.V.Volume.keeper.condition in
    run_part_from behaviour (λ after. Represents c.turn_until.new.self after) world p.0 c.args.app c.args.client c.args.call p.1 c.in_ok-made.made (c.in_ok-made.ensures.told world p.0 is p.1)
    (condition (volume_of c.args.self.now)) (condition (volume_of c.call.new.self)) (condition (volume_of c.turn_until.new.self)) (ap (λ v. condition v) c.in_ok-made.ensures.volume)
    (c.in_err-turn_until.ensures.err _ _ (c.in_ok-made.ensures.made.world world is) (at_step behaviour world c.args.app p.0 (Called c.args.client c.args.call) p.1)
    (call_lossless c.in_ok-made.made c.push.new.self c.in_ok-made.ensures.kind alone) (call_sound c.in_ok-made.made c.push.new.self c.in_ok-made.ensures.kind alone)))

pub returns-in_err-turn_until-clause-turns : goal.returns-in_err-turn_until-clause-turns
returns-in_err-turn_until-clause-turns g c = omega (arith, c.in_err-turn_until.ensures.turns, c.in_ok-made.ensures.turns)

pub returns-clause-world : goal.returns-clause-world
returns-clause-world g c = λ world m marks is here agree.
    let behaviour = g.A.Application.behaviour in
    run_stands behaviour (λ after. Represents c.turn_until.new.self after) world m c.args.app c.args.client c.args.call here c.in_ok-made.made
    (c.in_ok-made.ensures.told world m is here) _ c.push.new.self c.turn_until.new.told
    (c.in_ok-push.ensures.ok ∙ ap (λ (ts : List Happened). ts ++ c.in_ok-made.made ∷ []) c.new-told.ensures)
    (c.in_ok-turn_until.ensures.ok _ _ (c.in_ok-made.ensures.made.world world is) (at_step behaviour world c.args.app m (Called c.args.client c.args.call) here))
    marks agree

pub returns-clause-told : goal.returns-clause-told
returns-clause-told g c = λ world m marks is here agree.
    let behaviour = g.A.Application.behaviour in
    run_told behaviour (λ after. Represents c.turn_until.new.self after) world m c.args.app c.args.client c.args.call here c.in_ok-made.made
    (c.in_ok-made.ensures.told world m is here) _ c.push.new.self c.turn_until.new.told
    (c.in_ok-push.ensures.ok ∙ ap (λ (ts : List Happened). ts ++ c.in_ok-made.made ∷ []) c.new-told.ensures)
    (c.in_ok-turn_until.ensures.ok _ _ (c.in_ok-made.ensures.made.world world is) (at_step behaviour world c.args.app m (Called c.args.client c.args.call) here))
    marks agree

pub returns-clause-counts : goal.returns-clause-counts
returns-clause-counts g c =
    run_counted c.in_ok-made.made c.push.new.self c.turn_until.new.told (g.V.Volume.keeper.condition (volume_of c.args.self.now)) (g.V.Volume.keeper.condition (volume_of c.call.new.self))
    (g.V.Volume.keeper.condition (volume_of c.turn_until.new.self)) c.in_ok-made.ensures.kind
    (c.in_ok-push.ensures.ok ∙ ap (λ (ts : List Happened). ts ++ c.in_ok-made.made ∷ []) c.new-told.ensures)
    (ap (λ v. g.V.Volume.keeper.condition v) c.in_ok-made.ensures.volume) c.in_ok-turn_until.ensures.counts

pub returns-clause-turns : goal.returns-clause-turns
returns-clause-turns g c = omega (arith, c.in_ok-turn_until.ensures.turns, c.in_ok-made.ensures.turns)

pub returns-clause-sound : goal.returns-clause-sound
returns-clause-sound g c = λ world is.
    let behaviour = g.A.Application.behaviour in
    let p = side_at c.args.self.now.sides.items world c.args.app is.stand.sides_are c.requires.known in
    let alone = c.in_ok-push.ensures.ok ∙ ap (λ (ts : List Happened). ts ++ c.in_ok-made.made ∷ []) c.new-told.ensures in
    c.in_ok-turn_until.ensures.sound _ _ (c.in_ok-made.ensures.made.world world is) (at_step behaviour world c.args.app p.0 (Called c.args.client c.args.call) p.1)
    (call_sound c.in_ok-made.made c.push.new.self c.in_ok-made.ensures.kind alone)

pub returns-in_err-made-clause-board : goal.returns-in_err-made-clause-board
returns-in_err-made-clause-board g c = stays_still g.V.Volume.keeper _ _ c.in_err-made.ensures.volume

pub returns-in_err-push-clause-board : goal.returns-in_err-push-clause-board
returns-in_err-push-clause-board g c = stays_still g.V.Volume.keeper _ _ c.in_ok-made.ensures.volume

pub returns-in_err-turn_until-clause-board : goal.returns-in_err-turn_until-clause-board
returns-in_err-turn_until-clause-board g c = stays_from g.V.Volume.keeper _ _ _ c.in_ok-made.ensures.volume c.in_err-turn_until.ensures.board

pub returns-clause-board : goal.returns-clause-board
returns-clause-board g c = stays_from g.V.Volume.keeper _ _ _ c.in_ok-made.ensures.volume c.in_ok-turn_until.ensures.board

pub returns-in_err-turn_until-clause-kept : goal.returns-in_err-turn_until-clause-kept
returns-in_err-turn_until-clause-kept g c = kept_both c.args.app _ _ _ c.in_ok-made.ensures.kept c.in_err-turn_until.ensures.kept

pub returns-clause-kept : goal.returns-clause-kept
returns-clause-kept g c = kept_both c.args.app _ _ _ c.in_ok-made.ensures.kept c.in_ok-turn_until.ensures.kept
