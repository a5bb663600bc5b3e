use Rattle.std.proofs.Common.{◌≡◌, ◌≤◌, ◌+◌, suc, length, set, subst, ◌∙◌, ap, arith, rules}
use Rattle.app_side.specs.declared.side.AppSide.{AppSide as Side}
use Rattle.tee_core.specs.Powers.{kept_one}
use Rattle.tee_core.specs.Sides.{AreSides}
use Rattle.tee_core.specs.World.{World}
use Rattle.tee_core.proofs.SideLemmas.{sides_length}
use Rattle.tee_core.proofs.Restarts.{AreBack, back_booted, back_lost, back_more, back_next, first_restarts, firsts_all, restart_boot, restart_turns, set_length, sides_restarted, turns_set}
use Rattle.tee_core.proofs.sides.restart_all.Goals as goal

pub restart-requires : goal.restart-requires
restart-requires g c =
    let boot = ap (λ (s : Side g.row.A.Denot). s.boot) c.index_mut.ensures.value ∙ back_next c.args.boots.now c.loop-index.index c.loop-index.sides.items _ c.loop-index.invariant.back (omega arith) in
    omega (arith, boot, c.requires.room)

pub loop-index-preserved : goal.loop-index-preserved
loop-index-preserved g c =
    let n = c.loop-index.index in
    let ss = c.loop-index.sides.items in
    let old = c.index_mut.result.now in
    let new = c.restart.new.self in
    let inv = c.loop-index.invariant in
    let behaviour = g.A.Application.behaviour in
    let step = c.restart.ensures.step in
    let value = c.index_mut.ensures.value in
    let one : suc n ≡ n + 1 = omega arith in
    let before = back_next c.args.boots.now n ss _ inv.back (omega arith) in
    let boot = restart_boot behaviour c.is_kept-took.result old new step ∙ ap (λ (s : Side g.row.A.Denot). s.boot + 1) value ∙ ap (λ b. b + 1) before in
    record {
      sides = λ world are. subst (λ k. AreSides (set ss n new) (first_restarts behaviour (kept_one c.args.kept) 0 k world)) one
          (sides_restarted behaviour c.is_kept-took.result old new step (kept_one c.args.kept) ss world n _ (inv.sides world are) (omega arith) value c.is_kept-took.ensures);
      back = subst (λ k. AreBack c.args.boots.now k (set ss n new)) one (back_more c.args.boots.now n ss new inv.back c.restart.ensures.lost boot);
      turns = turns_set ss n old new _ (omega arith) value (restart_turns behaviour c.is_kept-took.result old new step) ∙ inv.turns;
      same = set_length ss n new ∙ inv.same;
    }

pub returns-clause-sides : goal.returns-clause-sides
returns-clause-sides g c = λ world are.
    let inv = c.loop-index.invariant in
    let many = sides_length c.args.sides.now.items world are in
    let all : length world ≤ c.loop-index.index = omega (arith, many, inv.same) in
    subst (λ (w : World g.row.A.Denot). AreSides c.loop-index.sides.items w) (firsts_all g.A.Application.behaviour (kept_one c.args.kept) 0 c.loop-index.index world all) (inv.sides world are)

pub returns-clause-lost : goal.returns-clause-lost
returns-clause-lost g c =
    let inv = c.loop-index.invariant in
    back_lost c.args.boots.now c.loop-index.index c.loop-index.sides.items inv.back (omega (arith, inv.same))

pub returns-clause-booted : goal.returns-clause-booted
returns-clause-booted g c =
    let inv = c.loop-index.invariant in
    back_booted c.args.boots.now c.loop-index.index c.loop-index.sides.items inv.back (omega (arith, inv.same))

pub returns-clause-boots : goal.returns-clause-boots
returns-clause-boots g c = search rules
