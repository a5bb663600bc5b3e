use Rattle.std.proofs.Common.{◌≤◌, length, subst, arith}
use Rattle.app_side.specs.declared.side.AppSide.{AppSide as Side}
use Rattle.tee_core.proofs.Losing.{HasLost, all_are_lost, all_booted, all_sides, all_turns, lost_next, lost_length, lost_none}
use Rattle.tee_core.proofs.sides.lose_all.Goals as goal

pub loop-index-init : goal.loop-index-init
loop-index-init g c = record { lost = lost_none c.args.sides.now.items }

pub loop-index-preserved : goal.loop-index-preserved
loop-index-preserved g c =
    let ts = c.loop-index.sides.items in
    let one = c.lose_one.ensures in
    record {
      lost = lost_next c.loop-index.index c.args.sides.now.items ts c.lose_one.new.side _ c.loop-index.invariant.lost
          (omega (arith, lost_length c.loop-index.index c.args.sides.now.items ts c.loop-index.invariant.lost))
          (subst (λ (s : Side g.row.A.Denot). HasLost s c.lose_one.new.side) c.index_mut.ensures.value (record { step = one.step; lost = one.lost }));
    }

pub returns-clause-sides : goal.returns-clause-sides
returns-clause-sides g c =
    let ss = c.args.sides.now.items in
    let to = c.loop-index.invariant.lost in
    let all : length ss ≤ c.loop-index.index = omega (arith, lost_length c.loop-index.index ss c.loop-index.sides.items to) in
    λ world are. all_sides c.loop-index.index ss c.loop-index.sides.items world to all are

pub returns-clause-lost : goal.returns-clause-lost
returns-clause-lost g c =
    let ss = c.args.sides.now.items in
    let to = c.loop-index.invariant.lost in
    let all : length ss ≤ c.loop-index.index = omega (arith, lost_length c.loop-index.index ss c.loop-index.sides.items to) in
    all_are_lost c.loop-index.index ss c.loop-index.sides.items to all

pub returns-clause-turns : goal.returns-clause-turns
returns-clause-turns g c =
    let ss = c.args.sides.now.items in
    let to = c.loop-index.invariant.lost in
    let all : length ss ≤ c.loop-index.index = omega (arith, lost_length c.loop-index.index ss c.loop-index.sides.items to) in
    all_turns c.loop-index.index ss c.loop-index.sides.items to all

pub returns-clause-boots : goal.returns-clause-boots
returns-clause-boots g c =
    let ss = c.args.sides.now.items in
    let to = c.loop-index.invariant.lost in
    let all : length ss ≤ c.loop-index.index = omega (arith, lost_length c.loop-index.index ss c.loop-index.sides.items to) in
    λ boots are. all_booted c.loop-index.index boots ss c.loop-index.sides.items to all are
