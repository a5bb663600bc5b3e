use Rattle.std.proofs.Common.{◌≤◌, sym, subst}
use Rattle.std.specs.List.{All}
use Rattle.share_rules.specs.declared.group.Count.{Count}
use Rattle.share_rules.proofs.Groups.{step}
use Rattle.share_rules.proofs.group.Group.uses_with.Goals as goal

pub loop-count-preserved : goal.loop-count-preserved
loop-count-preserved c = step c.args.flags c.deref-count-items.result.now c.loop-count.count-index _ c.loop-count.uses c.add.new.self c.add.ensures c.loop-count.invariant
    c.loop-count-test.true (subst (λ cs. All (λ (d : Count). 1 ≤ d.handles) cs) (sym c.deref-count-items.ensures.value) c.self.invariant)
