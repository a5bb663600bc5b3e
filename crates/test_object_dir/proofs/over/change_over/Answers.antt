use Rattle.std.proofs.Common.{rules}
use Rattle.test_object_dir.proofs.References.{applied_over, keeps_over, same_reference, stands_over}
use Rattle.test_object_dir.proofs.over.change_over.Goals as goal

pub returns-clause-applied : goal.returns-clause-applied
returns-clause-applied g c =
    let same = same_reference g.V.Volume.keeper c.args.change.now c.change_in-answer.result c.of-objects.result c.change_in-answer.new.store c.change_in-answer.ensures in
    applied_over g.V.Volume.keeper c.args.change.now c.change_in-answer.result c.of-objects.result c.change_in-answer.new.store c.change_in-answer.ensures
    c.args.region c.args.volume.now _ c.of-objects.ensures.volume c.of-objects.ensures.region (search (rules, same))

pub returns-clause-keeps : goal.returns-clause-keeps
returns-clause-keeps g c =
    let same = same_reference g.V.Volume.keeper c.args.change.now c.change_in-answer.result c.of-objects.result c.change_in-answer.new.store c.change_in-answer.ensures in
    keeps_over g.V.Volume.keeper c.args.change.now c.change_in-answer.result c.of-objects.result c.change_in-answer.new.store c.change_in-answer.ensures
    c.args.region c.args.volume.now _ c.of-objects.ensures.volume c.of-objects.ensures.region (search (rules, same))

pub returns-clause-foundation : goal.returns-clause-foundation
returns-clause-foundation g c =
    let same = same_reference g.V.Volume.keeper c.args.change.now c.change_in-answer.result c.of-objects.result c.change_in-answer.new.store c.change_in-answer.ensures in
    stands_over g.V.Volume.keeper c.args.change.now c.change_in-answer.result c.of-objects.result c.change_in-answer.new.store c.change_in-answer.ensures
    c.args.region c.args.volume.now _ c.of-objects.ensures.volume c.of-objects.ensures.region (search (rules, same))
