use Rattle.std.proofs.Common.{refl}
use Rattle.region_plan.specs.Layout.{layout}
use Rattle.region_plan.proofs.StoreLemmas.{looked_none, looked_up, located, located_none}
use Rattle.region_plan.proofs.directory.Directory.locate.Goals as goal

pub returns-in_default-clause-located : goal.returns-in_default-clause-located
returns-in_default-clause-located c leaves is =
    located_none (layout c.args.self.now.form) leaves c.args.id.now
    (looked_none (layout c.args.self.now.form) leaves c.args.id.now c.find.result c.args.self.now.inodes c.args.self.now.inodes c.find.ensures.inode refl is.inodes
    c.in_default.is)

pub returns-clause-located : goal.returns-clause-located
returns-clause-located c leaves is =
    located (layout c.args.self.now.form) leaves c.args.id.now c.in-Some.inode.now c.in-Some.ensures.within.2
    (looked_up (layout c.args.self.now.form) leaves c.args.id.now c.find.result c.args.self.now.inodes c.args.self.now.inodes c.in-Some.inode c.find.ensures.inode refl
    is.inodes c.in-Some.is)
