use Rattle.std.proofs.Common.{Some, None, ap, ◌∙◌, not}
use Rattle.share_rules.proofs.Entries.{opened}
use Rattle.share_rules.proofs.index.ShareIndex.may_open.Goals as goal
use Rattle.share_rules.proofs.index.ShareIndex.may_open.Goals.{in-Some, in-None}

pub returns : goal.returns
returns c = ap not c.conflict.ensures ∙ ap not (elim c.match-get.branch [
  | in-Some w ↦ opened c.args.id.now c.args.flags c.self.inside.groups.entries c.args.self.now c.self.view_is c.self.invariant.sorted (Some w.in-Some.group.now)
      w.in-Some.ensures.value c.match-get.uses (w.uses-is ∙ w.uses_with-uses.ensures)
  | in-None w ↦ opened c.args.id.now c.args.flags c.self.inside.groups.entries c.args.self.now c.self.view_is c.self.invariant.sorted None
      w.in-None.ensures.value c.match-get.uses (w.uses-is ∙ w.of-uses.ensures)
])
