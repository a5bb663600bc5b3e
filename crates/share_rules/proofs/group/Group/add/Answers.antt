use Rattle.std.proofs.Common.{ap, sym, ◌∙◌, position}
use Rattle.share_rules.specs.Groups.{is_of}
use Rattle.share_rules.proofs.Groups.{gains_pushed, gains_set}
use Rattle.share_rules.proofs.group.Group.add.Goals as goal

pub returns-in_default-clause-ok : goal.returns-in_default-clause-ok
returns-in_default-clause-ok c = gains_pushed c.self.inside.counts.items c.args.flags c.args.self.now c.self.view_is c.push.new.self.items c.in_ok-push.ensures.items

pub returns-clause-ok : goal.returns-clause-ok
returns-clause-ok c = gains_set c.self.inside.counts.items c.args.flags c.args.self.now c.self.view_is c.in-Some.place c.index-count.result.now
    (sym (c.in-Some.ensures ∙ ap (position (is_of c.args.flags)) c.as_slice.ensures.value)) c.index-count.ensures c.in-Some-checked_add.handles c.in-Some-checked_add.ensures.1
