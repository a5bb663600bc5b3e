use Rattle.std.proofs.Common.{◌==◌, ap, sym, ◌∙◌, not}
use Rattle.share_rules.specs.Groups.{has_some}
use Rattle.share_rules.proofs.Groups.{not_empty}
use Rattle.share_rules.proofs.group.Group.is_empty.Goals as goal

pub returns : goal.returns
returns c = c.is_empty.ensures ∙ ap (λ n. n == 0) c.self.inside.counts.ok.0 ∙ sym (not_empty c.self.inside.counts.items c.self.invariant) ∙ ap (λ fs. not (has_some fs)) c.self.view_is
