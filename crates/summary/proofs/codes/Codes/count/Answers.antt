use Rattle.std.proofs.Common.{◌+◌, ap, sym, ◌∙◌, subst}
use Rattle.summary.specs.Codes.{IsTally, count_at}
use Rattle.summary.proofs.Tallies.{counted_once}
use Rattle.summary.proofs.codes.Codes.count.Goals as goal

pub returns-clause-counted : goal.returns-clause-counted
returns-clause-counted c = λ found tally.
    counted_once found c.self.inside.counts c.insert.new.self c.args.code c.in-Some.count (subst (IsTally found) (sym c.self.view_is) tally)
    (c.in-Some.ensures.1 ∙ ap (λ n. n + 1) (c.count_of.ensures ∙ ap (count_at c.args.code) (sym c.self.view_is)))
    c.in_ok-insert.ensures.updates c.in_ok-insert.ensures.entries c.insert.ensures.ordered
