use Rattle.std.proofs.Common.{List, ℕ, [], ◌++◌, OnOk, Option, subst, sym, ◌∙◌}
use Rattle.std.specs.List.{cons_option}
use Rattle.summary.specs.Codes.{IsTally}
use Rattle.summary.proofs.codes.Codes.count_line.Goals as goal

pub returns-in-Some-clause-counted : goal.returns-in-Some-clause-counted
returns-in-Some-clause-counted c = subst
    (λ (o : Option ℕ). OnOk c.count.result ((found : List ℕ) → IsTally found c.args.self.now → IsTally (found ++ cons_option o []) c.count.new.self))
    (sym c.in-Some.is ∙ c.in_ok-code.ensures) c.count.ensures.counted
