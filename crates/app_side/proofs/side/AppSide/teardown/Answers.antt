use Rattle.tee_base.specs.declared.codes.Origin.TheVariants.{Tee}
use Rattle.alone.specs.Machine.{Machine}
use Rattle.alone.specs.Step.{torn_down}
use Rattle.app_side.proofs.Stored.{step_stands, torn_over}
use Rattle.app_side.proofs.side.AppSide.teardown.Goals as goal

pub returns-clause-machine : goal.returns-clause-machine
returns-clause-machine g c m stands = step_stands c.args.self.now c.tear_down.new.self (λ (x : Machine g.row.A.Denot). torn_down x c.args.instance c.args.code Tee)
    (λ s d x. torn_over s d x c.args.instance c.args.code Tee) c.tear_down.ensures.machine m stands
