use Rattle.std.proofs.Common.{◌∙◌, ap}
use Rattle.alone.specs.Machine.{Machine}
use Rattle.alone.specs.Step.{after_cancellation}
use Rattle.alone.proofs.Storage.{cancellation_leaves_storage}
use Rattle.app_side.specs.Represents.{machine_of}
use Rattle.app_side.proofs.Stored.{cancelled_over, step_replies, step_stands}
use Rattle.app_side.proofs.side.AppSide.cancel.Goals as goal

pub returns-clause-step : goal.returns-clause-step
returns-clause-step g c m stands = step_stands c.args.self.now c.request.new.self (λ (x : Machine g.row.A.Denot). after_cancellation x c.args.op) (λ s d x. cancelled_over s d x c.args.op)
    c.request.ensures.machine m stands

pub returns-clause-replies : goal.returns-clause-replies
returns-clause-replies g c m stands = c.request.ensures.replies ∙ step_replies c.args.self.now (λ (x : Machine g.row.A.Denot). after_cancellation x c.args.op)
    (λ s d x. cancelled_over s d x c.args.op) m stands

pub returns-clause-lost : goal.returns-clause-lost
returns-clause-lost g c = ap (λ (m : Machine g.row.A.Denot). m.lost) c.request.ensures.machine ∙ (cancellation_leaves_storage (machine_of c.args.self.now) c.args.op).lost
