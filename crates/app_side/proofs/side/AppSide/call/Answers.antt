use Rattle.std.proofs.Common.{◌∙◌, ap}
use Rattle.app_side.specs.Represents.{called_of}
use Rattle.app_side.proofs.Stored.{same_stands}
use Rattle.app_side.proofs.CallLemmas.{call_instance, call_lost, call_replies, call_stands}
use Rattle.app_side.proofs.side.AppSide.call.Goals as goal

pub returns-in-Ok-clause-ok : goal.returns-in-Ok-clause-ok
returns-in-Ok-clause-ok g c = call_stands c.args.self.now c.serve.new.self (called_of c.in-Ok.taken) c.args.self.now.queue.next c.args.client c.args.call c.in-Ok.ensures.ok

pub returns-in-Ok-clause-replies : goal.returns-in-Ok-clause-replies
returns-in-Ok-clause-replies g c = λ m stands.
    ap (λ k. k.replies) c.called.ensures ∙ call_replies c.args.self.now c.serve.new.self (called_of c.in-Ok.taken) c.args.self.now.queue.next c.args.client c.args.call c.in-Ok.ensures.ok m stands

pub returns-in-Ok-clause-instance : goal.returns-in-Ok-clause-instance
returns-in-Ok-clause-instance g c = λ m stands.
    ap (λ k. k.instance) c.called.ensures ∙ call_instance c.args.self.now c.serve.new.self (called_of c.in-Ok.taken) c.args.self.now.queue.next c.args.client c.args.call c.in-Ok.ensures.ok m stands

pub returns-in-Ok-clause-lost : goal.returns-in-Ok-clause-lost
returns-in-Ok-clause-lost g c = call_lost c.args.self.now c.serve.new.self (called_of c.in-Ok.taken) c.args.self.now.queue.next c.args.client c.args.call c.in-Ok.ensures.ok

pub returns-in-Err-clause-err : goal.returns-in-Err-clause-err
returns-in-Err-clause-err g c = same_stands c.args.self.now c.serve.new.self c.in-Err.ensures.err
