use Rattle.std.proofs.Common.{◌==◌, not, rules}
use Rattle.std.proofs.lemmas.Fn.{filter_same}
use Rattle.op_queue.specs.declared.operation.Operation.{Operation}
use Rattle.op_queue.proofs.scans.leave_out.Goals as goal

pub returns : goal.returns
returns c = filter_same _ (λ (o : Operation). not (o.instance == c.args.instance)) _ (λ x b g h. search (rules, h)) _ _ c.retain.ensures.filtered
