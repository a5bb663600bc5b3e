use Rattle.std.proofs.Common.{◌∙◌, List, filter, map, ap}
use Rattle.op_queue.specs.declared.operation.Operation.{Operation}
use Rattle.alone.specs.Replies.{no_outputs}
use Rattle.alone.specs.Step.{belongs_to, reply_of}
use Rattle.app_side.proofs.side.AppSide.tear_down.Goals as goal

pub returns : goal.returns
returns g c = record {
  machine = c.end_instance.ensures;
  replies = c.answer_all.ensures
      ∙ ap (λ (os : List Operation). map (λ o. reply_of o.number c.args.code c.args.origin no_outputs) (filter (belongs_to c.args.number) os)) c.operations.ensures;
}
