use Rattle.std.proofs.Common.{◌≡◌, ◌<◌, ◌+◌, ◌&&◌, List, count_by, not, true, false, sym, subst, rules}
use Rattle.tee_base.specs.declared.limits.TheConstants.{MAX_SESSIONS}
use Rattle.op_queue.specs.declared.operation.Operation.{Operation}
use Rattle.op_queue.specs.Queue.{Queue, IsQueue, is_full, is_close, is_close_call, with_operation}
use Rattle.op_queue.proofs.Keeps.{submitted_IsQueue}
use Rattle.op_queue.proofs.queue.OpQueue.submit.Goals as goal

pub invariant_of-self-2 : goal.invariant_of-self-2
invariant_of-self-2 c =
    let q : Queue = record { next = c.self.inside.next; operations = c.self.inside.operations.items } in
    let free : (is_full q && not (is_close_call c.args.call)) ≡ false = search rules in
    let few_closes : is_close_call c.args.call ≡ true → count_by (λ (o : Operation). is_close o.progress) q.operations < MAX_SESSIONS = search rules in
    let pushed : c.push.new.self.items ≡ (with_operation q c.args.client c.args.instance c.args.session c.args.call).operations = search rules in
    subst (λ (os : List Operation). IsQueue (record { next = c.self.inside.next + 1; operations = os })) (sym pushed)
    (submitted_IsQueue q c.args.client c.args.instance c.args.session c.args.call free few_closes c.self.invariant)

pub returns-then-count_others-ge-MAX_OPERATIONS-clause-full : goal.returns-then-count_others-ge-MAX_OPERATIONS-clause-full
returns-then-count_others-ge-MAX_OPERATIONS-clause-full c = search rules
