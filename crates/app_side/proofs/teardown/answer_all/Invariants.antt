use Rattle.std.proofs.Common.{◌≡◌, ◌≤◌, length, take, map, filter}
use Rattle.alone.specs.Replies.{no_outputs}
use Rattle.alone.specs.Step.{belongs_to, reply_of}
use Rattle.app_side.proofs.teardown.answer_all.Given as goal

-- the replies so far are those to the operations so far
abbrev pub invariant-loop-operation : goal.invariant-loop-operation
invariant-loop-operation l = record {
  said : l.replies ≡ map (λ o. reply_of o.number l.code l.origin no_outputs) (filter (belongs_to l.instance) (take l.operation-index l.operations));
  few : length l.replies ≤ l.operation-index;
}
