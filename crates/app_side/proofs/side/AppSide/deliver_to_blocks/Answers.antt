use Rattle.std.proofs.Common.{◌≡◌, ◌∙◌, ℕ, List, Option, Some, option_map, sym, ap}
use Rattle.op_queue.specs.declared.operation.Operation.{Operation}
use Rattle.op_queue.specs.Queue.{facts_of, operation_of}
use Rattle.shared_mem.specs.declared.block.Block.{Block}
use Rattle.alone.specs.Blocks.{delivered_for, served_by}
use Rattle.app_side.proofs.BlockLemmas.{delivered_by}
use Rattle.app_side.proofs.side.AppSide.deliver_to_blocks.Goals as goal

pub returns-in-Some-facts : goal.returns-in-Some-facts
returns-in-Some-facts g c =
    let side = c.args.self.now in
    let o : Option Operation = operation_of side.queue c.in-Some.op in
    let told : option_map facts_of o ≡ Some c.in-Some-facts.facts = sym c.facts.ensures ∙ c.in-Some-facts.is in
    ap (λ (blocks : List Block). record side { blocks = blocks })
    (c.deliver_to_blocks.ensures ∙ delivered_by o c.in-Some-facts.facts c.args.outputs.now side.blocks told
    ∙ ap (λ (op : Option ℕ). delivered_for (served_by side.queue op) c.args.outputs.now side.blocks) (sym c.in-Some.is))
