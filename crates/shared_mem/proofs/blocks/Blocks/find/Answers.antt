use Rattle.std.proofs.Common.{ap, find, List, ◌∙◌}
use Rattle.shared_mem.specs.declared.block.Block.{Block}
use Rattle.shared_mem.specs.Blocks.{is_at}
use Rattle.shared_mem.proofs.Keeps.{found_small}
use Rattle.shared_mem.proofs.blocks.Blocks.find.Goals as goal

pub returns-clause-small : goal.returns-clause-small
returns-clause-small c = found_small c.find.result (λ b. b.now) (is_at c.args.client c.args.block) c.self.inside.items.items
    (c.find.ensures ∙ ap (λ (blocks : List Block). find (is_at c.args.client c.args.block) blocks) c.as_slice.ensures.value) c.self.invariant.sound
