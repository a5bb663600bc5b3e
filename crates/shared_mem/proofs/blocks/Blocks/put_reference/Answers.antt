use Rattle.shared_mem.proofs.Keeps.{refilled_IsBlocks}
use Rattle.shared_mem.proofs.blocks.Blocks.put_reference.Goals as goal

pub invariant_of-self : goal.invariant_of-self
invariant_of-self c = refilled_IsBlocks c.self.inside.items.items c.as_mut_slice.result.now c.write.new.blocks c.args.client c.block.result c.start.result c.args.bytes.now
    c.as_mut_slice.ensures.value c.write.ensures.blocks c.write.ensures.keeps c.self.invariant
