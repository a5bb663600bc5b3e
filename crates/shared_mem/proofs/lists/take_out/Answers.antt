use Rattle.std.proofs.Common.{not, subst, sym, ◌∙◌}
use Rattle.shared_mem.specs.Blocks.{IsBlocks, is_at}
use Rattle.shared_mem.proofs.Changes.{out_here, out_nowhere}
use Rattle.shared_mem.proofs.Keeps.{filter_IsBlocks}
use Rattle.shared_mem.proofs.lists.take_out.Goals as goal

pub returns-in-Some-clause-blocks : goal.returns-in-Some-clause-blocks
returns-in-Some-clause-blocks c = c.remove-block.ensures.items ∙ out_here (is_at c.args.client c.args.number) c.args.blocks.now.items c.as_slice.result.now c.in-Some.place
    c.remove-block.result c.in-Some.ensures c.as_slice.ensures.value c.requires

pub returns-in-Some-clause-keeps : goal.returns-in-Some-clause-keeps
returns-in-Some-clause-keeps c = λ is. subst IsBlocks (sym (c.remove-block.ensures.items ∙ out_here (is_at c.args.client c.args.number) c.args.blocks.now.items c.as_slice.result.now
    c.in-Some.place c.remove-block.result c.in-Some.ensures c.as_slice.ensures.value c.requires))
    (filter_IsBlocks (λ b. not (is_at c.args.client c.args.number b)) c.args.blocks.now.items is)

pub returns-in_default-clause-blocks : goal.returns-in_default-clause-blocks
returns-in_default-clause-blocks c = out_nowhere (is_at c.args.client c.args.number) c.args.blocks.now.items c.as_slice.result.now c.in_default.ensures c.as_slice.ensures.value
