use Rattle.std.proofs.Common.{◌≤◌, ◌+◌, List, Option, IfSome, length, refl, ap, subst, sym, ◌∙◌}
use Rattle.shared_mem.specs.declared.block.Block.{Block}
use Rattle.shared_mem.specs.Blocks.{IsBlocks, is_at, block_after_write}
use Rattle.shared_mem.proofs.Changes.{changed_here, nowhere_changed, found_here}
use Rattle.shared_mem.proofs.Keeps.{write_IsBlocks}
use Rattle.shared_mem.proofs.lists.write.Goals as goal

pub write-requires : goal.write-requires
write-requires c =
    subst (λ (b : Block). c.args.at + length c.args.bytes.now ≤ length b.bytes) c.index-blocks-place.is
    (subst (λ (o : Option Block). IfSome o (λ b. c.args.at + length c.args.bytes.now ≤ length b.bytes))
    (found_here (is_at c.args.client c.args.number) c.args.blocks.now c.args.blocks.now c.in-Some.place c.index-blocks-place.result c.in-Some.ensures refl c.index-blocks-place.is) c.requires)

pub returns-in-Some-clause-blocks : goal.returns-in-Some-clause-blocks
returns-in-Some-clause-blocks c = changed_here (is_at c.args.client c.args.number) (block_after_write c.args.at c.args.bytes.now) c.args.blocks.now c.args.blocks.now c.in-Some.place
    c.index-blocks-place.result c.write.new.self c.in-Some.ensures refl c.index-blocks-place.is (c.write.ensures ∙ ap (block_after_write c.args.at c.args.bytes.now) (sym c.index-blocks-place.is))

pub returns-in-Some-clause-keeps : goal.returns-in-Some-clause-keeps
returns-in-Some-clause-keeps c = λ is. subst IsBlocks (sym (changed_here (is_at c.args.client c.args.number) (block_after_write c.args.at c.args.bytes.now) c.args.blocks.now c.args.blocks.now
    c.in-Some.place c.index-blocks-place.result c.write.new.self c.in-Some.ensures refl c.index-blocks-place.is
    (c.write.ensures ∙ ap (block_after_write c.args.at c.args.bytes.now) (sym c.index-blocks-place.is))))
    (write_IsBlocks c.args.blocks.now c.args.client c.args.number c.args.at c.args.bytes.now is c.requires)

pub returns-in_default-clause-blocks : goal.returns-in_default-clause-blocks
returns-in_default-clause-blocks c = nowhere_changed (is_at c.args.client c.args.number) (block_after_write c.args.at c.args.bytes.now) c.args.blocks.now c.args.blocks.now c.in_default.ensures refl
