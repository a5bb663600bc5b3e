use Rattle.std.proofs.Common.{◌∙◌, ap, get_or, ℕ, List}
use Rattle.std.proofs.lemmas.List.{get_or-replicate}
use Rattle.region_plan.specs.Reading.{leaves_of}
use Rattle.region_plan.proofs.BlockLemmas.{touched_leaf, fresh_leaf}
use Rattle.region_plan.proofs.edit.edited_leaf.Goals as goal
use Rattle.region_plan.proofs.edit.edited_leaf.Goals.{then-index-blocks+else-not-is_touched+in_ok-read, else-index-blocks}

pub returns-clause-edited : goal.returns-clause-edited
returns-clause-edited g c h =
    elim c.if-index-blocks.branch [
      | then-index-blocks+else-not-is_touched+in_ok-read w ↦
          touched_leaf c.args.edit c.args.index c.blocks-2.result c.if-index-blocks.block (leaves_of g.L.LeafSource.keeper g.L.LeafSource.region c.args.from.now c.args.leaf)
          c.write_leaf.new.block w.is_touched.result
          c.blocks-2.ensures w.if-index-blocks.true w.is_touched.ensures w.if-not-is_touched.false (w.block-is ∙ w.in_ok-read.ensures.leaf h) c.write_leaf.ensures
      | else-index-blocks w ↦
          fresh_leaf c.args.edit c.args.index c.blocks-2.result c.if-index-blocks.block (leaves_of g.L.LeafSource.keeper g.L.LeafSource.region c.args.from.now c.args.leaf) c.write_leaf.new.block
          c.blocks-2.ensures w.if-index-blocks.false (λ k less. ap (λ (x : List ℕ). get_or x k 0) w.block-is ∙ get_or-replicate 1024 k 0 0 less) c.write_leaf.ensures
    ]
