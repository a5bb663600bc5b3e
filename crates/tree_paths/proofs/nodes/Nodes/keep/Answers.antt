use Rattle.std.proofs.Common.{◌∷◌, subst}
use Rattle.tree_paths.specs.Kept.{ArePassed}
use Rattle.tree_paths.specs.Shape.{shape}
use Rattle.tree_paths.specs.declared.way.Passed.{Passed}
use Rattle.tree_paths.proofs.KeptLemmas.{kept_more}
use Rattle.tree_paths.proofs.nodes.Nodes.keep.Goals as goal

pub loop-passed-preserved : goal.loop-passed-preserved
loop-passed-preserved c = record {
  kept = λ look root kept are.
      let inv = c.loop-passed.invariant.kept look root kept are in
      let passed : Passed = c.in-Some.passed in
      let here : ArePassed shape look root (passed ∷ c.pop.new.self) = subst (ArePassed shape look root) c.in-Some.ensures.some inv.1 in
      (kept_more shape look root passed.place passed.tag passed.node c.loop-passed.self.kept c.put.new.self c.put.ensures.others here.0 inv.0, here.1);
}
