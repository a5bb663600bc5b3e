use Rattle.std.proofs.Common.{length}
use Rattle.epoch.specs.declared.header.TreeEntry.{TreeEntry}
use Rattle.tree_paths.specs.Kept.{AreKept, ArePassed}
use Rattle.tree_paths.specs.Shape.{shape}
use Rattle.tree_paths.specs.Tree.{Look}
use Rattle.tree_paths.proofs.nodes.Nodes.keep.Given as goal

-- what is kept so far is what reads give, and so is what is left
abbrev pub invariant-loop-passed : goal.invariant-loop-passed
invariant-loop-passed l = record {
  kept : (look : Look) (root : TreeEntry) → AreKept shape look root l.fn.self.kept → ArePassed shape look root l.fn.self.way
      → AreKept shape look root l.self.kept × ArePassed shape look root l.self.way;
}

abbrev pub decreases-loop-passed : goal.decreases-loop-passed
decreases-loop-passed l = length l.self.way
