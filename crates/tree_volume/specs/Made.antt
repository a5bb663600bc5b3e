-- What a commit made of a root.
use Rattle.std.specs.Prelude.{◌≤◌, ◌+◌, ◌*◌, ℕ, Bool, List, IsTrue, length}
use Rattle.store_api.specs.declared.leaves.Leaf.{Leaf}
use Rattle.board.specs.Moment.{View}
use Rattle.epoch.specs.declared.header.TreeEntry.{TreeEntry}
use Rattle.tree_paths.specs.declared.places.TheConstants.{DEPTH}
use Rattle.tree_commits.specs.declared.touched.Node.{Node}
use Rattle.tree_commits.specs.Gather.{AreOfLeaves, AreTrue}
use Rattle.tree_commits.specs.Sealed.{AreSealed}
use Rattle.tree_paths.specs.Shape.{shape}
use Rattle.tree_commits.specs.Touched.{AreOrdered}
use Rattle.tree_paths.specs.Tree.{on_image}

-- the nodes on the ways to these leaves of a region were sealed for this sequence: each as it stood under the root before, but for the
-- entries of those that were sealed, and the leaves with their new bytes
pub record IsMade (tells : Bool) (old : View) (sequence region : ℕ) (leaves : List Leaf) (before after : TreeEntry) : Type 0 where
  pub nodes : List Node
  pub few : length nodes ≤ 2 * length leaves + 6
  -- they end with the root, and each other one comes before the node that it is an entry of
  pub ordered : AreOrdered shape nodes
  pub named : AreOfLeaves nodes region leaves
  -- where reads are told
  pub stood : IsTrue tells → AreTrue shape (on_image shape old.key old.state.reads) before DEPTH nodes
  pub sealed : AreSealed shape DEPTH old.key sequence nodes after
