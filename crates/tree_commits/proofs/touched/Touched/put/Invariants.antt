use Rattle.std.proofs.Common.{◌≡◌, ◌++◌, take, drop, map}
use Rattle.tree_commits.specs.Touched.{with_bytes}
use Rattle.tree_commits.proofs.touched.Touched.put.Given as goal

-- the nodes so far have the bytes, and the others stand
abbrev pub invariant-loop-node : goal.invariant-loop-node
invariant-loop-node l =
    l.node-items ≡ map (with_bytes l.place l.at l.bytes) (take l.node-index l.initial.node-items) ++ drop l.node-index l.initial.node-items
