use Rattle.std.proofs.Common.{◌≡◌, ◌*◌, take}
use Rattle.std.specs.Prelude.{option_map, reverse}
use Rattle.epoch.specs.Header.{entry_at}
use Rattle.tree_commits.specs.Touched.{fresh_of}
use Rattle.tree_commits.proofs.touched.Touched.entry.Given as goal

-- the entry by the nodes so far
abbrev pub invariant-loop-node : goal.invariant-loop-node
invariant-loop-node l = l.found ≡ option_map (entry_at (64 * l.slot)) (fresh_of (reverse (take l.node-index l.node-items)) l.place)
