use Rattle.std.proofs.Common.{◌≡◌, ◌<◌, ℕ, replicate}
use Rattle.std.specs.Prelude.{IsTrue}
use Rattle.store_api.specs.Ascending.{is_above_all}
use Rattle.region_plan.specs.Plans.{with_leaves}
use Rattle.v1_volume.specs.Checking.{leaf_in}
use Rattle.v1_volume.specs.Renumbering.{converted_leaf}
use Rattle.v1_volume.proofs.conversion.convert.Given as goal

-- the leaves below this one are named, unless they are zeros
abbrev pub invariant-loop-leaf : goal.invariant-loop-leaf
invariant-loop-leaf l = record {
  above : IsTrue (is_above_all l.named l.leaf);
  done : (i : ℕ) → i < l.leaf → with_leaves l.named (λ number. replicate 1024 0) i ≡ converted_leaf (leaf_in l.leaves) i;
}
