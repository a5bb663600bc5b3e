use Rattle.std.proofs.Common.{◌≡◌, ℕ, List, drop}
use Rattle.store_api.specs.Volumes.{leaf_after}
use Rattle.region_plan.specs.Plans.{is_named}
use Rattle.region_plan.proofs.after.written.Given as goal

-- what the leaf gets depends on the rest alone
abbrev pub invariant-loop-leaf : goal.invariant-loop-leaf
invariant-loop-leaf l = record {
  bytes : (old : List ℕ) → leaf_after (drop l.leaf-index l.named) l.number old ≡ leaf_after l.named l.number old;
  told : is_named (drop l.leaf-index l.named) l.number ≡ is_named l.named l.number;
}
