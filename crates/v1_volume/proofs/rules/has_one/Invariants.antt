use Rattle.std.proofs.Common.{◌≡◌, ◌≤◌}
use Rattle.std.specs.List.{count_by, range_with_len}
use Rattle.region_plan.specs.Layout.{layout}
use Rattle.region_plan.specs.Entries.{is_data_at}
use Rattle.region_plan.specs.declared.form.Form.TheVariants.{One}
use Rattle.v1_volume.specs.Checking.{leaf_in}
use Rattle.v1_volume.proofs.rules.has_one.Given as goal

-- the leaves below that hold the index are counted
abbrev pub invariant-loop-leaf : goal.invariant-loop-leaf
invariant-loop-leaf l = record {
  counted : l.count ≡ count_by (λ i. is_data_at (layout One) (leaf_in l.leaves) l.inode l.index i) (range_with_len 0 l.leaf);
  few : l.count ≤ l.leaf;
}
