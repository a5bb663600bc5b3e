use Rattle.std.proofs.Common.{◌≡◌, ◌≤◌, ◌<◌, ◌+◌, ◌*◌, ℕ}
use Rattle.std.specs.List.{slice_index}
use Rattle.region_plan.specs.Edits.{byte_after}
use Rattle.region_plan.proofs.edit.write_leaf.Given as goal

abbrev pub invariant-loop-place : goal.invariant-loop-place
invariant-loop-place l = record {
  done : (k : ℕ) → k < l.place → slice_index l.block k ≡ byte_after l.edit (1024 * l.index + k) (slice_index l.initial.block k);
  rest : (k : ℕ) → l.place ≤ k → k < 1024 → slice_index l.block k ≡ slice_index l.initial.block k;
}
