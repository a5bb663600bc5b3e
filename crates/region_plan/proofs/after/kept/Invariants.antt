use Rattle.std.proofs.Common.{◌≡◌, length}
use Rattle.region_plan.specs.Places.{entries_in}
use Rattle.region_plan.specs.Written.{stays}
use Rattle.region_plan.proofs.WrittenLemmas.{KeptSoFar}
use Rattle.region_plan.proofs.after.kept.Given as goal

-- of the inodes so far those are there that stay
abbrev pub invariant-each : goal.invariant-each
invariant-each l = record {
  count : l.count ≡ length l.fn.inodes;
  kept : KeptSoFar (λ inode. stays (entries_in l.map) l.named inode.number) l.fn.inodes l.inodes l.place l.counter;
}
