use Rattle.std.proofs.Common.{◌<◌, ◌+◌, ◌∙◌, ℕ, List, length, refl, ap, sym, subst, arith}
use Rattle.region_plan.specs.Places.{entries_in}
use Rattle.region_plan.specs.Written.{stays}
use Rattle.region_plan.specs.declared.inode.Inode.{Inode}
use Rattle.region_plan.proofs.WrittenLemmas.{KeptSoFar, kept_all, kept_bound, kept_inside, kept_less, kept_more, none_kept}
use Rattle.region_plan.proofs.after.kept.Goals as goal
use Rattle.region_plan.proofs.after.kept.Goals.{then-is_kept, else-is_kept}

pub each-init : goal.each-init
each-init c = record { count = c.len-count.ensures; kept = none_kept (λ inode. stays (entries_in c.args.map.now) c.args.named.now inode.number) c.args.inodes }

pub leaf_at-requires : goal.leaf_at-requires
leaf_at-requires c =
    kept_inside (λ k. stays (entries_in c.args.map.now) c.args.named.now k) c.args.inodes c.each.inodes c.each.place c.each.counter c.each.invariant.kept
    (omega (arith, c.each-test.true, c.len-count.ensures))

pub without-inodes-requires : goal.without-inodes-requires
without-inodes-requires c = record {
  few = (let bound = kept_bound (λ inode. stays (entries_in c.args.map.now) c.args.named.now inode.number) c.args.inodes c.each.inodes c.each.place c.each.counter c.each.invariant.kept in
      omega (arith, bound, c.requires));
  place = kept_inside (λ k. stays (entries_in c.args.map.now) c.args.named.now k) c.args.inodes c.each.inodes c.each.place c.each.counter c.each.invariant.kept
      (omega (arith, c.each-test.true, c.len-count.ensures));
}

pub each-preserved : goal.each-preserved
each-preserved c =
    let low : c.each.counter < length c.args.inodes = omega (arith, c.each-test.true, c.len-count.ensures) in
    record {
      count = c.len-count.ensures;
      kept = elim c.if-is_kept.branch [
        | then-is_kept w ↦
            subst (λ (l : List Inode). KeptSoFar (λ inode. stays (entries_in c.args.map.now) c.args.named.now inode.number) c.args.inodes l c.if-is_kept.place (c.each.counter + 1)) (sym w.inodes-is)
            (kept_more (λ k. stays (entries_in c.args.map.now) c.args.named.now k) c.args.inodes c.each.inodes c.each.place c.each.counter c.each.invariant.kept low (c.each.counter + 1)
            c.if-is_kept.place refl w.place-is (sym (c.is_kept.ensures ∙ ap (λ (k : ℕ). stays (entries_in c.args.map.now) c.args.named.now k) c.leaf_at.ensures) ∙ w.if-is_kept.true))
        | else-is_kept w ↦
            subst (λ (k : ℕ). KeptSoFar (λ inode. stays (entries_in c.args.map.now) c.args.named.now inode.number) c.args.inodes c.if-is_kept.inodes k (c.each.counter + 1)) (sym w.place-is)
            (kept_less (λ k. stays (entries_in c.args.map.now) c.args.named.now k) c.args.inodes c.each.inodes c.each.place c.each.counter c.each.invariant.kept low (c.each.counter + 1)
            c.if-is_kept.inodes refl (w.inodes-is ∙ w.without-inodes.ensures)
            (sym (c.is_kept.ensures ∙ ap (λ (k : ℕ). stays (entries_in c.args.map.now) c.args.named.now k) c.leaf_at.ensures) ∙ w.if-is_kept.false))
      ];
    }

pub returns : goal.returns
returns c =
    kept_all (λ inode. stays (entries_in c.args.map.now) c.args.named.now inode.number) c.args.inodes c.each.inodes c.each.place c.each.counter c.each.invariant.kept
    (omega (arith, c.each-test.false, c.len-count.ensures, c.each.auto.counter-end))

pub overflow_add-place : goal.overflow_add-place
overflow_add-place c =
    let bound = kept_bound (λ inode. stays (entries_in c.args.map.now) c.args.named.now inode.number) c.args.inodes c.each.inodes c.each.place c.each.counter c.each.invariant.kept in
    let inside = kept_inside (λ k. stays (entries_in c.args.map.now) c.args.named.now k) c.args.inodes c.each.inodes c.each.place c.each.counter c.each.invariant.kept
    (omega (arith, c.each-test.true, c.len-count.ensures)) in
    omega (arith, bound, inside, c.requires)
