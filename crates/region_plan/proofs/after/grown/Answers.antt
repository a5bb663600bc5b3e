use Rattle.std.proofs.Common.{◌<◌, ◌+◌, ℕ, refl, subst, arith, rules}
use Rattle.region_plan.specs.Layout.{layout}
use Rattle.region_plan.specs.Regions.{inodes_of}
use Rattle.region_plan.specs.declared.form.Form.TheVariants.{Two}
use Rattle.region_plan.proofs.FormLemmas.{laid_by}
use Rattle.region_plan.proofs.SoundLemmas.{region_sound}
use Rattle.region_plan.proofs.WrittenLemmas.{ok_same, grown_all, grown_step, grown_then, none_grown}
use Rattle.region_plan.proofs.after.grown.Goals as goal
use Rattle.region_plan.proofs.after.grown.Goals.{then-entry_in-eq-INODE, else-entry_in-eq-INODE}

pub loop-leaf-init : goal.loop-leaf-init
loop-leaf-init c = record {
  few = c.requires.few;
  place = omega arith;
  within = λ all. all;
  told = λ leaves is written same store stands. none_grown (layout Two) leaves c.args.named.now c.args.inodes same;
}

pub loop-leaf-preserved : goal.loop-leaf-preserved
loop-leaf-preserved c =
    let so_far = c.loop-leaf.invariant in
    let low : c.loop-leaf.leaf < (layout Two).leaves = subst (λ (n : ℕ). c.loop-leaf.leaf < n) c.leaves-leaf-end.ensures.is c.loop-leaf-test.true in
    record {
      few = c.in_ok-inodes.ensures.few so_far.few;
      place = elim c.if-entry_in-eq-INODE.branch [
        | then-entry_in-eq-INODE w ↦ (let was = so_far.place in omega (arith, w.place-is, was))
        | else-entry_in-eq-INODE w ↦ (let was = so_far.place in omega (arith, w.place-is, was))
      ];
      within = λ all. c.in_ok-inodes.ensures.within (so_far.within all);
      told = λ leaves is written same store stands. elim c.if-entry_in-eq-INODE.branch [
        | then-entry_in-eq-INODE w ↦
            grown_step (layout Two) leaves c.args.named.now c.args.map.now is written c.loop-leaf.inodes c.loop-leaf.place c.loop-leaf.leaf (so_far.told leaves is written same store stands) low
            (c.loop-leaf.leaf + 1) c.if-entry_in-eq-INODE.place c.in_ok-inodes.inodes c.entry_in.result refl c.entry_in.ensures c.in_ok-inodes.ensures.more
            (λ no. ok_same c.in_ok-inodes.inodes c.loop-leaf.inodes (c.in_ok-inodes.ensures.same no)) (λ k. w.place-is) (λ no. absurd (no w.if-entry_in-eq-INODE.true))
        | else-entry_in-eq-INODE w ↦
            grown_step (layout Two) leaves c.args.named.now c.args.map.now is written c.loop-leaf.inodes c.loop-leaf.place c.loop-leaf.leaf (so_far.told leaves is written same store stands) low
            (c.loop-leaf.leaf + 1) c.if-entry_in-eq-INODE.place c.in_ok-inodes.inodes c.entry_in.result refl c.entry_in.ensures c.in_ok-inodes.ensures.more
            (λ no. ok_same c.in_ok-inodes.inodes c.loop-leaf.inodes (c.in_ok-inodes.ensures.same no)) (λ k. absurd (w.if-entry_in-eq-INODE.false k)) (λ no. w.place-is)
      ];
    }

pub returns-in_err-inodes-clause-told : goal.returns-in_err-inodes-clause-told
returns-in_err-inodes-clause-told c leaves is written same store stands =
    let low : c.loop-leaf.leaf < (layout Two).leaves = subst (λ (n : ℕ). c.loop-leaf.leaf < n) c.leaves-leaf-end.ensures.is c.loop-leaf-test.true in
    grown_then (layout Two) leaves c.args.named.now c.args.map.now is written c.loop-leaf.inodes c.loop-leaf.place c.loop-leaf.leaf
    (c.loop-leaf.invariant.told leaves is written same store stands) low c.from_residual.result c.in_err-inodes.field-0.0 (inodes_of (layout Two) leaves) (laid_by Two)
    (region_sound (layout Two) leaves (laid_by Two) store stands) (search rules) c.in_err-inodes.ensures.same c.in_err-inodes.ensures.refused

pub returns-clause-told : goal.returns-clause-told
returns-clause-told c leaves is written same store stands =
    grown_all (layout Two) leaves c.args.named.now c.loop-leaf.inodes c.loop-leaf.place c.loop-leaf.leaf
    (omega (arith, c.leaves-leaf-end.ensures.is, c.loop-leaf-test.false, c.loop-leaf.auto.leaf-end)) (c.loop-leaf.invariant.told leaves is written same store stands)
