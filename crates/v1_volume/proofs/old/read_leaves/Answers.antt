use Rattle.std.proofs.Common.{◌+◌, ◌∙◌, ℕ, None, List, length, ap, arith, below_more}
use Rattle.region_plan.specs.Layout.{layout}
use Rattle.region_plan.specs.Reading.{IsUndamaged, leaves_of}
use Rattle.region_plan.specs.declared.form.Form.TheVariants.{One}
use Rattle.region_plan.proofs.ReadLemmas.{leaves_stay, reads_joined, reads_started}
use Rattle.region_plan.proofs.RegionLemmas.{undamaged_before}
use Rattle.v1_volume.proofs.CheckedLemmas.{found_more, length_more}
use Rattle.v1_volume.proofs.old.read_leaves.Goals as goal

pub loop-number-init : goal.loop-number-init
loop-number-init g c = record {
  reads = reads_started g.L.LeafSource.keeper g.L.LeafSource.region c.args.from.now c.requires.works (g.met.L.LeafSource.rests c.args.from.now);
  long = c.requires.none;
  found = λ h i low. absurd (omega (arith, low));
  undamaged = λ h i low. absurd (omega (arith, low));
}

pub loop-number-preserved : goal.loop-number-preserved
loop-number-preserved g c =
    let K = g.L.LeafSource.keeper in
    let R = g.L.LeafSource.region in
    let kept = c.loop-number.invariant in
    record {
      reads = reads_joined K R None c.args.from.now c.loop-number.from c.read.new.from kept.reads c.in_ok-read.ensures.reads;
      long = ap length c.in_ok-push.ensures.items ∙ length_more c.loop-number.leaves.items c.read.new.into ∙ ap (λ (n : ℕ). n + 1) kept.long;
      found = λ h.
          let same = leaves_stay K R c.args.from.now c.loop-number.from kept.reads h in
          found_more (leaves_of K R c.args.from.now) c.loop-number.leaves.items _ c.read.new.into c.loop-number.number kept.long c.in_ok-push.ensures.items (kept.found h)
          (c.in_ok-read.ensures.leaf h ∙ ap (λ (l : ℕ → List ℕ). l c.loop-number.number) same);
      undamaged = λ h. below_more (λ i. IsUndamaged K R c.args.from.now i) c.loop-number.number (kept.undamaged h)
          (undamaged_before K R (layout One) c.args.from.now c.loop-number.from kept.reads h c.loop-number.number (c.in_ok-read.ensures.undamaged h));
    }
