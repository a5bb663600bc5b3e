use Rattle.std.proofs.Common.{◌+◌, None, ℕ, List, rules, sym, subst, arith}
use Rattle.region_plan.specs.Reading.{leaves_of}
use Rattle.region_plan.specs.Tables.{IsInode}
use Rattle.region_plan.proofs.ContentLemmas.{part_joined}
use Rattle.region_plan.proofs.ReadLemmas.{reads_joined, reads_started, leaves_stay}
use Rattle.region_plan.proofs.RegionLemmas.{data_before, none_read, parts_read}
use Rattle.region_plan.proofs.data.read_between.Goals as goal
use Rattle.region_plan.specs.Layout.{layout}
use Rattle.region_plan.proofs.FormLemmas.{laid_by}

pub loop-at-init : goal.loop-at-init
loop-at-init g c = record {
  reads = reads_started g.L.LeafSource.keeper g.L.LeafSource.region c.args.from.now c.requires.works (g.met.L.LeafSource.rests c.args.from.now);
  from_start = omega arith;
  to_end = omega (arith, c.requires.order);
  count = search rules;
  bytes = search rules;
  found = λ h is. none_read g.L.LeafSource.keeper g.L.LeafSource.region (layout c.args.form) c.args.from.now c.args.inode c.args.start;
}

pub loop-at-preserved : goal.loop-at-preserved
loop-at-preserved g c =
    let K = g.L.LeafSource.keeper in
    let R = g.L.LeafSource.region in
    let kept = c.loop-at.invariant in
    record {
      reads = reads_joined K R None c.args.from.now c.loop-at.from c.read_part.new.from kept.reads c.in_ok-read_part.ensures.reads;
      from_start = omega (arith, kept.from_start);
      to_end = omega (arith, c.min.ensures, c.loop-at-test.true);
      count = omega (arith, kept.count, kept.from_start, c.in_ok-read_part.ensures.count);
      bytes = λ h is.
          let same = leaves_stay K R c.args.from.now c.loop-at.from kept.reads h in
          part_joined (layout c.args.form) (laid_by c.args.form) (leaves_of K R c.args.from.now) (leaves_of K R c.loop-at.from) c.args.inode c.args.start c.loop-at.at (c.loop-at.at + c.min.result)
          c.loop-at.bytes.items
          c.read_part.new.bytes.items same kept.from_start (omega arith) (kept.bytes h is)
          (c.in_ok-read_part.ensures.bytes h (subst (λ (l : ℕ → List ℕ). IsInode (layout c.args.form) l c.args.links.now c.args.inode c.args.length) (sym same) is));
      found = λ h is.
          let same = leaves_stay K R c.args.from.now c.loop-at.from kept.reads h in
          parts_read K R (layout c.args.form) c.args.from.now c.args.inode c.args.start c.loop-at.at (c.loop-at.at + c.min.result) (kept.found h is)
          (data_before K R (layout c.args.form) c.args.from.now c.loop-at.from kept.reads h c.args.inode c.loop-at.at (c.loop-at.at + c.min.result)
          (c.in_ok-read_part.ensures.found h (subst (λ (l : ℕ → List ℕ). IsInode (layout c.args.form) l c.args.links.now c.args.inode c.args.length) (sym same) is)));
    }
