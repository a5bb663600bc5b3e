use Rattle.std.proofs.Common.{arith}
use Rattle.region_plan.specs.Layout.{layout}
use Rattle.region_plan.specs.Reading.{leaves_of}
use Rattle.region_plan.proofs.FormLemmas.{laid_by}
use Rattle.region_plan.proofs.MapLemmas.{mapped_by}
use Rattle.region_plan.proofs.ReadLemmas.{reads_started}
use Rattle.region_plan.proofs.table.read_map.Goals as goal

pub read_map_leaf-requires-clause-leaf : goal.read_map_leaf-requires-clause-leaf
read_map_leaf-requires-clause-leaf g c = (let some' = (laid_by c.args.form).some' in omega (arith, some'))

pub returns-clause-map : goal.returns-clause-map
returns-clause-map g c h =
    mapped_by (layout c.args.form) (laid_by c.args.form) (leaves_of g.L.LeafSource.keeper g.L.LeafSource.region c.args.from.now) c.loop-leaf.map
    (λ leaf low. c.loop-leaf.invariant.done h leaf (omega (arith, low, c.map_leaves-leaf-end.ensures.is, c.loop-leaf-test.false)))

pub loop-leaf-init : goal.loop-leaf-init
loop-leaf-init g c = record {
  reads = reads_started g.L.LeafSource.keeper g.L.LeafSource.region c.args.from.now c.requires.works (g.met.L.LeafSource.rests c.args.from.now);
  done = λ h i low. absurd (omega (arith, low));
  inodes = c.requires.free;
  undamaged = λ h i low. absurd (omega (arith, low));
}
