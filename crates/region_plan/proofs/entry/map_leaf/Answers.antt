use Rattle.std.proofs.Common.{◌+◌, ◌*◌, sym, subst, arith}
use Rattle.region_plan.specs.Layout.{layout}
use Rattle.region_plan.specs.Places.{IsWritable}
use Rattle.region_plan.specs.declared.entry.Entry.{Entry}
use Rattle.region_plan.proofs.FormLemmas.{laid_by}
use Rattle.region_plan.proofs.MapLemmas.{more_written, none_written}
use Rattle.region_plan.proofs.entry.map_leaf.Goals as goal
use Rattle.region_plan.specs.declared.form.Form.TheVariants.{Two}

pub loop-place-init : goal.loop-place-init
loop-place-init c = none_written (layout Two) c.args.map.now c.args.leaf

pub number_of-number-requires : goal.number_of-number-requires
number_of-number-requires c =
    let whole = (laid_by Two).mapped in
    subst (λ (e : Entry). IsWritable (layout Two) e) (sym c.entry_in.ensures)
    (c.requires.writable (256 * c.args.leaf + c.loop-place.place) (omega (arith, whole, c.requires.leaf, c.loop-place-test.true)))

pub put-requires : goal.put-requires
put-requires c = (let long = c.loop-place.invariant.long in omega (arith, long, c.loop-place-test.true))

pub loop-place-preserved : goal.loop-place-preserved
loop-place-preserved c =
    more_written (layout Two) c.args.map.now c.args.leaf c.loop-place.block c.put.new.into c.to_le_bytes.result c.loop-place.place c.number_of-number.result c.entry_in.result
    c.loop-place-test.true c.loop-place.invariant c.entry_in.ensures c.number_of-number.ensures c.number_of-number.type_inv c.to_le_bytes.ensures c.put.ensures

pub returns : goal.returns
returns c = λ place inside. c.loop-place.invariant.written place (omega (arith, inside, c.loop-place-test.false))
