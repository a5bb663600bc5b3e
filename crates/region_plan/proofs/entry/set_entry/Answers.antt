use Rattle.std.proofs.Common.{◌∙◌, List, ap, arith}
use Rattle.region_plan.specs.Places.{entries_in, with_entry}
use Rattle.region_plan.specs.declared.entry.Entry.{Entry}
use Rattle.region_plan.proofs.MapLemmas.{set_is}
use Rattle.region_plan.proofs.entry.set_entry.Goals as goal

pub returns : goal.returns
returns c i =
    set_is c.map.inside.entries.items c.args.leaf c.args.entry i (omega (arith, c.requires, c.map.invariant))
    ∙ ap (λ (m : List Entry). with_entry c.args.leaf c.args.entry (entries_in m) i) c.map.view_is
