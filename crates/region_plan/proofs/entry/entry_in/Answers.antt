use Rattle.std.proofs.Common.{◌≡◌, List, arith, subst}
use Rattle.region_plan.specs.Places.{entries_in, free_entry}
use Rattle.region_plan.specs.declared.entry.Entry.{Entry}
use Rattle.region_plan.proofs.EntryLemmas.{beyond, read_is}
use Rattle.region_plan.proofs.entry.entry_in.Goals as goal

pub returns-then-leaf-lt-MOST_LEAVES : goal.returns-then-leaf-lt-MOST_LEAVES
returns-then-leaf-lt-MOST_LEAVES c =
    read_is c.map.inside.entries.items c.args.map.now c.args.leaf c.index.result.now c.map.view_is (omega (arith, c.map.invariant, c.if-leaf-lt-MOST_LEAVES.true)) c.index.ensures

pub returns-else-leaf-lt-MOST_LEAVES : goal.returns-else-leaf-lt-MOST_LEAVES
returns-else-leaf-lt-MOST_LEAVES c =
    subst (λ (m : List Entry). free_entry ≡ entries_in m c.args.leaf) c.map.view_is
    (beyond c.map.inside.entries.items c.args.leaf (omega (arith, c.map.invariant, c.if-leaf-lt-MOST_LEAVES.false)))
