use Rattle.std.proofs.Common.{◌≡◌, List, subst, sym}
use Rattle.region_plan.specs.Places.{entries_in, free_entry}
use Rattle.region_plan.specs.declared.entry.Entry.{Entry}
use Rattle.region_plan.proofs.EntryLemmas.{all_free}
use Rattle.region_plan.proofs.entry.Map.free.Goals as goal

pub returns : goal.returns
returns c = λ i.
    subst (λ (l : List Entry). entries_in l i ≡ free_entry) (sym (c.in_ok-from_elem.ensures.items_if_clones_equal (λ y is. is))) (all_free 1024 i)
