use Rattle.std.proofs.Common.{◌≡◌, ◌<◌, ◌∙◌, ℕ, true, List, [], length, sym, subst, arith}
use Rattle.std.proofs.lemmas.List.{get_or_default}
use Rattle.store_api.specs.Ascending.{is_above_all}
use Rattle.store_api.specs.declared.leaves.Leaf.{Leaf}
use Rattle.v1_volume.specs.Old.{named_of}
use Rattle.v1_volume.proofs.PlantLemmas.{all_numbers}
use Rattle.v1_volume.proofs.planting.plant_all.Goals as goal

pub plant_region-requires-clause-numbers : goal.plant_region-requires-clause-numbers
plant_region-requires-clause-numbers c =
    let region : ℕ = c.loop-region.region in
    let items : List (List Leaf) = c.args.regions.now.items in
    let low : region < length items = omega (arith, c.requires.whole, c.loop-region-test.true) in
    let is : c.as_slice.result.now ≡ named_of items region = c.as_slice.ensures.leaves ∙ c.index.ensures ∙ get_or_default items region c.index.result.now [] low in
    let inside : is_above_all c.as_slice.result.now 1024 ≡ true
    = subst (λ (l : List Leaf). is_above_all l 1024 ≡ true) (sym is) (c.requires.numbered region c.loop-region-test.true) in
    all_numbers c.as_slice.result.now 1024 inside
