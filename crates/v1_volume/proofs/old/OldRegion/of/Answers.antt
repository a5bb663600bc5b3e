use Rattle.std.proofs.Common.{◌≡◌, ℕ, List, Err, subst}
use Rattle.region_plan.specs.Layout.{layout}
use Rattle.region_plan.specs.Regions.{region_of}
use Rattle.region_plan.specs.declared.form.Form.TheVariants.{One}
use Rattle.v1_volume.specs.Checking.{Stand, leaf_in}
use Rattle.v1_volume.proofs.CheckedLemmas.{broken_is, whole_stands}
use Rattle.v1_volume.proofs.old.OldRegion.of.Goals as goal

pub returns-in-Some-clause-broken : goal.returns-in-Some-clause-broken
returns-in-Some-clause-broken c =
    subst (λ (l : List (List ℕ)). region_of (layout One) (leaf_in l) ≡ Err c.in-Some.leaf) c.as_slice.ensures.value
    (broken_is (leaf_in c.as_slice.result.now) c.in-Some.leaf c.in-Some.ensures.least)

pub returns-in-None-clause-stand : goal.returns-in-None-clause-stand
returns-in-None-clause-stand c =
    subst (λ (l : List (List ℕ)). Stand (leaf_in l)) c.as_slice.ensures.value (whole_stands (leaf_in c.as_slice.result.now) c.in-None.ensures.least)
