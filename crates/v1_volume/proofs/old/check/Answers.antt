use Rattle.std.proofs.Common.{◌≡◌, ◌∙◌, ℕ, List, Ok, ap, subst}
use Rattle.region_plan.specs.Layout.{layout}
use Rattle.region_plan.specs.Reading.{leaves_of}
use Rattle.region_plan.specs.Regions.{region_of, store_of}
use Rattle.region_plan.specs.declared.form.Form.TheVariants.{One}
use Rattle.region_plan.proofs.ReadLemmas.{reads_garbled}
use Rattle.v1_volume.specs.Checking.{Stand, leaf_in}
use Rattle.v1_volume.proofs.CheckedLemmas.{broken_told, whole_stands, whole_told}
use Rattle.v1_volume.proofs.old.check.Goals as goal

pub returns-in-Some : goal.returns-in-Some
returns-in-Some g c =
    let K = g.L.LeafSource.keeper in
    let R = g.L.LeafSource.region in
    record {
      leaves = λ h. tt;
      undamaged = λ h. c.in_ok-read_leaves.ensures.undamaged h;
      stand = tt;
      stands = λ h. tt;
      garbled = λ h. broken_told (leaf_in c.as_slice.result.now) (leaves_of K R c.args.from.now)
          (λ i low. ap (λ (l : List (List ℕ)). leaf_in l i) c.as_slice.ensures.value ∙ c.in_ok-read_leaves.ensures.leaves h i low) c.in-Some.leaf c.in-Some.ensures.least;
      unread = tt;
      reads = reads_garbled K R c.in-Some.leaf c.args.from.now c.read_leaves.new.from c.in_ok-read_leaves.ensures.reads;
    }

pub returns-in-None : goal.returns-in-None
returns-in-None g c =
    let K = g.L.LeafSource.keeper in
    let R = g.L.LeafSource.region in
    record {
      leaves = λ h. c.in_ok-read_leaves.ensures.leaves h;
      undamaged = λ h. c.in_ok-read_leaves.ensures.undamaged h;
      stand = subst (λ (l : List (List ℕ)). Stand (leaf_in l)) c.as_slice.ensures.value (whole_stands (leaf_in c.as_slice.result.now) c.in-None.ensures.least);
      stands = λ h. subst (λ (l : List (List ℕ)). region_of (layout One) (leaves_of K R c.args.from.now) ≡ Ok (store_of (layout One) (leaf_in l))) c.as_slice.ensures.value
          (whole_told (leaf_in c.as_slice.result.now) (leaves_of K R c.args.from.now)
          (λ i low. ap (λ (l : List (List ℕ)). leaf_in l i) c.as_slice.ensures.value ∙ c.in_ok-read_leaves.ensures.leaves h i low) c.in-None.ensures.least);
      garbled = λ h. tt;
      unread = tt;
      reads = c.in_ok-read_leaves.ensures.reads;
    }
