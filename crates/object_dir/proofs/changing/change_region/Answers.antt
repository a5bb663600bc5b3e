use Rattle.std.proofs.Common.{List, Option, ℕ, rules, subst}
use Rattle.std.specs.Prelude.{IfSome, IsTrue}
use Rattle.store_api.specs.Ascending.{is_above_all}
use Rattle.store_api.specs.declared.leaves.Leaf.{Leaf}
use Rattle.object_dir.specs.Regions.{in_use}
use Rattle.object_dir.proofs.UseLemmas.{leaves_are}
use Rattle.object_dir.proofs.PlannedLemmas.{named_some}
use Rattle.object_dir.proofs.ChangeLemmas.{change_refused_as, committed_as, nothing_as}
use Rattle.object_dir.proofs.changing.change_region.Goals as goal

pub returns-in_err-leaves : goal.returns-in_err-leaves
returns-in_err-leaves g c = change_refused_as g.V.Volume.keeper
    (record { whole = g.met.V.Volume.whole; tells = g.met.V.Volume.honest_tells; found = g.met.V.Volume.found })
    c.args.change.now _ _ c.args.region.now _ (search rules) c.in_err-leaves.ensures.plans

pub returns-in-Some : goal.returns-in-Some
returns-in-Some g c = committed_as g.V.Volume.keeper
    (record { whole = g.met.V.Volume.whole; tells = g.met.V.Volume.honest_tells; found = g.met.V.Volume.found })
    c.args.change.now _ _ _ c.args.region.now _ _ c.in-Some.is c.in_ok-leaves.ensures.plans c.in_ok-leaves.ensures.writes c.commit.ensures

pub returns-in-None : goal.returns-in-None
returns-in-None g c = nothing_as g.V.Volume.keeper
    (record { whole = g.met.V.Volume.whole; tells = g.met.V.Volume.honest_tells; found = g.met.V.Volume.found })
    c.args.change.now _ c.args.region.now _ c.in-None.is c.in_ok-leaves.ensures.plans

pub commit-requires : goal.commit-requires
commit-requires g c = subst (λ (n : ℕ). IsTrue (is_above_all c.in-Some.leaves n)) leaves_are
    (subst (λ (o : Option (List Leaf)). IfSome o (λ named. IsTrue (is_above_all named in_use.leaves))) c.in-Some.is (named_some c.in_ok-leaves.field-0 c.in_ok-leaves.ensures.plans.named))
