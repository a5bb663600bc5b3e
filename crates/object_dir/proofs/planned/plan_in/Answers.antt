use Rattle.std.proofs.Common.{◌≡◌, ◌∙◌, ℕ, true, false, List, sym, ap, subst}
use Rattle.store_api.specs.Ascending.{is_above_all, is_ascending}
use Rattle.store_api.specs.declared.leaves.Leaf.{Leaf}
use Rattle.region_plan.specs.Reading.{leaves_of}
use Rattle.object_dir.specs.Changing.{are_there}
use Rattle.object_dir.specs.Regions.{number_of, region_keeper}
use Rattle.tee_base.specs.declared.limits.TheConstants.{LEAVES}
use Rattle.object_dir.proofs.FoundLemmas.{agrees, there_alike}
use Rattle.object_dir.proofs.IdleLemmas.{not_there}
use Rattle.object_dir.proofs.PlannedLemmas.{from_none, from_stays}
use Rattle.object_dir.proofs.UseLemmas.{fits, leaves_are}
use Rattle.object_dir.proofs.planned.plan_in.Goals as goal

pub returns-then-branch-clause-plans : goal.returns-then-branch-clause-plans
returns-then-branch-clause-plans g c =
    let K = g.V.Volume.keeper in
    from_none K c.args.directory.now c.args.change.now c.in_ok-leaves.leaves c.args.region.now c.plan.new.from c.in_ok-leaves.ensures c.are_all_there.new.region
    (λ h. ap (λ (l : List Leaf). are_there (leaves_of (region_keeper K) number_of c.plan.new.from) l) (sym c.as_slice.ensures.leaves)
    ∙ (sym (c.in_ok-are_all_there.ensures.told h) ∙ c.if-branch.true)) c.in_ok-are_all_there.ensures.reads

pub returns-clause-writes : goal.returns-clause-writes
returns-clause-writes g c h works same =
    let K = g.V.Volume.keeper in
    let old = c.args.region.now in
    let mid = c.plan.new.from in
    let seen : c.as_slice.result.now ≡ c.in_ok-leaves.leaves = c.as_slice.ensures.leaves in
    let t = g.met.V.Volume.honest_tells old.volume.now h in
    let stays = from_stays K c.args.directory.now c.args.change.now c.in_ok-leaves.leaves old mid c.in_ok-leaves.ensures t in
    let there : are_there (leaves_of (region_keeper K) number_of mid) c.as_slice.result.now ≡ false = sym (c.in_ok-are_all_there.ensures.told t) ∙ c.if-branch.false in
    let found : are_there (leaves_of (region_keeper K) number_of old) c.in_ok-leaves.leaves ≡ false =
    subst (λ (l : List Leaf). are_there (leaves_of (region_keeper K) number_of old) l ≡ false) seen (subst (λ (f : ℕ → List ℕ). are_there f c.as_slice.result.now ≡ false) stays there) in
    not_there c.in_ok-leaves.leaves ((K.held old.volume.now).leaves old.number) (subst (λ (l : List Leaf). is_ascending l ≡ true) seen c.as_slice.ensures.ascending)
    (sym (there_alike c.in_ok-leaves.leaves (leaves_of (region_keeper K) number_of old) ((K.held old.volume.now).leaves old.number) c.in_ok-leaves.ensures.named
    (agrees K (record { whole = g.met.V.Volume.whole; tells = g.met.V.Volume.honest_tells; found = g.met.V.Volume.found }) old h works)) ∙ found) same

pub are_all_there-requires-clause-leaves : goal.are_all_there-requires-clause-leaves
are_all_there-requires-clause-leaves g c = subst (λ (l : List Leaf). is_above_all l LEAVES ≡ true) (sym c.as_slice.ensures.leaves)
    (subst (λ (n : ℕ). is_above_all c.in_ok-leaves.leaves n ≡ true) leaves_are c.in_ok-leaves.ensures.named)

pub plan-requires-clause-fits : goal.plan-requires-clause-fits
plan-requires-clause-fits g c = fits _ g.met.V.Volume.whole
