use Rattle.std.proofs.Common.{ℕ, List, ◌∙◌, Option, None, Some, Err, rules, subst, sym, inl, inr, refl}
use Rattle.std.specs.Prelude.{IfSome, IsTrue}
use Rattle.store_api.specs.Ascending.{is_above_all}
use Rattle.store_api.specs.declared.leaves.Leaf.{Leaf}
use Rattle.region_plan.specs.declared.directory.Directory.{Directory}
use Rattle.object_dir.specs.Kept.{IsFound}
use Rattle.object_dir.specs.Regions.{in_use}
use Rattle.object_dir.proofs.AnswerLemmas.{not_both}
use Rattle.object_dir.proofs.KeptChangeLemmas.{change_unread, changes_as, committed_by, nothing_by, plan_as, plan_as_to, refused_by, uncommitted_by}
use Rattle.object_dir.proofs.PlannedLemmas.{named_some}
use Rattle.object_dir.proofs.UseLemmas.{leaves_are}
use Rattle.object_dir.proofs.kept.change_in.Goals as goal

pub commit-requires : goal.commit-requires
commit-requires g c = subst (λ (n : ℕ). IsTrue (is_above_all c.in-Ok-Some.leaves n)) leaves_are
    (subst (λ (o : Option (List Leaf)). IfSome o (λ named. IsTrue (is_above_all named in_use.leaves))) c.in-Ok-Some.field-0-is
    (named_some c.in-Ok-Some.field-0 c.in-Ok-Some.ensures.plans.named))

pub returns-in_err-directory : goal.returns-in_err-directory
returns-in_err-directory g c =
    change_unread g.V.Volume.keeper (record { whole = g.met.V.Volume.whole; tells = g.met.V.Volume.honest_tells; found = g.met.V.Volume.found }) g.met.V.Volume.sound
    c.args.change.now c.args.kept.now c.in_err-directory.field-0.0 c.take.new.self c.from_residual.result c.args.region.now c.directory_of.new.region (search rules)
    c.take.ensures.after c.in_err-directory.ensures.unread c.in_err-directory.ensures.garbled c.in_err-directory.ensures.reads

pub returns-in_err-commit-in-Ok-Some : goal.returns-in_err-commit-in-Ok-Some
returns-in_err-commit-in-Ok-Some g c =
    let K = g.V.Volume.keeper in
    uncommitted_by K (record { whole = g.met.V.Volume.whole; tells = g.met.V.Volume.honest_tells; found = g.met.V.Volume.found }) g.met.V.Volume.sound
    c.args.change.now c.args.kept.now c.in_ok-directory.directory c.args.region.now c.directory_of.new.region
    (λ t f. c.in_ok-directory.ensures.found t (subst (λ (o : Option Directory). IsFound K o c.args.region.now) (sym c.take.ensures.value) f))
    c.in_ok-directory.ensures.reads c.in-Ok-Some.leaves c.plan_in.new.region c.commit.new.self
    (plan_as_to K c.args.change.now c.in_ok-directory.directory c.directory-2.result.now c.directory-2.ensures.same c.directory_of.new.region c.plan_in.new.region c.in-Ok-Some.field-0
    (Some c.in-Ok-Some.leaves)
    c.in-Ok-Some.field-0-is c.in-Ok-Some.ensures.plans)
    (changes_as K c.directory_of.new.region c.in-Ok-Some.field-0 c.in-Ok-Some.leaves c.in-Ok-Some.field-0-is c.in-Ok-Some.ensures.writes)
    c.in_err-commit-in-Ok-Some.field-0.0 c.take.new.self c.from_residual-in_err-commit-in-Ok-Some.result (search rules) c.take.ensures.after c.in_err-commit-in-Ok-Some.ensures

pub returns-in_ok-commit-in-Ok-Some : goal.returns-in_ok-commit-in-Ok-Some
returns-in_ok-commit-in-Ok-Some g c =
    let K = g.V.Volume.keeper in
    committed_by K (record { whole = g.met.V.Volume.whole; tells = g.met.V.Volume.honest_tells; found = g.met.V.Volume.found }) g.met.V.Volume.sound
    c.args.change.now c.args.kept.now c.in_ok-directory.directory c.args.region.now c.directory_of.new.region
    (λ t f. c.in_ok-directory.ensures.found t (subst (λ (o : Option Directory). IsFound K o c.args.region.now) (sym c.take.ensures.value) f))
    c.in_ok-directory.ensures.reads c.in-Ok-Some.leaves c.plan_in.new.region c.commit.new.self
    (plan_as_to K c.args.change.now c.in_ok-directory.directory c.directory-2.result.now c.directory-2.ensures.same c.directory_of.new.region c.plan_in.new.region c.in-Ok-Some.field-0
    (Some c.in-Ok-Some.leaves)
    c.in-Ok-Some.field-0-is c.in-Ok-Some.ensures.plans)
    (changes_as K c.directory_of.new.region c.in-Ok-Some.field-0 c.in-Ok-Some.leaves c.in-Ok-Some.field-0-is c.in-Ok-Some.ensures.writes)
    c.after.result c.after.ensures c.in_ok-commit-in-Ok-Some.ensures

pub returns-in-Ok-None : goal.returns-in-Ok-None
returns-in-Ok-None g c =
    let K = g.V.Volume.keeper in
    nothing_by K (record { whole = g.met.V.Volume.whole; tells = g.met.V.Volume.honest_tells; found = g.met.V.Volume.found }) g.met.V.Volume.sound
    c.args.change.now c.args.kept.now c.in_ok-directory.directory c.args.region.now c.directory_of.new.region
    (λ t f. c.in_ok-directory.ensures.found t (subst (λ (o : Option Directory). IsFound K o c.args.region.now) (sym c.take.ensures.value) f))
    c.in_ok-directory.ensures.reads c.plan_in.new.region
    (plan_as_to K c.args.change.now c.in_ok-directory.directory c.directory-2.result.now c.directory-2.ensures.same c.directory_of.new.region c.plan_in.new.region c.in-Ok-None.field-0 None
    c.in-Ok-None.field-0-is c.in-Ok-None.ensures.plans)

pub returns-then-is_lost : goal.returns-then-is_lost
returns-then-is_lost g c =
    let K = g.V.Volume.keeper in
    refused_by K (record { whole = g.met.V.Volume.whole; tells = g.met.V.Volume.honest_tells; found = g.met.V.Volume.found }) g.met.V.Volume.sound
    c.args.change.now c.args.kept.now c.in_ok-directory.directory c.args.region.now c.directory_of.new.region
    (λ t f. c.in_ok-directory.ensures.found t (subst (λ (o : Option Directory). IsFound K o c.args.region.now) (sym c.take.ensures.value) f))
    c.in_ok-directory.ensures.reads c.in-Err.why c.take.new.self c.plan_in.new.region
    (plan_as K c.args.change.now c.in_ok-directory.directory c.directory-2.result.now c.directory-2.ensures.same c.directory_of.new.region c.plan_in.new.region (Err c.in-Err.why)
    c.in-Err.ensures.plans)
    (inl c.take.ensures.after) (λ lost. c.take.ensures.after)

pub returns-else-is_lost : goal.returns-else-is_lost
returns-else-is_lost g c =
    let K = g.V.Volume.keeper in
    refused_by K (record { whole = g.met.V.Volume.whole; tells = g.met.V.Volume.honest_tells; found = g.met.V.Volume.found }) g.met.V.Volume.sound
    c.args.change.now c.args.kept.now c.in_ok-directory.directory c.args.region.now c.directory_of.new.region
    (λ t f. c.in_ok-directory.ensures.found t (subst (λ (o : Option Directory). IsFound K o c.args.region.now) (sym c.take.ensures.value) f))
    c.in_ok-directory.ensures.reads c.in-Err.why (Some c.in_ok-directory.directory) c.plan_in.new.region
    (plan_as K c.args.change.now c.in_ok-directory.directory c.directory-2.result.now c.directory-2.ensures.same c.directory_of.new.region c.plan_in.new.region (Err c.in-Err.why)
    c.in-Err.ensures.plans)
    (inr refl) (λ lost. not_both (K.condition c.plan_in.new.region.volume.now).lost lost (sym c.is_lost.ensures ∙ c.if-is_lost.false))
