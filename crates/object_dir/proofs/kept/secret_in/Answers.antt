use Rattle.std.proofs.Common.{Option, rules, sym, subst}
use Rattle.store_api.specs.Limits.{IsSecret}
use Rattle.store_api.specs.Stores.{secret_at}
use Rattle.region_plan.specs.declared.directory.Directory.{Directory}
use Rattle.object_dir.specs.Kept.{IsFound, IsKept}
use Rattle.object_dir.proofs.KeptLemmas.{looked, unlooked}
use Rattle.object_dir.proofs.kept.secret_in.Goals as goal

pub returns : goal.returns
returns g c =
    looked g.V.Volume.keeper c.args.kept.now (λ store. secret_at store c.args.id.now) IsSecret c.secret-answer.result c.args.region.now c.directory_of.new.region
    c.in_ok-directory.directory c.directory.result.now c.directory.ensures.same
    (subst (λ (d : Directory). IsKept d) c.directory.ensures.same c.directory.ensures.kept)
    (λ t f. c.in_ok-directory.ensures.found t (subst (λ (o : Option Directory). IsFound g.V.Volume.keeper o c.args.region.now) (sym c.take.ensures.value) f))
    c.in_ok-directory.ensures.reads c.secret-answer.ensures

pub returns-in_err-directory : goal.returns-in_err-directory
returns-in_err-directory g c =
    unlooked g.V.Volume.keeper c.args.kept.now (λ store. secret_at store c.args.id.now) IsSecret c.from_residual.result c.args.region.now c.directory_of.new.region
    c.in_err-directory.field-0.0 c.take.new.self (search rules)
    c.take.ensures.after c.in_err-directory.ensures.unread c.in_err-directory.ensures.garbled c.in_err-directory.ensures.reads
