use Rattle.std.proofs.Common.{◌∙◌, Option, Some, inl, inr, refl, rules, sym, ap, subst}
use Rattle.std.specs.Prelude.{◌≤◌}
use Rattle.store_api.specs.declared.answer.StoreAnswer.{StoreAnswer}
use Rattle.store_api.specs.Limits.{IsPart}
use Rattle.store_api.specs.Stores.{read_at}
use Rattle.region_plan.specs.Layout.{layout}
use Rattle.region_plan.specs.declared.directory.Directory.{Directory}
use Rattle.region_plan.specs.declared.form.Form.{Form}
use Rattle.object_dir.specs.Kept.{IsFound, IsKept, tells_garbled}
use Rattle.object_dir.proofs.AnswerLemmas.{not_both}
use Rattle.object_dir.proofs.KeptLemmas.{unlooked}
use Rattle.object_dir.proofs.KeptReadLemmas.{anew_by, anew_part, part_by, read_by}
use Rattle.object_dir.proofs.UseLemmas.{fits}
use Rattle.object_dir.proofs.kept.read_in.Goals as goal

pub returns-clause-reads : goal.returns-clause-reads
returns-clause-reads g c =
    read_by g.V.Volume.keeper c.args.kept.now (Some c.in_ok-directory.directory) (λ store. read_at store c.args.id.now c.args.start c.args.count) (IsPart c.args.count)
    c.in_ok-directory.directory c.directory-2.result.now c.directory-2.ensures.same (subst (λ (d : Directory). IsKept d) c.directory-2.ensures.same c.directory-2.ensures.kept)
    c.args.region.now c.directory_of.new.region
    (λ t f. c.in_ok-directory.ensures.found t (subst (λ (o : Option Directory). IsFound g.V.Volume.keeper o c.args.region.now) (sym c.take.ensures.value) f))
    c.in_ok-directory.ensures.reads c.content-answer.result c.content-answer.new.from
    (ap (λ (w : Option StoreAnswer). tells_garbled w) (sym c.refusal.ensures) ∙ (sym c.is_garbled.ensures ∙ c.if-is_garbled.false)) (inr refl)
    (λ lost. not_both (g.V.Volume.keeper.condition c.content-answer.new.from.volume.now).lost lost (sym c.is_lost.ensures ∙ c.if-is_lost.false)) c.content-answer.ensures.reads

pub returns-clause-part : goal.returns-clause-part
returns-clause-part g c =
    part_by g.V.Volume.keeper c.args.kept.now (Some c.in_ok-directory.directory) (λ store. read_at store c.args.id.now c.args.start c.args.count) (IsPart c.args.count)
    c.in_ok-directory.directory c.directory-2.result.now c.directory-2.ensures.same (subst (λ (d : Directory). IsKept d) c.directory-2.ensures.same c.directory-2.ensures.kept)
    c.args.region.now c.directory_of.new.region
    (λ t f. c.in_ok-directory.ensures.found t (subst (λ (o : Option Directory). IsFound g.V.Volume.keeper o c.args.region.now) (sym c.take.ensures.value) f))
    c.in_ok-directory.ensures.reads c.content-answer.result c.args.id.now c.args.start c.args.count c.content-answer.ensures.found

pub returns-then-is_lost-clause-reads : goal.returns-then-is_lost-clause-reads
returns-then-is_lost-clause-reads g c =
    read_by g.V.Volume.keeper c.args.kept.now c.take.new.self (λ store. read_at store c.args.id.now c.args.start c.args.count) (IsPart c.args.count)
    c.in_ok-directory.directory c.directory-2.result.now c.directory-2.ensures.same (subst (λ (d : Directory). IsKept d) c.directory-2.ensures.same c.directory-2.ensures.kept)
    c.args.region.now c.directory_of.new.region
    (λ t f. c.in_ok-directory.ensures.found t (subst (λ (o : Option Directory). IsFound g.V.Volume.keeper o c.args.region.now) (sym c.take.ensures.value) f))
    c.in_ok-directory.ensures.reads c.content-answer.result c.content-answer.new.from
    (ap (λ (w : Option StoreAnswer). tells_garbled w) (sym c.refusal.ensures) ∙ (sym c.is_garbled.ensures ∙ c.if-is_garbled.false)) (inl c.take.ensures.after)
    (λ lost. c.take.ensures.after) c.content-answer.ensures.reads

pub returns-then-is_lost-clause-part : goal.returns-then-is_lost-clause-part
returns-then-is_lost-clause-part g c =
    part_by g.V.Volume.keeper c.args.kept.now c.take.new.self (λ store. read_at store c.args.id.now c.args.start c.args.count) (IsPart c.args.count)
    c.in_ok-directory.directory c.directory-2.result.now c.directory-2.ensures.same (subst (λ (d : Directory). IsKept d) c.directory-2.ensures.same c.directory-2.ensures.kept)
    c.args.region.now c.directory_of.new.region
    (λ t f. c.in_ok-directory.ensures.found t (subst (λ (o : Option Directory). IsFound g.V.Volume.keeper o c.args.region.now) (sym c.take.ensures.value) f))
    c.in_ok-directory.ensures.reads c.content-answer.result c.args.id.now c.args.start c.args.count c.content-answer.ensures.found

pub returns-then-is_garbled-clause-reads : goal.returns-then-is_garbled-clause-reads
returns-then-is_garbled-clause-reads g c =
    anew_by g.V.Volume.keeper c.args.kept.now c.take.new.self (λ store. read_at store c.args.id.now c.args.start c.args.count) (IsPart c.args.count)
    c.in_ok-directory.directory c.directory-2.result.now c.directory-2.ensures.same (subst (λ (d : Directory). IsKept d) c.directory-2.ensures.same c.directory-2.ensures.kept)
    c.args.region.now c.directory_of.new.region
    (λ t f. c.in_ok-directory.ensures.found t (subst (λ (o : Option Directory). IsFound g.V.Volume.keeper o c.args.region.now) (sym c.take.ensures.value) f))
    c.in_ok-directory.ensures.reads c.content-answer.result c.content.result c.content-answer.new.from c.content.new.from
    (ap (λ (w : Option StoreAnswer). tells_garbled w) (sym c.refusal.ensures) ∙ (sym c.is_garbled.ensures ∙ c.if-is_garbled.true)) c.content-answer.ensures.reads c.take.ensures.after
    c.content.ensures.reads

pub returns-then-is_garbled-clause-part : goal.returns-then-is_garbled-clause-part
returns-then-is_garbled-clause-part g c t f =
    anew_part g.V.Volume.keeper c.args.kept.now c.take.new.self (λ store. read_at store c.args.id.now c.args.start c.args.count) (IsPart c.args.count)
    c.in_ok-directory.directory c.directory-2.result.now c.directory-2.ensures.same (subst (λ (d : Directory). IsKept d) c.directory-2.ensures.same c.directory-2.ensures.kept)
    c.args.region.now c.directory_of.new.region
    (λ t f. c.in_ok-directory.ensures.found t (subst (λ (o : Option Directory). IsFound g.V.Volume.keeper o c.args.region.now) (sym c.take.ensures.value) f))
    c.in_ok-directory.ensures.reads c.content-answer.result c.content.result c.content-answer.new.from c.content.new.from
    (ap (λ (w : Option StoreAnswer). tells_garbled w) (sym c.refusal.ensures) ∙ (sym c.is_garbled.ensures ∙ c.if-is_garbled.true)) c.content-answer.ensures.reads c.args.id.now
    c.args.start c.args.count c.content.ensures.found t

pub returns-in_err-directory-clause-reads : goal.returns-in_err-directory-clause-reads
returns-in_err-directory-clause-reads g c =
    unlooked g.V.Volume.keeper c.args.kept.now (λ store. read_at store c.args.id.now c.args.start c.args.count) (IsPart c.args.count) c.from_residual.result c.args.region.now
    c.directory_of.new.region c.in_err-directory.field-0.0 c.take.new.self (search rules)
    c.take.ensures.after c.in_err-directory.ensures.unread c.in_err-directory.ensures.garbled c.in_err-directory.ensures.reads

pub content-answer-requires-clause-fits : goal.content-answer-requires-clause-fits
content-answer-requires-clause-fits g c = subst (λ (f : Form). (layout f).leaves ≤ g.V.Volume.keeper.leaves) (sym c.directory-2.ensures.kept.form) (fits _ g.met.V.Volume.whole)

pub content-requires-clause-fits : goal.content-requires-clause-fits
content-requires-clause-fits g c = fits _ g.met.V.Volume.whole
