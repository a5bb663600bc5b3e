use Rattle.std.proofs.Common.{◌≡◌, [], ◌∙◌, ap}
use Rattle.turn_cell.specs.Words.{cell_id_of, view as known}
use Rattle.shared_parts.specs.HostedApps.{HostedView, Origin, origin_of}
use Rattle.shared_tee.proofs.BeginLemmas.{unlogged_back}
use Rattle.shared_tee.specs.Making.{origin_over}
use Rattle.shared_tee.proofs.making.begin_one.Goals as goal

pub returns-in-Err-new-clause-err : goal.returns-in-Err-new-clause-err
returns-in-Err-new-clause-err g c =
    let K = g.V.Volume.keeper in
    let id = cell_id_of c.args.seat in
    let h = c.in-Err-new.field-0.value in
    let same : h ≡ c.in-Ok.hosted = c.in-Err-new.ensures.err in
    let origin_is : h.origin ≡ origin_over K id c.args.apps c.args.opened.now.value c.args.app c.args.side =
    ap (λ (x : HostedView g.row.V.Denot g.row.A.Denot). x.origin) same ∙ c.in-Ok.ensures.origin ∙ ap (λ v. origin_of id v c.args.side) c.requires.seat in
    let none : h.log ≡ [] = ap (λ (x : HostedView g.row.V.Denot g.row.A.Denot). x.log) same ∙ c.in-Ok.ensures.log in
    let back = c.into_parts-log.ensures in (
      back.cell ∙ ap (λ (o : Origin g.row.V.Denot g.row.A.Denot). o.storage) origin_is,
      unlogged_back K g.A.Application.behaviour id c.args.apps c.args.app c.args.opened.now.value c.args.side h.origin h.log (known c.into_parts-log.result.1) origin_is none c.requires.index
          back.seat back.opened back.part,
    )
