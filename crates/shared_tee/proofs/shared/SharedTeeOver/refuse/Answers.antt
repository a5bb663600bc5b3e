use Rattle.turn_cell.specs.Words.{cell_id_of, view as known}
use Rattle.shared_tee.proofs.PassLemmas.{is_pass_counted, of_counted}
use Rattle.shared_tee.specs.Passes.{PassView}
use Rattle.shared_tee.proofs.shared.SharedTeeOver.refuse.Goals as goal

pub invariant_of-pass : goal.invariant_of-pass
invariant_of-pass g c =
    let s = c.pass.inside in
    let p : PassView g.row.V.Denot g.row.A.Denot = record { app = s.app; client = s.client; calls = s.calls; cell = cell_id_of s.seat; seat = known s.seat } in
    is_pass_counted p g.V.Volume.keeper g.A.Application.behaviour c.pass.invariant

pub returns-clause-of : goal.returns-clause-of
returns-clause-of g c =
    let s = c.pass.inside in
    let p : PassView g.row.V.Denot g.row.A.Denot = record { app = s.app; client = s.client; calls = s.calls; cell = cell_id_of s.seat; seat = known s.seat } in
    of_counted p c.args.self.now c.args.pass.now c.pass.view_is c.requires.of
