use Rattle.std.proofs.Common.{◌≡◌, ◌<◌, ◌^◌, ◌∙◌, ap, arith, length, sym}
use Rattle.std.proofs.lemmas.List.{length-map}
use Rattle.turn_cell.specs.Words.{cell_id, view as known}
use Rattle.shared_tee.proofs.StorageEnds.{all_ended}
use Rattle.shared_tee.specs.Passes.{Places}
use Rattle.shared_tee.proofs.shared.SharedTeeOver.into_logs.Goals as goal

pub returns : goal.returns
returns g c =
    let cells = c.self.inside.cells.items in
    let seat = c.close_all-seat in
    let e = seat.ensures.ended in
    let s = c.close-storage.result in
    let volume = c.into_volume-volume.result in
    let count : length e.0 ≡ length c.args.self.cells = e.1 ∙ sym (length-map cells (λ x. cell_id x)) ∙ ap (λ (p : Places). length p.cells) c.self.view_is in
    let fits : (g.V.Volume.keeper.condition volume).faults < 2 ^ 64 = let told = c.faults-faults.ensures in omega (arith, told) in
    all_ended g.V.Volume.keeper g.A.Application.behaviour (length c.args.self.cells) c.args.passes.items e.0 count seat.new.logs.items (known seat.result) e.2 s c.keeps.ensures
    c.close-storage.ensures.parts c.close-storage.ensures.trail volume c.into_volume-volume.ensures fits
