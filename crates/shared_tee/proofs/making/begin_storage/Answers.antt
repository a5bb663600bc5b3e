use Rattle.std.proofs.Common.{List, ◌∙◌, ap}
use Rattle.turn_cell.specs.View.{opening_view}
use Rattle.shared_parts.specs.InStep.{StoragePart}
use Rattle.shared_parts.specs.StorageParts.{StorageEntry}
use Rattle.shared_tee.proofs.BeginLemmas.{opened_all}
use Rattle.shared_tee.specs.Making.{opened_parts}
use Rattle.std.proofs.Common.{length}
use Rattle.shared_tee.proofs.making.begin_storage.Goals as goal

pub returns-in-Ok-new-clause-seat : goal.returns-in-Ok-new-clause-seat
returns-in-Ok-new-clause-seat g c =
    let K = g.V.Volume.keeper in
    let s = c.in-Ok.storage in
    let apps = length c.args.sides.now in
    c.in-Ok-new.ensures.seat
    ∙ ap (λ (ps : List StoragePart). opening_view ps s.trail) (opened_all K c.args.volume apps s.parts c.in-Ok.ensures.parts)
    ∙ ap (λ (t : List (StorageEntry g.row.V.Denot)). opening_view (opened_parts K c.args.volume 0 apps) t) c.in-Ok.ensures.trail
