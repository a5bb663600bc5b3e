use Rattle.std.proofs.Common.{subst}
use Rattle.shared_parts.proofs.StorageSteps.{storage_kept}
use Rattle.shared_parts.specs.StorageParts.{KeepsStorage, StorageView}
use Rattle.shared_parts.proofs.storage.Storage.keeps.Goals as goal

pub returns : goal.returns
returns g c =
    let s = c.self.inside in
    subst (λ (x : StorageView g.row.V.Denot). KeepsStorage g.V.Volume.keeper g.row.A.Denot x) c.self.view_is
    (storage_kept g.V.Volume.keeper _ s.volume s.opened.value s.loss s.kept.places _ c.self.invariant)
