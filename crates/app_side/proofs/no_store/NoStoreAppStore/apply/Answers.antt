use Rattle.std.proofs.Common.{ℕ, ap}
use Rattle.app_side.proofs.Storeless.{refused_applies}
use Rattle.app_side.proofs.no_store.NoStoreAppStore.apply.Goals as goal

pub returns : goal.returns
returns c =
    let old = c.args.self.now in
    refused_applies c.args._change.now c.refuse.result old _ c.refuse.ensures (ap (λ (n : ℕ). record old { change_attempts = n }) c.one_more.ensures)
