use Rattle.app_side.proofs.Storeless.{refused_reads}
use Rattle.app_side.proofs.no_store.NoStoreAppStore.secret.Goals as goal

pub returns : goal.returns
returns c = refused_reads _ _ c.refuse.result c.args.self.now c.refuse.ensures
