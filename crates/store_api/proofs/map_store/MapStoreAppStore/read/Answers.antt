use Rattle.std.proofs.Common.{rules}
use Rattle.store_api.proofs.MapCalls.{kept_back_as, served}
use Rattle.store_api.proofs.map_store.MapStoreAppStore.read.Goals as goal

pub returns-in_err-begin-clause-reads : goal.returns-in_err-begin-clause-reads
returns-in_err-begin-clause-reads c = kept_back_as _ _ c.args.self.now _ c.in_err-begin.ensures.limits _ _ (search rules) c.in_err-begin.ensures.begun c.in_err-begin.ensures.later
    c.in_err-begin.ensures.rose

pub returns-clause-reads : goal.returns-clause-reads
returns-clause-reads c = served _ _ c.args.self.now _ c.in_ok-begin.ensures.limits _ c.in_ok-begin.ensures.begun c.in_ok-begin.ensures.later (search rules) (search rules) (search rules)
