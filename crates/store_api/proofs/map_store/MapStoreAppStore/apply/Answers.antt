use Rattle.std.proofs.Common.{rules, ◌∷◌, ◌∙◌, ap, sym}
use Rattle.store_api.specs.Stores.{Store, change}
use Rattle.store_api.specs.MapStores.{MapState}
use Rattle.store_api.proofs.MapCalls.{change_kept_back_as, change_refused_as, change_made}
use Rattle.store_api.proofs.map_store.MapStoreAppStore.apply.Goals as goal

pub returns-in_err-begin_change-clause-applies : goal.returns-in_err-begin_change-clause-applies
returns-in_err-begin_change-clause-applies c =
    let met = c.in_err-begin_change.ensures in
    change_kept_back_as c.args.change.now c.args.self.now _ met.limits _ _ (search rules) met.begun met.later met.rose

pub returns-in_err-apply-clause-applies : goal.returns-in_err-apply-clause-applies
returns-in_err-apply-clause-applies c =
    change_refused_as c.args.change.now c.args.self.now _ c.in_ok-begin_change.ensures.limits _ c.in_err-apply.field-0.0 (search rules) (search rules) (search rules) (search rules)
    (search rules) (search rules) (search rules) (search rules)

pub returns-clause-applies : goal.returns-clause-applies
returns-clause-applies c =
    change_made c.args.change.now c.args.self.now _ c.in_ok-begin_change.ensures.limits c.requires (search rules) (search rules) (search rules) (search rules) (search rules)
    (search rules) (search rules)
