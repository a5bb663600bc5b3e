use Rattle.std.proofs.Common.{rules}
use Rattle.store_api.proofs.map_store.MapStore.begin_change.Goals as goal

pub returns-clause-begun : goal.returns-clause-begun
returns-clause-begun c = search rules
