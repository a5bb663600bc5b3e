use Rattle.std.proofs.Common.{rules}
use Rattle.store_api.proofs.map_store.MapStore.begin.Goals as goal

pub returns-then-self-clause-begun : goal.returns-then-self-clause-begun
returns-then-self-clause-begun c = search rules

pub returns-then-fails_now-clause-begun : goal.returns-then-fails_now-clause-begun
returns-then-fails_now-clause-begun c = search rules

pub returns-clause-begun : goal.returns-clause-begun
returns-clause-begun c = search rules
