use Rattle.std.proofs.Common.{ap}
use Rattle.node_cache.proofs.KeptLemmas.{nothing_of}
use Rattle.node_cache.proofs.cache.NodeCache.new.Goals as goal

pub returns-in-Ok : goal.returns-in-Ok
returns-in-Ok c = record { nothing = nothing_of _ (ap (λ n. n.entries) c.in-Ok.ensures) }
