use Rattle.std.proofs.Common.{ap}
use Rattle.node_cache.proofs.KeptLemmas.{nothing_of}
use Rattle.node_cache.proofs.cache.NodeCache.clear.Goals as goal

pub returns : goal.returns
returns c = record { nothing = nothing_of _ (ap (λ n. n.entries) c.clear.ensures) }
