use Rattle.shared_mem.proofs.HistoryLemmas.{block_is}
use Rattle.shared_mem.proofs.laws.block_laws.Goals as goal

pub returns : goal.returns
returns c = block_is
