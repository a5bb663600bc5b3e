use Rattle.std.proofs.Common.{rules}
use Rattle.aes_core.proofs.TableEntries.{entry_last_3}
use Rattle.aes_core.proofs.columns.last_3.Goals as goal

pub returns : goal.returns
returns c = search (rules, entry_last_3)
