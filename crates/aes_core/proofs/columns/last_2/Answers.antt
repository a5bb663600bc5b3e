use Rattle.std.proofs.Common.{rules}
use Rattle.aes_core.proofs.TableEntries.{entry_last_2}
use Rattle.aes_core.proofs.columns.last_2.Goals as goal

pub returns : goal.returns
returns c = search (rules, entry_last_2)
