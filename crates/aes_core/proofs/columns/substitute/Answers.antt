use Rattle.std.proofs.Common.{rules}
use Rattle.aes_core.proofs.TableEntries.{entry_substitute}
use Rattle.aes_core.proofs.columns.substitute.Goals as goal

pub returns : goal.returns
returns c = search (rules, entry_substitute)
