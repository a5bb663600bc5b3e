use Rattle.std.proofs.Common.{rules}
use Rattle.aes_core.proofs.TableEntries.{entry_inverse_substitute}
use Rattle.aes_core.proofs.columns.inverse_substitute.Goals as goal

pub returns : goal.returns
returns c = search (rules, entry_inverse_substitute)
