use Rattle.std.proofs.Common.{rules}
use Rattle.aes_core.proofs.TableEntries.{entry_decrypt_2}
use Rattle.aes_core.proofs.columns.decrypt_2.Goals as goal

pub returns : goal.returns
returns c = search (rules, entry_decrypt_2)
