use Rattle.std.proofs.Common.{rules}
use Rattle.aes_core.proofs.TableEntries.{entry_round_constant}
use Rattle.aes_core.proofs.schedule.round_constant.Goals as goal

pub returns : goal.returns
returns c = search (rules, entry_round_constant)
