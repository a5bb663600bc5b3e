use Rattle.sample_apps.specs.StoreCommands.{poll_flag}
use Rattle.std.proofs.Common.{rules}
use Rattle.sample_apps.proofs.store.commands.poll_flag.Goals as goal

pub returns-in-ValueIn : goal.returns-in-ValueIn
unfolding poll_flag
returns-in-ValueIn c = search rules
