use Rattle.sample_apps.specs.StoreCommands.{read_object}
use Rattle.std.proofs.Common.{rules}
use Rattle.sample_apps.proofs.store.commands.read_object.Goals as goal

pub returns-in-ValueIn : goal.returns-in-ValueIn
unfolding read_object
returns-in-ValueIn c = search rules
