use Rattle.sample_apps.specs.StoreCommands.{offset_of}
use Rattle.std.proofs.Common.{rules}
use Rattle.sample_apps.proofs.store.commands.offset_of.Goals as goal

pub returns : goal.returns
unfolding offset_of
returns c = search rules
