use Rattle.sample_apps.specs.Rogue.{reaction_to_command}
use Rattle.std.proofs.Common.{rules}
use Rattle.sample_apps.proofs.rogue.Rogue.begin.Goals as goal

pub returns : goal.returns
unfolding reaction_to_command
returns c = search rules
