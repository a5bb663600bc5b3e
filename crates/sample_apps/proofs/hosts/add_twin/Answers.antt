use Rattle.std.proofs.Common.{rules}
use Rattle.sample_apps.proofs.hosts.add_twin.Goals as goal

pub returns : goal.returns
returns c = search rules
