use Rattle.std.proofs.Common.{rules}
use Rattle.mac_digest.proofs.macs.Mac.compare.Goals as goal

pub returns-clause-started : goal.returns-clause-started
returns-clause-started c = search rules
