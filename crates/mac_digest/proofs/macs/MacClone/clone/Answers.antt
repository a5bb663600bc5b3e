use Rattle.std.proofs.Common.{rules}
use Rattle.mac_digest.proofs.macs.MacClone.clone.Goals as goal

pub returns : goal.returns
returns c = search rules
