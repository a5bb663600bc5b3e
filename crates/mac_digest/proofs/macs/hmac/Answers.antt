use Rattle.std.proofs.Common.{rules}
use Rattle.mac_digest.proofs.macs.hmac.Goals as goal

pub returns : goal.returns
returns c = search rules
