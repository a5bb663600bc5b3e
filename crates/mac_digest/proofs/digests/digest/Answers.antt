use Rattle.std.proofs.Common.{rules}
use Rattle.mac_digest.proofs.digests.digest.Goals as goal

pub returns-in-Sha384 : goal.returns-in-Sha384
returns-in-Sha384 c = search rules
