use Rattle.std.proofs.Common.{◌++◌, append_assoc}
use Rattle.mac_digest.specs.Hmac.{inner_block}
use Rattle.mac_digest.proofs.macs.Mac.update.Goals as goal

pub returns : goal.returns
returns c hash key message held = record {
  inner = rw (← append_assoc) (c.update.ensures hash (inner_block hash key ++ message) held.inner);
  inner_start = held.inner_start;
  outer_start = held.outer_start;
}
