-- What a message authentication stands for: a hash function, a key, and the message since its start.
use Rattle.std.specs.Prelude.{ℕ, List, ◌++◌}
use Rattle.mac_digest.specs.declared.digests.Hash.{Hash}
use Rattle.mac_digest.specs.declared.macs.Mac.{Mac}
use Rattle.mac_digest.specs.Digester.{HoldsMessage}
use Rattle.mac_digest.specs.Hmac.{inner_block, outer_block}

-- the value stands for this message, since its start, under this key and hash function
pub record HoldsKeyedMessage (mac : Mac) (hash : Hash) (key message : List ℕ) : Type 0 where
  pub inner : HoldsMessage mac.inner hash (inner_block hash key ++ message)
  pub inner_start : HoldsMessage mac.inner_start hash (inner_block hash key)
  pub outer_start : HoldsMessage mac.outer_start hash (outer_block hash key)
