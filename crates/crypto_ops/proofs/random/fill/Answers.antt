use Rattle.std.proofs.Common.{length}
use Rattle.crypto_ops.proofs.RandomLemmas.{filled_bytes, filled_after, moved_within}
use Rattle.crypto_ops.proofs.random.fill.Goals as goal

pub returns-clause-bytes : goal.returns-clause-bytes
returns-clause-bytes c = filled_bytes _ _ _ _ c.requires c.fill_bytes_via_u32.ensures

pub returns-clause-moved : goal.returns-clause-moved
returns-clause-moved c = filled_after _ _ _ _ c.requires c.fill_bytes_via_u32.ensures

pub returns-clause-within : goal.returns-clause-within
returns-clause-within c =
    rw (filled_after _ _ _ _ c.requires c.fill_bytes_via_u32.ensures) (moved_within (length c.args.bytes.now) c.args.words.now)
