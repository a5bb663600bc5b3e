use Rattle.std.proofs.Common.{◌<◌, ◌∙◌, [], ap, length}
use Rattle.mac_digest.specs.Hash.{block_len}
use Rattle.mac_digest.specs.Digester.{HoldsMessage}
use Rattle.mac_digest.proofs.BlockLemmas.{long_key_block}
use Rattle.mac_digest.proofs.macs.key_block.Goals as goal

pub returns-then-key-block_len : goal.returns-then-key-block_len
returns-then-key-block_len c =
    let held : HoldsMessage c.update.new.self c.args.hash c.args.key.now
    = c.update.ensures c.args.hash [] c.digest-digester.ensures in
    let is_longer : block_len c.args.hash < length c.args.key.now = rw (← c.block_len.ensures) c.if-key-block_len.true in
    rw c.fill_with_zeros.ensures
    (long_key_block c.args.hash c.args.key.now c.as_slice.result.now is_longer
    (c.as_slice.ensures ∙ c.finish.ensures.digest c.args.hash c.args.key.now held)
    (ap length c.as_slice.ensures ∙ c.finish.ensures.length c.args.hash c.args.key.now held))
