use Rattle.std.proofs.Common.{◌∙◌, rules, length, ◌≡◌}
use Rattle.aes_core.specs.Words.{block_bytes}
use Rattle.aes_core.proofs.WideLemmas.{load_is, be_bytes_16}
use Rattle.aes_core.proofs.rounds.load.Goals as goal

pub returns : goal.returns
unfolding block_bytes
returns c =
    let long : length c.args.block.now ≡ 16 = search rules in
    load_is _ ∙ be_bytes_16 c.args.block.now _ long (search rules) c.from_be_bytes-number.ensures
