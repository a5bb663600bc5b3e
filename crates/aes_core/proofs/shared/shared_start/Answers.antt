use Rattle.std.proofs.Common.{◌≡◌, length, refl, rules}
use Rattle.aes_core.specs.Words.{word_bytes}
use Rattle.aes_core.proofs.SharedLemmas.{shared_start_is}
use Rattle.aes_core.proofs.shared.shared_start.Goals as goal

pub returns : goal.returns
unfolding word_bytes
returns c =
    let long : length c.args.block.now ≡ 16 = search rules in
    shared_start_is c.args.key.now _ c.args.block.now _ _ _ _ _ _ _ _ _ _ _ _ _ _ _ _ long c.load-plain.ensures
    c.key_of_round-zeroth_key.ensures c.key_of_round-first_key.ensures c.key_of_round-second_key.ensures c.add_key-state.ensures
    c.to_be_bytes-a.ensures c.to_be_bytes-b.ensures c.to_be_bytes-c.ensures c.to_be_bytes-d.ensures c.to_be_bytes-last.ensures refl
    c.encrypt_column.ensures c.encrypt_column-2.ensures c.encrypt_column-3.ensures
    c.to_be_bytes-second.ensures c.to_be_bytes-third.ensures c.to_be_bytes-fourth.ensures
    c.without_3.ensures c.without_0.ensures c.without_3-2.ensures c.without_2.ensures c.without_1.ensures
