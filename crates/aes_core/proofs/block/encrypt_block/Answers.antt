use Rattle.std.proofs.Common.{◌≡◌, length, refl, ◌∙◌, rules, arith}
use Rattle.aes_core.specs.Key.{key_bytes}
use Rattle.aes_core.proofs.CipherLemmas.{cipher_from_words, cipher_rounds_start, cipher_rounds_next, cipher_from_last, rounds_bounds}
use Rattle.aes_core.proofs.block.encrypt_block.Goals as goal

pub loop-round-init : goal.loop-round-init
loop-round-init c =
    cipher_rounds_start c.args.key.now.words c.args.block.now _ _ 0 refl
    (c.add_key-first.ensures ∙ rw c.load-plain.ensures refl) c.key_of_round.ensures

pub loop-round-preserved : goal.loop-round-preserved
loop-round-preserved c =
    cipher_rounds_next c.args.key.now.words c.args.block.now _ _ _ c.loop-round.round c.loop-round.auto.round
    c.loop-round.invariant c.encrypt_round-next.ensures c.key_of_round-in-loop-round.ensures

pub returns : goal.returns
unfolding key_bytes
returns c =
    let bounds = rounds_bounds _ _ _ c.args.key.now.expansion in
    let long : length c.args.key.now.words ≡ 60 = search rules in
    c.store.ensures
    ∙ cipher_from_last c.args.key.now.words c.args.block.now _ _ _ _ c.args.key.now.rounds c.loop-round.round (omega (arith, bounds))
    c.loop-round.invariant refl c.last_round-last.ensures c.key_of_round-2.ensures
    ∙ cipher_from_words _ _ _ c.args.block.now long c.args.key.now.expansion
