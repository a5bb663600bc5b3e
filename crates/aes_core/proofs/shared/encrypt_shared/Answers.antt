use Rattle.std.proofs.Common.{◌≡◌, length, refl, ◌∙◌, rules, arith}
use Rattle.aes_core.specs.Key.{key_bytes}
use Rattle.aes_core.specs.Shared.{with_last}
use Rattle.aes_core.proofs.CipherLemmas.{cipher_from_words, cipher_rounds_next, cipher_from_last, rounds_bounds}
use Rattle.aes_core.proofs.shared.encrypt_shared.Goals as goal

pub loop-round-init : goal.loop-round-init
loop-round-init c = λ b h. c.ninth_round-ninth.ensures (with_last b c.args.last) (c.second_round.ensures c.args.key.now b h)

pub loop-round-preserved : goal.loop-round-preserved
loop-round-preserved c = λ b h.
    cipher_rounds_next c.args.key.now.words (with_last b c.args.last) _ _ _ c.loop-round.round (omega arith)
    (c.loop-round.invariant b h) c.encrypt_round-next.ensures c.key_of_round.ensures

pub returns : goal.returns
unfolding key_bytes
returns c = λ b h.
    let bounds = rounds_bounds _ _ _ c.args.key.now.expansion in
    let long : length c.args.key.now.words ≡ 60 = search rules in
    cipher_from_last c.args.key.now.words (with_last b c.args.last) _ _ _ _ c.args.key.now.rounds c.loop-round.round (omega (arith, bounds))
    (c.loop-round.invariant b h) refl c.last_round.ensures c.key_of_round-2.ensures
    ∙ cipher_from_words _ _ _ (with_last b c.args.last) long c.args.key.now.expansion
