use Rattle.std.proofs.Common.{◌≡◌, ◌-◌, ◌+◌, ◌*◌, ◌/◌, ℕ, refl, ap, ◌∙◌, length, length-set, arith}
use Rattle.aes_core.specs.KeyExpansion.{key_words, round_key_words}
use Rattle.aes_core.proofs.KeyLemmas.{key_words_next, key_length_bounds}
use Rattle.aes_core.proofs.schedule.schedule.Goals as goal

pub loop-i-init : goal.loop-i-init
unfolding key_words
loop-i-init c =
    let none : length c.args.key.now / 4 - length c.args.key.now / 4 ≡ 0 = omega arith in
    (c.first_words-words.ensures.long, rw none c.first_words-words.ensures.words)

pub loop-i-preserved : goal.loop-i-preserved
loop-i-preserved c =
    let long : length c.loop-i.words ≡ 60 = c.loop-i.invariant.0 in (
      length-set _ _ _ ∙ long,
      key_words_next _ c.args.key.now c.loop-i.words c.loop-i.i _ c.key_step-step.result (omega (arith, key_length_bounds (length c.args.key.now) c.requires)) c.loop-i.auto.i
          (omega (arith, key_length_bounds (length c.args.key.now) c.requires)) c.loop-i.invariant.1 c.key_step-step.ensures refl,
    )

pub returns : goal.returns
unfolding round_key_words
returns c =
    let nk : ℕ = length c.args.key.now / 4 in
    let over : c.loop-i.i ≡ 4 * (nk + 7) = omega arith in
    let same : 4 * (nk + 7) - nk ≡ 4 * (nk + 6 + 1) - nk = omega arith in
    (rw over at c.loop-i.invariant.1) ∙ ap (key_words nk c.args.key.now) same
