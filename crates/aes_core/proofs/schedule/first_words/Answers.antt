use Rattle.std.proofs.Common.{◌≡◌, ◌∙◌, refl, length, length-set, arith}
use Rattle.aes_core.specs.KeyExpansion.{first_words}
use Rattle.aes_core.proofs.KeyLemmas.{first_words_next}
use Rattle.aes_core.proofs.schedule.first_words.Goals as goal

pub loop-i-init : goal.loop-i-init
unfolding first_words
loop-i-init c = (refl, refl)

pub loop-i-preserved : goal.loop-i-preserved
loop-i-preserved c =
    let long : length c.loop-i.words ≡ 60 = c.loop-i.invariant.0 in (
      length-set _ _ _ ∙ long,
      first_words_next c.args.key.now c.loop-i.words c.loop-i.i c.word_at.result c.loop-i.invariant.1 (omega arith) c.word_at.ensures,
    )
