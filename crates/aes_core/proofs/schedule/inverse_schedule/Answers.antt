use Rattle.std.proofs.Common.{◌≡◌, ◌<◌, ◌≢◌, ◌∙◌, length, length-set, arith, below_more, get_or-set_other, get_or-set_same}
use Rattle.aes_core.proofs.schedule.inverse_schedule.Goals as goal

pub loop-i-preserved : goal.loop-i-preserved
loop-i-preserved c =
    let long : length c.loop-i.inverse ≡ 60 = c.loop-i.invariant.0 in
    let lt : c.loop-i.i < length c.loop-i.inverse = omega arith in (
      length-set _ _ _ ∙ long,
      below_more _ _
          (λ k h. let ne : k ≢ c.loop-i.i = omega arith in rw get_or-set_other (c.loop-i.invariant.1 k h))
          (rw get_or-set_same c.inverse_mixed_word.ensures),
    )
