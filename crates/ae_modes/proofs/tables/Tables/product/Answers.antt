use Rattle.std.proofs.Common.{◌≡◌, ℕ, ◌*◌, ◌∙◌, ap, arith, refl}
use Rattle.std.proofs.lemmas.Nat.{and_mask}
use Rattle.ae_modes.specs.Field.{sum_of_powers, product}
use Rattle.ae_modes.proofs.FieldLemmas.{product_more, rest_more}
use Rattle.ae_modes.proofs.tables.Tables.product.Goals as goal

pub loop-k-init : goal.loop-k-init
unfolding sum_of_powers
loop-k-init c = record {
  rest_is = omega arith;
  sum_is = λ h is. refl;
}

pub loop-k-preserved : goal.loop-k-preserved
loop-k-preserved c = record {
  rest_is = rest_more c.args.block c.loop-k.rest c.loop-k._k c.loop-k.invariant.rest_is;
  sum_is = λ h is.
      product_more c.args.block h c.loop-k._k c.loop-k.rest c.loop-k.sum c.times_word.result c.times_bits.result
      c.loop-k.invariant.rest_is (c.loop-k.invariant.sum_is h is) c.times_word.ensures
      (c.times_bits.ensures h is ∙ ap (λ (z : ℕ). sum_of_powers 16 z h) (and_mask c.loop-k.rest 16));
}

pub returns : goal.returns
unfolding product
returns c = λ h is.
    c.loop-k.invariant.sum_is h is
    ∙ ap (λ (n : ℕ). sum_of_powers n c.args.block h) (let all : 16 * c.loop-k._k ≡ 128 = omega arith in all)
