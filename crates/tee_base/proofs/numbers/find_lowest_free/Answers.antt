use Rattle.std.proofs.Common.{arith, refl, sym, ap, ◌∙◌, ◌+◌, ◌-◌, length}
use Rattle.tee_base.specs.Numbers.{first_free, lowest_free}
use Rattle.tee_base.proofs.LowestFree.{first_free-end, first_free-here, first_free-next}
use Rattle.tee_base.proofs.numbers.find_lowest_free.Goals as goal

pub loop-init : goal.loop-init
unfolding lowest_free
loop-init c = record { number = refl; rest = ap (λ k. first_free k 1 c.args.taken.now) (omega arith) }

pub returns : goal.returns
returns c = sym (c.loop.invariant.rest ∙ first_free-end (length c.args.taken.now - c.loop.counter) c.loop.number c.args.taken.now (omega arith))

pub returns-then-not-is_taken : goal.returns-then-not-is_taken
returns-then-not-is_taken c = sym (c.loop.invariant.rest ∙ first_free-here (length c.args.taken.now - c.loop.counter) c.loop.number c.args.taken.now (omega arith)
    (sym c.is_taken.ensures ∙ c.if-not-is_taken.true))

pub loop-preserved : goal.loop-preserved
loop-preserved c = record {
  number = omega arith;
  rest = c.loop.invariant.rest ∙ first_free-next (length c.args.taken.now - c.loop.counter) (length c.args.taken.now - (c.loop.counter + 1)) c.loop.number c.args.taken.now
      (omega arith) (sym c.is_taken.ensures ∙ c.if-not-is_taken.false);
}
