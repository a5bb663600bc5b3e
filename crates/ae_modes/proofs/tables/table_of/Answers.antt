use Rattle.std.proofs.Common.{◌≢◌, ◌<◌, length, arith, rules, below_more, get_or-set_other, get_or-set_same}
use Rattle.ae_modes.proofs.tables.table_of.Goals as goal

pub loop-i-preserved : goal.loop-i-preserved
loop-i-preserved c = record {
  long = search rules;
  entries =
      below_more _ _
      (λ k h. let other : k ≢ c.loop-i.i = omega arith in rw get_or-set_other (c.loop-i.invariant.entries k h))
      (let within : c.loop-i.i < length c.loop-i.table = omega (arith, c.loop-i.invariant.long) in rw get_or-set_same c.entry.ensures);
}

pub returns : goal.returns
returns c = record { entry_is = λ k h. c.loop-i.invariant.entries k (omega arith) }
