use Rattle.std.proofs.Common.{sym, subst}
use Rattle.std.proofs.Math.Logic.{∥∥₁_elim, ∥∥₁_map}
use Rattle.std.specs.Coded.{Coded-set}
use Rattle.operation_asks.specs.contracts.outcome.Outcome.{the_row}
use Rattle.operation_asks.specs.Kept.{state_of}
use Rattle.operation_asks.specs.Past.{key_effect, state_after}
use Rattle.operation_asks.specs.Represents.{Represents}
use Rattle.operation_asks.proofs.operations.Operations.set_key.Goals as goal

pub invariant_of-self : goal.invariant_of-self
invariant_of-self c = record {
  follows = ∥∥₁_map c.args.self.now.follows (λ r.
      subst (λ p. Represents c.set_key-outcome.new.self (state_after p)) (sym c.then.ensures)
      (subst (λ g. Represents c.set_key-outcome.new.self (key_effect (state_of c.args.self.now) c.args.instance c.args.op g).after) (sym c.of.ensures)
      (c.set_key-outcome.ensures _ r).leaves));
}

pub returns-clause-told : goal.returns-clause-told
returns-clause-told c = ∥∥₁_elim c.args.self.now.follows (Coded-set the_row.coded _ _) (λ r. (c.set_key-outcome.ensures _ r).told_is)
