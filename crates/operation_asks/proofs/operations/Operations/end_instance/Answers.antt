use Rattle.std.proofs.Common.{sym, subst}
use Rattle.std.proofs.Math.Logic.{∥∥₁_map}
use Rattle.operation_asks.specs.Past.{state_after}
use Rattle.operation_asks.specs.Represents.{Represents}
use Rattle.operation_asks.proofs.operations.Operations.end_instance.Goals as goal

pub invariant_of-self : goal.invariant_of-self
invariant_of-self c = record {
  follows = ∥∥₁_map c.args.self.now.follows (λ r. subst (λ p. Represents c.end_instance.new.self (state_after p)) (sym c.then.ensures) (c.end_instance.ensures _ r));
}
