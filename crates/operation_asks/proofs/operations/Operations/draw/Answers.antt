use Rattle.std.proofs.Common.{sym, subst}
use Rattle.std.proofs.Math.Logic.{∥∥₁_elim, ∥∥₁_map}
use Rattle.std.specs.Coded.{Coded-set, coded_list, coded_ℕ}
use Rattle.operation_asks.specs.Past.{state_after}
use Rattle.operation_asks.specs.Represents.{Represents}
use Rattle.operation_asks.proofs.operations.Operations.draw.Goals as goal

pub invariant_of-self : goal.invariant_of-self
invariant_of-self c = record { follows = ∥∥₁_map c.args.self.now.follows (λ r. c.in_err-bytes.ensures.want _ r) }

pub invariant_of-self-2 : goal.invariant_of-self-2
invariant_of-self-2 c = record {
  follows = ∥∥₁_map c.args.self.now.follows (λ r. subst (λ p. Represents c.draw.new.self (state_after p)) (sym c.then.ensures) (c.in_ok-bytes.ensures.moved _ r));
}

pub returns-clause-bytes : goal.returns-clause-bytes
returns-clause-bytes c = ∥∥₁_elim c.args.self.now.follows (Coded-set (coded_list coded_ℕ) _ _) (λ r. c.in_ok-bytes.ensures.bytes _ r)
