use Rattle.std.proofs.Common.{sym, subst}
use Rattle.std.proofs.Math.Logic.{∥∥₁_elim, ∥∥₁_map}
use Rattle.std.specs.Coded.{Coded-set}
use Rattle.operation_asks.specs.contracts.outcome.CryptoOutcome.{the_row}
use Rattle.app_api.specs.declared.ask.Ask.{Ask}
use Rattle.operation_asks.specs.Asks.{operation_resolution}
use Rattle.operation_asks.specs.Kept.{state_of}
use Rattle.operation_asks.specs.Past.{state_after}
use Rattle.operation_asks.specs.Represents.{Represents, left_by}
use Rattle.operation_asks.proofs.operations.Operations.serve.Goals as goal

pub invariant_of-self : goal.invariant_of-self
invariant_of-self c = record { follows = ∥∥₁_map c.args.self.now.follows (λ r. c.in_err-told.ensures.want _ r) }

pub invariant_of-self-2 : goal.invariant_of-self-2
invariant_of-self-2 c = record {
  follows = ∥∥₁_map c.args.self.now.follows (λ r.
      subst (λ p. Represents c.serve-told.new.self (state_after p)) (sym c.then.ensures)
      (subst (λ (ask : Ask). Represents c.serve-told.new.self (left_by (state_of c.args.self.now) (operation_resolution (state_of c.args.self.now) c.args.instance ask))) (sym c.of.ensures)
      (c.in_ok-told.ensures.served _ r).leaves));
}

pub returns-clause-told : goal.returns-clause-told
returns-clause-told c = ∥∥₁_elim c.args.self.now.follows (Coded-set the_row.coded _ _) (λ r. (c.in_ok-told.ensures.served _ r).told_is)
