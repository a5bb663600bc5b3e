use Rattle.std.proofs.Common.{◌≡◌, ℕ, List, Result, Err, rules, sym, subst}
use Rattle.tee_base.specs.declared.codes.Code.{Code}
use Rattle.shared_mem.specs.declared.answer.BlockAnswer.TheVariants.{Refused}
use Rattle.alone.specs.Step.{block_shown}
use Rattle.app_side.specs.Represents.{called_of, machine_of, IsCalled}
use Rattle.app_side.proofs.side.AppSide.show.Goals as goal

pub returns-in-Err-Refused-clause-ok : goal.returns-in-Err-Refused-clause-ok
returns-in-Err-Refused-clause-ok g c =
    let told : c.show.result ≡ Err (Refused c.in-Err-Refused.code) = search rules in
    subst (λ (r : Result (List ℕ) Code). IsCalled c.answer_at_once.new.self (called_of c.answer_at_once.result) c.args.self.now.queue.next (block_shown (machine_of c.args.self.now) r))
    (sym ((c.show.ensures.refused c.in-Err-Refused.code).0 told)) c.answer_at_once.ensures
