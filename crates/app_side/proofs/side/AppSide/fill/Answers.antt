use Rattle.std.proofs.Common.{◌∙◌, ℕ, List, ap, subst}
use Rattle.shared_mem.specs.Blocks.{fill_of}
use Rattle.alone.specs.Machine.{Machine}
use Rattle.alone.specs.Step.{Stepped, memory_done}
use Rattle.app_side.specs.Represents.{called_of, machine_of, IsCalled}
use Rattle.app_side.proofs.BlockLemmas.{changed, takes_none}
use Rattle.app_side.proofs.side.AppSide.fill.Goals as goal

pub returns-in_err-code-clause-err : goal.returns-in_err-code-clause-err
returns-in_err-code-clause-err g c = absurd (takes_none _ _ c.fill-answer.ensures.answer c.in_err-code.ensures.err)

pub returns-clause-ok : goal.returns-clause-ok
returns-clause-ok g c =
    let m : Machine g.row.A.Denot = machine_of c.args.self.now in
    subst (λ (s : Stepped g.row.A.Denot). IsCalled c.answer_at_once.new.self (called_of c.answer_at_once.result) m.queue.next s)
    (changed m _ _ c.fill-answer.new.self c.in_ok-code.code c.fill-answer.ensures.answer c.fill-answer.ensures.blocks c.in_ok-code.ensures.ok
    ∙ ap (λ (bytes : List ℕ). memory_done m (fill_of m.blocks c.args.client c.args.block c.args.at bytes)) c.as_slice.ensures) c.answer_at_once.ensures
