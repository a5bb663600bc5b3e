use Rattle.std.proofs.Common.{◌∙◌, Bool, ap, subst}
use Rattle.shared_mem.specs.Blocks.{unshare_of}
use Rattle.alone.specs.Machine.{Machine}
use Rattle.alone.specs.Step.{Stepped, memory_done}
use Rattle.app_side.specs.Represents.{called_of, machine_of, IsCalled}
use Rattle.app_side.proofs.BlockLemmas.{changed, takes_none}
use Rattle.app_side.proofs.side.AppSide.unshare.Goals as goal

pub returns-in_err-code-clause-err : goal.returns-in_err-code-clause-err
returns-in_err-code-clause-err g c = absurd (takes_none _ _ c.unshare.ensures.answer c.in_err-code.ensures.err)

pub returns-clause-ok : goal.returns-clause-ok
returns-clause-ok g c =
    let m : Machine g.row.A.Denot = machine_of c.args.self.now in
    subst (λ (s : Stepped g.row.A.Denot). IsCalled c.answer_at_once.new.self (called_of c.answer_at_once.result) m.queue.next s)
    (changed m _ _ c.unshare.new.self c.in_ok-code.code c.unshare.ensures.answer c.unshare.ensures.blocks c.in_ok-code.ensures.ok
    ∙ ap (λ (named : Bool). memory_done m (unshare_of m.blocks c.args.client c.args.block named)) c.is_named-named.ensures) c.answer_at_once.ensures
