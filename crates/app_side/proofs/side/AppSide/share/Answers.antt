use Rattle.std.proofs.Common.{List, ap, subst}
use Rattle.shared_mem.specs.Blocks.{share_of}
use Rattle.shared_mem.specs.declared.block.Block.{Block}
use Rattle.alone.specs.Machine.{Machine}
use Rattle.alone.specs.Step.{Stepped}
use Rattle.app_side.specs.Represents.{called_of, machine_of, IsCalled}
use Rattle.app_side.proofs.BlockLemmas.{none_told, shared, with_blocks}
use Rattle.app_side.proofs.Torn.{on_err_any}
use Rattle.app_side.proofs.side.AppSide.share.Goals as goal

pub returns-in_err-code-clause-err : goal.returns-in_err-code-clause-err
returns-in_err-code-clause-err g c =
    on_err_any c.from_residual.result
    (ap (λ (bs : List Block). with_blocks (machine_of c.args.self.now) bs) (none_told c.share.result c.share.ensures.unchanged c.in_err-code.ensures.err))

pub returns-clause-ok : goal.returns-clause-ok
returns-clause-ok g c =
    let m : Machine g.row.A.Denot = machine_of c.args.self.now in
    subst (λ (s : Stepped g.row.A.Denot). IsCalled c.answer_at_once.new.self (called_of c.answer_at_once.result) m.queue.next s)
    (shared m (share_of m.blocks c.args.client c.args.block c.args.flags c.args.size) c.share.result c.share.new.self c.in_ok-code.code c.share.ensures.shared c.share.ensures.refused
    c.share.ensures.unchanged c.in_ok-code.ensures.ok) c.answer_at_once.ensures
