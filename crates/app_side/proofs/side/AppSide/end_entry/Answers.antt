use Rattle.std.proofs.Common.{◌≡◌, ◌∙◌, Some, find, ap, sym, subst}
use Rattle.instances.specs.Instances.{Table}
use Rattle.tee_base.specs.declared.codes.TheConstants.Code.{SUCCESS}
use Rattle.alone.specs.Replies.{no_outputs}
use Rattle.alone.specs.declared.reply.Outputs.{Outputs}
use Rattle.alone.specs.declared.active_entry.EntryPoint.{EntryPoint}
use Rattle.alone.specs.Machine.{Machine, is_number}
use Rattle.alone.specs.Step.{after_session, after_answer, after_return, after_start, with_delivery}
use Rattle.app_side.specs.declared.side.AppSide.{AppSide}
use Rattle.app_side.specs.Represents.{IsTurned, machine_of}
use Rattle.app_side.proofs.side.AppSide.end_entry.Goals as goal

pub returns-in-Start-clause-ok : goal.returns-in-Start-clause-ok
returns-in-Start-clause-ok g c inst found numbered =
    let m : Machine g.row.A.Denot = machine_of c.args.self.now in
    let op = c.args.op in
    let code = c.args.ending.code in
    let found_in : find (is_number c.args.number) c.deliver_to_blocks.new.self.instances.items ≡ Some inst =
    ap (λ (s : AppSide g.row.A.Denot). find (is_number c.args.number) s.instances.items) c.deliver_to_blocks.ensures ∙ found in
    subst (λ (stage : EntryPoint). IsTurned c.end_start.new.self c.end_start.new.replies (after_return m inst op stage code c.args.ending.outs)) (sym c.in-Start.is)
    (subst (λ (os : Outputs). IsTurned c.end_start.new.self c.end_start.new.replies (after_start (with_delivery m op os) inst op c.in-Start.session code os)) c.deliver-outputs.ensures
    (subst (λ (x : Machine g.row.A.Denot). IsTurned c.end_start.new.self c.end_start.new.replies (after_start x inst op c.in-Start.session code c.deliver-outputs.result))
    (ap (λ (s : AppSide g.row.A.Denot). machine_of s) c.deliver_to_blocks.ensures) (c.end_start.ensures inst found_in)))

pub returns-in-Invoke-clause-ok : goal.returns-in-Invoke-clause-ok
returns-in-Invoke-clause-ok g c inst found numbered =
    let m : Machine g.row.A.Denot = machine_of c.args.self.now in
    let op = c.args.op in
    let code = c.args.ending.code in
    let found_in : find (is_number c.args.number) c.deliver_to_blocks-in-Invoke.new.self.instances.items ≡ Some inst =
    ap (λ (s : AppSide g.row.A.Denot). find (is_number c.args.number) s.instances.items) c.deliver_to_blocks-in-Invoke.ensures ∙ found in
    subst (λ (stage : EntryPoint). IsTurned c.answer.new.self c.answer.new.replies (after_return m inst op stage code c.args.ending.outs)) (sym c.in-Invoke.is)
    (subst (λ (os : Outputs). IsTurned c.answer.new.self c.answer.new.replies (after_answer (with_delivery m op os) inst op code os)) c.deliver-outputs-in-Invoke.ensures
    (subst (λ (x : Machine g.row.A.Denot). IsTurned c.answer.new.self c.answer.new.replies (after_answer x inst op code c.deliver-outputs-in-Invoke.result))
    (ap (λ (s : AppSide g.row.A.Denot). machine_of s) c.deliver_to_blocks-in-Invoke.ensures) (c.answer.ensures inst found_in)))

pub returns-in-Stop-clause-ok : goal.returns-in-Stop-clause-ok
returns-in-Stop-clause-ok g c inst found numbered =
    let m : Machine g.row.A.Denot = machine_of c.args.self.now in
    subst (λ (stage : EntryPoint). IsTurned c.after_session.new.self c.after_session.new.replies (after_return m inst c.args.op stage c.args.ending.code c.args.ending.outs)) (sym c.in-Stop.is)
    (subst (λ (t : Table). IsTurned c.after_session.new.self c.after_session.new.replies (after_session (record m { table = t }) inst c.args.op SUCCESS no_outputs)) c.remove.ensures
    (subst (λ (o : Outputs). IsTurned c.after_session.new.self c.after_session.new.replies (after_session (record m { table = c.remove.new.self }) inst c.args.op SUCCESS o))
    c.nothing-outputs.ensures (c.after_session.ensures inst found)))
