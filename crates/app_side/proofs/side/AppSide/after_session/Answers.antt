use Rattle.std.proofs.Common.{◌≡◌, ◌∙◌, Bool, true, false, cond, Option, option_map, sym, ap, subst}
use Rattle.tee_base.specs.declared.codes.Origin.TheVariants.{App}
use Rattle.instances.specs.Instances.{is_left}
use Rattle.alone.specs.declared.reply.Reply.{Reply}
use Rattle.alone.specs.Machine.{Machine}
use Rattle.alone.specs.Step.{after_answer, after_destroy_begins, no_replies, reply_of}
use Rattle.alone.proofs.Lists.{found_number}
use Rattle.app_side.specs.Represents.{IsTurned, machine_of}
use Rattle.app_side.proofs.side.AppSide.after_session.Goals as goal

pub returns-then-is_left : goal.returns-then-is_left
returns-then-is_left g c inst found =
    let m : Machine g.row.A.Denot = machine_of c.args.self.now in
    let reply : Option Reply = option_map (λ n. reply_of n c.args.code App c.args.outputs) c.args.op in
    let number = found_number c.args.number c.args.self.now.instances.items inst found in
    let left : true ≡ is_left m.table inst.number = c.if-is_left.ensures ∙ ap (is_left m.table) (sym number) in
    subst (λ (b : Bool). IsTurned c.destroy.new.self c.args.replies.now (cond b (no_replies (after_destroy_begins m inst c.args.op reply))
    (after_answer m inst c.args.op c.args.code c.args.outputs))) left
    (record { machine = c.destroy.ensures inst found ∙ ap (after_destroy_begins m inst c.args.op) c.reply_to.ensures; replies = c.requires.none })

pub returns : goal.returns
returns g c inst found =
    let m : Machine g.row.A.Denot = machine_of c.args.self.now in
    let reply : Option Reply = option_map (λ n. reply_of n c.args.code App c.args.outputs) c.args.op in
    let number = found_number c.args.number c.args.self.now.instances.items inst found in
    let left : false ≡ is_left m.table inst.number = c.if-is_left.ensures ∙ ap (is_left m.table) (sym number) in
    subst (λ (b : Bool). IsTurned c.answer.new.self c.answer.new.replies (cond b (no_replies (after_destroy_begins m inst c.args.op reply))
    (after_answer m inst c.args.op c.args.code c.args.outputs))) left
    (c.answer.ensures inst found)
