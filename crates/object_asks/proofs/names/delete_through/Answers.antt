use Rattle.std.proofs.Common.{ap, sym}
use Rattle.app_api.specs.declared.ask.Answer.TheVariants as answers
use Rattle.store_api.specs.declared.change.Change.TheVariants.{Delete}
use Rattle.object_asks.specs.Asks.{Answered, deleted_by, with_held}
use Rattle.object_asks.specs.Held.{Held, handle_closed}
use Rattle.object_asks.specs.Serving.{objects_in}
use Rattle.object_asks.proofs.ChangeLemmas.{given_done}
use Rattle.object_asks.proofs.names.delete_through.Goals as goal

pub returns-in-Ok : goal.returns-in-Ok
returns-in-Ok g c =
    let t = g.T.AppStore.keeper in
    let held = c.args.held.now in
    let kept = handle_closed held c.args.instance c.args.object in
    rw c.done.ensures (given_done t g.met.T.AppStore.honest_model (Delete c.args.id) c.args.store.now c.apply-answer.new.self c.in-Ok.field-0
    (deleted_by (with_held (objects_in held (t.contents c.args.store.now)) kept)) answers.Done held kept c.close.new.self
    (ap (λ (h : Held). Answered (objects_in h (t.contents c.apply-answer.new.self)) answers.Done) (sym c.close.ensures)) c.in-Ok.ensures)
