use Rattle.std.proofs.Common.{◌≡◌, Err, refl, rules}
use Rattle.app_api.specs.declared.ask.Answer.TheVariants as answers
use Rattle.store_api.specs.declared.change.Change.TheVariants.{Truncate}
use Rattle.object_asks.specs.Asks.{truncated_by}
use Rattle.object_asks.specs.Serving.{objects_in}
use Rattle.object_asks.proofs.ChangeLemmas.{given_done, given_refused}
use Rattle.object_asks.proofs.stream.truncate_through.Goals as goal

pub returns-in_err-answer : goal.returns-in_err-answer
returns-in_err-answer g c =
    let t = g.T.AppStore.keeper in
    let held = c.args.held.now in
    let is : c.from_residual.result ≡ Err c.in_err-answer.field-0.0 = search rules in
    rw is (given_refused t g.met.T.AppStore.honest_model (Truncate c.args.id c.args.length) c.args.store.now c.apply-answer.new.self c.in_err-answer.field-0.0
    (truncated_by (objects_in held (t.contents c.args.store.now))) held held held refl (λ store. refl) refl (λ _. refl) c.in_err-answer.ensures)

pub returns : goal.returns
returns g c =
    let t = g.T.AppStore.keeper in
    let held = c.args.held.now in
    rw c.done.ensures (given_done t g.met.T.AppStore.honest_model (Truncate c.args.id c.args.length) c.args.store.now c.apply-answer.new.self _
    (truncated_by (objects_in held (t.contents c.args.store.now))) answers.Done held held held refl c.in_ok-answer.ensures)
