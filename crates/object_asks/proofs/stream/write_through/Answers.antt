use Rattle.std.proofs.Common.{◌≡◌, ◌+◌, Err, length, refl, rules}
use Rattle.app_api.specs.declared.ask.Answer.TheVariants as answers
use Rattle.store_api.specs.declared.change.Change.TheVariants.{Write}
use Rattle.object_asks.specs.Asks.{written_by}
use Rattle.object_asks.specs.Serving.{objects_in}
use Rattle.object_asks.proofs.ChangeLemmas.{given_done, given_refused}
use Rattle.object_asks.proofs.stream.write_through.Goals as goal

pub returns-in_err-answer : goal.returns-in_err-answer
returns-in_err-answer g c =
    let t = g.T.AppStore.keeper in
    let held = c.args.held.now in
    let is : c.from_residual.result ≡ Err c.in_err-answer.field-0.0 = search rules in
    rw is (given_refused t g.met.T.AppStore.honest_model (Write c.args.id c.args.position c.args.bytes) c.args.store.now c.apply-answer.new.self c.in_err-answer.field-0.0
    (written_by (objects_in held (t.contents c.args.store.now)) c.args.instance c.args.object (c.args.position + length c.args.bytes)) held held held refl (λ store. refl) refl (λ _. refl)
    c.in_err-answer.ensures)

pub returns : goal.returns
returns g c =
    let t = g.T.AppStore.keeper in
    let held = c.args.held.now in
    rw c.done.ensures (given_done t g.met.T.AppStore.honest_model (Write c.args.id c.args.position c.args.bytes) c.args.store.now c.apply-answer.new.self _
    (written_by (objects_in held (t.contents c.args.store.now)) c.args.instance c.args.object (c.args.position + length c.args.bytes)) answers.Done held held c.seek.new.self (search rules)
    c.in_ok-answer.ensures)
