use Rattle.std.proofs.Common.{ℕ, List, Ok, subst, rules, false, refl, ◌≡◌, Err}
use Rattle.store_api.specs.Stores.{Store, read_at}
use Rattle.object_asks.specs.Asks.{read_by}
use Rattle.store_api.specs.Keeping.{Reads}
use Rattle.store_api.specs.Limits.{IsPart}
use Rattle.object_asks.specs.Serving.{objects_in}
use Rattle.object_asks.proofs.GivenLemmas.{given_found, given_refusal}
use Rattle.object_asks.proofs.stream.read_on.Goals as goal

pub returns-in_err-bytes : goal.returns-in_err-bytes
returns-in_err-bytes g c =
    let t = g.T.AppStore.keeper in
    let before = objects_in c.args.held.now (t.contents c.args.store.now) in
    let is : c.from_residual.result ≡ Err c.in_err-bytes.field-0.0 = search rules in
    rw is (given_refusal t g.met.T.AppStore.honest_model (λ (store : Store). read_at store c.args.id c.args.position c.args.count) _ c.args.store.now c.read.new.self
    c.in_err-bytes.field-0.0 (read_by before c.args.instance c.args.object c.args.position) false c.args.held.now refl
    (subst (λ (id : List ℕ). Reads t (λ (store : Store). read_at store id c.args.position c.args.count) (IsPart c.args.count) (Err c.in_err-bytes.field-0.0)
    c.args.store.now c.read.new.self) c.as_slice.ensures c.in_err-bytes.ensures))

pub returns : goal.returns
returns g c =
    let t = g.T.AppStore.keeper in
    let before = objects_in c.args.held.now (t.contents c.args.store.now) in
    given_found t g.met.T.AppStore.honest_model (λ (store : Store). read_at store c.args.id c.args.position c.args.count) _ c.args.store.now c.read.new.self
    c.in_ok-bytes.bytes (read_by before c.args.instance c.args.object c.args.position) false _ c.args.held.now c.seek.new.self (search rules)
    (subst (λ (id : List ℕ). Reads t (λ (store : Store). read_at store id c.args.position c.args.count) (IsPart c.args.count) (Ok c.in_ok-bytes.bytes)
    c.args.store.now c.read.new.self) c.as_slice.ensures c.in_ok-bytes.ensures)
