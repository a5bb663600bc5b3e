use Rattle.std.proofs.Common.{◌≡◌, ◌∙◌, Bool, List, ℕ, Result, Ok, Err, refl, rules, subst}
use Rattle.app_api.specs.declared.ask.Answer.TheVariants as answers
use Rattle.store_api.specs.declared.answer.StoreAnswer.{StoreAnswer}
use Rattle.store_api.specs.declared.change.Change.TheVariants.{Put}
use Rattle.store_api.specs.Keeping.{Applies, Keeper}
use Rattle.object_asks.specs.Asks.{created_by, kept_flags, overwrites, put_of}
use Rattle.object_asks.specs.Serving.{objects_in}
use Rattle.transient_obj.specs.declared.object_key.ObjectKey.{ObjectKey}
use Rattle.object_asks.proofs.ChangeLemmas.{given_done, given_refused}
use Rattle.object_asks.proofs.opening.create_closed.Goals as goal

-- the change that is made is the stated one
put_is : {D : Type 0} (K : Keeper D) (id content secret : List ℕ) (key : ObjectKey) (overwrite stated : Bool) (result : Result (Unit {0}) StoreAnswer) (old new : D) → secret ≡ key.secret
    → overwrite ≡ stated → Applies K (Put id key.kind key.usage secret content overwrite) result old new → Applies K (put_of id key content stated) result old new
put_is K id content secret key overwrite stated result old new same_secret same made =
    subst (λ (o : Bool). Applies K (put_of id key content o) result old new) same
    (subst (λ (s : List ℕ). Applies K (Put id key.kind key.usage s content overwrite) result old new) same_secret made)

pub returns-in-Ok : goal.returns-in-Ok
returns-in-Ok g c =
    let t = g.T.AppStore.keeper in
    let held = c.args.held.now in
    let key = c.args.key.now in
    given_done t g.met.T.AppStore.honest_model (put_of c.args.id key c.args.content (overwrites c.args.flags)) c.args.store.now c.apply-answer.new.self c.in-Ok.field-0
    (created_by (objects_in held (t.contents c.args.store.now)) c.args.instance c.args.id (kept_flags c.args.flags)) (answers.Number c.in_ok-number.number) held held c.add.new.self
    (search rules)
    (put_is t c.args.id c.args.content c.in_ok-secret.secret key c.has_bit.result (overwrites c.args.flags) (Ok c.in-Ok.field-0) c.args.store.now c.apply-answer.new.self
    (c.in_ok-secret.ensures ∙ c.as_slice.ensures.bytes) c.has_bit.ensures c.in-Ok.ensures)

pub returns-in-Err : goal.returns-in-Err
returns-in-Err g c =
    let t = g.T.AppStore.keeper in
    let held = c.args.held.now in
    let key = c.args.key.now in
    let same : c.close.new.self ≡ held = c.close.ensures ∙ c.in_ok-number.ensures.undone in
    given_refused t g.met.T.AppStore.honest_model (put_of c.args.id key c.args.content (overwrites c.args.flags)) c.args.store.now c.apply-answer.new.self c.in-Err.answer
    (created_by (objects_in held (t.contents c.args.store.now)) c.args.instance c.args.id (kept_flags c.args.flags)) held held c.close.new.self refl (λ store. refl) same (λ _. same)
    (put_is t c.args.id c.args.content c.in_ok-secret.secret key c.has_bit.result (overwrites c.args.flags) (Err c.in-Err.answer) c.args.store.now c.apply-answer.new.self
    (c.in_ok-secret.ensures ∙ c.as_slice.ensures.bytes) c.has_bit.ensures c.in-Err.ensures)
