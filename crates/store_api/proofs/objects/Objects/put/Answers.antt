use Rattle.std.proofs.Common.{◌≡◌, ◌∙◌, ℕ, Bool, false, cond, not, nat_le, List, Result, Ok, Err, refl, sym, ap, rules}
use Rattle.std.specs.Prelude.{◌&&◌}
use Rattle.std.specs.FinMap as finite
use Rattle.store_api.specs.declared.object.Object.{Object}
use Rattle.store_api.specs.declared.answer.StoreAnswer.{StoreAnswer}
use Rattle.store_api.specs.declared.answer.StoreAnswer.TheVariants.{Exists, NoSpace}
use Rattle.store_api.specs.declared.change.Change.TheVariants.{Put}
use Rattle.store_api.specs.Stores.{Store, change, cost, has, quota, within_quota}
use Rattle.store_api.proofs.objects.Objects.put.Goals as goal

-- nothing stands in the way, and the quota doesn't pay it
too_dear : (store : Store) (id : List ℕ) (o : Object) (overwrite : Bool) → (has store id && not overwrite) ≡ false → nat_le (cost (finite.insert store id o)) quota ≡ false →
    change store (Put id o.kind o.usage o.secret o.content overwrite) ≡ Err NoSpace
unfolding change
too_dear store id o overwrite free dear =
    let kept : Result Store StoreAnswer = Ok (finite.insert store id o) in
    let refused : Result Store StoreAnswer = Err NoSpace in
    ap (λ (b : Bool). within_quota (cond b (Err Exists) kept)) free ∙ ap (λ (b : Bool). cond b kept refused) dear

pub returns-then-not-has_room : goal.returns-then-not-has_room
returns-then-not-has_room c =
    let o : Object = record { kind = c.args.kind; usage = c.args.usage; secret = c.args.secret.now; content = c.args.content.now } in
    let free : (has c.args.self.now c.args.id.now && not c.args.overwrite) ≡ false = search rules in
    let dear : nat_le (cost (finite.insert c.args.self.now c.args.id.now o)) quota ≡ false =
    sym (ap (λ (id : List ℕ). nat_le (cost (finite.insert c.args.self.now id o)) quota) c.as_slice-2.ensures) ∙ sym (c.has_room.ensures o (sym c.len.ensures)) ∙ c.if-not-has_room.true in
    (too_dear c.args.self.now c.args.id.now o c.args.overwrite free dear, refl)
