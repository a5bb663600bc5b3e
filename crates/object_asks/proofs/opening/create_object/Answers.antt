use Rattle.std.proofs.Common.{rules}
use Rattle.std.proofs.Common.{◌≡◌, ◌∙◌, ℕ, List, sym, subst, true}
use Rattle.handle_table.specs.Handles.{is_open}
use Rattle.object_asks.specs.Handles.{without_rename}
use Rattle.object_asks.proofs.opening.create_object.Goals as goal

pub returns-then-is_open : goal.returns-then-is_open
returns-then-is_open g c =
    let e : is_open (without_rename c.args.held.now.handles) c.args.id ≡ true = subst (λ (id : List ℕ). is_open (without_rename c.args.held.now.handles) id ≡ true) c.as_slice.ensures
    (sym c.is_open.ensures ∙ c.if-is_open.true) in
    rw e (c.conflict.ensures c.args.held.now)

pub create_closed-requires-clause-closed : goal.create_closed-requires-clause-closed
create_closed-requires-clause-closed g c = search rules
