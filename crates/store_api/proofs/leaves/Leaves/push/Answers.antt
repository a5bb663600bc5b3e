use Rattle.std.proofs.Common.{◌≡◌, ◌++◌, ◌∙◌, [], ◌∷◌, true, List, subst, sym, ap}
use Rattle.store_api.specs.declared.leaves.Leaf.{Leaf}
use Rattle.store_api.specs.Ascending.{is_above_all, is_ascending}
use Rattle.store_api.proofs.Ascends.{ascending-push}
use Rattle.store_api.proofs.leaves.Leaves.push.Goals as goal

pub invariant_of-self-2 : goal.invariant_of-self-2
invariant_of-self-2 c =
    let above : is_above_all c.self.inside.items.items c.args.leaf.number ≡ true = ap (λ (leaves : List Leaf). is_above_all leaves c.args.leaf.number) c.self.view_is ∙ c.requires in
    ap is_ascending c.in_ok-push.ensures.items ∙ ascending-push c.self.inside.items.items c.args.leaf c.self.invariant above
