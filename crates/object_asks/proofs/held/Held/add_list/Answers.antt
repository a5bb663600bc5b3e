use Rattle.std.proofs.Common.{◌≡◌, false, sym, subst}
use Rattle.std.proofs.lemmas.Bool.{leb-false}
use Rattle.object_asks.specs.Held.{Held}
use Rattle.object_asks.specs.Lists.{free_list, has_all_lists}
use Rattle.object_asks.proofs.HeldLemmas.{few_added}
use Rattle.object_asks.proofs.held.Held.add_list.Goals as goal

pub invariant_of-self : goal.invariant_of-self
invariant_of-self c =
    let ls = c.self.inside.lists.items in
    let some : has_all_lists ls c.args.instance ≡ false = subst (λ (h : Held). has_all_lists h.lists c.args.instance ≡ false) (sym c.self.view_is) c.requires in
    record {
      no_rename = c.self.invariant.no_rename;
      identifiers = c.self.invariant.identifiers;
      sole = c.self.invariant.sole;
      together = c.self.invariant.together;
      few_lists = few_added c.add.result c.args.instance (free_list ls c.args.instance) ls c.add.new.lists.items c.add.ensures.ok c.add.ensures.unchanged (leb-false _ _ some)
          c.self.invariant.few_lists;
    }
