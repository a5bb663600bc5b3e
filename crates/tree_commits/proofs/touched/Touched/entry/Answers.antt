use Rattle.std.proofs.Common.{◌*◌, ◌∙◌, [], List, get_or, refl, ap}
use Rattle.std.specs.Prelude.{option_map, reverse}
use Rattle.std.proofs.lemmas.List.{take_all}
use Rattle.epoch.specs.Header.{entry_at}
use Rattle.tree_commits.specs.declared.touched.Node.{Node}
use Rattle.tree_commits.specs.Touched.{fresh_of}
use Rattle.tree_commits.proofs.GatherLemmas.{newer_step}
use Rattle.tree_commits.proofs.touched.Touched.entry.Goals as goal

pub loop-node-preserved : goal.loop-node-preserved
loop-node-preserved c =
    let none : Node = record { place = 0; copy = 0; bytes = [] } in
    let items = c.deref-node-items.result.now in
    newer_step items c.loop-node.node-index c.args.place c.args.slot c.loop-node.found _ (get_or items c.loop-node.node-index none) none c.loop-node-test.true refl
    c.loop-node.invariant c.newer-found.ensures

pub returns : goal.returns
returns c =
    let items = c.deref-node-items.result.now in
    c.loop-node.invariant
    ∙ ap (λ (l : List Node). option_map (entry_at (64 * c.args.slot)) (fresh_of l c.args.place))
    (ap reverse (take_all c.loop-node.node-index items c.loop-node-test.false ∙ c.deref-node-items.ensures.value) ∙ c.self.view_is)
