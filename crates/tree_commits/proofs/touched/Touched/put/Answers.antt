use Rattle.std.proofs.Common.{◌≡◌, ◌<◌, ◌∙◌, [], length, get_or, drop, ap, sym, arith}
use Rattle.std.specs.Prelude.{reverse, slice_set}
use Rattle.std.proofs.lemmas.List.{get_or_default, take-append-le, take_all}
use Rattle.std.proofs.lemmas.List.Edits.{map_over_more}
use Rattle.tree_commits.specs.declared.touched.Node.{Node}
use Rattle.tree_commits.specs.Touched.{with_bytes}
use Rattle.tree_commits.proofs.TouchedLemmas.{all_put}
use Rattle.tree_commits.proofs.touched.Touched.put.Goals as goal

pub loop-node-preserved : goal.loop-node-preserved
loop-node-preserved c =
    let none : Node = record { place = 0; copy = 0; bytes = [] } in
    let items = c.loop-node.node-items in
    let i = c.loop-node.node-index in
    let within : i < length items = omega (arith, c.loop-node-test.true, c.loop-node.auto.node-items) in
    ap (λ (n : Node). slice_set items i n) c.patch.ensures
    ∙ map_over_more (with_bytes c.args.place c.args.at c.args.bytes.now) c.deref_mut-node-items.result.now items i (get_or items i none) c.loop-node-test.true c.loop-node.invariant
    (get_or_default items i none (get_or items i none) within)

pub returns : goal.returns
returns c =
    let items = c.loop-node.node-items in
    let count = c.self.inside.nodes.len in
    let long : length items ≡ count = c.loop-node.auto.node-items ∙ c.deref_mut-node-items.ensures.len in
    ap reverse (take-append-le count items (drop (length items) c.self.inside.nodes.items) (omega (arith, long)) ∙ take_all count items (omega (arith, long)))
    ∙ all_put c.args.place c.args.at c.args.bytes.now c.deref_mut-node-items.result.now items c.args.self.now c.loop-node.node-index c.loop-node-test.false
    c.loop-node.invariant (sym c.self.view_is ∙ ap reverse (sym c.deref_mut-node-items.ensures.value))
