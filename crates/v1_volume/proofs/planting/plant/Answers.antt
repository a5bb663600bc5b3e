use Rattle.std.proofs.Common.{◌≡◌, ◌≢◌, ◌∷◌, ◌∙◌, ℕ, List, None, Some, IsSome, length, refl, ap, subst, arith, rules}
use Rattle.tree_commits.specs.Gather.{IsPushed}
use Rattle.tree_commits.specs.Touched.{AreOrdered, fresh_of}
use Rattle.tree_commits.specs.declared.touched.Node.{Node}
use Rattle.tree_commits.proofs.GatherLemmas.{on_ok, order_pushed, ordered, pushed_other, pushed_there}
use Rattle.tree_commits.proofs.TouchedLemmas.{fresh_head}
use Rattle.tree_paths.specs.Shape.{shape}
use Rattle.tree_paths.specs.Shapes.{is_shape}
use Rattle.tree_paths.specs.Ways.{above}
use Rattle.v1_volume.specs.Planting.{AreBlank}
use Rattle.v1_volume.proofs.PlantLemmas.{blank_pushed, pushed_as}
use Rattle.v1_volume.proofs.planting.plant.Goals as goal

pub returns-clause-ordered : goal.returns-clause-ordered
returns-clause-ordered c =
    let place : ℕ = c.leaf_place-place.result in
    let leaf : ℕ = shape.leaf_place c.args.region c.args.leaf.now.number in
    let same : place ≡ leaf = c.leaf_place-place.ensures.place in
    let node : Node = record { place = place; copy = 1; bytes = c.args.leaf.now.bytes } in
    let up = above shape is_shape 3 place c.leaf_place-place.ensures.below c.leaf_place-place.ensures.level in
    let long : length c.args.leaf.now.bytes ≡ 1024 = search rules in
    let none : fresh_of c.hold.new.touched place ≡ None
    = c.in_ok-hold.ensures.deeper place (omega (arith, c.leaf_place-place.ensures.level)) ∙ ap (fresh_of c.args.touched.now) same ∙ c.requires.new in
    let has : IsSome (fresh_of c.hold.new.touched (shape.parent place)) = subst (λ (q : ℕ). IsSome (fresh_of c.hold.new.touched q)) c.parent-above.ensures c.in_ok-hold.ensures.held in
    on_ok c.push.result (c.push.new.self ≡ node ∷ c.hold.new.touched) (AreOrdered shape c.push.new.self)
    (λ is.
    (let pushed : IsPushed place 1 c.hold.new.touched c.push.new.self = pushed_as place node c.hold.new.touched c.push.new.self refl long is in
    ordered shape place c.push.new.self
    (order_pushed place 1 c.hold.new.touched c.push.new.self pushed shape c.in_ok-hold.ensures.gathered up.2 c.leaf_place-place.ensures.below none has)
    (pushed_there place 1 c.hold.new.touched c.push.new.self pushed)))
    c.push.ensures.ok

pub returns-clause-blank : goal.returns-clause-blank
returns-clause-blank c =
    let place : ℕ = c.leaf_place-place.result in
    let node : Node = record { place = place; copy = 1; bytes = c.args.leaf.now.bytes } in
    on_ok c.push.result (c.push.new.self ≡ node ∷ c.hold.new.touched) (AreBlank c.push.new.self)
    (λ is. blank_pushed node c.hold.new.touched c.push.new.self is (λ low. absurd (omega (arith, low, c.leaf_place-place.ensures.level))) c.in_ok-hold.ensures.blank)
    c.push.ensures.ok

pub returns-clause-here : goal.returns-clause-here
returns-clause-here c =
    let place : ℕ = c.leaf_place-place.result in
    let leaf : ℕ = shape.leaf_place c.args.region c.args.leaf.now.number in
    let same : place ≡ leaf = c.leaf_place-place.ensures.place in
    let node : Node = record { place = place; copy = 1; bytes = c.args.leaf.now.bytes } in
    on_ok c.push.result (c.push.new.self ≡ node ∷ c.hold.new.touched) (fresh_of c.push.new.self leaf ≡ Some c.args.leaf.now.bytes)
    (λ is. ap (λ (l : List Node). fresh_of l leaf) is ∙ fresh_head node c.hold.new.touched leaf same)
    c.push.ensures.ok

pub returns-clause-others : goal.returns-clause-others
returns-clause-others c =
    let place : ℕ = c.leaf_place-place.result in
    let leaf : ℕ = shape.leaf_place c.args.region c.args.leaf.now.number in
    let same : place ≡ leaf = c.leaf_place-place.ensures.place in
    let node : Node = record { place = place; copy = 1; bytes = c.args.leaf.now.bytes } in
    let long : length c.args.leaf.now.bytes ≡ 1024 = search rules in
    on_ok c.push.result (c.push.new.self ≡ node ∷ c.hold.new.touched)
    ((p : ℕ) → shape.level p ≡ 4 → p ≢ leaf → fresh_of c.push.new.self p ≡ fresh_of c.args.touched.now p)
    (λ is p deep ne.
    pushed_other place 1 c.hold.new.touched c.push.new.self (pushed_as place node c.hold.new.touched c.push.new.self refl long is) p (λ e. ne (e ∙ same))
    ∙ c.in_ok-hold.ensures.deeper p (omega (arith, deep)))
    c.push.ensures.ok
