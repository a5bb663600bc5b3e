use Rattle.std.proofs.Common.{◌≡◌, ◌<◌, ◌-◌, ◌∷◌, ◌∙◌, ℕ, suc, None, IsSome, sym, ap, subst, arith}
use Rattle.tree_commits.specs.Gather.{AreGathered}
use Rattle.tree_commits.specs.Touched.{fresh_of}
use Rattle.tree_commits.specs.declared.touched.Node.{Node}
use Rattle.tree_commits.proofs.GatherLemmas.{absent, on_ok, order_pushed, pushed_other, pushed_there, root_pushed}
use Rattle.tree_paths.specs.Shape.{shape}
use Rattle.tree_paths.specs.Shapes.{is_shape}
use Rattle.tree_paths.specs.Ways.{above, is_root}
use Rattle.v1_volume.specs.Planting.{AreBlank}
use Rattle.v1_volume.proofs.PlantLemmas.{blank_as, blank_pushed}
use Rattle.v1_volume.proofs.planting.+hold.Goals as goal

pub returns-then-level-eq0-clause-gathered : goal.returns-then-level-eq0-clause-gathered
returns-then-level-eq0-clause-gathered t c =
    let place : ℕ = c.args.place in
    let node : Node = c.blank_node.result in
    let top : place ≡ 0 = is_root shape is_shape place c.requires.place (c.requires.level ∙ c.if-level-eq0.true) in
    on_ok c.push.result (c.push.new.self ≡ node ∷ c.args.touched.now) (AreGathered shape c.push.new.self)
    (λ is.
    root_pushed place node.copy c.args.touched.now c.push.new.self (blank_as place node c.args.touched.now c.push.new.self c.blank_node.ensures.place c.blank_node.ensures.zeros is)
    shape c.requires.gathered top (absent _ (sym c.holds.ensures ∙ c.if-holds.false)))
    c.push.ensures.ok

pub returns-then-level-eq0-clause-blank : goal.returns-then-level-eq0-clause-blank
returns-then-level-eq0-clause-blank t c =
    let node : Node = c.blank_node.result in
    on_ok c.push.result (c.push.new.self ≡ node ∷ c.args.touched.now) (AreBlank c.push.new.self)
    (λ is. blank_pushed node c.args.touched.now c.push.new.self is (λ low. c.blank_node.ensures.zeros) c.requires.blank)
    c.push.ensures.ok

pub returns-then-level-eq0-clause-held : goal.returns-then-level-eq0-clause-held
returns-then-level-eq0-clause-held t c =
    let place : ℕ = c.args.place in
    let node : Node = c.blank_node.result in
    on_ok c.push.result (c.push.new.self ≡ node ∷ c.args.touched.now) (IsSome (fresh_of c.push.new.self place))
    (λ is.
    pushed_there place node.copy c.args.touched.now c.push.new.self (blank_as place node c.args.touched.now c.push.new.self c.blank_node.ensures.place c.blank_node.ensures.zeros is))
    c.push.ensures.ok

pub returns-then-level-eq0-clause-deeper : goal.returns-then-level-eq0-clause-deeper
returns-then-level-eq0-clause-deeper t c =
    let place : ℕ = c.args.place in
    let node : Node = c.blank_node.result in
    on_ok c.push.result (c.push.new.self ≡ node ∷ c.args.touched.now)
    ((p : ℕ) → c.args.level < shape.level p → fresh_of c.push.new.self p ≡ fresh_of c.args.touched.now p)
    (λ is p deep.
    pushed_other place node.copy c.args.touched.now c.push.new.self (blank_as place node c.args.touched.now c.push.new.self c.blank_node.ensures.place c.blank_node.ensures.zeros is) p
    (λ same. absurd (let l : shape.level p ≡ shape.level place = ap shape.level same in omega (arith, deep, l, c.requires.level))))
    c.push.ensures.ok

pub returns-clause-gathered : goal.returns-clause-gathered
returns-clause-gathered t c =
    let place : ℕ = c.args.place in
    let node : Node = c.blank_node-2.result in
    let k : ℕ = c.args.level - 1 in
    let at : shape.level place ≡ suc k = omega (arith, c.requires.level, c.if-level-eq0.false) in
    let up = above shape is_shape k place c.requires.place at in
    let none : fresh_of c.hold.new.touched place ≡ None
    = c.in_ok-hold.ensures.deeper place (omega (arith, at)) ∙ absent (fresh_of c.args.touched.now place) (sym c.holds.ensures ∙ c.if-holds.false) in
    let has : IsSome (fresh_of c.hold.new.touched (shape.parent place)) = subst (λ (q : ℕ). IsSome (fresh_of c.hold.new.touched q)) c.parent.ensures c.in_ok-hold.ensures.held in
    on_ok c.push-2.result (c.push-2.new.self ≡ node ∷ c.hold.new.touched) (AreGathered shape c.push-2.new.self)
    (λ is.
    order_pushed place node.copy c.hold.new.touched c.push-2.new.self (blank_as place node c.hold.new.touched c.push-2.new.self c.blank_node-2.ensures.place c.blank_node-2.ensures.zeros is)
    shape c.in_ok-hold.ensures.gathered up.2 c.requires.place none has)
    c.push-2.ensures.ok

pub returns-clause-blank : goal.returns-clause-blank
returns-clause-blank t c =
    let node : Node = c.blank_node-2.result in
    on_ok c.push-2.result (c.push-2.new.self ≡ node ∷ c.hold.new.touched) (AreBlank c.push-2.new.self)
    (λ is. blank_pushed node c.hold.new.touched c.push-2.new.self is (λ low. c.blank_node-2.ensures.zeros) c.in_ok-hold.ensures.blank)
    c.push-2.ensures.ok

pub returns-clause-held : goal.returns-clause-held
returns-clause-held t c =
    let place : ℕ = c.args.place in
    let node : Node = c.blank_node-2.result in
    on_ok c.push-2.result (c.push-2.new.self ≡ node ∷ c.hold.new.touched) (IsSome (fresh_of c.push-2.new.self place))
    (λ is.
    pushed_there place node.copy c.hold.new.touched c.push-2.new.self
    (blank_as place node c.hold.new.touched c.push-2.new.self c.blank_node-2.ensures.place c.blank_node-2.ensures.zeros is))
    c.push-2.ensures.ok

pub returns-clause-deeper : goal.returns-clause-deeper
returns-clause-deeper t c =
    let place : ℕ = c.args.place in
    let node : Node = c.blank_node-2.result in
    on_ok c.push-2.result (c.push-2.new.self ≡ node ∷ c.hold.new.touched)
    ((p : ℕ) → c.args.level < shape.level p → fresh_of c.push-2.new.self p ≡ fresh_of c.args.touched.now p)
    (λ is p deep.
    pushed_other place node.copy c.hold.new.touched c.push-2.new.self
    (blank_as place node c.hold.new.touched c.push-2.new.self c.blank_node-2.ensures.place c.blank_node-2.ensures.zeros is) p
    (λ same. absurd (let l : shape.level p ≡ shape.level place = ap shape.level same in omega (arith, deep, l, c.requires.level)))
    ∙ c.in_ok-hold.ensures.deeper p (omega (arith, deep)))
    c.push-2.ensures.ok
