use Rattle.std.proofs.Common.{◌∙◌, ◌++◌, ◌∷◌, [], List, refl, sym, ap}
use Rattle.store_api.specs.declared.leaves.Leaf.{Leaf}
use Rattle.region_plan.proofs.FoundLemmas.{some_other, none_other, head_as}
use Rattle.region_plan.proofs.ResultLemmas.{rename_none, rename_exists, rename_plans}
use Rattle.region_plan.proofs.StoreLemmas.{looked_none, looked_up}
use Rattle.region_plan.proofs.planning.plan_rename.Goals as goal
use Rattle.region_plan.specs.Layout.{layout}
use Rattle.region_plan.proofs.FormLemmas.{laid_by}
use Rattle.region_plan.specs.declared.form.Form.TheVariants.{Two}

pub returns-in_default-clause-plans : goal.returns-in_default-clause-plans
returns-in_default-clause-plans c leaves all store stands =
    rename_none (layout Two) (laid_by Two) leaves store stands c.args.id.now c.args.to.now
    (looked_none (layout Two) leaves c.args.id.now c.find.result c.args.inodes.now c.args.inodes.now c.find.ensures.inode
    refl all c.in_default.is)

pub returns-then-is_some-clause-plans : goal.returns-then-is_some-clause-plans
returns-then-is_some-clause-plans c leaves all store stands =
    let other = some_other (layout Two) (laid_by Two) leaves c.args.to.now c.find-2.result c.args.inodes.now c.find-2.ensures.inode all (sym c.is_some.ensures ∙ c.if-is_some.true) in
    rename_exists (layout Two) (laid_by Two) leaves store stands c.args.id.now c.in-Some.inode.now
    (looked_up (layout Two) leaves c.args.id.now c.find.result c.args.inodes.now c.args.inodes.now
    c.in-Some.inode c.find.ensures.inode refl all c.in-Some.is)
    c.args.to.now other.0 other.1

pub returns-clause-plans : goal.returns-clause-plans
returns-clause-plans c leaves all store stands =
    let last : Leaf = record { number = c.in-Some.inode.now.number; bytes = c.inode_block.result } in
    rename_plans (layout Two) (laid_by Two) leaves store stands c.args.id.now c.in-Some.inode.now
    (looked_up (layout Two) leaves c.args.id.now c.find.result c.args.inodes.now c.args.inodes.now c.in-Some.inode
    c.find.ensures.inode refl all c.in-Some.is)
    c.args.to.now c.push.new.self c.inode_block.result c.args.to (none_other (layout Two) (laid_by Two) leaves c.args.to.now c.find-2.result c.args.inodes.now c.find-2.ensures.inode
    all
    (sym c.is_some.ensures ∙ c.if-is_some.false))
    (c.in_ok-push.ensures.ok ∙ ap (λ (l : List Leaf). l ++ last ∷ []) c.none-leaves.ensures)
    (head_as c.inode_block.result c.head.result.kind c.in-Some.inode.now.kind c.head.result.usage c.in-Some.inode.now.usage c.args.to.now c.args.to.now c.head.result.secret.now
    c.in-Some.inode.now.secret c.in-Some.inode.now.length
    c.head.ensures.kind c.head.ensures.usage refl c.head.ensures.secret c.inode_block.ensures)
