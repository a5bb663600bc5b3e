use Rattle.std.proofs.Common.{List, sym, subst}
use Rattle.std.specs.List.{All}
use Rattle.region_plan.specs.Layout.{layout}
use Rattle.region_plan.specs.Tables.{IsWithin}
use Rattle.region_plan.specs.declared.form.Form.TheVariants.{Two}
use Rattle.region_plan.specs.declared.inode.Inode.{Inode}
use Rattle.region_plan.proofs.WrittenLemmas.{all_inserted, number_kept}
use Rattle.region_plan.proofs.after.with_leaf.Goals as goal

pub returns-in-Some-clause-within : goal.returns-in-Some-clause-within
returns-in-Some-clause-within c all =
    let added = rw c.in-Some.is at c.in_ok-inodes.ensures.added in
    subst (λ (l : List Inode). All (IsWithin (layout Two)) l) (sym added)
    (all_inserted (IsWithin (layout Two)) c.args.inodes c.args.place c.in_ok-inode.inode all
    (c.in_ok-inode.ensures.id, c.in_ok-inode.ensures.secret, number_kept (layout Two) c.in_ok-inode.inode.number c.args.leaf c.in_ok-inode.ensures.number c.requires))
