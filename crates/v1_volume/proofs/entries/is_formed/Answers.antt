use Rattle.std.proofs.Common.{◌∙◌, ap}
use Rattle.std.specs.Prelude.{◌&&◌, nat_lt, if◌then◌else◌}
use Rattle.region_plan.specs.Layout.{layout}
use Rattle.region_plan.specs.Entries.{form_of, is_inode, is_well_formed, is_zero}
use Rattle.region_plan.specs.declared.entry.Entry.{Entry}
use Rattle.region_plan.specs.declared.form.Form.TheVariants.{One}
use Rattle.v1_volume.specs.Checking.{leaf_in}
use Rattle.v1_volume.proofs.entries.is_formed.Goals as goal

pub returns : goal.returns
unfolding is_well_formed
returns c =
    c.has_form.ensures
    ∙ ap (λ b. if nat_lt c.args.leaf (layout One).map_leaves then is_zero c.entry_of-entry.result else
    form_of c.args.leaf c.entry_of-entry.result (b && nat_lt c.entry_of-entry.result.index (layout One).indexes)) c.is_inode-names_inode.ensures
    ∙ ap (λ (e : Entry). if nat_lt c.args.leaf (layout One).map_leaves then is_zero e else
    form_of c.args.leaf e (is_inode (layout One) (leaf_in c.args.leaves.now) e.inode && nat_lt e.index (layout One).indexes)) c.entry_of-entry.ensures.entry
