use Rattle.std.proofs.Common.{◌<◌, ◌∙◌, ℕ, sym, ap, subst}
use Rattle.region_plan.specs.Layout.{layout}
use Rattle.region_plan.specs.declared.entry.Entry.{Entry}
use Rattle.region_plan.specs.declared.form.Form.TheVariants.{One}
use Rattle.v1_volume.specs.Checking.{leaf_in}
use Rattle.v1_volume.proofs.OldRegionLemmas.{entry_here, kind_small, inode_small, index_small}
use Rattle.v1_volume.proofs.entries.entry_of.Goals as goal

pub returns-clause-entry : goal.returns-clause-entry
returns-clause-entry c =
    c.entry_of.ensures ∙ ap (λ (n : ℕ). (layout One).entry_of n) c.number_at.ensures ∙ entry_here (leaf_in c.args.leaves.now) c.args.leaf c.requires.leaf

pub returns-clause-kind : goal.returns-clause-kind
returns-clause-kind c = subst (λ (e : Entry). e.kind < 256) (sym c.entry_of.ensures) (kind_small c.number_at.result)

pub returns-clause-inode : goal.returns-clause-inode
returns-clause-inode c = subst (λ (e : Entry). e.inode < 256) (sym c.entry_of.ensures) (inode_small c.number_at.result)

pub returns-clause-index : goal.returns-clause-index
returns-clause-index c = subst (λ (e : Entry). e.index < 65536) (sym c.entry_of.ensures) (index_small c.number_at.result c.number_at.type_inv)
