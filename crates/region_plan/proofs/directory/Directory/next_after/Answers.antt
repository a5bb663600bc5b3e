use Rattle.std.proofs.Common.{refl, ◌∙◌, ℕ, List, sym, ap, subst, option_copied}
use Rattle.store_api.specs.Limits.{IsIdentifier, AreFacts}
use Rattle.store_api.specs.declared.object.Facts.{Facts}
use Rattle.region_plan.specs.Layout.{layout}
use Rattle.region_plan.specs.Tables.{inode_facts}
use Rattle.region_plan.proofs.StoreLemmas.{listed_none, listed_up, next_none, next_told, listed_as}
use Rattle.region_plan.proofs.directory.Directory.next_after.Goals as goal

pub returns-in_default : goal.returns-in_default
returns-in_default c = record {
  answer = λ leaves is. next_none (layout c.args.self.now.form) leaves (option_copied c.args.last)
      (listed_none (layout c.args.self.now.form) leaves (option_copied c.args.last) c.least_after.result c.args.self.now.inodes c.args.self.now.inodes c.least_after.ensures.inode
      refl is.inodes c.in_default.is);
  bounds = tt;
  decided = tt;
}

pub returns : goal.returns
returns c = record {
  answer = λ leaves is.
      next_told (layout c.args.self.now.form) leaves (option_copied c.args.last) c.in-Some.inode.now
      (listed_up (layout c.args.self.now.form) leaves (option_copied c.args.last) c.least_after.result c.args.self.now.inodes c.args.self.now.inodes c.in-Some.inode
      c.least_after.ensures.inode refl is.inodes c.in-Some.is)
      ∙ ap (λ (i : List ℕ). listed_as i (inode_facts c.in-Some.inode.now)) (sym c.in_ok-copy.ensures) ∙ ap (λ (f : Facts). listed_as c.in_ok-copy.field-0 f) (sym c.facts_of.ensures);
  bounds = (subst IsIdentifier (sym c.in_ok-copy.ensures) c.in-Some.ensures.within.0, subst AreFacts (sym c.facts_of.ensures) c.in-Some.ensures.within.1);
  decided = tt;
}
