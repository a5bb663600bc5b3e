use Rattle.std.proofs.Common.{refl, ◌∙◌, sym, ap, subst, Ok}
use Rattle.store_api.specs.Limits.{IsSecret}
use Rattle.region_plan.specs.Layout.{layout}
use Rattle.region_plan.proofs.StoreLemmas.{looked_none, looked_up, absent_is, secret_told}
use Rattle.region_plan.proofs.directory.Directory.secret.Goals as goal

pub returns-in_default : goal.returns-in_default
returns-in_default c = record {
  answer = λ leaves is. absent_is (layout c.args.self.now.form) leaves _ c.args.id.now
      (looked_none (layout c.args.self.now.form) leaves c.args.id.now c.find.result c.args.self.now.inodes c.args.self.now.inodes c.find.ensures.inode refl is.inodes
      c.in_default.is);
  bounds = tt;
  decided = tt;
}

pub returns : goal.returns
returns c = record {
  answer = λ leaves is. secret_told (layout c.args.self.now.form) leaves c.args.id.now c.in-Some.inode.now
      (looked_up (layout c.args.self.now.form) leaves c.args.id.now c.find.result c.args.self.now.inodes c.args.self.now.inodes c.in-Some.inode c.find.ensures.inode refl
      is.inodes c.in-Some.is) ∙ ap (λ f. Ok f) (sym c.in_ok-copy.ensures);
  bounds = subst IsSecret (sym c.in_ok-copy.ensures) c.in-Some.ensures.within.1;
  decided = tt;
}
