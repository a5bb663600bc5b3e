use Rattle.std.specs.Prelude.{◌≡◌}
use Rattle.region_plan.specs.Directories.{IsBounded}
use Rattle.region_plan.specs.declared.form.Form.TheVariants.{Two}
use Rattle.test_region_plan.proofs.kept.first_unlike.Given as goal

-- the kept directory is one of the form in use
abbrev pub invariant-loop-place : goal.invariant-loop-place
invariant-loop-place l = record {
  form : l.kept.form ≡ Two;
  bounded : IsBounded l.kept;
}
