use Rattle.std.proofs.Common.{arith}
use Rattle.region_plan.proofs.FormLemmas.{laid_by}
use Rattle.region_plan.proofs.planning.plan_new.Goals as goal
use Rattle.region_plan.specs.declared.form.Form.TheVariants.{Two}

pub set_entry-requires : goal.set_entry-requires
set_entry-requires g c = (let most = (laid_by Two).most in omega (arith, most, c.in-Some.ensures.free.0))
