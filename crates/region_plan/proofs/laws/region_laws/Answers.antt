use Rattle.region_plan.specs.Layout.{layout}
use Rattle.region_plan.proofs.AgreeLemmas.{region_same}
use Rattle.region_plan.proofs.BlankLemmas.{blank_region}
use Rattle.region_plan.proofs.FormLemmas.{laid_by}
use Rattle.region_plan.proofs.LimitLemmas.{costs_leaves, within_limits}
use Rattle.region_plan.proofs.WholeLemmas.{whole_region}
use Rattle.region_plan.proofs.laws.region_laws.Goals as goal

pub returns : goal.returns
returns c = record {
  blank = λ form. blank_region (layout form) (laid_by form);
  in_use = λ form leaves others agree. region_same (layout form) leaves others agree (laid_by form);
  whole = λ form leaves. whole_region (layout form) leaves;
  cost = λ form. costs_leaves (layout form) (laid_by form);
  limits = λ form. within_limits (layout form) (laid_by form);
}
