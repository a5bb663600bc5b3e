use Rattle.store_api.proofs.ChangeLaws.{keeps_limits, leaves_others}
use Rattle.store_api.proofs.laws.change_laws.Goals as goal

pub returns : goal.returns
returns c = record { limits = keeps_limits; others = leaves_others }
