use Rattle.store_api.proofs.Named.{are_none}
use Rattle.store_api.proofs.objects.Objects.new.Goals as goal

pub invariant_of-result : goal.invariant_of-result
invariant_of-result c = (are_none c.new.result.entries c.new.ensures.empty).kept

pub returns : goal.returns
returns c = (are_none c.new.result.entries c.new.ensures.empty).store
