use Rattle.std.proofs.Common.{rules}
use Rattle.store_api.proofs.objects.is_after.Goals as goal

pub returns-in-Some : goal.returns-in-Some
returns-in-Some c = search rules
