use Rattle.std.proofs.Common.{rules}
use Rattle.store_api.proofs.map_store.Past.then.Goals as goal

pub returns : goal.returns
returns c = search rules
