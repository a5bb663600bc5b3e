use Rattle.std.proofs.Common.{rules}
use Rattle.sample_apps.proofs.store.answers.identity_bytes.Goals as goal

pub returns : goal.returns
returns c = search rules
