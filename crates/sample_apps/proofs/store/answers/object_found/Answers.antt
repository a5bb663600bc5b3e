use Rattle.std.proofs.Common.{rules}
use Rattle.sample_apps.proofs.store.answers.object_found.Goals as goal

pub returns-in_err-append-clause-err : goal.returns-in_err-append-clause-err
returns-in_err-append-clause-err c = search rules
