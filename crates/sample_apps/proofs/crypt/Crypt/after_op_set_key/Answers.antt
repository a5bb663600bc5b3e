use Rattle.sample_apps.specs.CryptSetUp.{after_op_set_key}
use Rattle.std.proofs.Common.{rules}
use Rattle.sample_apps.proofs.crypt.Crypt.after_op_set_key.Goals as goal

pub returns-in-Done : goal.returns-in-Done
unfolding after_op_set_key
returns-in-Done c = search rules
