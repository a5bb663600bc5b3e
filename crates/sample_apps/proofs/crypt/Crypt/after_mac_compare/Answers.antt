use Rattle.sample_apps.specs.CryptMessages.{after_mac_compare}
use Rattle.std.proofs.Common.{rules}
use Rattle.sample_apps.proofs.crypt.Crypt.after_mac_compare.Goals as goal

pub returns-then-code : goal.returns-then-code
unfolding after_mac_compare
returns-then-code c = search rules
