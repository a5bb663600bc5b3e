use Rattle.std.proofs.Common.{refl}
use Rattle.ae_modes.proofs.TextLemmas.{raised_is}
use Rattle.ae_modes.proofs.text.raised.Goals as goal

pub returns : goal.returns
returns c = raised_is c.args.counter c.args.n _ refl
