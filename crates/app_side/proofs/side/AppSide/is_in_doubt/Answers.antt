use Rattle.app_side.proofs.Numbered.{doubt_told}
use Rattle.app_side.proofs.side.AppSide.is_in_doubt.Goals as goal

pub returns-clause-machine : goal.returns-clause-machine
returns-clause-machine g c = λ m is. doubt_told c.args.self.now m is
