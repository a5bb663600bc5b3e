use Rattle.report.proofs.Numbered.{numbered}
use Rattle.report.proofs.laws.calls_have_the_numbers_of_operations.Goals as goal

pub returns : goal.returns
returns g c = λ host index seed store before. numbered g.A.Application.behaviour host index seed store before
