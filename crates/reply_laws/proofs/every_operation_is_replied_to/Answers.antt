use Rattle.reply_laws.proofs.Replied.{each_replied}
use Rattle.reply_laws.proofs.every_operation_is_replied_to.Goals as goal

pub returns : goal.returns
returns g c = λ host index seed store events event running. each_replied g.A.Application.behaviour host index seed store events event running
