use Rattle.reply_laws.proofs.Taken.{taken}
use Rattle.reply_laws.proofs.every_call_is_replied_to_or_waits.Goals as goal

pub returns : goal.returns
returns g c = λ m client call. taken g.A.Application.behaviour m client call
