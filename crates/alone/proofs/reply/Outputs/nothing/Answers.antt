use Rattle.std.proofs.Common.{rules}
use Rattle.alone.proofs.reply.Outputs.nothing.Goals as goal

pub returns : goal.returns
returns c = search rules
