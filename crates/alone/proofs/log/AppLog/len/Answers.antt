use Rattle.std.proofs.Common.{ap, length, arith}
use Rattle.alone.proofs.LogLemmas.{length_logged}
use Rattle.alone.proofs.log.AppLog.len.Goals as goal

pub returns : goal.returns
returns c =
    let all = length_logged c.self.inside.entries.items c.self.inside.replies.items in
    let same = ap (λ log. length log.entries) c.self.view_is in
    omega (arith, all, same, c.len.ensures)
