use Rattle.std.proofs.Common.{◌∙◌, ap, length, arith}
use Rattle.alone.specs.Logs.{replies_in}
use Rattle.alone.proofs.HighLemmas.{highs_count}
use Rattle.alone.proofs.LogLemmas.{length_logged, replies_logged}
use Rattle.alone.proofs.log.AppLog.reserve.Goals as goal

pub returns-clause-room : goal.returns-clause-room
returns-clause-room c =
    let all = length_logged c.self.inside.entries.items c.self.inside.replies.items in
    let same = ap (λ log. length log.entries) c.self.view_is in
    let room = c.in_ok-reserve.ensures.ok in
    omega (arith, all, same, room, c.in_ok-reserve.ensures.len)

pub returns-clause-reply_room : goal.returns-clause-reply_room
returns-clause-reply_room c =
    let all = ap length (replies_logged c.self.inside.entries.items c.self.inside.replies.items c.self.invariant.counted) in
    let same = ap (λ log. length (replies_in log.entries)) c.self.view_is in
    let room = c.in_ok-reserve-2.ensures.ok in
    let numbers = c.in_ok-reserve-3.ensures.ok in
    let as_many = ap length c.self.invariant.numbered ∙ highs_count 0 c.self.inside.replies.items in
    omega (arith, all, same, room, numbers, as_many, c.in_ok-reserve-2.ensures.len, c.in_ok-reserve-3.ensures.len)
