use Rattle.std.proofs.Common.{◌+◌, ◌≤◌, ◌++◌, ◌∷◌, [], ◌∙◌, List, ap, length, arith}
use Rattle.tee_base.specs.declared.limits.TheConstants.{MAX_LOG_BYTES}
use Rattle.alone.specs.declared.log_entry.LogEntry.{LogEntry}
use Rattle.alone.specs.declared.reply.Reply.{Reply}
use Rattle.alone.specs.KeptLogs.{event_by, highs_from, last_high, log_with_replies}
use Rattle.alone.specs.Logs.{bytes_in, entry, replies_in}
use Rattle.alone.proofs.HighLemmas.{highs_count}
use Rattle.alone.proofs.LogLemmas.{kept_push, length_logged, logged_push, replies_logged}
use Rattle.alone.proofs.log.AppLog.push.Goals as goal

pub push_reserved-requires : goal.push_reserved-requires
push_reserved-requires c =
    let all = length_logged c.self.inside.entries.items c.self.inside.replies.items in
    let same = ap (λ log. length log.entries) c.self.view_is in
    let room = ap (λ log. log.room) c.self.view_is in
    omega (arith, all, same, room, c.requires.room)

pub note_highs-requires : goal.note_highs-requires
note_highs-requires c =
    let rs = c.self.inside.replies.items in
    let all = ap length (replies_logged c.self.inside.entries.items rs c.self.invariant.counted) in
    let same = ap (λ log. length (replies_in log.entries)) c.self.view_is in
    let room = ap (λ log. log.reply_room) c.self.view_is in
    let as_many = ap length c.self.invariant.numbered ∙ highs_count 0 rs in
    let own = ap length c.as_slice.ensures in
    omega (arith, all, same, room, as_many, own, c.requires.replies)

pub move_to-requires : goal.move_to-requires
move_to-requires c =
    let all = ap length (replies_logged c.self.inside.entries.items c.self.inside.replies.items c.self.invariant.counted) in
    let same = ap (λ log. length (replies_in log.entries)) c.self.view_is in
    let room = ap (λ log. log.reply_room) c.self.view_is in
    omega (arith, all, same, room, c.requires.replies, c.len-count.ensures.value, c.len-count.ensures.few)

pub invariant_of-self : goal.invariant_of-self
invariant_of-self c =
    let es = c.self.inside.entries.items in
    let rs = c.self.inside.replies.items in
    let highs = c.self.inside.highs.items in
    let bytes = c.self.inside.bytes in
    let last : LogEntry = record { client = c.args.client; event = c.args.event; replies = c.len-count.result } in
    let held = ap (λ log. bytes_in log.entries) c.self.view_is in
    let within : bytes + c.bytes-added.result ≤ MAX_LOG_BYTES =
    omega (arith, held, c.self.invariant.summed, c.self.invariant.few, c.requires.bytes, c.bytes-added.ensures c.args.client) in
    let noted = c.note_highs.ensures.items ∙ ap (λ (more : List Reply). highs ++ highs_from (last_high 0 highs) more) c.as_slice.ensures in
    rw (c.push_reserved.ensures.items, c.move_to.ensures.items, noted)
    (kept_push es rs c.args.replies.now highs last bytes c.bytes-added.result c.self.invariant c.len-count.ensures.value (c.bytes-added.ensures c.args.client) within)

pub returns-clause-more : goal.returns-clause-more
returns-clause-more c =
    let es = c.self.inside.entries.items in
    let rs = c.self.inside.replies.items in
    let last : LogEntry = record { client = c.args.client; event = c.args.event; replies = c.len-count.result } in
    ap (λ (all : List LogEntry). log_with_replies all c.move_to.new.into.items) c.push_reserved.ensures.items
    ∙ ap (λ (all : List Reply). log_with_replies (es ++ last ∷ []) all) c.move_to.ensures.items
    ∙ logged_push es rs c.args.replies.now last c.self.invariant.counted c.len-count.ensures.value
    ∙ ap (λ log. log.entries ++ entry c.args.client (event_by c.args.client c.args.event) c.args.replies.now ∷ []) c.self.view_is
