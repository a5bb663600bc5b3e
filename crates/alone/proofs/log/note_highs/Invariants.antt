use Rattle.std.proofs.Common.{◌≡◌, ◌+◌, ◌≤◌, ◌++◌, drop, length, vec_capacity}
use Rattle.alone.specs.KeptLogs.{highs_from, last_high}
use Rattle.alone.proofs.log.note_highs.Given as goal

-- with the numbers of the replies that are left, there will be those of all
abbrev pub invariant-loop-reply : goal.invariant-loop-reply
invariant-loop-reply l =
    (vec_capacity l.highs ≡ vec_capacity l.initial.highs)
    × (length l.highs.items + length (drop l.reply-index l.replies) ≤ vec_capacity l.highs)
    × (l.highs.items ++ highs_from l.high (drop l.reply-index l.replies) ≡ l.initial.highs.items ++ highs_from (last_high 0 l.initial.highs.items) l.replies)
