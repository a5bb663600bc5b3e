use Rattle.std.proofs.Common.{◌≡◌, ◌++◌, drop}
use Rattle.std.specs.List.{flat_map}
use Rattle.report.specs.Texts.{reply_text}
use Rattle.report.proofs.line.LineBuffer.replies.Given as goal

-- the text so far, with the lines of the replies that are left, is that with all of them
abbrev pub invariant-loop-reply : goal.invariant-loop-reply
invariant-loop-reply l =
    l.self ++ flat_map (reply_text l.name) (drop l.reply-index l.replies) ≡ l.initial.self ++ flat_map (reply_text l.name) l.replies
