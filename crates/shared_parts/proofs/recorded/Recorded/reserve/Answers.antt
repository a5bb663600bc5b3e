use Rattle.shared_parts.proofs.StepLemmas.{reserved_ok, same_log, some_machine}
use Rattle.shared_parts.proofs.recorded.Recorded.reserve.Goals as goal

pub returns-then-live-gt-MOST_ALIVE-clause-log : goal.returns-then-live-gt-MOST_ALIVE-clause-log
returns-then-live-gt-MOST_ALIVE-clause-log g c = same_log c.args.self.now.log

pub returns-clause-log : goal.returns-clause-log
returns-clause-log g c = record { entries = c.reserve.ensures.same; room = c.reserve.ensures.kept.0; reply_room = c.reserve.ensures.kept.1 }

pub returns-clause-reserved : goal.returns-clause-reserved
returns-clause-reserved g c =
    reserved_ok c.reserve.result c.live-live.result c.args.self.now.side c.args.self.now.log c.reserve.new.self c.reserve.ensures.same
    (c.live-live.ensures _ (some_machine c.args.self.now.side)) c.reserve.ensures.room c.reserve.ensures.reply_room
