use Rattle.std.proofs.Common.{arith, refl}
use Rattle.alone.proofs.Storage.{cancellation_leaves_storage}
use Rattle.alone.specs.Step.{Cancelled}
use Rattle.shared_parts.proofs.StepLemmas.{adds_entry, event_goes, grown_goes, part_stays, replies_for, room_for}
use Rattle.shared_parts.proofs.recorded.Recorded.make_cancellation.Goals as goal

pub returns-in_err-reserve-clause-step : goal.returns-in_err-reserve-clause-step
returns-in_err-reserve-clause-step g c =
    let now = c.reserve.new.self in
    grown_goes g.A.Application.behaviour c.args.self.now.side now.side c.args.self.now.log now.log c.in_err-reserve.ensures.side c.in_err-reserve.ensures.log

pub push-requires-clause-room : goal.push-requires-clause-room
push-requires-clause-room g c = room_for 4 c.reserve.new.self.side c.reserve.new.self.log c.in_ok-reserve.ensures.reserved (omega arith)

pub push-requires-clause-replies : goal.push-requires-clause-replies
push-requires-clause-replies g c = replies_for 4 c.reserve.new.self.side c.reserve.new.self.log c.cancel-replies.result c.in_ok-reserve.ensures.reserved c.bounds.ensures

pub returns-clause-step : goal.returns-clause-step
returns-clause-step g c =
    let now = c.reserve.new.self in
    let made = c.cancel-replies.ensures in
    event_goes g.A.Application.behaviour c.args.client (Cancelled c.args.op) c.cancel-replies.result 4 c.args.self.now.side now.side c.cancel-replies.new.self
    c.args.self.now.log now.log c.push.new.self c.in_ok-reserve.ensures.side c.in_ok-reserve.ensures.log c.in_ok-reserve.ensures.reserved (omega arith) (omega arith) c.bounds.ensures
    c.push.ensures.more c.push.ensures.room c.push.ensures.reply_room
    (λ m stands. record { may = refl; told = made.replies m stands; stands = made.step m stands })
    (λ m stands. part_stays m _ (cancellation_leaves_storage m c.args.op)) made.lost

pub returns-clause-ok : goal.returns-clause-ok
returns-clause-ok g c =
    adds_entry c.args.client (Cancelled c.args.op) c.cancel-replies.result c.args.self.now.log.entries c.reserve.new.self.log.entries c.push.new.self.entries
    c.in_ok-reserve.ensures.log.entries c.push.ensures.more
