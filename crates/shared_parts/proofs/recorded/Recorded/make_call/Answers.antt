use Rattle.std.proofs.Common.{arith, refl}
use Rattle.alone.proofs.Storage.{call_leaves_storage}
use Rattle.alone.specs.Step.{Called}
use Rattle.shared_parts.proofs.StepLemmas.{adds_entry, bytes_of_copy, bytes_still, entry_of_call, event_goes, goes_further, grown_goes, nothing_made, on_err_known, part_stays, replies_for, room_for}
use Rattle.shared_parts.proofs.StepLemmas.{same_log, same_represents}
use Rattle.shared_parts.proofs.recorded.Recorded.make_call.Goals as goal

pub returns-in_err-reserve-clause-step : goal.returns-in_err-reserve-clause-step
returns-in_err-reserve-clause-step g c =
    let now = c.reserve.new.self in
    grown_goes g.A.Application.behaviour c.args.self.now.side now.side c.args.self.now.log now.log c.in_err-reserve.ensures.side c.in_err-reserve.ensures.log

pub returns-in_err-made-clause-step : goal.returns-in_err-made-clause-step
returns-in_err-made-clause-step g c =
    let now = c.reserve.new.self in
    goes_further g.A.Application.behaviour c.args.self.now.side now.side c.call.new.self c.args.self.now.log now.log now.log
    (grown_goes g.A.Application.behaviour c.args.self.now.side now.side c.args.self.now.log now.log c.in_ok-reserve.ensures.side c.in_ok-reserve.ensures.log)
    (record {
      kept = nothing_made g.A.Application.behaviour now.side c.call.new.self now.log now.log (same_log now.log) c.in_err-made.ensures.err;
      lost = c.in_err-made.ensures.lost;
    })

pub returns-in_err-made-clause-same : goal.returns-in_err-made-clause-same
returns-in_err-made-clause-same g c =
    on_err_known c.from_residual-in_err-made.result _ (λ m stands.
    c.in_err-made.ensures.err m (same_represents c.args.self.now.side c.reserve.new.self.side m c.in_ok-reserve.ensures.side stands))

pub push-requires-clause-room : goal.push-requires-clause-room
push-requires-clause-room g c = room_for 4 c.reserve.new.self.side c.reserve.new.self.log c.in_ok-reserve.ensures.reserved (omega arith)

pub push-requires-clause-replies : goal.push-requires-clause-replies
push-requires-clause-replies g c = replies_for 4 c.reserve.new.self.side c.reserve.new.self.log c.in_ok-made.made.replies c.in_ok-reserve.ensures.reserved c.bounds.ensures

pub push-requires-clause-bytes : goal.push-requires-clause-bytes
push-requires-clause-bytes g c =
    bytes_of_copy c.args.client c.args.call c.args.copy c.reserve.new.self.log.entries c.requires.same
    (bytes_still _ c.args.self.now.log.entries c.reserve.new.self.log.entries c.in_ok-reserve.ensures.log.entries c.requires.bytes)

pub returns-clause-step : goal.returns-clause-step
returns-clause-step g c =
    let now = c.reserve.new.self in
    let made = c.in_ok-made.ensures in
    event_goes g.A.Application.behaviour c.args.client (Called c.args.client c.args.call) c.in_ok-made.made.replies 4 c.args.self.now.side now.side c.call.new.self
    c.args.self.now.log now.log c.push.new.self c.in_ok-reserve.ensures.side c.in_ok-reserve.ensures.log c.in_ok-reserve.ensures.reserved (omega arith) (omega arith) c.bounds.ensures
    (entry_of_call c.args.client c.args.call c.args.copy c.in_ok-made.made.replies now.log.entries c.push.new.self.entries c.requires.same c.push.ensures.more)
    c.push.ensures.room c.push.ensures.reply_room
    (λ m stands. record { may = refl; told = made.replies m stands; stands = made.ok m stands })
    (λ m stands. part_stays m _ (call_leaves_storage m c.args.client c.args.call)) made.lost

pub returns-clause-ok : goal.returns-clause-ok
returns-clause-ok g c =
    adds_entry c.args.client (Called c.args.client c.args.call) c.in_ok-made.made.replies c.args.self.now.log.entries c.reserve.new.self.log.entries c.push.new.self.entries
    c.in_ok-reserve.ensures.log.entries
    (entry_of_call c.args.client c.args.call c.args.copy c.in_ok-made.made.replies c.reserve.new.self.log.entries c.push.new.self.entries c.requires.same c.push.ensures.more)

pub returns-clause-posted : goal.returns-clause-posted
returns-clause-posted g c = λ m stands.
    let is = same_represents c.args.self.now.side c.reserve.new.self.side m c.in_ok-reserve.ensures.side stands in
    record { op = c.in_ok-made.ensures.number m is; instance = c.in_ok-made.ensures.instance m is }
