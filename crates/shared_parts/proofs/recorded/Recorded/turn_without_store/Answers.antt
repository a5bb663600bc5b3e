use Rattle.std.proofs.Common.{arith, refl}
use Rattle.app_side.specs.Represents.{event_of}
use Rattle.shared_parts.proofs.StepLemmas.{adds_entry, born_few, born_spare, bytes_none, entry_of_turn, event_goes, part_stays, replies_for, room_for, same_log}
use Rattle.shared_parts.proofs.recorded.Recorded.turn_without_store.Goals as goal

pub push-requires-clause-room : goal.push-requires-clause-room
push-requires-clause-room g c = room_for 4 c.args.self.now.side c.args.self.now.log c.requires.reserved (omega arith)

pub push-requires-clause-replies : goal.push-requires-clause-replies
push-requires-clause-replies g c =
    replies_for 4 c.args.self.now.side c.args.self.now.log c.turn_without_store_into-kind.new.replies c.requires.reserved c.bounds.ensures

pub push-requires-clause-bytes : goal.push-requires-clause-bytes
push-requires-clause-bytes g c =
    bytes_none c.turn_without_store_into-kind.result c.args.instance c.args.client c.turn_event.result c.args.self.now.log.entries (c.turn_event.ensures c.args.client)

pub returns-clause-step : goal.returns-clause-step
returns-clause-step g c =
    let old = c.args.self.now in
    let made = c.turn_without_store_into-kind.ensures in
    let turned = c.turn_without_store_into-kind.result in
    let replies = c.turn_without_store_into-kind.new.replies in
    event_goes g.A.Application.behaviour c.args.client (event_of turned c.args.instance) replies 4 old.side old.side c.turn_without_store_into-kind.new.self
    old.log old.log c.push.new.self refl (same_log old.log) c.requires.reserved (born_spare turned c.args.instance 4 (omega arith)) (born_few turned c.args.instance) c.bounds.ensures
    (entry_of_turn turned c.args.instance c.args.client c.turn_event.result replies old.log.entries c.push.new.self.entries
    (c.turn_event.ensures c.args.client) c.push.ensures.more)
    c.push.ensures.room c.push.ensures.reply_room
    (λ m stands. record { may = made.stands m stands; told = made.told m stands; stands = made.step m stands })
    (λ m stands. part_stays m _ (made.storage m stands)) made.lost

pub returns-clause-adds : goal.returns-clause-adds
returns-clause-adds g c =
    let turned = c.turn_without_store_into-kind.result in
    let replies = c.turn_without_store_into-kind.new.replies in
    adds_entry c.args.client (event_of turned c.args.instance) replies c.args.self.now.log.entries c.args.self.now.log.entries c.push.new.self.entries refl
    (entry_of_turn turned c.args.instance c.args.client c.turn_event.result replies c.args.self.now.log.entries c.push.new.self.entries
    (c.turn_event.ensures c.args.client) c.push.ensures.more)
