use Rattle.std.proofs.Common.{arith, rules, sym, ◌∙◌}
use Rattle.object_dir.proofs.PlaceLemmas.{same_number, same_reference}
use Rattle.shared_parts.proofs.StepLemmas.{bytes_none, entry_of_turn, replies_for, room_for}
use Rattle.shared_parts.proofs.storing.turn_over.Goals as goal

pub push-requires-clause-room : goal.push-requires-clause-room
push-requires-clause-room g c = room_for 3 c.args.recorded.now.side c.args.recorded.now.log c.requires.reserved (omega arith)

pub push-requires-clause-replies : goal.push-requires-clause-replies
push-requires-clause-replies g c =
    replies_for 3 c.args.recorded.now.side c.args.recorded.now.log c.turn_into-kind.new.replies c.requires.reserved c.bounds.ensures

pub push-requires-clause-bytes : goal.push-requires-clause-bytes
push-requires-clause-bytes g c =
    bytes_none c.turn_into-kind.result c.args.instance c.args.client c.turn_event.result c.args.recorded.now.log.entries (c.turn_event.ensures c.args.client)

pub returns : goal.returns
returns g c =
    let dir = c.of-dir.result in
    let status = c.turn_into-kind.ensures.turn.status.foundation in
    record {
      replies = c.turn_into-kind.new.replies;
      few = c.bounds.ensures;
      turn = record {
        dir_before = dir;
        dir_after = c.turn_into-kind.new.store;
        over_old = record { same_volume = c.of-dir.ensures.volume; same_region = c.of-dir.ensures.region; same_kept = c.of-dir.ensures.kept ∙ c.take.ensures.value };
        over_new = record {
          same_volume = search (rules, same_reference g.V.Volume.keeper dir.region c.turn_into-kind.new.store.region status);
          same_region = search (rules, same_number g.V.Volume.keeper dir.region c.turn_into-kind.new.store.region status);
          same_kept = sym c.into_volume-volume.ensures.kept;
        };
        turn = c.turn_into-kind.ensures.turn;
      };
      logged = record {
        more = entry_of_turn c.turn_into-kind.result c.args.instance c.args.client c.turn_event.result c.turn_into-kind.new.replies c.args.recorded.now.log.entries
            c.push.new.self.entries (c.turn_event.ensures c.args.client) c.push.ensures.more;
        room = c.push.ensures.room;
        reply_room = c.push.ensures.reply_room;
      };
    }
