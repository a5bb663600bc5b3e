use Rattle.tee_core.proofs.sides.turn_over.Goals as goal
use Rattle.std.proofs.Common.{rules, sym}
use Rattle.object_dir.proofs.PlaceLemmas.{same_number, same_reference}

pub returns-clause-turn : goal.returns-clause-turn
returns-clause-turn g c =
    let status = c.turn_into-kind.ensures.turn.status.foundation in
    record {
      dir_before = c.of-dir.result;
      dir_after = c.turn_into-kind.new.store;
      over_old = record { same_volume = c.of-dir.ensures.volume; same_region = c.of-dir.ensures.region; same_kept = c.of-dir.ensures.kept };
      over_new = record {
        same_volume = search (rules, same_reference g.V.Volume.keeper c.of-dir.result.region c.turn_into-kind.new.store.region status);
        same_region = search (rules, same_number g.V.Volume.keeper c.of-dir.result.region c.turn_into-kind.new.store.region status);
        same_kept = sym c.into_volume-volume.ensures.kept;
      };
      turn = c.turn_into-kind.ensures.turn;
    }
