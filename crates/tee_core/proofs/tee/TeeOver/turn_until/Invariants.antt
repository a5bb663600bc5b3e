use Rattle.std.proofs.Common.{◌≡◌, ◌≤◌, ◌+◌, [], Some}
use Rattle.std.specs.Prelude.{slice_get}
use Rattle.alone.specs.Machine.{Machine}
use Rattle.tee_core.specs.Moments.{HasRunBehind, StaysOn, TellsNoDamage}
use Rattle.tee_core.specs.Represents.{turns_made, volume_of, Represents}
use Rattle.tee_core.specs.Stepping.{KeepsOthers}
use Rattle.tee_core.specs.World.{World}
use Rattle.tee_core.proofs.TurnsMade.{Made}
use Rattle.tee_core.proofs.tee.TeeOver.turn_until.Given as goal

-- the turns so far and those from here on are all, for each world and machine that stood before them; no reply waits to be told, and
-- each turn was counted
abbrev pub invariant-loop : goal.invariant-loop
invariant-loop g l = record {
  run : (world : World g.row.A.Denot) (m : Machine g.row.A.Denot) → Represents l.fn.self world → (here : slice_get world l.app ≡ Some m)
      → Made g.V.Volume.keeper g.A.Application.behaviour world m l.app l.instance l.op here l.self.sides.items l.self.kept.places l.self.volume l.counter l.fn.told l.told;
  counts : HasRunBehind l.fn.told l.told (g.V.Volume.keeper.condition (volume_of l.fn.self)) (g.V.Volume.keeper.condition (volume_of l.self));
  sound : (world : World g.row.A.Denot) (m : Machine g.row.A.Denot) → Represents l.fn.self world → slice_get world l.app ≡ Some m → TellsNoDamage l.fn.told → TellsNoDamage l.told;
  board : StaysOn g.V.Volume.keeper (volume_of l.fn.self) (volume_of l.self);
  none : l.replies ≡ [];
  room : turns_made l.self l.app ≤ turns_made l.fn.self l.app + l.counter;
  kept : KeepsOthers l.app l.fn.self l.self;
}
