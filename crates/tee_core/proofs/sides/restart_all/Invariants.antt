use Rattle.std.proofs.Common.{◌≡◌, length, map}
use Rattle.app_side.specs.Represents.{turns_of}
use Rattle.tee_core.specs.Powers.{kept_one}
use Rattle.tee_core.specs.Sides.{AreSides}
use Rattle.tee_core.specs.World.{World}
use Rattle.tee_core.proofs.Restarts.{AreBack, first_restarts}
use Rattle.tee_core.proofs.sides.restart_all.Given as goal

abbrev pub invariant-loop-index : goal.invariant-loop-index
invariant-loop-index g l = record {
  sides : (world : World g.row.A.Denot) → AreSides l.fn.sides.items world → AreSides l.sides.items (first_restarts g.A.Application.behaviour (kept_one l.kept) 0 l.index world);
  back : AreBack l.boots l.index l.sides.items;
  turns : map (λ s. turns_of s) l.sides.items ≡ map (λ s. turns_of s) l.fn.sides.items;
  same : length l.sides.items ≡ length l.fn.sides.items;
}
