use Rattle.std.proofs.Common.{◌≡◌, ◌+◌, ◌++◌, ℕ, false, length}
use Rattle.store_api.specs.Stores.{Store}
use Rattle.tee_core.specs.Sides.{AreBooted, AreLost, AreSides}
use Rattle.tee_core.specs.World.{World, starts_from, world_of}
use Rattle.tee_core.proofs.power.start_all.Given as goal

-- the machines so far, and those of the hosts that are left behind them
abbrev pub invariant-loop-host : goal.invariant-loop-host
invariant-loop-host g l = record {
  sides : (stores : ℕ → Store) → (front : World g.row.A.Denot) × AreSides l.sides.items front
      × (front ++ starts_from (length l.sides.items) l.rest.items l.seed stores ≡ world_of l.fn.hosts.items l.seed stores);
  lost : AreLost false l.sides.items;
  booted : AreBooted 0 l.sides.items;
  count : length l.sides.items + length l.rest.items ≡ length l.fn.hosts.items;
}

abbrev pub decreases-loop-host : goal.decreases-loop-host
decreases-loop-host g l = length l.rest.items
