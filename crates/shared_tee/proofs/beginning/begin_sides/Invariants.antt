use Rattle.std.proofs.Common.{◌≡◌, ◌+◌, ◌++◌, List, length}
use Rattle.app_api.specs.declared.host.Host.{Host}
use Rattle.shared_tee.specs.Making.{AreFresh}
use Rattle.shared_tee.proofs.beginning.begin_sides.Given as goal

-- the applications so far, and the hosts that are left
abbrev pub invariant-loop-host : goal.invariant-loop-host
invariant-loop-host g l = record {
  sides : (front : List (Host g.row.A.Denot)) × (front ++ l.rest.items ≡ l.fn.hosts.items) × AreFresh l.seed 0 front l.sides.items;
  count : length l.sides.items + length l.rest.items ≡ length l.fn.hosts.items;
}

abbrev pub decreases-loop-host : goal.decreases-loop-host
decreases-loop-host g l = length l.rest.items
