use Rattle.std.proofs.Common.{◌≡◌, take}
use Rattle.std.specs.Prelude.{map}
use Rattle.run_board.proofs.reading.names_of.Given as goal

-- the names of the hosts so far
abbrev pub invariant-loop-host : goal.invariant-loop-host
invariant-loop-host g l = l.names.items ≡ map (λ host. host.name) (take l.host-index l.hosts)
