use Rattle.std.proofs.Common.{All, take}
use Rattle.app_api.specs.Hosts.{IsApart}
use Rattle.app_api.proofs.host.are_apart.Given as goal

abbrev pub invariant-loop-other : goal.invariant-loop-other
invariant-loop-other g l = All (λ other. IsApart other l.host) (take l.other-index l.earlier)
