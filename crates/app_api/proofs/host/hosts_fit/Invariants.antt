use Rattle.std.proofs.Common.{ℕ, ◌<◌, get_or}
use Rattle.app_api.specs.Hosts.{IsName, IsApart}
use Rattle.app_api.specs.declared.host.Host.{Host}
use Rattle.app_api.proofs.host.hosts_fit.Given as goal

-- the hosts before this one have names, and are apart
abbrev pub invariant-loop-index : goal.invariant-loop-index
invariant-loop-index g l = record {
  named : (k : ℕ) → k < l.index → (d : Host g.row.A.Denot) → IsName (get_or l.hosts k d).name;
  apart : (j : ℕ) → j < l.index → (i : ℕ) (d : Host g.row.A.Denot) → i < j → IsApart (get_or l.hosts i d) (get_or l.hosts j d);
}
