use Rattle.std.proofs.Common.{◌≡◌, drop, map}
use Rattle.script.specs.Lines.{index_from}
use Rattle.script.proofs.meaning.index_of_id.Given as goal

-- the hosts from here on have the answer of all
abbrev pub invariant-loop-index : goal.invariant-loop-index
invariant-loop-index g l = index_from l.index (map (λ host. host.id) (drop l.index l.hosts)) l.id ≡ index_from 0 (map (λ host. host.id) l.hosts) l.id
