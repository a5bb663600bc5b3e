use Rattle.std.proofs.Common.{◌≡◌, ◌*◌, map}
use Rattle.std.specs.List.{range_with_len}
use Rattle.script.specs.Workload.{line_at, state_after}
use Rattle.script.specs.declared.generated.TheConstants.{DRAWS_A_LINE}
use Rattle.script.proofs.generated.workload.Given as goal

-- the first lines stand, and the next is drawn behind theirs
abbrev pub invariant-loop : goal.invariant-loop
invariant-loop l = record {
  lines : l.lines.items ≡ map (line_at l.number l.hosts) (range_with_len 0 l.counter);
  state : l.draws.state ≡ state_after l.number (DRAWS_A_LINE * l.counter);
}
