use Rattle.std.proofs.Common.{◌≡◌, None}
use Rattle.test_tables.proofs.handles.fill.Given as goal

abbrev pub invariant-loop-wanted : goal.invariant-loop-wanted
invariant-loop-wanted g l = l.table.pending ≡ None
