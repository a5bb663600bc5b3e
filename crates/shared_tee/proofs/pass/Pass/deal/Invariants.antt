use Rattle.std.proofs.Common.{◌≡◌, ◌+◌, ◌++◌, ◌-◌}
use Rattle.std.specs.Prelude.{vec_capacity, vec_len}
use Rattle.turn_cell.specs.Words.{IsSeatOf, cell_id, view as known}
use Rattle.shared_parts.specs.HostedApps.{Origin}
use Rattle.shared_tee.specs.Dealing.{fresh_passes, fresh_seat}
use Rattle.shared_tee.proofs.pass.Pass.deal.Given as goal

-- the passes so far, and a seat that owns the parts of the clients that are left
abbrev pub invariant-loop-client : goal.invariant-loop-client
invariant-loop-client g l = record {
  own : IsSeatOf l.cell l.seat;
  fresh : (origin : Origin g.row.V.Denot g.row.A.Denot) → known l.fn.seat ≡ fresh_seat origin 0 8 → known l.seat ≡ fresh_seat origin l.client (8 - l.client);
  passes : (origin : Origin g.row.V.Denot g.row.A.Denot) → known l.fn.seat ≡ fresh_seat origin 0 8
      → l.passes.items ≡ l.fn.passes.items ++ fresh_passes (cell_id l.cell) origin l.app 0 l.client;
  long : vec_len l.passes ≡ vec_len l.fn.passes + l.client;
  room : vec_capacity l.passes ≡ vec_capacity l.fn.passes;
}
