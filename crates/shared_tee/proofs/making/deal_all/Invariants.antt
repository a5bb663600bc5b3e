use Rattle.std.proofs.Common.{◌≡◌, ◌≤◌, ◌*◌, ◌++◌, List, length, map}
use Rattle.std.specs.Prelude.{vec_capacity}
use Rattle.turn_cell.specs.Words.{cell_id}
use Rattle.shared_parts.specs.HostedApps.{Origin}
use Rattle.shared_tee.specs.Making.{AreBegun, BegunCell, all_fresh}
use Rattle.shared_tee.proofs.making.deal_all.Given as goal

-- the cells that were dealt, their passes, and the cells that are left
abbrev pub invariant-loop-cell : goal.invariant-loop-cell
invariant-loop-cell g l = record {
  dealt : (front : List (BegunCell g.row.V.Denot g.row.A.Denot)) × (front ++ l.rest.items ≡ l.fn.begun.items) × (l.cells.items ≡ map (λ b. b.0) front)
      × ((origins : List (Origin g.row.V.Denot g.row.A.Denot)) → AreBegun 0 origins l.fn.begun.items → l.passes.items ≡ all_fresh 0 (map (λ b. cell_id b.0) front) origins);
  many : length l.passes.items ≡ 8 * length l.cells.items;
  cells_room : length l.fn.begun.items ≤ vec_capacity l.cells;
  passes_room : 8 * length l.fn.begun.items ≤ vec_capacity l.passes;
}

abbrev pub decreases-loop-cell : goal.decreases-loop-cell
decreases-loop-cell g l = length l.rest.items
