use Rattle.std.proofs.Common.{◌<◌, ◌-◌, List, length}
use Rattle.turn_cell.specs.Words.{IsSeatOf, cell_id, view as known}
use Rattle.app_side.specs.declared.side.AppSide.{AppSide}
use Rattle.shared_tee.specs.Making.{AreBegun, ComesBack, origins_over}
use Rattle.shared_tee.proofs.making.undo_all.Given as goal

-- the cells that are left, and a seat that has the parts of the others
abbrev pub invariant-loop-cell : goal.invariant-loop-cell
invariant-loop-cell g l = record {
  few : length l.begun.items < l.apps;
  begun : (sides : List (AppSide g.row.A.Denot)) × AreBegun 0 (origins_over g.V.Volume.keeper (cell_id l.storage) l.apps l.opened.value 0 sides) l.begun.items;
  own : IsSeatOf l.storage l.seat;
  back : ComesBack g.V.Volume.keeper l.apps l.opened.value (length l.begun.items) (l.apps - length l.begun.items) (known l.seat);
}

abbrev pub decreases-loop-cell : goal.decreases-loop-cell
decreases-loop-cell g l = length l.begun.items
