use Rattle.std.proofs.Common.{◌≡◌, ◌≤◌, ◌+◌, ◌-◌, ◌++◌, List, length}
use Rattle.std.specs.Prelude.{vec_capacity}
use Rattle.turn_cell.specs.Words.{IsSeatOf, cell_id, view as known}
use Rattle.app_side.specs.declared.side.AppSide.{AppSide}
use Rattle.shared_tee.specs.Making.{AreBegun, opened_seat, origins_over}
use Rattle.shared_tee.proofs.making.begin_all.Given as goal

-- the applications that have begun, those that are left, and a seat that has their parts
abbrev pub invariant-loop-app : goal.invariant-loop-app
invariant-loop-app g l = record {
  apps : l.apps ≡ length l.fn.sides.items;
  begun : (front : List (AppSide g.row.A.Denot)) × (front ++ l.rest.items ≡ l.fn.sides.items)
      × AreBegun 0 (origins_over g.V.Volume.keeper (cell_id l.storage) l.apps l.opened.value 0 front) l.begun.items;
  long : length l.begun.items + 1 ≡ l.app;
  own : IsSeatOf l.storage l.seat;
  seat : known l.seat ≡ opened_seat g.V.Volume.keeper l.apps l.opened.value (length l.begun.items) (l.apps - length l.begun.items);
  room : l.apps ≤ vec_capacity l.begun;
}
