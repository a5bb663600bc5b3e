-- What callers' clauses say of a cell and of a seat.
use Rattle.std.specs.Prelude.{◌≡◌, ℕ, List, length}
pub use Rattle.atomic_table.specs.Seated.{TableId}
use Rattle.turn_cell.specs.declared.view.SeatView.{SeatView}
use Rattle.turn_cell.specs.declared.view.Turn.TheVariants.{Free}
use Rattle.turn_cell.specs.declared.cell.RangeSeat.{RangeSeat}
use Rattle.turn_cell.specs.declared.cell.TurnCell.{TurnCell}
use Rattle.turn_cell.specs.View.{HoldsTurn, taken_parts, taken_trail}

module _ {T P E : Type 0} where
  -- what the seat knows
  abbrev pub view : RangeSeat T P E → SeatView P E
  view seat = seat.seat.me.0

  -- which cell the seat is of
  abbrev pub cell_id_of : RangeSeat T P E → TableId
  cell_id_of seat = seat.seat.table_id

  -- the seat doesn't have the value
  abbrev pub IsFree : RangeSeat T P E → Type 0
  IsFree seat = (view seat).turn ≡ Free

  -- the seat has the value, and has taken down its parts and its trail
  abbrev pub HoldsValue : RangeSeat T P E → Type 0
  HoldsValue seat = HoldsTurn (view seat)

  -- the seat has this value
  abbrev pub HasTaken : (T → List P) → (T → List E) → RangeSeat T P E → T → Type 0
  HasTaken parts_of trail_of seat value =
      HoldsValue seat × (taken_parts (view seat).turn ≡ parts_of value) × (taken_trail (view seat).turn ≡ trail_of value)

  -- which cell it is
  abbrev pub cell_id : TurnCell T P E → TableId
  cell_id cell = cell.table.shared.table_id

  -- its name
  abbrev pub name_of : TurnCell T P E → ℕ
  name_of cell = cell.name

  -- the parts of the value that it was made with
  abbrev pub original_parts : (T → List P) → TurnCell T P E → List P
  original_parts parts_of cell = parts_of cell.table.shared.key.value

  -- the seat is of this cell
  abbrev pub IsSeatOf : TurnCell T P E → RangeSeat T P E → Type 0
  IsSeatOf cell seat = cell_id_of seat ≡ cell_id cell

  -- the seat owns every part
  abbrev pub OwnsAll : (T → List P) → TurnCell T P E → RangeSeat T P E → Type 0
  OwnsAll parts_of cell seat = ((view seat).first ≡ 0) × (length (view seat).own ≡ length (original_parts parts_of cell))
