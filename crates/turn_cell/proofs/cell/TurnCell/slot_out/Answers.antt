-- The slot is in the seat's hands.
use Rattle.std.proofs.Common.{ℕ, List, ◌∷◌, Option, Some, ap, ◌∙◌, sym}
use Rattle.atomic_table.specs.Table.{rest}
use Rattle.turn_cell.proofs.cell.TurnCell.slot_out.Goals as goal

pub exchange-requires : goal.exchange-requires
exchange-requires g c =
    let full = c.requires.full in
    (c.requires.own, (Some full.0, full.1 ∙ ap (λ (hand : List (ℕ × Option g.row.T.Denot)). (0, Some full.0) ∷ rest hand) (sym full.1)))
