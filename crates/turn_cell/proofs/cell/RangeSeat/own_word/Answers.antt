-- A seat's number is its first part.
use Rattle.std.proofs.Common.{ℕ, ◌+◌, ap, ◌∙◌}
use Rattle.turn_cell.proofs.cell.RangeSeat.own_word.Goals as goal

pub returns : goal.returns
returns g c = ap (λ (n : ℕ). n + 1) (c.from.ensures ∙ c.args.self.now.numbered)
