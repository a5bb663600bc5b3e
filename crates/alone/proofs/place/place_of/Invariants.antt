use Rattle.std.proofs.Common.{◌≡◌, ◌<◌, ℕ, false, get_or}
use Rattle.alone.specs.declared.active_entry.Instance.{Instance}
use Rattle.alone.specs.Machine.{is_number}
use Rattle.alone.proofs.place.place_of.Given as goal

-- none of the instances so far has the number
abbrev pub invariant-loop-place : goal.invariant-loop-place
invariant-loop-place g l = (k : ℕ) → k < l.place → (d : Instance g.row.A.Denot) → is_number l.number (get_or l.instances k d) ≡ false
