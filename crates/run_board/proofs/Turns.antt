-- Turns of one machine under marks that agree with them.
use Rattle.std.proofs.Common.{ℕ, ◌≡◌, true}
use Rattle.alone.specs.declared.turn.TurnKind.{TurnKind}
use Rattle.alone.specs.declared.turn.TurnKind.TheVariants as kinds
use Rattle.alone.specs.Machine.{Machine}
use Rattle.alone.specs.Marks.{Marks, event_at}
use Rattle.alone.specs.Step.{is_enabled}
use Rattle.app_side.specs.Represents.{event_of}
use Rattle.tee_core.proofs.Turns.{event_of_marks}
use Rattle.run_board.specs.Parts.{AgreesAt}

-- marks that agree with a turn of a kind give it
pub event_as : {A : Type 0} (marks : Marks) (m : Machine A) (kind : TurnKind) (i : ℕ) → is_enabled m (event_of kind i) ≡ true → AgreesAt marks m (event_of kind i)
    → event_at marks m i ≡ event_of kind i
event_as marks m kinds.Plain i may agree = event_of_marks marks m kinds.Plain i agree.lost agree.corrupt agree.starved may
event_as marks m (kinds.Lost change) i may agree = event_of_marks marks m (kinds.Lost change) i agree.lost agree.corrupt agree.starved may
event_as marks m kinds.Starved i may agree = event_of_marks marks m kinds.Starved i agree.lost agree.corrupt agree.starved may
event_as marks m kinds.Corrupted i may agree = event_of_marks marks m kinds.Corrupted i agree.lost agree.corrupt agree.starved may
