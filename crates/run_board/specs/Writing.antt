-- What a call that writes a text leaves of its sink.
use Rattle.std.specs.Prelude.{◌≤◌, Result, IsErrOf, OnErr, OnOk}
use Rattle.std.specs.Io.KnownBytes.{Appends}
use Rattle.tee_base.specs.Faults.{Rose}
use Rattle.tee_base.specs.Transfer.{AppendsFront}
use Rattle.tee_base.specs.Words.{Text}
use Rattle.tee_base.specs.declared.io.Sink.{Ghosts as SinkGhosts}
use Rattle.run_board.specs.Stops.{IsNoRefusal}
use Rattle.run_board.specs.declared.lines.Stop.{Stop}
use Rattle.run_board.specs.declared.lines.Stop.TheVariants as stops

-- the text was written, or a front of it where there was no memory or a write failed
pub record Writes {W X : Type 0} (H : SinkGhosts W) (text : Text) (result : Result X Stop) (old new : W) : Type 0 where
  pub ok : OnOk result (Appends (H.written old) (H.written new) text)
  pub err : OnErr result (AppendsFront text (H.written old) (H.written new))
  pub fault : IsErrOf result stops.WriteFault → Rose (H.failures old) (H.failures new)
  pub later : H.failures old ≤ H.failures new
  pub served : IsNoRefusal result
