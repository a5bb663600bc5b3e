-- A text that is written piece by piece: of each piece what a call of its own leaves of the sink.
use Rattle.std.proofs.Common.{◌≤◌, List, ℕ, Result, Err, Ok, arith}
use Rattle.std.specs.Io.KnownBytes.{Appends}
use Rattle.std.proofs.lemmas.Result.{on_err_weaker, on_ok_weaker}
use Rattle.tee_base.specs.Transfer.{AppendsFront}
use Rattle.tee_base.specs.declared.io.Sink.{Ghosts as SinkGhosts}
use Rattle.run_board.specs.Writing.{Writes}
use Rattle.run_board.specs.declared.lines.Stop.{Stop}
use Rattle.run_board.specs.declared.lines.Stop.TheVariants as stops
use Rattle.run_board.proofs.Layers.{never_faulty, never_stopped, served_again, stop_again}
use Rattle.run_board.proofs.Parts.{rose_later}

module _ {W : Type 0} (H : SinkGhosts W) where
  -- all was written
  pub writes_all : {X : Type 0} (text : List ℕ) (x : X) (old new : W) → Appends (H.written old) (H.written new) text → H.failures old ≤ H.failures new → Writes H text (Ok x) old new
  writes_all text x old new all later = record { ok = all; err = tt; fault = λ is. absurd (never_stopped x stops.WriteFault is); later = later; served = tt }

  -- there was no memory for more
  pub writes_none : {X : Type 0} (text : List ℕ) (old new : W) → AppendsFront text (H.written old) (H.written new) → H.failures old ≤ H.failures new
      → Writes {X = X} H text (Err stops.NoMemory) old new
  writes_none text old new front later = record { ok = tt; err = front; fault = λ is. absurd (never_faulty is); later = later; served = tt }

  -- a piece wasn't written to its end
  pub writes_stopped : {X Y : Type 0} (piece text : List ℕ) (stop : Stop) (old mid new : W)
      → (AppendsFront piece (H.written mid) (H.written new) → AppendsFront text (H.written old) (H.written new)) → H.failures old ≤ H.failures mid
      → Writes {X = X} H piece (Err stop) mid new → Writes {X = Y} H text (Err stop) old new
  writes_stopped {X} {Y} piece text stop old mid new front later writes = record {
    ok = tt;
    err = front writes.err;
    fault = λ is. rose_later (H.failures old) (H.failures mid) (H.failures new) later (writes.fault (stop_again Y X stop stops.WriteFault is));
    later = omega (arith, later, writes.later);
    served = served_again X Y stop writes.served;
  }

  -- the last piece was to be written
  pub writes_last : {X : Type 0} (piece text : List ℕ) (r : Result X Stop) (old mid new : W) → (Appends (H.written mid) (H.written new) piece → Appends (H.written old) (H.written new) text)
      → (AppendsFront piece (H.written mid) (H.written new) → AppendsFront text (H.written old) (H.written new)) → H.failures old ≤ H.failures mid → Writes H piece r mid new
      → Writes H text r old new
  writes_last piece text r old mid new all front later writes = record {
    ok = on_ok_weaker r all writes.ok;
    err = on_err_weaker r front writes.err;
    fault = λ is. rose_later (H.failures old) (H.failures mid) (H.failures new) later (writes.fault is);
    later = omega (arith, later, writes.later);
    served = writes.served;
  }
