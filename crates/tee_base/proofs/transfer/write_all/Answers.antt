use Rattle.std.proofs.Common.{◌≡◌, ◌++◌, ℕ, List, take, drop, arith, append_assoc, take-append-drop}
use Rattle.std.proofs.KnownBytes.{Appends-trans}
use Rattle.tee_base.proofs.transfer.write_all.Goals as goal

-- a piece that is written up to its rest is written further by the front of the rest
further : (piece front rest before behind : List ℕ) (n : ℕ) → piece ≡ front ++ rest → before ≡ take n rest → behind ≡ drop n rest → piece ≡ (front ++ take n rest) ++ behind
further piece front rest before behind n whole e f = rw (f, append_assoc, take-append-drop) whole

pub loop-rest-preserved : goal.loop-rest-preserved
loop-rest-preserved g c = let written = c.loop-rest.invariant.front in record {
  front = (
    written.0 ++ take c.in-Ok.count c.loop-rest.rest.now,
    further _ written.0 _ _ _ _ written.1 c.split_at.ensures.front c.split_at.ensures.back,
    Appends-trans _ _ _ _ _ written.2 c.in-Ok.ensures.appended,
  );
  later = omega (arith, c.loop-rest.invariant.later, c.write.ensures.later);
}
