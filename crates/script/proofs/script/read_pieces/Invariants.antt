use Rattle.std.proofs.Common.{◌≡◌, ◌≤◌, ◌+◌, drop, map}
use Rattle.tee_base.specs.declared.limits.TheConstants.{MAX_FILL_BYTES}
use Rattle.script.specs.Scripts.{no_reading, read_from}
use Rattle.script.proofs.script.read_pieces.Given as goal

-- what was read so far, and then the pieces from here on, are as all
abbrev pub invariant-loop-index : goal.invariant-loop-index
invariant-loop-index g l = record {
  read : read_from l.dialect l.hosts (l.index + 1) l.reader (map (λ piece. piece.now) (drop l.index l.pieces)) ≡ read_from l.dialect l.hosts 1 no_reading (map (λ piece. piece.now) l.pieces);
  within : l.reader.filled ≤ MAX_FILL_BYTES;
}
