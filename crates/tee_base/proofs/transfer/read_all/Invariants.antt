use Rattle.std.proofs.Common.{◌≡◌, ◌≤◌, ◌<◌, vec_len}
use Rattle.std.specs.Io.KnownBytes.{Consumes}
use Rattle.tee_base.proofs.transfer.read_all.Given as goal

-- what was read so far came from the source
abbrev pub invariant-loop : goal.invariant-loop
invariant-loop g l = record {
  taken : Consumes (g.S.Source.left l.fn.source) (g.S.Source.left l.source) l.items.items;
  within : vec_len l.items < l.most;
  turns : l.counter ≤ vec_len l.items;
  no_fault : g.S.Source.failures l.source ≡ g.S.Source.failures l.fn.source;
}
