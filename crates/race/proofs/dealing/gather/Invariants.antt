use Rattle.std.proofs.Common.{◌≡◌, ◌+◌, ◌*◌, vec_capacity}
use Rattle.race.proofs.DealLemmas.{AreFirstBack}
use Rattle.race.proofs.dealing.gather.Given as goal

-- the passes of the clients before this one came back, of this application too
abbrev pub invariant-loop-client : goal.invariant-loop-client
invariant-loop-client g l = record {
  back : AreFirstBack l.fn.workers.items (8 * l.counter + l.client) l.workers.items l.passes.items;
  capacity : vec_capacity l.passes ≡ vec_capacity l.fn.passes;
}

-- the passes of the first applications came back
abbrev pub invariant-loop : goal.invariant-loop
invariant-loop g l = record {
  back : AreFirstBack l.fn.workers.items (8 * l.counter) l.workers.items l.passes.items;
  capacity : vec_capacity l.passes ≡ vec_capacity l.fn.passes;
}
