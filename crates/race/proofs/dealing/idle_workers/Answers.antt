use Rattle.std.proofs.Common.{◌+◌, Ok, refl, sym, subst}
use Rattle.race.specs.declared.worker.Worker.{Worker}
use Rattle.race.proofs.DealLemmas.{AreIdleTo, idle_more}
use Rattle.race.proofs.dealing.idle_workers.Goals as goal

pub loop-client-preserved : goal.loop-client-preserved
loop-client-preserved g c =
    let new : Worker g.row.V.Denot g.row.A.Denot = record { client = c.loop-client.client; passes = c.in_ok-passes.passes; ended = Ok tt } in
    subst (λ ws. AreIdleTo c.args.apps (c.loop-client.client + 1) ws) (sym c.in_ok-push.ensures.items)
    (idle_more c.args.apps c.loop-client.client c.loop-client.workers.items new c.loop-client.invariant
    (record { client_is = refl; none = c.in_ok-passes.ensures.items; room = c.in_ok-passes.ensures.capacity }))
