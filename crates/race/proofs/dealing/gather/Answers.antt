use Rattle.std.proofs.Common.{rules, ◌≡◌, ◌<◌, ◌+◌, ◌*◌, ◌∙◌, set, sym, subst, arith}
use Rattle.race.specs.declared.worker.Worker.{Worker}
use Rattle.race.proofs.DealLemmas.{AreFirstBack, all_back, back_more, found_at, some_left}
use Rattle.race.proofs.dealing.gather.Goals as goal

pub take_first-requires : goal.take_first-requires
take_first-requires g c =
    let was = c.loop-client.invariant.back in
    let there = found_at c.loop-client.workers.items c.loop-client.client c.index_mut.result.now c.index_mut.ensures.value (let e = was.eight in omega arith) in
    let some = some_left c.args.apps c.args.workers.now.items c.requires.all c.loop.counter c.loop-client.client c.loop-client.workers.items c.loop-client.passes.items was (omega arith) (omega
    arith) c.index_mut.result.now there in
    subst (λ n. 0 < n) (search rules) some

pub loop-client-preserved : goal.loop-client-preserved
loop-client-preserved g c =
    let was = c.loop-client.invariant.back in
    let w = c.index_mut.result.now in
    let new : Worker g.row.V.Denot g.row.A.Denot = record { client = w.client; passes = c.take_first.new.items; ended = w.ended } in
    let there = found_at c.loop-client.workers.items c.loop-client.client w c.index_mut.ensures.value (let e = was.eight in omega arith) in
    let more = back_more c.args.apps c.args.workers.now.items c.requires.all c.loop.counter c.loop-client.client c.loop-client.workers.items c.loop-client.passes.items was (omega arith) (omega
    arith) w there c.take_first.result c.take_first.ensures.value new c.take_first.ensures.rest in
    record {
      back = subst (λ n. AreFirstBack c.args.workers.now.items n (set c.loop-client.workers.items c.loop-client.client new) c.push_reserved.new.self.items)
          (let e : 8 * c.loop.counter + c.loop-client.client + 1 ≡ 8 * c.loop.counter + (c.loop-client.client + 1) = omega arith in e)
          (subst (λ ps. AreFirstBack c.args.workers.now.items (8 * c.loop.counter + c.loop-client.client + 1) (set c.loop-client.workers.items c.loop-client.client new) ps)
          (sym c.push_reserved.ensures.items) more);
      capacity = c.push_reserved.ensures.capacity ∙ c.loop-client.invariant.capacity;
    }

pub returns : goal.returns
returns g c = all_back c.args.apps c.args.workers.now.items c.requires.all c.loop.workers.items c.loop.passes.items
    (subst (λ n. AreFirstBack c.args.workers.now.items (8 * n) c.loop.workers.items c.loop.passes.items) (let e : c.loop.counter ≡ c.args.apps = omega arith in e) c.loop.invariant.back)
