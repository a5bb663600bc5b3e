use Rattle.std.proofs.Common.{◌≡◌, ◌+◌, ◌-◌, ◌∙◌, ap, arith, subst}
use Rattle.turn_cell.specs.Words.{cell_id, cell_id_of, view as known}
use Rattle.shared_tee.specs.Dealing.{fresh_seat}
use Rattle.shared_tee.proofs.DealLemmas.{dealt_last, dealt_more, fresh_is_pass}
use Rattle.shared_tee.proofs.pass.Pass.deal.Goals as goal

pub deal_one-seat-requires-clause-fresh : goal.deal_one-seat-requires-clause-fresh
deal_one-seat-requires-clause-fresh g c = (c.requires.fresh.0, c.loop-client.invariant.fresh c.requires.fresh.0 c.requires.fresh.1)

pub loop-client-preserved : goal.loop-client-preserved
loop-client-preserved g c =
    let was = c.loop-client.invariant in
    let now = c.deal_one-seat.ensures in
    let n = c.loop-client.client in
    let left : 7 - n ≡ 8 - (n + 1) = omega arith in
    record {
      own = now.own;
      fresh = λ origin is. now.rest origin (was.fresh origin is) ∙ ap (λ k. fresh_seat origin (n + 1) k) left;
      passes = λ origin is. dealt_more (cell_id c.args.cell.now) origin c.args.app n c.args.passes.now.items c.loop-client.passes.items c.deal_one-seat.new.passes.items
          (was.passes origin is) (now.passes origin (was.fresh origin is));
      long = let e = now.len in let f = was.long in omega (arith, e, f);
      room = now.capacity ∙ was.room;
    }

pub invariant_of-push_reserved : goal.invariant_of-push_reserved
invariant_of-push_reserved g c =
    let origin = c.requires.fresh.0 in
    let seven : c.loop-client.client ≡ 7 = omega arith in
    let fresh = subst (λ n. known c.loop-client.seat ≡ fresh_seat origin n (8 - n)) seven (c.loop-client.invariant.fresh origin c.requires.fresh.1) in
    fresh_is_pass g.V.Volume.keeper g.A.Application.behaviour origin c.args.app 7 (cell_id_of c.loop-client.seat) (known c.loop-client.seat) (omega arith) fresh

pub returns-clause-passes : goal.returns-clause-passes
returns-clause-passes g c = λ origin is.
    let seven : c.loop-client.client ≡ 7 = omega arith in
    let was = c.loop-client.invariant in
    let fresh = subst (λ n. known c.loop-client.seat ≡ fresh_seat origin n (8 - n)) seven (was.fresh origin is) in
    dealt_last (cell_id c.args.cell.now) origin c.args.app c.loop-client.client c.args.passes.now.items c.loop-client.passes.items c.push_reserved.new.self.items seven
    (was.passes origin is) (cell_id_of c.loop-client.seat) was.own (known c.loop-client.seat) fresh c.push_reserved.ensures.items
