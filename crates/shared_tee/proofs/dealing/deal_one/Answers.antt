use Rattle.std.proofs.Common.{arith}
use Rattle.turn_cell.specs.Words.{cell_id_of, view as known}
use Rattle.shared_tee.proofs.DealLemmas.{fresh_is_pass, left_fresh}
use Rattle.shared_tee.proofs.dealing.deal_one.Goals as goal

pub invariant_of-push_reserved : goal.invariant_of-push_reserved
invariant_of-push_reserved g c =
    let own = c.split-rest.new.seat in
    let client = c.args.client in
    fresh_is_pass g.V.Volume.keeper g.A.Application.behaviour c.requires.fresh.0 c.args.app client (cell_id_of own) (known own) (omega (arith, c.requires.client))
    (left_fresh c.requires.fresh.0 client (omega (arith, c.requires.client)) (known c.args.seat) (known own) c.requires.fresh.1 c.split-rest.ensures.left.1)
