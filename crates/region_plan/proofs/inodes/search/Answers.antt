use Rattle.std.proofs.Common.{rules}
use Rattle.std.proofs.lemmas.Fn.{always_returns_same}
use Rattle.store_api.proofs.Costs.{by_bytes}
use Rattle.region_plan.specs.Orders.{id_at}
use Rattle.region_plan.proofs.OrderLemmas.{searched}
use Rattle.region_plan.proofs.inodes.search.Goals as goal

-- the closure compares the identifier of a place
pub returns : goal.returns
returns c =
    let facts = c.binary_search_by.ensures in
    let by_id = facts.position (λ place. by_bytes (id_at c.args.inodes.now place) c.args.id.now) (always_returns_same _ _ _ (λ a r after called. (search rules, search rules))) in
    searched c.args.inodes.now c.args.order.now c.requires c.args.id.now c.binary_search_by.result facts.bound by_id
