use Rattle.boards.proofs.Calls.{one_more, order_unchanged}
use Rattle.boards.proofs.memory.MemBoardBoard.fuse.Goals as goal

pub returns-clause-honest : goal.returns-clause-honest
returns-clause-honest c h = (tt, record { past = one_more _ _ _ c.then.ensures }, order_unchanged _ _ _ c.order.ensures)

pub returns-clause-fuse : goal.returns-clause-fuse
returns-clause-fuse c = c.refit.ensures
