use Rattle.std.proofs.Common.{ap, ◌∙◌, refl}
use Rattle.boards.specs.Disk.{offered_of, reads_of}
use Rattle.boards.specs.declared.disk.Disk.{Disk}
use Rattle.boards.proofs.Calls.{one_more, order_powered}
use Rattle.boards.proofs.memory.MemBoardBoard.power.Goals as goal

pub returns-clause-exact : goal.returns-clause-exact
returns-clause-exact c = record {
  faults = ap (λ (d : Disk). d.faults) c.order.ensures ∙ c.power.ensures.faults;
  calls = refl;
  failing = refl;
  offered = ap offered_of c.order.ensures ∙ c.power.ensures.offered;
}

pub returns-clause-honest : goal.returns-clause-honest
returns-clause-honest c h = (tt, record { past = one_more _ _ _ c.then.ensures }, order_powered _ _ _ c.order.ensures _ c.power.ensures.powered)

pub returns-clause-image : goal.returns-clause-image
returns-clause-image c k = ap (λ (d : Disk). reads_of d k) c.order.ensures ∙ c.power.ensures.image k

pub returns-clause-counter : goal.returns-clause-counter
returns-clause-counter c = ap (λ (d : Disk). d.counter) c.order.ensures ∙ c.power.ensures.counter
