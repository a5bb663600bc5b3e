use Rattle.std.proofs.Common.{Vec, ℕ, ap, refl, ◌∙◌}
use Rattle.std.specs.declared.alloc.Global.{Global}
use Rattle.boards.proofs.Calls.{answered, called, counted_so, exact_always, one_more}
use Rattle.boards.proofs.memory.MemBoardBoard.write.Goals as goal

pub returns-clause-call : goal.returns-clause-call
returns-clause-call c =
    let s = c.next-fate.ensures in
    let d = c.write.ensures in
    called _ _ c.next-fate.result _ _ s.fate (λ stopped. d.ok ∙ stopped) c.args.self.now.whole.faults d.size refl d.orders refl (counted_so _ _ _ _ _ d.ok d.faults) s.fuse

pub returns-clause-honest : goal.returns-clause-honest
returns-clause-honest c h =
    let d = c.write.ensures in
    (tt, answered _ c.next-fate.result _ _ c.next-fate.ensures.fate (one_more _ _ _ c.then.ensures) d.refused, d.wrote)

pub returns-clause-exact : goal.returns-clause-exact
returns-clause-exact c =
    let s = c.next-fate.ensures in
    let d = c.write.ensures in
    exact_always _ c.next-fate.result _ _ s.fate d.ok (counted_so _ _ _ _ _ d.ok d.faults) s.calls (ap (λ (v : Vec ℕ Global). v.items) s.failing)
