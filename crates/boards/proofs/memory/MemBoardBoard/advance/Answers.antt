use Rattle.std.proofs.Common.{Vec, ℕ, ap, refl, ◌∙◌}
use Rattle.std.specs.declared.alloc.Global.{Global}
use Rattle.std.proofs.lemmas.Bool.{and_left}
use Rattle.boards.proofs.Calls.{answered, called, exact, one_more}
use Rattle.boards.proofs.memory.MemBoardBoard.advance.Goals as goal

pub returns-clause-call : goal.returns-clause-call
returns-clause-call c =
    let s = c.next-fate.ensures in
    let d = c.advance.ensures in
    called _ _ c.next-fate.result _ _ s.fate (λ stopped. d.ok ∙ and_left _ _ stopped) c.args.self.now.whole.faults d.size refl d.orders refl d.faults s.fuse

pub returns-clause-honest : goal.returns-clause-honest
returns-clause-honest c h =
    let d = c.advance.ensures in
    (tt, answered _ c.next-fate.result _ _ c.next-fate.ensures.fate (one_more _ _ _ c.then.ensures) d.refused, d.advanced)

pub returns-clause-exact : goal.returns-clause-exact
returns-clause-exact c =
    let s = c.next-fate.ensures in
    let d = c.advance.ensures in
    exact _ _ c.next-fate.result _ _ s.fate d.ok d.faults s.calls (ap (λ (v : Vec ℕ Global). v.items) s.failing)
