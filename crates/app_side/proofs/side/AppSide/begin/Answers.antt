use Rattle.std.proofs.Common.{◌≡◌, ◌∙◌, ℕ, Option, None, sym, ap}
use Rattle.app_side.proofs.Torn.{begun_torn, on_err_any}
use Rattle.op_queue.specs.declared.operation.Begun.{Begun}
use Rattle.op_queue.specs.Queue.{Queue, after_begin, begun_at, first_waiting}
use Rattle.alone.specs.Machine.{Machine}
use Rattle.alone.specs.Step.{begun_with, idle, torn_down}
use Rattle.alone.proofs.Lists.{found_number}
use Rattle.app_side.specs.Represents.{machine_of}
use Rattle.app_side.proofs.side.AppSide.begin.Goals as goal

pub returns-in_err-running-in-Some-clause-err : goal.returns-in_err-running-in-Some-clause-err
returns-in_err-running-in-Some-clause-err g c =
    let m : Machine g.row.A.Denot = machine_of c.args.self.now in
    on_err_any c.from_residual.result (λ code origin.
    ap (λ (q : Queue). torn_down (record m { queue = q }) c.args.number code origin) c.begin.ensures.after
    ∙ begun_torn m c.args.number code origin c.bounds.ensures.kept)

pub returns-in-None-clause-ok : goal.returns-in-None-clause-ok
returns-in-None-clause-ok g c inst found =
    let m : Machine g.row.A.Denot = machine_of c.args.self.now in
    let q : Queue = m.queue in
    let number : inst.number ≡ c.args.number = found_number c.args.number c.args.self.now.instances.items inst found in
    let none : None ≡ begun_at (first_waiting q inst.number) = sym c.in-None.is ∙ c.begin.ensures.begun ∙ ap (λ (n : ℕ). begun_at (first_waiting q n)) (sym number) in
    c.idle.ensures inst found
    ∙ ap (λ (x : Queue). idle (record m { queue = x }) inst) c.begin.ensures.after
    ∙ ap (λ (n : ℕ). idle (record m { queue = after_begin q (first_waiting q n) }) inst) (sym number)
    ∙ ap (λ (o : Option Begun). begun_with (record m { queue = after_begin q (first_waiting q inst.number) }) inst o) none
