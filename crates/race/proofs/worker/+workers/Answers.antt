use Rattle.std.proofs.Common.{rules, ◌++◌, ◌∷◌, [], sym, subst}
use denote.Param.{param}
use contract.Lifetimes.{Lfts}
use Rattle.race.proofs.worker.+workers.Given.{Over}
use Rattle.race.proofs.worker.+workers.Lts-run_all as lts
use denote.Param.Send.{IsSend, IsSync, sendable, param_send}
use Rattle.shared_tee.proofs.Crosses.{SharedTeeOver-sync}
use Rattle.race.proofs.Crosses.{Line-sync, Worker-field, Worker-send}
use Rattle.race.specs.Workers.{AllHaveRun, AllMayRun}
use Rattle.race.proofs.RunLemmas.{all_have_run, last_may, others_may}
use Rattle.race.proofs.worker.+workers.Goals as goal

pub join-last-requires-after_bounds : goal.join-last-requires-after_bounds
join-last-requires-after_bounds g t c κs within =
    let all = subst (λ ws. AllMayRun g.V.Volume.keeper g.A.Application.behaviour c.args.shared.now c.args.lines.now ws) c.in-Some.ensures.items c.requires.ready in
    let one = last_may g.V.Volume.keeper g.A.Application.behaviour c.args.shared.now c.args.lines.now c.pop.new.self.items c.in-Some.last all in
    let others = others_may g.V.Volume.keeper g.A.Application.behaviour c.args.shared.now c.args.lines.now c.pop.new.self.items c.in-Some.last all in (
      ((search sendable, search sendable, search sendable, search sendable, c.requires.few, one), search sendable),
      (
        search rules,
        (
          λ a m. m,
          (λ a m. m, (λ a m. m, (λ a m. m, ((search sendable, search sendable, search sendable, search sendable, c.requires.few, others), search sendable)))),
        ),
      ),
    )

-- what the first of two threads is given may cross to it
first_sent : (g : Over) (κs : Lfts 14) → IsSync (param 0 g.row.R) → IsSync (param 3 g.row.G) → IsSend (param 1 g.row.V) → IsSend (param 2 g.row.A)
    → IsSend (lts.arg-1-1 g.row.R g.row.V g.row.A g.row.G g.R.laws g.V.laws g.A.laws g.G.laws g.R.Threads g.R.Threads-dict g.R.Wait g.R.Wait-dict
    g.V.Volume g.V.Volume-dict g.A.Application g.A.Application-dict g.G.Gate g.G.Gate-dict g.A.Destruct-dict κs)
first_sent g κs r q v a = search (Worker-field, Worker-send, SharedTeeOver-sync, Line-sync, sendable) depth 40

pub join-last-requires-send-F : goal.join-last-requires-send-F
join-last-requires-send-F g t c κs within =
    param_send 1
    (lts.arg-1-1 g.row.R g.row.V g.row.A g.row.G g.R.laws g.V.laws g.A.laws g.G.laws g.R.Threads g.R.Threads-dict g.R.Wait g.R.Wait-dict
    g.V.Volume g.V.Volume-dict g.A.Application g.A.Application-dict g.G.Gate g.G.Gate-dict g.A.Destruct-dict κs)
    (first_sent g κs (search sendable) (search sendable) (search sendable) (search sendable))

pub join-last-requires-send-A : goal.join-last-requires-send-A
join-last-requires-send-A g t c κs within = search (Worker-send, sendable) depth 40

pub returns-clause-run : goal.returns-clause-run
returns-clause-run g t c =
    subst (λ ws. AllHaveRun g.V.Volume.keeper g.A.Application.behaviour c.args.shared.now c.args.lines.now ws c.push_reserved.new.self.items) (sym c.in-Some.ensures.items)
    (subst (λ ws. AllHaveRun g.V.Volume.keeper g.A.Application.behaviour c.args.shared.now c.args.lines.now (c.pop.new.self.items ++ c.in-Some.last ∷ []) ws) (sym c.push_reserved.ensures.items)
    (all_have_run g.V.Volume.keeper g.A.Application.behaviour c.args.shared.now c.args.lines.now c.pop.new.self.items c.join-last.result.1.items c.in-Some.last c.join-last.result.0
    c.join-last.ensures.second.0 c.join-last.ensures.first))
