-- Each instruction leaves one fewer, or ends the run.
use Rattle.std.proofs.Common.{◌≡◌, ◌≤◌, None, arith}
use Rattle.rv32.specs.Machine.{step}
use Rattle.rv32.proofs.Runs.{run-goes_on, run-stopped, run-ended}
use Rattle.rv32.proofs.machine.Machine.run.Goals as goal

pub returns-in-Some-clause-machine : goal.returns-in-Some-clause-machine
returns-in-Some-clause-machine c =
    (run-stopped c.args.budget c.loop.counter c.loop.self c.step.new.self c.args.self.now c.in-Some.stop c.step.result c.loop-test.true
    c.loop.invariant c.step.ensures.machine c.step.ensures.stop c.in-Some.is).0

pub returns-in-Some-clause-stop : goal.returns-in-Some-clause-stop
returns-in-Some-clause-stop c =
    (run-stopped c.args.budget c.loop.counter c.loop.self c.step.new.self c.args.self.now c.in-Some.stop c.step.result c.loop-test.true
    c.loop.invariant c.step.ensures.machine c.step.ensures.stop c.in-Some.is).1

pub loop-preserved : goal.loop-preserved
loop-preserved c =
    let goes : (step c.loop.self).stop ≡ None = cc in
    let on = run-goes_on c.args.budget c.loop.counter c.loop.self c.loop-test.true goes in
    cc

pub returns-clause-machine : goal.returns-clause-machine
returns-clause-machine c =
    let end : c.args.budget ≤ c.loop.counter = omega arith in
    (run-ended c.args.budget c.loop.counter c.loop.self c.args.self.now end c.loop.invariant).0

pub returns-clause-stop : goal.returns-clause-stop
returns-clause-stop c =
    let end : c.args.budget ≤ c.loop.counter = omega arith in
    (run-ended c.args.budget c.loop.counter c.loop.self c.args.self.now end c.loop.invariant).1
