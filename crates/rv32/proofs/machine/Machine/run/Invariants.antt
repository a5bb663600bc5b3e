use Rattle.std.proofs.Common.{◌≡◌, ◌-◌}
use Rattle.rv32.specs.Machine as isa
use Rattle.rv32.proofs.machine.Machine.run.Given as goal

-- what is left of the run leads where the whole run leads
abbrev pub invariant-loop : goal.invariant-loop
invariant-loop l = isa.run (l.budget - l.counter) l.self ≡ isa.run l.budget l.initial.self
