use Rattle.std.proofs.Common.{arith}
use Rattle.aes_modes.proofs.CounterLemmas.{start_kept}
use Rattle.aes_modes.proofs.stream.Stream.go_on.Goals as goal

pub returns-then-counter-eq0 : goal.returns-then-counter-eq0
returns-then-counter-eq0 c = λ before e h. c.start_at.ensures

pub returns-else-counter-eq0 : goal.returns-else-counter-eq0
returns-else-counter-eq0 c = λ before e h.
    start_kept c.args.self.now.key c.args.start.now before c.args.counter e (omega arith) h
