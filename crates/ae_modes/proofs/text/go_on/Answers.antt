use Rattle.std.proofs.Common.{ℕ, arith, subst}
use Rattle.aes_core.specs.Shared.{IsSharedStart}
use Rattle.aes_modes.specs.Modes.{counter_block}
use Rattle.ae_modes.proofs.TextLemmas.{start_goes_on}
use Rattle.ae_modes.proofs.text.go_on.Goals as goal

pub returns-then-next-eq0 : goal.returns-then-next-eq0
returns-then-next-eq0 c = subst (λ (n : ℕ). IsSharedStart c.args.key.now (counter_block n) c.start_at.result) c.raised-next.ensures c.start_at.ensures

pub returns-else-next-eq0 : goal.returns-else-next-eq0
returns-else-next-eq0 c =
    start_goes_on c.args.key.now c.args.start.now c.args.counter c.args.n c.raised-next.result c.ranges.counter.fits c.raised-next.ensures (omega arith) c.requires.shared
