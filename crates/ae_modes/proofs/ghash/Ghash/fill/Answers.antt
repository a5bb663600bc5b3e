use Rattle.std.proofs.Common.{◌≡◌, ◌-◌, ◌*◌, ◌/◌, ◌++◌, ℕ, List, length, rules, subst}
use Rattle.ae_modes.specs.Absorbs.{Absorbs}
use Rattle.ae_modes.proofs.BlockLemmas.{waiting_count}
use Rattle.ae_modes.proofs.GhashLemmas.{zeros_taken}
use Rattle.ae_modes.proofs.ghash.Ghash.fill.Goals as goal

pub returns : goal.returns
returns c = λ h x is.
    let long : length c.args.self.now.waiting.bytes ≡ 16 = search rules in
    let count : c.args.self.now.waiting.count ≡ length x - 16 * (length x / 16) =
    waiting_count c.args.self.now.waiting x (length x / 16) long is.waiting_are in
    subst (λ (z : List ℕ). Absorbs c.absorb.new.self h (x ++ z)) (zeros_taken c.args.self.now.waiting.count (length x) count) (c.absorb.ensures h x is)
