use Rattle.std.proofs.Common.{◌≡◌, length, rules, arith, ◌∙◌}
use Rattle.ae_modes.proofs.BlockLemmas.{first_block, later_block}
use Rattle.ae_modes.proofs.waiting.Waiting.block.Goals as goal

pub returns-then-i-eq0 : goal.returns-then-i-eq0
returns-then-i-eq0 c =
    let long : length c.args.self.now.bytes ≡ 16 = search rules in
    first_block c.args.self.now.bytes c.args.input.now _ c.args.self.now.count c.args.i long c.args.self.now.within c.if-i-eq0.true
    c.copy_from_slice.ensures.after

pub returns-else-i-eq0 : goal.returns-else-i-eq0
returns-else-i-eq0 c =
    let long : length c.args.self.now.bytes ≡ 16 = search rules in
    c.block_from.ensures
    ∙ later_block c.args.self.now.bytes c.args.input.now c.args.self.now.count c.args.i long c.args.self.now.within (omega arith)
