use Rattle.std.proofs.Common.{◌≡◌, length, rules, arith, refl}
use Rattle.ae_modes.proofs.BlockLemmas.{behind_blocks}
use Rattle.ae_modes.proofs.waiting.Waiting.bytes_after.Goals as goal

pub returns-else-blocks-eq0 : goal.returns-else-blocks-eq0
returns-else-blocks-eq0 c =
    let long : length c.args.self.now.bytes ≡ 16 = search rules in
    behind_blocks c.args.self.now.bytes c.args.input.now _ _ c.args.self.now.count c.args.blocks _ long c.args.self.now.within
    (omega arith) c.requires.within refl c.copy_from_slice-else-blocks-eq0.ensures.after
