use Rattle.std.proofs.Common.{◌≡◌, length, arith, rules}
use Rattle.std.proofs.lemmas.List.{length-take-le}
use Rattle.ae_modes.proofs.BlockLemmas.{filled_block}
use Rattle.ae_modes.specs.Waiting.{waiting_bytes}
use Rattle.ae_modes.proofs.waiting.Waiting.filled.Goals as goal

pub returns : goal.returns
returns c =
    let long : length c.args.self.now.bytes ≡ 16 = search rules in
    filled_block c.copy_from_slice.new.self (waiting_bytes c.args.self.now) c.args.self.now.count c.copy_from_slice.ensures.after
    (length-take-le c.args.self.now.count c.args.self.now.bytes (omega arith)) c.requires
