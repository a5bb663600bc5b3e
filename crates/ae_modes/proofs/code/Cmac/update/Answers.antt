use Rattle.std.proofs.Common.{◌≡◌, ◌∙◌, ◌+◌, ◌-◌, ◌*◌, ◌/◌, ◌++◌, length, ap, sym, arith, rules}
use Rattle.std.proofs.lemmas.List.{length-append}
use Rattle.ae_modes.specs.Cmac.{blocks_before}
use Rattle.ae_modes.specs.Code.{chain_value}
use Rattle.ae_modes.specs.Waiting.{waiting_bytes}
use Rattle.ae_modes.proofs.BlockLemmas.{waiting_count, waiting_of_message}
use Rattle.ae_modes.proofs.code.Cmac.update.Goals as goal

pub returns : goal.returns
returns c = λ key m is.
    let long : length c.args.self.now.waiting.bytes ≡ 16 = search rules in
    let piece = c.args.bytes.now in
    let count : c.args.self.now.waiting.count ≡ length m - 16 * blocks_before m =
    waiting_count c.args.self.now.waiting m (blocks_before m) long is.waiting_are in
    let all : blocks_before m + c.saturating_sub-blocks.result / 16 ≡ blocks_before (m ++ piece) =
    omega (arith, c.saturating_sub-blocks.ensures, length-append m piece) in
    record {
      key_is = is.key_is;
      subkey_is = is.subkey_is;
      vector_is = c.vector_after-self.ensures key m is ∙ ap (chain_value key (m ++ piece)) all;
      waiting_are = waiting_of_message m piece (waiting_bytes c.args.self.now.waiting) _ (blocks_before m) _ _ (omega arith) is.waiting_are c.after-self.ensures (sym all);
    }
