use Rattle.std.proofs.Common.{◌≡◌, ◌+◌, ◌-◌, ◌*◌, ◌/◌, ◌++◌, length, ap, sym, ◌∙◌, arith, rules}
use Rattle.std.proofs.lemmas.List.{length-append}
use Rattle.ae_modes.specs.Ghash.{ghash_blocks}
use Rattle.ae_modes.specs.Waiting.{waiting_bytes}
use Rattle.ae_modes.proofs.BlockLemmas.{waiting_count, waiting_of_message}
use Rattle.ae_modes.proofs.ghash.Ghash.absorb.Goals as goal

pub returns : goal.returns
returns c = λ h x is.
    let long : length c.args.self.now.waiting.bytes ≡ 16 = search rules in
    let piece = c.args.bytes.now in
    let count : c.args.self.now.waiting.count ≡ length x - 16 * (length x / 16) =
    waiting_count c.args.self.now.waiting x (length x / 16) long is.waiting_are in
    let all : length x / 16 + (c.args.self.now.waiting.count + length piece) / 16 ≡ length (x ++ piece) / 16 = omega (arith, length-append x piece) in
    record {
      tables_are = is.tables_are;
      sum_is = c.sum_after-self.ensures h x is ∙ ap (ghash_blocks h (x ++ piece)) all;
      waiting_are = waiting_of_message x piece (waiting_bytes c.args.self.now.waiting) _ (length x / 16) _ _ (omega arith) is.waiting_are c.after-self.ensures (sym all);
    }
