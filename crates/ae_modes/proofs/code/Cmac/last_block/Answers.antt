use Rattle.std.proofs.Common.{◌≡◌, ◌<◌, ◌-◌, ◌∷◌, ◌++◌, ◌∙◌, ℕ, List, length, replicate, ap, sym, arith, rules}
use Rattle.std.proofs.lemmas.List.{length-take-le}
use Rattle.std.specs.Int.{w128, to_be_bytes}
use Rattle.aes_modes.specs.Modes.{xor_bytes}
use Rattle.ae_modes.specs.Waiting.{waiting_bytes}
use Rattle.ae_modes.proofs.CodeLemmas.{last_whole, last_filled}
use Rattle.ae_modes.proofs.code.Cmac.last_block.Goals as goal

pub returns-then-self-eq16 : goal.returns-then-self-eq16
returns-then-self-eq16 c = λ key m is.
    let long : length c.args.self.now.waiting.bytes ≡ 16 = search rules in
    c.xor.ensures ∙ ap (xor_bytes c.args.self.now.waiting.bytes) c.block_of_number.ensures
    ∙ last_whole key _ c.args.self.now.waiting.bytes c.args.self.now.waiting.count c.args.self.now.subkey c.if-self-eq16.true long is.waiting_are is.subkey_is

pub returns-else-self-eq16 : goal.returns-else-self-eq16
returns-else-self-eq16 c = λ key m is.
    let long : length c.args.self.now.waiting.bytes ≡ 16 = search rules in
    let count : ℕ = c.args.self.now.waiting.count in
    let short : count < 16 = omega (arith, c.args.self.now.waiting.within, c.if-self-eq16.false) in
    let width : length (waiting_bytes c.args.self.now.waiting) ≡ count = length-take-le count c.args.self.now.waiting.bytes (omega arith) in
    c.xor-else-self-eq16.ensures
    ∙ ap (xor_bytes c.filled.result) (c.block_of_number-else-self-eq16.ensures ∙ ap (to_be_bytes w128) c.doubled-second.ensures)
    ∙ last_filled key _ c.filled.result count c.args.self.now.subkey short (ap length (sym is.waiting_are) ∙ width)
    (c.filled.ensures ∙ ap (λ (z : List ℕ). z ++ 0x80 ∷ replicate (15 - count) 0) is.waiting_are) is.subkey_is
