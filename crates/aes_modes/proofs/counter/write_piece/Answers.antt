use Rattle.std.proofs.Common.{◌∙◌, ◌≡◌, ℕ, ap, drop, arith}
use Rattle.aes_core.specs.Cipher.{cipher}
use Rattle.aes_core.specs.Key.{key_bytes}
use Rattle.aes_modes.specs.Modes.{xor_bytes, counter_block}
use Rattle.aes_modes.proofs.counter.write_piece.Goals as goal

pub returns-then-input-eq16 : goal.returns-then-input-eq16
returns-then-input-eq16 c =
    let none : 0 ≡ c.args.skip = omega arith in
    c.write_whole.ensures
    ∙ ap (λ (n : ℕ). xor_bytes c.args.input.now (drop n (cipher (key_bytes c.args.key.now) (counter_block c.args.counter)))) none
