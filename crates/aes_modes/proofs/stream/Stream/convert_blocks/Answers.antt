use Rattle.std.proofs.Common.{◌≡◌, ◌+◌, ◌*◌, ◌/◌, ◌%◌, ◌-◌, ◌∙◌, ℕ, refl, ap, take, length, arith}
use Rattle.aes_modes.proofs.TextLemmas.{blocks_text_more, represents_blocks}
use Rattle.aes_modes.proofs.stream.Stream.convert_blocks.Goals as goal

pub returns-clause-text : goal.returns-clause-text
returns-clause-text c = λ d r.
    let total : ℕ = c.args.self.now.count + length c.args.input.now in
    let width : total / 16 * 16 ≡ 16 * (total / 16) = omega arith in
    blocks_text_more c.args.self.now d c.args.input.now _ c.requires.by_blocks r
    (ap (λ (n : ℕ). take n c.write_blocks.new.output) width ∙ c.write_blocks.ensures.text)

pub returns-clause-taken : goal.returns-clause-taken
returns-clause-taken c = λ d r.
    let total : ℕ = c.args.self.now.count + length c.args.input.now in
    let left : total % 16 ≡ total - 16 * (total / 16) = omega arith in
    represents_blocks c.args.self.now _ d c.args.input.now c.requires.by_blocks r refl refl refl refl refl
    (ap (λ (n : ℕ). take n c.held_after-held.result) left ∙ c.held_after-held.ensures) c.write_blocks.ensures.vector
