use Rattle.std.proofs.Common.{◌≡◌, ◌+◌, ◌-◌, ◌*◌, ◌∙◌, ℕ, refl, min, length, drop, arith}
use Rattle.std.proofs.lemmas.List.{length-take-le, length-drop}
use Rattle.std.proofs.lemmas.Slice.{take-put_mid}
use Rattle.aes_core.specs.Key.{key_bytes}
use Rattle.aes_modes.specs.Modes.{ctr_from, number_of}
use Rattle.aes_modes.proofs.CounterLemmas.{ctr_more, counter_block_at, rest_more}
use Rattle.aes_modes.proofs.stream.Stream.write_bytes.Goals as goal

pub loop-i-init : goal.loop-i-init
unfolding ctr_from
loop-i-init c = (omega arith, omega arith, λ j e. refl, refl, c.start_at-start.ensures)

pub loop-i-preserved : goal.loop-i-preserved
loop-i-preserved c =
    let inv = c.loop-i.invariant in
    let i : ℕ = c.loop-i.i in
    let at : ℕ = c.loop-i.at in
    let end : ℕ = c.min-end.result in
    let count : ℕ = c.args.self.now.count in
    let here : at ≡ min (16 * i - count) (length c.args.input.now) = inv.0 in
    let there : end ≡ min (16 * i + 16 - count) (length c.args.input.now) = c.min-end.ensures in
    let long : length c.loop-i.output ≡ length c.args.output.now = c.loop-i.auto.output in
    let width : length c.write_piece.new.output ≡ end - at =
    c.write_piece.auto.output ∙ length-take-le (end - at) (drop at c.loop-i.output) (omega (arith, length-drop at c.loop-i.output)) in (
      omega arith,
      omega arith,
      λ j e.
          take-put_mid at (end - at) c.loop-i.output c.write_piece.new.output end (omega arith) (omega arith)
          ∙ ctr_more (key_bytes c.args.self.now.key) c.args.self.now.iv c.args.input.now _ _ c.write_piece.new.output (16 * j + count) at end (j + i)
          (count + at - 16 * i) (omega arith) (omega arith) refl (omega arith) (omega arith) (inv.2 j e)
          (c.write_piece.ensures
          ∙ rw (counter_block_at c.loop-i.counter c.args.self.now.counter (number_of c.args.self.now.iv) j i inv.1 e) refl),
      rest_more c.loop-i.output c.args.output.now c.write_piece.new.output at (end - at) end (omega arith) width (omega arith) inv.3,
      c.go_on.ensures c.loop-i.counter refl inv.4,
    )
