use Rattle.std.proofs.Common.{◌≡◌, ◌+◌, ◌-◌, ◌*◌, ◌/◌, ◌%◌, ◌∙◌, ℕ, refl, ap, min, length, drop, arith, subst}
use Rattle.std.proofs.lemmas.List.{length-take-le, length-drop}
use Rattle.std.proofs.lemmas.Slice.{take-put_mid}
use Rattle.aes_core.specs.Key.{key_bytes}
use Rattle.aes_core.specs.Shared.{IsSharedStart}
use Rattle.aes_modes.proofs.CounterLemmas.{rest_more}
use Rattle.aes_modes.specs.Modes.{counter_block}
use Rattle.ae_modes.specs.Gcm.{counter_after, text_from}
use Rattle.ae_modes.proofs.TextLemmas.{text_more}
use Rattle.ae_modes.proofs.text.write_text.Goals as goal

pub loop-i-init : goal.loop-i-init
unfolding text_from
loop-i-init c =
    let none : 1 + c.args.place / 16 ≡ 1 + c.args.place / 16 + 0 = omega arith in
    record {
      at_is = omega arith;
      text_is = refl;
      rest_is = refl;
      start_is =
          subst (λ (n : ℕ). IsSharedStart c.args.key.now (counter_block n) c.start_at-start.result)
          (c.raised.ensures ∙ ap (counter_after c.args.counter) none) c.start_at-start.ensures;
    }

pub loop-i-preserved : goal.loop-i-preserved
loop-i-preserved c =
    let inv = c.loop-i.invariant in
    let i : ℕ = c.loop-i.i in
    let at : ℕ = c.loop-i.at in
    let end : ℕ = c.min-end.result in
    let place : ℕ = c.args.place in
    let here : at ≡ min (16 * i - place % 16) (length c.args.input.now) = inv.at_is in
    let there : end ≡ min (16 * i + 16 - place % 16) (length c.args.input.now) = c.min-end.ensures in
    let long : length c.loop-i.output ≡ length c.args.output.now = c.loop-i.auto.output in
    let width : length c.write_piece.new.output ≡ end - at =
    c.write_piece.auto.output ∙ length-take-le (end - at) (drop at c.loop-i.output) (omega (arith, length-drop at c.loop-i.output)) in
    let next : 1 + place / 16 + i + 1 ≡ 1 + place / 16 + (i + 1) = omega arith in
    record {
      at_is = omega arith;
      text_is =
          take-put_mid at (end - at) c.loop-i.output c.write_piece.new.output end (omega arith) (omega arith)
          ∙ text_more (key_bytes c.args.key.now) c.args.input.now _ _ c.write_piece.new.output c.args.counter place at end (1 + place / 16 + i) (place / 16 + i)
          (place % 16 + at - 16 * i) (omega arith) (omega arith) refl (omega arith) (omega arith) (omega arith) inv.text_is
          (c.write_piece.ensures ∙ rw c.raised-here.ensures refl);
      rest_is = rest_more c.loop-i.output c.args.output.now c.write_piece.new.output at (end - at) end (omega arith) width (omega arith) inv.rest_is;
      start_is = subst (λ (n : ℕ). IsSharedStart c.args.key.now (counter_block (counter_after c.args.counter n)) c.go_on.new.start) next c.go_on.ensures;
    }
