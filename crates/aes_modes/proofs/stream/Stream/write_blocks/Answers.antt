use Rattle.std.proofs.Common.{◌≡◌, ◌≤◌, ◌+◌, ◌*◌, ◌∙◌, refl, ap, length, arith}
use Rattle.aes_modes.specs.Stream.{vector_after, blocks_text}
use Rattle.aes_modes.proofs.BlockLemmas.{blocks_text_next, vector_after_next, stored_front, stored_rest}
use Rattle.aes_modes.proofs.stream.Stream.write_blocks.Goals as goal

pub loop-i-init : goal.loop-i-init
unfolding vector_after blocks_text
loop-i-init c = (refl, refl, refl)

pub loop-i-preserved : goal.loop-i-preserved
loop-i-preserved c =
    let i = c.loop-i.invariant in
    let text = c.step.ensures.text ∙ rw (c.joined_block-block.ensures, i.2) refl in
    let long : length c.copy_from_slice.new.self ≡ 16 = ap length c.copy_from_slice.ensures.after ∙ c.step.array_long2 in
    let room : 16 * c.loop-i.i + 16 ≤ length c.loop-i.output = omega arith in (
      stored_front c.loop-i.output c.copy_from_slice.new.self c.loop-i.i _ long room
          ∙ blocks_text_next _ _ _ _ _ _ _ c.loop-i.i (c.copy_from_slice.ensures.after ∙ text) i.0,
      stored_rest c.loop-i.output c.args.output.now c.copy_from_slice.new.self c.loop-i.i _ refl long room i.1,
      vector_after_next _ _ _ _ _ _ c.loop-i.i (c.step.ensures.vector ∙ rw (c.joined_block-block.ensures, i.2) refl),
    )
