use Rattle.std.proofs.Common.{◌∙◌, ℕ, Bool, ap, get_or, sym}
use Rattle.std.specs.Prelude.{◌==◌, ◌&&◌}
use Rattle.std.proofs.lemmas.List.Folds.{list_all_more}
use Rattle.region_plan.proofs.LeafLemmas.{or_zero}
use Rattle.region_plan.proofs.bytes.all_zero.Goals as goal

pub loop-byte-preserved : goal.loop-byte-preserved
loop-byte-preserved c =
    let byte = get_or c.args.bytes.now c.loop-byte.byte-index 0 in
    or_zero c.loop-byte.bits byte ∙ ap (λ (b : Bool). b && (byte == 0)) c.loop-byte.invariant
    ∙ sym (list_all_more (λ (byte : ℕ). byte == 0) c.args.bytes.now c.loop-byte.byte-index 0 c.loop-byte-test.true)
