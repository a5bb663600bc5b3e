use Rattle.std.proofs.Common.{◌≡◌, ◌≢◌, ◌%◌, ◌∙◌, ℕ, List, get_or, ap, arith, below_more, get_or-set_other, get_or-set_same}
use Rattle.std.specs.Prelude.{slice_set}
use Rattle.std.specs.Int.{w32, to_le_bytes}
use Rattle.std.proofs.lemmas.List.{length-set}
use Rattle.v1_volume.specs.Checking.{leaf_in}
use Rattle.v1_volume.specs.Renumbering.{map_byte}
use Rattle.v1_volume.proofs.OldRegionLemmas.{made_of}
use Rattle.v1_volume.proofs.conversion.map_leaf.Goals as goal

pub loop-k-preserved : goal.loop-k-preserved
loop-k-preserved c =
    let kept = c.loop-k.invariant in
    let long = kept.long in
    let byte : get_or c.to_le_bytes.result (c.loop-k.k % 4) 0 ≡ map_byte (leaf_in c.args.leaves.now) c.args.leaf c.loop-k.k =
    ap (λ (l : List ℕ). get_or l (c.loop-k.k % 4) 0) c.to_le_bytes.ensures ∙ ap (λ (n : ℕ). get_or (to_le_bytes w32 n) (c.loop-k.k % 4) 0) c.map_number-number.ensures in
    record {
      long = length-set c.loop-k.block c.loop-k.k _ ∙ long;
      written = below_more (λ i. get_or (slice_set c.loop-k.block c.loop-k.k (get_or c.to_le_bytes.result (c.loop-k.k % 4) 0)) i 0 ≡ map_byte (leaf_in c.args.leaves.now) c.args.leaf i)
          c.loop-k.k
          (λ i low. get_or-set_other c.loop-k.block c.loop-k.k i _ 0 (let ne : i ≢ c.loop-k.k = omega (arith, low) in ne) ∙ kept.written i low)
          (get_or-set_same c.loop-k.block c.loop-k.k _ 0 (omega (arith, long, c.loop-k-test.true)) ∙ byte);
    }

pub returns-clause-bytes : goal.returns-clause-bytes
returns-clause-bytes c =
    made_of c.loop-k.block (λ k. map_byte (leaf_in c.args.leaves.now) c.args.leaf k) c.loop-k.invariant.long
    (λ k low. c.loop-k.invariant.written k (omega (arith, low, c.loop-k-test.false)))
