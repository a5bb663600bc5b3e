use Rattle.std.proofs.Common.{◌∙◌, map, replicate, sym, ap}
use Rattle.std.specs.Prelude.{if◌then◌else◌}
use Rattle.std.specs.List.{range_with_len}
use Rattle.std.proofs.lemmas.Bool.{lt-ltb}
use Rattle.v1_volume.specs.Checking.{leaf_in}
use Rattle.v1_volume.specs.Renumbering.{converted_leaf, is_taken, map_byte, old_number}
use Rattle.v1_volume.proofs.conversion.leaf_after.Goals as goal

pub returns-then-leaf-lt-MAP_LEAVES-clause-leaf : goal.returns-then-leaf-lt-MAP_LEAVES-clause-leaf
unfolding converted_leaf
returns-then-leaf-lt-MAP_LEAVES-clause-leaf c =
    c.map_leaf.ensures.bytes
    ∙ sym (ap (λ b. if b then map (λ k. map_byte (leaf_in c.args.leaves.now) c.args.leaf k) (range_with_len 0 1024) else
    if is_taken (leaf_in c.args.leaves.now) c.args.leaf then leaf_in c.args.leaves.now (old_number c.args.leaf) else replicate 1024 0)
    (lt-ltb c.args.leaf 4 c.if-leaf-lt-MAP_LEAVES.true))
