-- A key that was set has a size that fits, so that it expands.
use Rattle.std.proofs.Common.{◌≡◌, sym, ◌∙◌, subst, length, Option, Some, List, ℕ, true, false}
use Rattle.std.specs.Bool.{IsTrue}
use Rattle.aes_core.specs.KeyExpansion.{is_key_length}
use Rattle.crypto_ops.specs.Operations.{KeyFits}
use Rattle.crypto_ops.proofs.KeyLemmas.{aes_length}
use Rattle.crypto_ops.specs.declared.algorithm.Algorithm.{Algorithm}
use Rattle.crypto_ops.specs.declared.algorithm.Algorithm.TheVariants.{Gcm}
use Rattle.crypto_ops.proofs.operation.Operation.ae_init.Goals as goal

pub returns-in_default-expand-clause-answer : goal.returns-in_default-expand-clause-answer
returns-in_default-expand-clause-answer c op r =
    let a : op.algorithm ≡ Gcm c.in-Gcm.way = sym r.algorithm_is ∙ c.in-Gcm.is in
    let k : op.key ≡ Some c.in-Some.key = sym r.key_is ∙ c.in-Some.is in
    let f : KeyFits (Gcm c.in-Gcm.way) op.max_bits op.key =
    subst (λ (t : Algorithm). KeyFits t op.max_bits op.key) a r.key_fits in
    let g : KeyFits (Gcm c.in-Gcm.way) op.max_bits (Some c.in-Some.key) =
    subst (λ (t : Option (List ℕ)). KeyFits (Gcm c.in-Gcm.way) op.max_bits t) k f in
    let l : IsTrue (is_key_length (length c.as_slice.result.now)) =
    subst (λ (t : List ℕ). IsTrue (is_key_length (length t))) (sym c.as_slice.ensures.bytes) (aes_length _ g.0) in
    let z : false ≡ true = c.in_default-expand.ensures.expanded.1 l in
    cc
