-- The other has the same algorithm, so that its state serves here, and its key fits.
use Rattle.std.proofs.Common.{◌≡◌, ◌≤◌, ◌∙◌, sym, ap, subst, Option, List, ℕ, None, Some, arith}
use Rattle.crypto_ops.specs.Operations.{KeyFits, KeyOfKind, key_bits}
use Rattle.crypto_ops.specs.Algorithms.{key_kind}
use Rattle.crypto_ops.specs.Represents.{Serves}
use Rattle.crypto_ops.specs.declared.algorithm.Algorithm.{Algorithm}
use Rattle.crypto_ops.specs.declared.operation.State.{State}
use Rattle.crypto_ops.proofs.AeLemmas.{same_numbers, serves_at}
use Rattle.crypto_ops.proofs.operation.Operation.copy_from.Goals as goal

fits_at : (kind : Option ℕ) (own max_bits : ℕ) (key : List ℕ) → key_bits (Some key) ≤ max_bits → KeyOfKind kind own key → KeyOfKind kind max_bits key
fits_at None own max_bits key few h = h
fits_at (Some kind) own max_bits key few h = (h.0, few)

key_fits_at : (a : Algorithm) (own max_bits : ℕ) (key : Option (List ℕ)) → key_bits key ≤ max_bits → KeyFits a own key → KeyFits a max_bits key
key_fits_at a own max_bits None few h = h
key_fits_at a own max_bits (Some key) few h = fits_at (key_kind a) own max_bits key few h

pub returns-clause-after : goal.returns-clause-after
returns-clause-after c to other a b =
    let same : c.args.self.now.algorithm ≡ c.args.from.now.algorithm =
    same_numbers _ _ (sym c.is_same.ensures ∙ c.if-not-is_same.false) in
    let e : other.algorithm ≡ to.algorithm = sym b.algorithm_is ∙ (sym same ∙ a.algorithm_is) in
    let serves : Serves c.copied-self.result other = subst (λ (s : State). Serves s other) (sym c.copied-self.ensures) b.serves in
    let few : key_bits other.key ≤ to.max_bits = omega (arith, c.if-key_bits-self.false, c.key_bits.ensures, ap key_bits b.key_is, a.max_bits_is) in
    let Q : Algorithm → Type 0 =
    λ alg. Serves c.copied-self.result (record other { algorithm = alg; max_bits = to.max_bits }) in
    record {
      algorithm_is = a.algorithm_is;
      max_bits_is = a.max_bits_is;
      key_is = c.key_copied-self.ensures ∙ b.key_is;
      serves = subst Q e (serves_at _ other to.max_bits serves);
      key_fits = subst (λ (alg : Algorithm). KeyFits alg to.max_bits other.key) e
          (key_fits_at other.algorithm other.max_bits to.max_bits other.key few b.key_fits);
    }
