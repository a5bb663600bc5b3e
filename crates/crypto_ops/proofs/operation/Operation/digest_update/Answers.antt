use Rattle.std.proofs.Common.{◌≡◌, ◌++◌, refl, sym, ◌∙◌, ap, subst}
use Rattle.mac_digest.specs.Digester.{HoldsMessage}
use Rattle.crypto_ops.specs.Algorithms.{is_digest, hash_of}
use Rattle.crypto_ops.specs.Operations.{message_of}
use Rattle.crypto_ops.specs.declared.algorithm.Algorithm.{Algorithm}
use Rattle.crypto_ops.specs.declared.algorithm.Algorithm.TheVariants.{Digest}
use Rattle.crypto_ops.proofs.operation.Operation.digest_update.Goals as goal

pub returns-clause-after : goal.returns-clause-after
returns-clause-after c op r =
    let e : op.algorithm ≡ Digest c.in-Digest.hash = sym r.algorithm_is ∙ c.in-Digest.is in
    let h = c.update.ensures _ _ (c.digester-digester.ensures op r e) in
    let P : Algorithm → Type 0 =
    λ a. HoldsMessage c.update.new.self (hash_of a) (message_of op.progress ++ c.args.bytes.now) in
    record {
      algorithm_is = r.algorithm_is;
      max_bits_is = r.max_bits_is;
      key_is = r.key_is;
      serves = (ap is_digest e, refl, subst P (sym e) h);
      key_fits = r.key_fits;
    }
