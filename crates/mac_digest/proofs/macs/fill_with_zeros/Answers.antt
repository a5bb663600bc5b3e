use Rattle.std.proofs.Common.{◌++◌, ap, length}
use Rattle.std.proofs.lemmas.List.{drop-replicate}
use Rattle.mac_digest.proofs.macs.fill_with_zeros.Goals as goal

pub returns : goal.returns
returns c = rw c.copy_from_slice.ensures.after
    (ap (λ tail. c.args.bytes.now ++ tail) (drop-replicate (length c.args.bytes.now) 128 0))
