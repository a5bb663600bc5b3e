use Rattle.std.proofs.Common.{rules}
use Rattle.secret.proofs.sizes.are_bytes_in.Goals as goal

pub returns-then-bits-most : goal.returns-then-bits-most
returns-then-bits-most c = search rules
