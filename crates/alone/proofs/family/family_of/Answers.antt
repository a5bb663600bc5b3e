use Rattle.std.proofs.Common.{rules}
use Rattle.alone.proofs.family.family_of.Goals as goal

pub returns-in-KeyGenerate : goal.returns-in-KeyGenerate
returns-in-KeyGenerate c = search rules
