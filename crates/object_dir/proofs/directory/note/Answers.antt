use Rattle.std.proofs.Common.{rules}
use Rattle.object_dir.proofs.directory.note.Goals as goal

pub returns-in-Some-Corrupt : goal.returns-in-Some-Corrupt
returns-in-Some-Corrupt c = search rules
