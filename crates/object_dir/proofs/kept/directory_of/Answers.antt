use Rattle.object_dir.proofs.UseLemmas.{fits}
use Rattle.object_dir.proofs.kept.directory_of.Goals as goal

pub read-requires : goal.read-requires
read-requires g c = record { fits = fits _ g.met.V.Volume.whole }
