use Rattle.v1_volume.proofs.ConvertedLemmas.{converted_stands}
use Rattle.v1_volume.proofs.laws.convert_laws.Goals as goal

pub returns : goal.returns
returns c leaves store is = converted_stands leaves store is
