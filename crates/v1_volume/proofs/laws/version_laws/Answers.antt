use Rattle.v1_volume.specs.Frame.{volume_format, volume_framed}
use Rattle.v1_volume.proofs.OldLemmas.{keeps_stores}
use Rattle.v1_volume.proofs.laws.version_laws.Goals as goal

pub returns-clause-framed : goal.returns-clause-framed
returns-clause-framed c = volume_framed

pub returns-clause-format : goal.returns-clause-format
returns-clause-format c = volume_format

pub returns-clause-stores : goal.returns-clause-stores
returns-clause-stores c = keeps_stores
