use Rattle.region_plan.proofs.MadeLemmas.{decided_told}
use Rattle.region_plan.specs.Reading.{refusal_of}
use Rattle.object_dir.proofs.UseLemmas.{fits}
use Rattle.inspect.proofs.region.objects_of.Goals as goal

pub read-requires : goal.read-requires
read-requires g c = record { fits = fits _ g.met.V.Volume.whole }

pub returns-clause-garbled : goal.returns-clause-garbled
returns-clause-garbled g c = decided_told (refusal_of c.listed.result) _ c.listed.ensures.decided
