use Rattle.std.proofs.Common.{rules}
use Rattle.object_dir.proofs.FoundLemmas.{above_more}
use Rattle.object_dir.proofs.region.Region.commit.Goals as goal

pub commit-requires-clause-leaves : goal.commit-requires-clause-leaves
commit-requires-clause-leaves g c = above_more c.args.leaves.now _ _ g.met.V.Volume.whole c.requires

pub returns-in-Ok : goal.returns-in-Ok
returns-in-Ok g c = search rules

pub returns-in-Err : goal.returns-in-Err
returns-in-Err g c = search rules
