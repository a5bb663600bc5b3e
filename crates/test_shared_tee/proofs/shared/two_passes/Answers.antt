use Rattle.test_shared_tee.proofs.shared.two_passes.Goals as goal

pub returns-clause-first : goal.returns-clause-first
returns-clause-first g c = (c.requires.all.each c.args.first c.pair_of.result.0 c.pair_of.ensures.first).0

pub returns-clause-second : goal.returns-clause-second
returns-clause-second g c = (c.requires.all.each c.args.second c.pair_of.result.1 c.pair_of.ensures.second).0
