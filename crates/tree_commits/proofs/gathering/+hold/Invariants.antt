use Rattle.tree_commits.proofs.gathering.+hold.Given as goal

abbrev pub decreases-hold : goal.decreases-hold
decreases-hold g l = l.level
