use Rattle.v1_volume.proofs.planting.+hold.Given as goal

abbrev pub decreases-hold : goal.decreases-hold
decreases-hold l = l.level
