use Rattle.v1_volume.proofs.finding.+find_entry.Given as goal

abbrev pub decreases-find_entry : goal.decreases-find_entry
decreases-find_entry g l = l.level
