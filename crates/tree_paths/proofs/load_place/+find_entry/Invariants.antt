use Rattle.tree_paths.proofs.load_place.+find_entry.Given as goal

abbrev pub decreases-find_entry : goal.decreases-find_entry
decreases-find_entry g l = l.level
