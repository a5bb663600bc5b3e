use Rattle.tree_paths.proofs.IdentifyLemmas.{agrees}
use Rattle.tree_paths.proofs.WalkLemmas.{walked_all, walked_right}
use Rattle.tree_paths.proofs.laws.tree_laws.Goals as goal

pub returns-clause-walked : goal.returns-clause-walked
returns-clause-walked c = walked_all

pub returns-clause-identified : goal.returns-clause-identified
returns-clause-identified c = agrees

pub returns-clause-exact : goal.returns-clause-exact
returns-clause-exact c = walked_right
