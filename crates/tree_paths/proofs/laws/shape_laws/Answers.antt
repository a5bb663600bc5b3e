use Rattle.tree_paths.specs.Shapes.{are_children, are_first_children, is_first_shape, is_shape}
use Rattle.tree_paths.proofs.laws.shape_laws.Goals as goal

pub returns-clause-shape : goal.returns-clause-shape
returns-clause-shape c = is_shape

pub returns-clause-children : goal.returns-clause-children
returns-clause-children c = are_children

pub returns-clause-first_shape : goal.returns-clause-first_shape
returns-clause-first_shape c = is_first_shape

pub returns-clause-first_children : goal.returns-clause-first_children
returns-clause-first_children c = are_first_children
