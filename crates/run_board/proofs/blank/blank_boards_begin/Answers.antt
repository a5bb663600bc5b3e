use Rattle.region_plan.specs.declared.form.Form.TheVariants.{Two}
use Rattle.run_board.proofs.Zeros.{begins}
use Rattle.run_board.proofs.blank.blank_boards_begin.Goals as goal

pub returns : goal.returns
returns c = begins (c.region_laws.ensures.blank Two)
