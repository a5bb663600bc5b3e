use Rattle.std.proofs.Common.{[], ◌∙◌}
use Rattle.std.proofs.lemmas.List.{get_or_read}
use Rattle.run_board.proofs.lines.name_of.Goals as goal

pub returns : goal.returns
returns c = c.as_slice.ensures ∙ get_or_read c.args.names.now c.args.app c.index-names-app.result c.requires c.index-names-app.is []
