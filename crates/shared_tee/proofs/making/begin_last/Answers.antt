use Rattle.std.proofs.Common.{◌∙◌, length}
use Rattle.turn_cell.specs.Words.{cell_id, cell_id_of}
use Rattle.shared_tee.proofs.MakeLemmas.{begun_at}
use Rattle.shared_tee.proofs.making.begin_last.Goals as goal

pub returns-in-Ok-clause-begun : goal.returns-in-Ok-clause-begun
returns-in-Ok-clause-begun g c = (
  c.in-Ok.one,
  c.push_reserved.ensures.items,
  begun_at g.V.Volume.keeper c.args.apps c.args.opened.now.value c.args.side c.in-Ok.one c.len.result (length c.args.begun.now.items) (cell_id_of c.args.seat) (cell_id c.args.storage.now)
      (c.len.ensures ∙ c.args.begun.now.ok.0) c.requires.own c.in-Ok.ensures.ok,
)
