use Rattle.std.proofs.Common.{length}
use Rattle.shared_tee.proofs.BoardEnds.{ends_on}
use Rattle.shared_tee.proofs.shared.SharedTeeOver.finish.Goals as goal

pub returns : goal.returns
returns g c =
    ends_on g.V.Volume.keeper g.A.Application.behaviour g.V.BoardVolume.form g.B.Board.honest g.B.Board.view g.V.BoardVolume.board_of g.met.V.BoardVolume.seen
    g.met.V.BoardVolume.below (length c.args.self.cells) c.args.passes.items
    c.into_logs-logs.result.0.items c.into_logs-logs.result.1 c.into_logs-logs.ensures c.into_board.result c.into_board.ensures
