use Rattle.std.proofs.Common.{◌-◌}
use Rattle.alone.specs.Runs.{most_turns}
use Rattle.run_board.specs.Layers.{point_of}
use Rattle.run_board.specs.Transcript.{until_events}
use Rattle.run_board.proofs.Layers.{Goes}
use Rattle.run_board.proofs.lines.run_until.Given as goal

-- the turns so far and those that remain are all
abbrev pub invariant-loop : goal.invariant-loop
invariant-loop g l =
    let behaviour = g.A.Application.behaviour in
    Goes behaviour g.V.BoardVolume.form l.names (λ world weather. until_events behaviour (weather.marks l.app) world l.app l.instance l.op most_turns)
    (λ weather now. until_events behaviour (weather.marks l.app) now l.app l.instance l.op (most_turns - l.counter))
    (point_of g.B.Board.view g.B.Board.honest g.V.BoardVolume.board_of g.W.Sink.written g.W.Sink.failures l.fn.tee l.fn.sink)
    (point_of g.B.Board.view g.B.Board.honest g.V.BoardVolume.board_of g.W.Sink.written g.W.Sink.failures l.tee l.sink)
