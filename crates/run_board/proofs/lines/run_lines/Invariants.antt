use Rattle.std.proofs.Common.{◌≡◌, ◌≤◌, List, ◌++◌, length}
use Rattle.std.specs.List.{AllByRecursion}
use Rattle.script.specs.declared.line.Line.{Line}
use Rattle.tee_core.specs.Represents.{app_count, boots_of, volume_of, Represents}
use Rattle.tee_core.specs.World.{World}
use Rattle.run_board.specs.Boards.{HasOrders, WritesLosses, orders_of}
use Rattle.run_board.specs.Parts.{IsRunOf, point}
use Rattle.run_board.specs.Reading.{IsKnown}
use Rattle.run_board.specs.Transcript.{events_of}
use Rattle.run_board.proofs.lines.run_lines.Given as goal

-- the first lines were run to their end, and the rest remain
abbrev pub invariant-loop-line : goal.invariant-loop-line
invariant-loop-line g l =
    let behaviour = g.A.Application.behaviour in
    record {
      front : List Line;
      split : l.fn.lines.items ≡ front ++ l.rest.items;
      run : (world : World g.row.A.Denot) → Represents l.fn.tee world
          → IsRunOf behaviour g.V.BoardVolume.form l.names (λ weather. events_of behaviour weather world front) world (λ after. Represents l.tee after)
          (point (boots_of l.fn.tee) (g.B.Board.view (g.V.BoardVolume.board_of (volume_of l.fn.tee))) (g.W.Sink.written l.fn.sink))
          (point (boots_of l.tee) (g.B.Board.view (g.V.BoardVolume.board_of (volume_of l.tee))) (g.W.Sink.written l.sink));
      orders : HasOrders (orders_of front) (g.B.Board.view (g.V.BoardVolume.board_of (volume_of l.fn.tee))) (g.B.Board.view (g.V.BoardVolume.board_of (volume_of l.tee)));
      losses : WritesLosses (g.W.Sink.written l.fn.sink) (g.W.Sink.written l.sink)
          (g.B.Board.view (g.V.BoardVolume.board_of (volume_of l.fn.tee))) (g.B.Board.view (g.V.BoardVolume.board_of (volume_of l.tee)));
      honest : g.B.Board.honest (g.V.BoardVolume.board_of (volume_of l.fn.tee)) → g.B.Board.honest (g.V.BoardVolume.board_of (volume_of l.tee));
      apps : app_count l.tee ≡ app_count l.fn.tee;
      known : AllByRecursion (IsKnown (app_count l.fn.tee)) l.rest.items;
      later : g.W.Sink.failures l.fn.sink ≤ g.W.Sink.failures l.sink;
    }

abbrev pub decreases-loop-line : goal.decreases-loop-line
decreases-loop-line g l = length l.rest.items
