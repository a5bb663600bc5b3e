use Rattle.std.proofs.Common.{◌≡◌, ◌∙◌, ap, arith, subst}
use Rattle.std.proofs.lemmas.Result.{err_from_is_err_and}
use Rattle.report.specs.Texts.{power_text}
use Rattle.run_board.specs.Transcript.{power_line}
use Rattle.run_board.specs.Writing.{Writes}
use Rattle.run_board.proofs.Writes.{writes_none}
use Rattle.run_board.proofs.Writing.{front_none}
use Rattle.run_board.proofs.output.write_power.Goals as goal

pub returns-in_err-line : goal.returns-in_err-line
returns-in_err-line g c =
    let stop = err_from_is_err_and c.from_residual.result c.from_residual.ensures.1 in
    rw (stop.1, stop.2) (writes_none g.W.Sink _ c.args.sink.now c.args.sink.now (front_none _ _) (omega arith))

pub returns : goal.returns
returns g c =
    let line : c.as_slice.result.now ≡ power_line c.args.names.now c.args.told =
    c.as_slice.ensures ∙ c.in_ok-line.ensures ∙ ap (λ name. power_text name c.args.told) c.owner_name.ensures in
    subst (λ text. Writes g.W.Sink text c.write_bytes.result c.args.sink.now c.write_bytes.new.sink) line c.write_bytes.ensures
