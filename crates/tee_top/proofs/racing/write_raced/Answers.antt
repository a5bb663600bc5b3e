use Rattle.std.proofs.Common.{◌∙◌, Err, subst, sym}
use Rattle.std.specs.Io.KnownBytes.{Appends}
use Rattle.race.specs.Races.{entries_of}
use Rattle.run_board.specs.Writing.{Writes}
use Rattle.run_board.specs.declared.status.Status.{Status}
use Rattle.tee_top.specs.Races.{WroteAs, logs_text}
use Rattle.tee_top.proofs.Raced.{wrote_all, wrote_front, wrote_none}
use Rattle.tee_top.proofs.racing.write_raced.Goals as goal

-- ---- the lines ended for want of memory

pub returns-in-NoMemory-clause-told : goal.returns-in-NoMemory-clause-told
returns-in-NoMemory-clause-told g c = wrote_none g.W.Sink c.args.raced.ended _ c.args.sink.now (sym c.race_status.ensures ∙ c.in-NoMemory.is)

-- ---- the logs were written

pub returns-in-Ok-clause-told : goal.returns-in-Ok-clause-told
returns-in-Ok-clause-told g c =
    wrote_all g.W.Sink c.args.raced.ended _ c.args.sink.now c.write_logs.new.sink c.race_status.result c.race_status.ensures c.in_default.not-NoMemory
    (subst (λ logs. Appends (g.W.Sink.written c.args.sink.now) (g.W.Sink.written c.write_logs.new.sink) (logs_text c.args.names.now (entries_of logs))) c.as_slice.ensures.value c.in-Ok.ensures.ok)

-- ---- they were not all written

pub returns-clause-told : goal.returns-clause-told
returns-clause-told g c =
    let text = logs_text c.args.names.now (entries_of c.args.raced.logs.items) in
    let P = λ (s : Status). WroteAs g.W.Sink c.args.raced.ended text c.args.sink.now c.write_logs.new.sink s in
    subst P (sym c.stop_status.ensures)
    (wrote_front g.W.Sink c.args.raced.ended text c.args.sink.now c.write_logs.new.sink c.in-Err.stop (λ none. c.in_default.not-NoMemory (c.race_status.ensures ∙ none))
    (subst (λ logs. Writes g.W.Sink (logs_text c.args.names.now (entries_of logs)) (Err c.in-Err.stop) c.args.sink.now c.write_logs.new.sink) c.as_slice.ensures.value c.in-Err.ensures))
