use Rattle.std.proofs.Common.{◌∙◌, ap, arith, length, subst, sym}
use Rattle.std.proofs.lemmas.List.{length_push}
use Rattle.std.proofs.lemmas.Result.{err_from_is_err_and}
use Rattle.std.proofs.lemmas.Slice.Zip.{zip_end, zip_turn}
use Rattle.report.specs.LogTexts.{log_text}
use Rattle.run_board.proofs.Writes.{writes_all, writes_none, writes_stopped}
use Rattle.tee_top.proofs.LogsWritten.{IsPair, LogsTo, logs_cut, logs_ended, logs_further, logs_stopped}
use Rattle.tee_top.proofs.logs.write_logs.Goals as goal

pub loop-name-preserved : goal.loop-name-preserved
loop-name-preserved g c =
    let names = c.args.names.now in
    let logs = c.args.logs.now in
    let turn = zip_turn names logs c.loop-name.yielded c.into_iter-name-iterator.result c.loop-name.name-iterator c.next.new.self c.next.result (cc) (cc) c.loop-name.yielded_by
    (c.in-Some.name, c.in-Some.log) c.in-Some.is c.next.ensures.steps in
    record {
      front =
          subst (λ i. LogsTo names logs i (g.W.Sink.written c.args.sink.now) (g.W.Sink.written c.write_bytes.new.sink)) (sym (length_push c.loop-name.yielded (c.in-Some.name, c.in-Some.log)))
          (logs_further names logs (length c.loop-name.yielded) c.in-Some.name.now c.in-Some.log.now c.as_slice-in-loop-name.result.now _ _ _
          (record { named = turn.0; logged = turn.1; its_name = turn.2 c.in-Some.name.now; its_log = turn.3 c.in-Some.log.now })
          (c.as_slice-in-loop-name.ensures ∙ c.in_ok-text.ensures ∙ ap (λ n. log_text n c.in-Some.log.now.entries) c.as_slice.ensures)
          c.loop-name.invariant.front c.in_ok-write_bytes.ensures.ok);
      later = omega (arith, c.loop-name.invariant.later, c.in_ok-write_bytes.ensures.later);
    }

pub returns-in_err-text : goal.returns-in_err-text
returns-in_err-text g c =
    let stop = err_from_is_err_and c.from_residual.result c.from_residual.ensures.1 in
    rw (stop.1, stop.2)
    (writes_none g.W.Sink _ c.args.sink.now c.loop-name.sink (logs_stopped c.args.names.now c.args.logs.now _ _ _ c.loop-name.invariant.front) c.loop-name.invariant.later)

pub returns-in_err-write_bytes : goal.returns-in_err-write_bytes
returns-in_err-write_bytes g c =
    let names = c.args.names.now in
    let logs = c.args.logs.now in
    let turn = zip_turn names logs c.loop-name.yielded c.into_iter-name-iterator.result c.loop-name.name-iterator c.next.new.self c.next.result (cc) (cc) c.loop-name.yielded_by
    (c.in-Some.name, c.in-Some.log) c.in-Some.is c.next.ensures.steps in
    let stop = err_from_is_err_and c.from_residual-in_err-write_bytes.result c.from_residual-in_err-write_bytes.ensures.1 in
    rw (stop.1, stop.2)
    (writes_stopped g.W.Sink c.as_slice-in-loop-name.result.now _ _ c.args.sink.now c.loop-name.sink c.write_bytes.new.sink
    (λ front.
    logs_cut names logs (length c.loop-name.yielded) c.in-Some.name.now c.in-Some.log.now c.as_slice-in-loop-name.result.now _ _ _
    (record { named = turn.0; logged = turn.1; its_name = turn.2 c.in-Some.name.now; its_log = turn.3 c.in-Some.log.now })
    (c.as_slice-in-loop-name.ensures ∙ c.in_ok-text.ensures ∙ ap (λ n. log_text n c.in-Some.log.now.entries) c.as_slice.ensures)
    c.loop-name.invariant.front front)
    c.loop-name.invariant.later c.in_err-write_bytes.ensures)

pub returns : goal.returns
returns g c =
    let names = c.args.names.now in
    let logs = c.args.logs.now in
    let end = zip_end names logs c.loop-name.yielded c.into_iter-name-iterator.result c.loop-name.name-iterator c.next.new.self c.next.result (cc) (cc) c.loop-name.yielded_by
    c.in-None.is c.next.ensures.steps in
    writes_all g.W.Sink _ _ c.args.sink.now c.loop-name.sink
    (logs_ended names logs (length c.loop-name.yielded) _ _ (omega (arith, end, c.requires)) c.loop-name.invariant.front) c.loop-name.invariant.later
