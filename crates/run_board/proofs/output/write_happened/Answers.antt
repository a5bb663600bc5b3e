use Rattle.std.proofs.Common.{◌≡◌, ◌∙◌, ◌++◌, List, ℕ, ap, arith, subst}
use Rattle.std.specs.Io.KnownBytes.{Appends}
use Rattle.std.proofs.KnownBytes.{Appends-trans}
use Rattle.std.proofs.lemmas.Result.{err_from_is_err_and}
use Rattle.tee_base.specs.Transfer.{AppendsFront}
use Rattle.report.specs.Texts.{happened_text}
use Rattle.run_board.specs.Transcript.{happened_lines, replies_text}
use Rattle.run_board.proofs.Writes.{writes_last, writes_none, writes_stopped}
use Rattle.run_board.proofs.Writing.{front_after, front_longer, front_none}
use Rattle.run_board.proofs.output.write_happened.Goals as goal

pub returns-in_err-mark : goal.returns-in_err-mark
returns-in_err-mark g c =
    let stop = err_from_is_err_and c.from_residual.result c.from_residual.ensures.1 in
    rw (stop.1, stop.2) (writes_none g.W.Sink _ c.args.sink.now c.args.sink.now (front_none _ _) (omega arith))

pub returns-in_err-write_bytes : goal.returns-in_err-write_bytes
returns-in_err-write_bytes g c =
    let replies = replies_text c.args.name.now c.args.happened.now.replies in
    let line : c.as_slice.result.now ≡ happened_text c.args.name.now c.args.happened.now.kind c.args.happened.now.turn = c.as_slice.ensures ∙ c.in_ok-mark.ensures in
    let stop = err_from_is_err_and c.from_residual-in_err-write_bytes.result c.from_residual-in_err-write_bytes.ensures.1 in
    rw (stop.1, stop.2)
    (writes_stopped g.W.Sink c.as_slice.result.now _ _ c.args.sink.now c.args.sink.now c.write_bytes.new.sink
    (λ front.
    subst (λ zs. AppendsFront (zs ++ replies) (g.W.Sink.written c.args.sink.now) (g.W.Sink.written c.write_bytes.new.sink)) line (front_longer _ replies _ _ front))
    (omega arith) c.in_err-write_bytes.ensures)

pub returns : goal.returns
returns g c =
    let name = c.args.name.now in
    let happened = c.args.happened.now in
    let line : c.as_slice.result.now ≡ happened_text name happened.kind happened.turn = c.as_slice.ensures ∙ c.in_ok-mark.ensures in
    let replies = c.as_slice-2.result.now in
    let text : c.as_slice.result.now ++ replies_text name replies ≡ happened_lines name happened =
    ap (λ (zs : List ℕ). zs ++ replies_text name replies) line ∙ ap (λ rs. happened_text name happened.kind happened.turn ++ replies_text name rs) c.as_slice-2.ensures in
    writes_last g.W.Sink (replies_text name replies) _ c.write_replies.result c.args.sink.now c.write_bytes.new.sink c.write_replies.new.sink
    (λ all. subst (Appends (g.W.Sink.written c.args.sink.now) (g.W.Sink.written c.write_replies.new.sink)) text (Appends-trans _ _ _ _ _ c.in_ok-write_bytes.ensures.ok all))
    (λ front.
    subst (λ zs. AppendsFront zs (g.W.Sink.written c.args.sink.now) (g.W.Sink.written c.write_replies.new.sink)) text (front_after _ _ _ _ _ c.in_ok-write_bytes.ensures.ok front))
    c.in_ok-write_bytes.ensures.later c.write_replies.ensures
