use Rattle.std.proofs.Common.{◌≡◌, ◌∙◌, ap, inl, inr, refl, subst, sym}
use Rattle.std.specs.List.{AllByRecursion}
use Rattle.script.specs.Grammar.{names_of}
use Rattle.tee_core.specs.Represents.{Represents, boots_of, volume_of}
use Rattle.tee_core.specs.World.{world_of}
use Rattle.run_board.specs.BoardLines.{AreFirstWords}
use Rattle.run_board.specs.Endings.{EndsAs, RunEnds, RunsAs}
use Rattle.run_board.specs.Parts.{IsRefusedIn, IsRunOf, StopsIn, point}
use Rattle.run_board.specs.Reading.{IsKnown, IsOfLines}
use Rattle.run_board.specs.Transcript.{events_of}
use Rattle.run_board.specs.declared.status.Status.{Status}
use Rattle.run_board.proofs.Endings.{lines_end, lines_ordered, lines_run, lines_served}
use Rattle.run_board.proofs.Leaves.{stands_leaves}
use Rattle.run_board.proofs.Names.{hosts_begin}
use Rattle.run_board.proofs.Opened.{along_opened, first_orders_none, opening_leaves, orders_opened, refused_behind, run_behind}
use Rattle.run_board.proofs.Refusals.{refused_weaker}
use Rattle.run_board.proofs.Served.{kept_unruled, refusal_row, refused_at, refused_by}
use Rattle.run_board.proofs.Whole.{all_written, front_written, nothing_written, power_written}
use Rattle.run_board.proofs.run.serve.Goals as goal

-- ---- no name was copied

pub returns-in_default-clause-ends : goal.returns-in_default-clause-ends
returns-in_default-clause-ends g c = record { says = tt; orders = inl refl; opened = λ honest. inl (refl, tt) }

pub returns-in_default-clause-written : goal.returns-in_default-clause-written
returns-in_default-clause-written g c = λ honest stores begins. inl (refl, refl)

pub returns-in_default-clause-few : goal.returns-in_default-clause-few
returns-in_default-clause-few g c = tt

-- ---- the board wasn't opened

pub returns-in-Err-clause-ends : goal.returns-in-Err-clause-ends
returns-in-Err-clause-ends g c =
    let form = g.V.BoardVolume.form in
    let why = c.in-Err.field-0.why in
    let old = g.B.Board.view c.args.board in
    let left = g.B.Board.view c.in-Err.field-0.board in
    let lines = c.args.lines.items in
    let back = c.in-Err.ensures.back in
    let none = orders_opened _ _ _ back.calls in
    let first = first_orders_none lines _ _ none in
    let P = λ (s : Status). RunEnds g.B.Board g.W.Sink form (λ So. So lines) c.args.board c.in-Err.field-0.board c.args.sink.now c.args.sink.now s in
    subst P (sym c.refusal_status.ensures)
    (refusal_row P why
    (λ rule. record {
      says = record {
        answer = rule;
        refusal = λ honest. refused_by form left why rule (c.in-Err.ensures.honest_back honest).1.refusal;
        refused = λ honest.
            let exact = c.in-Err.ensures.exact honest in
            inl (refl, record { counter = exact.0; may_tell = exact.1; refused = refused_at form old old.state.reads exact.0 why rule exact.2 });
        rule = λ tells. let at = c.in-Err.ensures.rule tells in inl (refl, at.0, refused_at form old left.state.reads at.0 why rule at.1);
      };
      orders = inr first;
      opened = λ honest. inl (refl, tt);
    })
    (λ failed. record { says = inl (refl, record { orders = none; failed = back.cause failed }); orders = inr first; opened = λ honest. inl (refl, tt) })
    (λ empty. record { says = tt; orders = inr first; opened = λ honest. inl (refl, tt) }))

pub returns-in-Err-clause-written : goal.returns-in-Err-clause-written
returns-in-Err-clause-written g c = λ honest stores begins.
    let behaviour = g.A.Application.behaviour in
    let form = g.V.BoardVolume.form in
    let hosts = c.args.hosts.items in
    let lines = c.args.lines.items in
    let left = g.B.Board.view c.in-Err.field-0.board in
    let kept = c.in-Err.ensures.unopened honest begins.counter begins.held begins.rests begins.size begins.sound.opens in
    let leaves = opening_leaves form hosts c.args.seed stores (g.B.Board.view c.args.board) begins left c.in-Err.ensures.back.calls.key kept.1 in
    let P = λ (s : Status).
    RunsAs g.B.Board g.W.Sink behaviour form hosts c.args.seed (λ So. So lines) c.args.board c.in-Err.field-0.board c.args.sink.now c.args.sink.now stores s in
    subst P (sym c.refusal_status.ensures)
    (refusal_row P c.in-Err.field-0.why (λ rule. absurd (kept_unruled c.in-Err.field-0.why kept.0 rule)) (λ failed. inl (refl, leaves))
    (λ empty. inr (nothing_written behaviour form hosts c.requires.fit c.args.seed stores lines left (g.W.Sink.written c.args.sink.now) leaves)))

pub returns-in-Err-clause-few : goal.returns-in-Err-clause-few
returns-in-Err-clause-few g c =
    subst IsOfLines (sym c.refusal_status.ensures) (refusal_row IsOfLines c.in-Err.field-0.why (λ rule. tt) (λ failed. tt) (λ empty. tt))

-- ---- the lines were run

pub run_lines-requires-clause-known : goal.run_lines-requires-clause-known
run_lines-requires-clause-known g c = subst (λ n. AllByRecursion (IsKnown n) c.args.lines.items) (sym c.in-Ok-open.ensures.begun.apps) c.requires.known

pub run_lines-requires-clause-words : goal.run_lines-requires-clause-words
run_lines-requires-clause-words g c =
    subst AreFirstWords (sym (c.as_slice-2.ensures.value ∙ c.in-Ok.ensures ∙ ap names_of c.as_slice.ensures.value)) (hosts_begin c.args.hosts.items c.requires.fit)

pub returns-clause-ends : goal.returns-clause-ends
returns-clause-ends g c =
    let form = g.V.BoardVolume.form in
    let lines = c.args.lines.items in
    let view = g.B.Board.view (g.V.BoardVolume.board_of (volume_of c.in-Ok-open.tee)) in
    let left = g.V.BoardVolume.board_of (volume_of c.run_lines.new.tee) in
    let opened = c.in-Ok-open.ensures.opened in
    let r = c.run_lines.result in
    let ran = c.run_lines.ensures in
    let P = λ (s : Status). EndsAs g.B.Board g.W.Sink form (λ So. So lines) c.args.board left c.args.sink.now c.run_lines.new.sink s in
    rw c.into_board.ensures (record {
      says =
          subst P (sym c.run_status-status.ensures)
          (lines_end g.B.Board g.W.Sink form lines c.args.board left c.args.sink.now c.run_lines.new.sink view opened r ran.orders ran.losses ran.fault
          (refused_weaker r _ _ (λ why refusal honest. refusal (c.in-Ok-open.ensures.honest honest).0) ran.refusal)
          ran.cause ran.power);
      orders = inr (lines_ordered g.B.Board g.W.Sink form lines c.args.board left c.args.sink.now c.run_lines.new.sink view opened r ran.orders ran.first_orders);
      opened = λ honest. let admitted = c.in-Ok-open.ensures.exact honest in inr (admitted.0, admitted.1, _, _, admitted.3);
    })

pub returns-clause-written : goal.returns-clause-written
returns-clause-written g c = λ honest stores begins.
    let behaviour = g.A.Application.behaviour in
    let form = g.V.BoardVolume.form in
    let hosts = c.args.hosts.items in
    let seed = c.args.seed in
    let lines = c.args.lines.items in
    let world = world_of hosts seed stores in
    let tee = c.in-Ok-open.tee in
    let new = c.run_lines.new.tee in
    let start = g.B.Board.view c.args.board in
    let view = g.B.Board.view (g.V.BoardVolume.board_of (volume_of tee)) in
    let board = g.V.BoardVolume.board_of (volume_of new) in
    let left = g.B.Board.view board in
    let same : c.as_slice-2.result.now ≡ names_of hosts = c.as_slice-2.ensures.value ∙ c.in-Ok.ensures ∙ ap names_of c.as_slice.ensures.value in
    let opened = along_opened behaviour form world _ _ _ c.in-Ok-open.ensures.opened in
    let boots = c.in-Ok-open.ensures.begun.boots in
    let begun = point (boots_of tee) start (g.W.Sink.written c.args.sink.now) in
    let before = point (boots_of tee) view (g.W.Sink.written c.args.sink.now) in
    let after = point (boots_of new) left (g.W.Sink.written c.run_lines.new.sink) in
    let stands = (c.in-Ok-open.ensures.world honest begins.counter begins.held stores begins.rests begins.size begins.sound).0 in
    let r = c.run_lines.result in
    let P = λ (s : Status). RunsAs g.B.Board g.W.Sink behaviour form hosts seed (λ So. So lines) c.args.board board c.args.sink.now c.run_lines.new.sink stores s in
    rw c.into_board.ensures
    (subst P (sym c.run_status-status.ensures)
    (lines_run g.B.Board g.W.Sink behaviour form hosts seed lines c.args.board board c.args.sink.now c.run_lines.new.sink stores r _ _ _
    c.run_lines.ensures.whole c.run_lines.ensures.stopped c.run_lines.ensures.refused
    (λ run.
    all_written behaviour form hosts c.requires.fit seed stores lines (λ w. Represents new w) begun after boots
    (λ w is. stands_leaves g.V.Volume.keeper form new.sides.items new.volume left w (g.met.V.BoardVolume.seen new.volume) is)
    (run_behind behaviour form (names_of hosts) (λ weather. events_of behaviour weather world lines) world (λ w. Represents new w) start before after opened
    (subst (λ ns. IsRunOf behaviour form ns (λ weather. events_of behaviour weather world lines) world (λ w. Represents new w) before after) same (run world stands))))
    (λ run.
    front_written behaviour form hosts c.requires.fit seed stores lines before after boots
    (subst (λ ns. StopsIn behaviour form ns (λ weather. events_of behaviour weather world lines) world before after) same (run world stands)))
    (λ why part. (
      power_written behaviour form hosts c.requires.fit seed stores lines begun after boots
          (refused_behind behaviour form (names_of hosts) lines world start before after opened
          (subst (λ ns. IsRefusedIn behaviour form ns lines world before after) same (part world stands).0)),
      (part world stands).1,
    ))))

pub returns-clause-few : goal.returns-clause-few
returns-clause-few g c = subst IsOfLines (sym c.run_status-status.ensures) (lines_served c.run_lines.result)
