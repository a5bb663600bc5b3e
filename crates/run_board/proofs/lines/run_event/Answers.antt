use Rattle.std.proofs.Common.{◌≡◌, ◌<◌, [], length, refl, sym, subst, Some, arith}
use Rattle.std.specs.Prelude.{slice_get}
use Rattle.std.specs.Io.KnownBytes.{Appends}
use Rattle.std.proofs.lemmas.Result.{IfErr-at_err, IfOk-at_ok, err_from_is_err_and}
use Rattle.tee_base.specs.Transfer.{AppendsFront}
use Rattle.tee_core.specs.Represents.{app_count, app_of, turns_made, volume_of}
use Rattle.tee_core.proofs.SideLemmas.{side_at}
use Rattle.tee_core.proofs.TurnsMade.{sides_turns}
use Rattle.run_board.specs.Boards.{HasOrders}
use Rattle.run_board.specs.Parts.{step_events}
use Rattle.run_board.specs.Transcript.{happened_lines}
use Rattle.run_board.proofs.Along.{stops_first}
use Rattle.run_board.proofs.Layers.{never_faulty, never_stopped, stop_again}
use Rattle.run_board.proofs.Leaves.{stands_leaves}
use Rattle.run_board.proofs.Losses.{losses_event}
use Rattle.run_board.proofs.Parts.{no_orders}
use Rattle.run_board.proofs.Single.{call_told, event_known, event_along, one_stops, one_whole, unordered}
use Rattle.run_board.proofs.lines.run_event.Goals as goal

-- ---- no turn more may be made

pub returns-then-not-has_room-clause-made : goal.returns-then-not-has_room-clause-made
returns-then-not-has_room-clause-made g c =
    let behaviour = g.A.Application.behaviour in
    let tee = c.args.tee.now in
    record {
      whole = tt;
      stopped = λ w stands.
          stops_first behaviour g.V.BoardVolume.form c.args.names.now w (λ weather. step_events behaviour weather w c.args.event) _ _ _ _ _
          (stands_leaves g.V.Volume.keeper g.V.BoardVolume.form tee.sides.items (volume_of tee) _ w (g.met.V.BoardVolume.seen (volume_of tee)) stands);
      served = tt;
      orders = no_orders _;
      losses = tt;
      honest = λ h. h;
      apps = refl;
      fault = λ is. absurd (never_faulty is);
      later = omega arith;
    }

-- ---- there is no memory for the event

pub returns-in_default-clause-made : goal.returns-in_default-clause-made
returns-in_default-clause-made g c =
    let behaviour = g.A.Application.behaviour in
    let then = c.event-answer.new.self in
    let err = IfErr-at_err _ c.in_default.is c.event-answer.ensures.err in
    record {
      whole = tt;
      stopped = λ w stands.
          stops_first behaviour g.V.BoardVolume.form c.args.names.now w (λ weather. step_events behaviour weather w c.args.event) _ _ _ _ _
          (stands_leaves g.V.Volume.keeper g.V.BoardVolume.form then.sides.items (volume_of then) _ w (g.met.V.BoardVolume.seen (volume_of then)) (err.2 w stands));
      served = tt;
      orders =
          subst (λ v. HasOrders [] (g.B.Board.view (g.V.BoardVolume.board_of (volume_of c.args.tee.now))) (g.B.Board.view (g.V.BoardVolume.board_of v))) (sym err.1)
          (no_orders _);
      losses = tt;
      honest = λ honest. subst (λ v. g.B.Board.honest (g.V.BoardVolume.board_of v)) (sym err.1) honest;
      apps = c.event-answer.ensures.kept.apps;
      fault = λ is. absurd (never_faulty is);
      later = omega arith;
    }

-- ---- it wasn't written to its end

pub returns-in_err-written-clause-made : goal.returns-in_err-written-clause-made
returns-in_err-written-clause-made g c =
    let behaviour = g.A.Application.behaviour in
    let names = c.args.names.now in
    let tee = c.args.tee.now in
    let then = c.event-answer.new.self in
    let made = IfOk-at_ok _ c.in-Ok.is c.event-answer.ensures.made in
    let told = IfOk-at_ok _ c.in-Ok.is c.event-answer.ensures.told in
    let old = volume_of tee in
    let new = volume_of then in
    let e = c.args.event in
    let h = c.in-Ok.happened in
    let counts = made.counts in
    let known = event_known names (app_count tee) (λ i. turns_made tee i) c.name_of.result.now (app_of e) c.args.app c.requires.own c.requires.names c.requires.known
    c.name_of.ensures (c.has_room.ensures.0 c.if-not-has_room.false) in
    let stop = err_from_is_err_and c.from_residual.result c.from_residual.ensures.1 in
    rw (stop.1, stop.2) (record {
      whole = tt;
      stopped = λ w stands.
          let p = side_at tee.sides.items w (app_of e) stands.stand.sides_are known.there in
          one_stops behaviour g.V.BoardVolume.form names w e h p.0 p.1 (told w p.0 stands p.1) _ _ known.within
          (omega (arith, known.room, sides_turns tee.sides.items w (app_of e) p.0 stands.stand.sides_are p.1))
          (made.stands w p.0 stands p.1) (made.sound w stands)
          (stands_leaves g.V.Volume.keeper g.V.BoardVolume.form then.sides.items (volume_of then) _ _ (g.met.V.BoardVolume.seen (volume_of then)) (made.world w stands))
          (subst (λ name. AppendsFront (happened_lines name h) (g.W.Sink.written c.args.sink.now) (g.W.Sink.written c.write_happened-written.new.sink)) known.named c.in_err-written.ensures.err);
      served = c.in_err-written.ensures.served;
      orders = unordered g.V.Volume.keeper g.V.BoardVolume.form old new _ _ (g.met.V.BoardVolume.seen old) (g.met.V.BoardVolume.seen new) counts.foundation counts.faults;
      losses = tt;
      honest = λ honest. (g.met.V.BoardVolume.below new).0 (made.below ((g.met.V.BoardVolume.below old).1 honest));
      apps = c.event-answer.ensures.kept.apps;
      fault = λ is. c.in_err-written.ensures.fault (stop_again _ _ _ _ is);
      later = c.in_err-written.ensures.later;
    })

-- ---- it was made and written

pub returns-clause-made : goal.returns-clause-made
returns-clause-made g c =
    let behaviour = g.A.Application.behaviour in
    let names = c.args.names.now in
    let tee = c.args.tee.now in
    let then = c.event-answer.new.self in
    let made = IfOk-at_ok _ c.in-Ok.is c.event-answer.ensures.made in
    let told = IfOk-at_ok _ c.in-Ok.is c.event-answer.ensures.told in
    let old = volume_of tee in
    let new = volume_of then in
    let e = c.args.event in
    let h = c.in-Ok.happened in
    let counts = made.counts in
    let within : c.args.app < length names = omega (arith, c.requires.names, c.requires.known) in
    let known = event_known names (app_count tee) (λ i. turns_made tee i) c.name_of.result.now (app_of e) c.args.app c.requires.own c.requires.names c.requires.known
    c.name_of.ensures (c.has_room.ensures.0 c.if-not-has_room.false) in
    record {
      whole = λ w stands.
          let p = side_at tee.sides.items w (app_of e) stands.stand.sides_are known.there in
          one_whole behaviour g.V.BoardVolume.form names w e h p.0 p.1 (told w p.0 stands p.1) _ _ _ known.within
          (omega (arith, known.room, sides_turns tee.sides.items w (app_of e) p.0 stands.stand.sides_are p.1))
          (made.stands w p.0 stands p.1) (made.sound w stands) c.event-answer.ensures.kept.boots
          (event_along g.V.Volume.keeper g.V.BoardVolume.form (volume_of tee) (volume_of then) _ _ (g.met.V.BoardVolume.seen (volume_of tee))
          (g.met.V.BoardVolume.seen (volume_of then)) behaviour w e h.kind made.counts)
          (made.world w stands)
          (subst (λ name. Appends (g.W.Sink.written c.args.sink.now) (g.W.Sink.written c.write_happened-written.new.sink) (happened_lines name h)) known.named c.in_ok-written.ensures.ok);
      stopped = tt;
      served = tt;
      orders = unordered g.V.Volume.keeper g.V.BoardVolume.form old new _ _ (g.met.V.BoardVolume.seen old) (g.met.V.BoardVolume.seen new) counts.foundation counts.faults;
      losses =
          losses_event g.V.Volume.keeper g.V.BoardVolume.form old new _ _ (g.met.V.BoardVolume.seen old) (g.met.V.BoardVolume.seen new) names c.args.app h _ _ c.requires.words within
          made.counts
          (subst (λ name. Appends (g.W.Sink.written c.args.sink.now) (g.W.Sink.written c.write_happened-written.new.sink) (happened_lines name h)) c.name_of.ensures c.in_ok-written.ensures.ok);
      honest = λ honest. (g.met.V.BoardVolume.below new).0 (made.below ((g.met.V.BoardVolume.below old).1 honest));
      apps = c.event-answer.ensures.kept.apps;
      fault = λ is. absurd (never_stopped _ _ is);
      later = c.in_ok-written.ensures.later;
    }

pub returns-clause-called : goal.returns-clause-called
returns-clause-called g c = λ w m client call stands here is.
    call_told g.A.Application.behaviour c.args.event c.in-Ok.happened m c.args.app client call
    (IfOk-at_ok _ c.in-Ok.is c.event-answer.ensures.told w m stands (subst (λ i. slice_get w i ≡ Some m) (sym c.requires.own) here)) is
