use Rattle.std.specs.Prelude.{IfSome}
use lib.ListN.{get_or}
use Rattle.std.proofs.Common.{true, false, ◌≡◌, Err, arith, rules, subst, take_all}
use Rattle.script.specs.declared.line.Line.{Line}
use Rattle.race.specs.Wishes.{is_line_of, wish_of}
use Rattle.race.specs.Clients.{AllServe, MakesLine, StopsAt}
use Rattle.race.proofs.GoLemmas.{err_is}
use Rattle.race.proofs.ClientLemmas.{full_next, known_next, known_stopped, pass_of, serve_next, serve_other, stop_next}
use Rattle.race.proofs.client.run_lines.Goals as goal

pub loop-line-preserved-in_default : goal.loop-line-preserved-in_default
loop-line-preserved-in_default g c =
    let was = c.loop-line.invariant in
    record {
      number = omega (arith, was.number);
      known = was.known;
      serve = serve_other g.V.Volume.keeper g.A.Application.behaviour c.args.shared.now c.args.client c.args.lines.now c.loop-line.line-index c.line-item.result (omega arith)
          c.args.passes.now c.loop-line.passes
          c.requires.named was.known was.serve (λ app. subst (λ (l : Line). is_line_of app c.args.client l ≡ false) c.line-item.is (c.in_default.ensures.none app));
    }

pub make_line-requires : goal.make_line-requires
make_line-requires g c =
    let was = c.loop-line.invariant in
    record {
      of = pass_of g.V.Volume.keeper g.A.Application.behaviour c.args.shared.now c.args.client c.args.lines.now c.loop-line.line-index c.line-item.result (omega arith)
          c.args.passes.now c.loop-line.passes
          c.requires.named was.known was.serve c.in-Some.app
          (subst (λ (l : Line). is_line_of c.in-Some.app c.args.client l ≡ true) c.line-item.is c.in-Some.ensures.some) c.index-passes-app.result;
    }

pub returns-in_err-make_line-clause-known : goal.returns-in_err-make_line-clause-known
returns-in_err-make_line-clause-known g c =
    let was = c.loop-line.invariant in
    known_stopped g.V.Volume.keeper g.A.Application.behaviour c.args.shared.now c.args.client c.args.lines.now c.loop-line.line-index c.line-item.result (omega arith) c.args.passes.now
    c.loop-line.passes
    c.requires.named was.known was.serve c.in-Some.app
    (subst (λ (l : Line). is_line_of c.in-Some.app c.args.client l ≡ true) c.line-item.is c.in-Some.ensures.some) c.index-passes-app.result c.make_line.new.pass c.make_line.ensures.of
    c.in_err-make_line.field-0.0
    (subst (λ (l : Line). IfSome (wish_of l) (λ wish. StopsAt g.V.Volume.keeper g.A.Application.behaviour c.in_err-make_line.field-0.0 wish
    (get_or c.loop-line.passes c.in-Some.app c.index-passes-app.result) c.make_line.new.pass)) c.line-item.is c.in_err-make_line.ensures.err)

pub returns-in_err-make_line-clause-err : goal.returns-in_err-make_line-clause-err
returns-in_err-make_line-clause-err g c =
    let was = c.loop-line.invariant in
    let is : c.from_residual.result ≡ Err c.in_err-make_line.field-0.0 = search rules in
    err_is _ c.from_residual.result c.in_err-make_line.field-0.0 is
    (stop_next g.V.Volume.keeper g.A.Application.behaviour c.args.shared.now c.args.client c.args.lines.now c.loop-line.line-index c.line-item.result (omega arith) c.args.passes.now c.loop-line.passes
    c.requires.named was.known was.serve c.in-Some.app
    (subst (λ (l : Line). is_line_of c.in-Some.app c.args.client l ≡ true) c.line-item.is c.in-Some.ensures.some) c.index-passes-app.result c.make_line.new.pass c.make_line.ensures.of
    c.in_err-make_line.field-0.0
    (subst (λ (l : Line). IfSome (wish_of l) (λ wish. StopsAt g.V.Volume.keeper g.A.Application.behaviour c.in_err-make_line.field-0.0 wish
    (get_or c.loop-line.passes c.in-Some.app c.index-passes-app.result) c.make_line.new.pass)) c.line-item.is c.in_err-make_line.ensures.err))

pub returns-in_err-make_line-clause-full : goal.returns-in_err-make_line-clause-full
returns-in_err-make_line-clause-full g c =
    let was = c.loop-line.invariant in
    let is : c.from_residual.result ≡ Err c.in_err-make_line.field-0.0 = search rules in
    err_is _ c.from_residual.result c.in_err-make_line.field-0.0 is
    (full_next g.V.Volume.keeper g.A.Application.behaviour c.args.shared.now c.args.client c.args.lines.now c.loop-line.line-index c.line-item.result (omega arith) c.args.passes.now c.loop-line.passes
    c.requires.named was.known was.serve c.in-Some.app
    (subst (λ (l : Line). is_line_of c.in-Some.app c.args.client l ≡ true) c.line-item.is c.in-Some.ensures.some) c.index-passes-app.result c.make_line.new.pass c.make_line.ensures.of
    c.in_err-make_line.field-0.0
    (subst (λ (l : Line). IfSome (wish_of l) (λ wish. StopsAt g.V.Volume.keeper g.A.Application.behaviour c.in_err-make_line.field-0.0 wish
    (get_or c.loop-line.passes c.in-Some.app c.index-passes-app.result) c.make_line.new.pass)) c.line-item.is c.in_err-make_line.ensures.err))

pub loop-line-preserved : goal.loop-line-preserved
loop-line-preserved g c =
    let was = c.loop-line.invariant in
    record {
      number = omega (arith, was.number);
      known = known_next g.V.Volume.keeper g.A.Application.behaviour c.args.shared.now c.args.client c.args.lines.now c.loop-line.line-index c.line-item.result (omega arith)
          c.args.passes.now c.loop-line.passes
          c.requires.named was.known was.serve c.in-Some.app
          (subst (λ (l : Line). is_line_of c.in-Some.app c.args.client l ≡ true) c.line-item.is c.in-Some.ensures.some) c.index-passes-app.result c.make_line.new.pass c.make_line.ensures.of
          (subst (λ (l : Line). IfSome (wish_of l) (λ wish. MakesLine g.V.Volume.keeper g.A.Application.behaviour wish
          (get_or c.loop-line.passes c.in-Some.app c.index-passes-app.result) c.make_line.new.pass)) c.line-item.is c.in_ok-make_line.ensures.ok);
      serve = serve_next g.V.Volume.keeper g.A.Application.behaviour c.args.shared.now c.args.client c.args.lines.now c.loop-line.line-index c.line-item.result (omega arith)
          c.args.passes.now c.loop-line.passes
          c.requires.named was.known was.serve c.in-Some.app
          (subst (λ (l : Line). is_line_of c.in-Some.app c.args.client l ≡ true) c.line-item.is c.in-Some.ensures.some) c.index-passes-app.result c.make_line.new.pass c.make_line.ensures.of
          (subst (λ (l : Line). IfSome (wish_of l) (λ wish. MakesLine g.V.Volume.keeper g.A.Application.behaviour wish
          (get_or c.loop-line.passes c.in-Some.app c.index-passes-app.result) c.make_line.new.pass)) c.line-item.is c.in_ok-make_line.ensures.ok);
    }

pub returns-clause-ok : goal.returns-clause-ok
returns-clause-ok g c =
    subst (λ ls. AllServe g.V.Volume.keeper g.A.Application.behaviour c.args.shared.now c.args.client ls c.loop-line.passes) (take_all c.loop-line.line-index c.args.lines.now (omega
    arith)) c.loop-line.invariant.serve
