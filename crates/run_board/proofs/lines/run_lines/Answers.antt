use Rattle.std.proofs.Common.{◌≡◌, ◌∙◌, suc, List, [], ◌∷◌, ◌++◌, Err, drop, length, ap, refl, subst, sym, append_assoc, append-nil, arith}
use Rattle.std.specs.List.{AllByRecursion}
use Rattle.std.proofs.lemmas.Result.{err_from_is_err_and}
use Rattle.script.specs.declared.line.Line.{Line}
use Rattle.tee_core.specs.Represents.{app_count}
use Rattle.run_board.specs.Reading.{IsKnown}
use Rattle.run_board.specs.Transcript.{after_events, events_of}
use Rattle.run_board.proofs.Along.{line_run, line_stops, lines_refused, lines_run, lines_stop, refused_before, run_none}
use Rattle.run_board.proofs.Layers.{never_stopped}
use Rattle.run_board.proofs.Losses.{losses_both, losses_none}
use Rattle.run_board.proofs.Parts.{first_orders_more, no_orders, power_first, power_more, rose_later}
use Rattle.run_board.proofs.Powers.{fails_before, fails_behind, first_orders_before, orders_more}
use Rattle.run_board.proofs.Refusals.{refused_weaker, unless_weaker}
use Rattle.run_board.proofs.lines.run_lines.Goals as goal

-- what has nothing left of it once the first is gone
none_left : (lines : List Line) → lines ≡ drop 1 lines → lines ≡ []
none_left [] same = refl
none_left (line ∷ lines) same = let longer : suc (length lines) ≡ length lines = ap (λ (xs : List Line). length xs) same in absurd (omega (arith, longer))

pub loop-line-init : goal.loop-line-init
loop-line-init g c =
    let behaviour = g.A.Application.behaviour in
    record {
      front = [];
      split = sym c.from-rest.ensures.0;
      run = λ w stands. run_none behaviour g.V.BoardVolume.form c.args.names.now _ w (λ weather. events_of behaviour weather w []) _ stands (λ weather. refl);
      orders = no_orders _;
      losses = losses_none _ _ _ (omega arith);
      honest = λ h. h;
      apps = refl;
      known = subst (λ (lines : List Line). AllByRecursion (IsKnown (app_count c.args.tee.now)) lines) (sym c.from-rest.ensures.0) c.requires.known;
      later = omega arith;
    }

pub loop-line-preserved : goal.loop-line-preserved
loop-line-preserved g c =
    let behaviour = g.A.Application.behaviour in
    let line = c.in-Some.line in
    let front = c.loop-line.invariant.front in
    let rest = c.pop_front.new.self.items in
    record {
      front = front ++ line ∷ [];
      split = c.loop-line.invariant.split ∙ ap (λ zs. front ++ zs) c.in-Some.ensures.items ∙ sym (append_assoc front (line ∷ []) rest);
      run = λ w stands.
          let run = c.loop-line.invariant.run w stands in
          lines_run behaviour g.V.BoardVolume.form c.args.names.now _ _ w front (line ∷ []) _ _ _ run
          (line_run behaviour g.V.BoardVolume.form c.args.names.now _ _ line _ _ (c.in_ok-run_line.ensures.whole (after_events behaviour w run.made) run.stands));
      orders = orders_more front line _ _ _ c.loop-line.invariant.orders c.in_ok-run_line.ensures.orders;
      losses = losses_both _ _ _ _ _ _ c.loop-line.invariant.losses c.in_ok-run_line.ensures.losses;
      honest = λ h. c.in_ok-run_line.ensures.honest (c.loop-line.invariant.honest h);
      apps = c.in_ok-run_line.ensures.apps ∙ c.loop-line.invariant.apps;
      known = (subst (λ (lines : List Line). AllByRecursion (IsKnown (app_count c.args.tee.now)) lines) c.in-Some.ensures.items c.loop-line.invariant.known).1;
      later = omega (arith, c.loop-line.invariant.later, c.in_ok-run_line.ensures.later);
    }

pub run_line-requires-clause-known : goal.run_line-requires-clause-known
run_line-requires-clause-known g c =
    subst (λ n. IsKnown n c.in-Some.line) (sym c.loop-line.invariant.apps)
    (subst (λ (lines : List Line). AllByRecursion (IsKnown (app_count c.args.tee.now)) lines) c.in-Some.ensures.items c.loop-line.invariant.known).0

pub returns-in_err-run_line : goal.returns-in_err-run_line
returns-in_err-run_line g c =
    let behaviour = g.A.Application.behaviour in
    let form = g.V.BoardVolume.form in
    let names = c.args.names.now in
    let so_far = c.loop-line.invariant in
    let part = c.in_err-run_line.ensures in
    let front = so_far.front in
    let line = c.in-Some.line in
    let more = c.pop_front.new.self.items in
    let all : c.args.lines.items ≡ front ++ line ∷ more = so_far.split ∙ ap (λ zs. front ++ zs) c.in-Some.ensures.items in
    let p = err_from_is_err_and c.from_residual.result c.from_residual.ensures.1 in
    rw (p.1, p.2) (rw all (record {
      whole = tt;
      stopped = unless_weaker {X = Unit {0}} (Err c.in_err-run_line.field-0.0) _ _
          (λ stops w stands.
          let run = so_far.run w stands in
          let now = after_events behaviour w run.made in
          lines_stop behaviour form names _ w front (line ∷ more) _ _ _ run (line_stops behaviour form names now line more _ _ (stops now run.stands)))
          part.stopped;
      refused = refused_weaker {X = Unit {0}} (Err c.in_err-run_line.field-0.0) _ _
          (λ why is w stands.
          let run = so_far.run w stands in
          let now = after_events behaviour w run.made in
          let refused = is now run.stands in
          (lines_refused behaviour form names _ w front (line ∷ more) _ _ _ run (refused_before behaviour form names now (line ∷ []) more _ _ refused.0), refused.1))
          part.refused;
      refusal = refused_weaker {X = Unit {0}} (Err c.in_err-run_line.field-0.0) _ _ (λ why is h. is (so_far.honest h)) part.refusal;
      cause = refused_weaker {X = Unit {0}} (Err c.in_err-run_line.field-0.0) _ _
          (λ why is same. fails_behind front (line ∷ more) _ _ _ so_far.orders (fails_before (line ∷ []) more _ _ (is same)))
          part.cause;
      power = refused_weaker {X = Unit {0}} (Err c.in_err-run_line.field-0.0) _ _
          (λ why is. power_more front (line ∷ more) (power_first (line ∷ []) more is)) part.power;
      orders = tt;
      first_orders = first_orders_more front (line ∷ more) _ _ _ so_far.orders (first_orders_before (line ∷ []) more _ _ part.first_orders);
      losses = tt;
      honest = λ h. part.honest (so_far.honest h);
      apps = part.apps ∙ so_far.apps;
      fault = λ is. rose_later _ _ _ so_far.later (part.fault is);
      later = omega (arith, so_far.later, part.later);
    }))

pub returns : goal.returns
returns g c =
    let so_far = c.loop-line.invariant in
    let front = so_far.front in
    let none = none_left c.loop-line.rest.items (c.in_default.ensures.items ∙ c.in_default.ensures.rest) in
    let all : c.args.lines.items ≡ front = so_far.split ∙ ap (λ zs. front ++ zs) none ∙ append-nil front in
    rw all (record {
      whole = so_far.run;
      stopped = tt;
      refused = tt;
      refusal = tt;
      cause = tt;
      power = tt;
      orders = so_far.orders;
      first_orders = tt;
      losses = so_far.losses;
      honest = so_far.honest;
      apps = so_far.apps;
      fault = λ is. absurd (never_stopped _ _ is);
      later = so_far.later;
    })
