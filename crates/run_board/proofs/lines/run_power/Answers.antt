use Rattle.std.proofs.Common.{◌≡◌, ◌∙◌, [], ◌∷◌, length, refl, sym, ap, arith}
use Rattle.std.proofs.lemmas.Result.{on_ok_weaker}
use Rattle.epoch.specs.Opening.{is_no_failure}
use Rattle.epoch.specs.declared.answer.OpenAnswer.TheVariants.{Failed}
use Rattle.script.specs.declared.line.Line.TheVariants as lines
use Rattle.tee_core.specs.Represents.{volume_of}
use Rattle.tee_core.proofs.SideLemmas.{sides_length}
use Rattle.tee_core.proofs.Steps.{on_err_known}
use Rattle.run_board.specs.Boards.{orders_of}
use Rattle.run_board.specs.Transcript.{line_events}
use Rattle.run_board.proofs.Along.{stops_first}
use Rattle.run_board.proofs.Layers.{never_faulty, never_refused}
use Rattle.run_board.proofs.Leaves.{stands_leaves}
use Rattle.run_board.proofs.Losses.{losses_power}
use Rattle.run_board.proofs.Parts.{all_orders_first, no_orders, power_here}
use Rattle.run_board.proofs.Powers.{fails_here, order_made, owner_is, owner_known, power_refused, power_stops, power_whole, powers_are, within_leaves}
use Rattle.run_board.proofs.Refusals.{no_refusal, on_ok_known, unless_refused}
use Rattle.run_board.proofs.lines.run_power.Goals as goal

-- ---- no power is lost

pub returns-then-boots-eq4294967295 : goal.returns-then-boots-eq4294967295
returns-then-boots-eq4294967295 g c =
    let behaviour = g.A.Application.behaviour in
    let tee = c.args.tee.now in
    record {
      whole = tt;
      stopped = λ w stands.
          stops_first behaviour g.V.BoardVolume.form c.args.names.now w (λ weather. line_events behaviour weather w (lines.Power c.args.pick)) _ _ _ _ _
          (stands_leaves g.V.Volume.keeper g.V.BoardVolume.form tee.sides.items (volume_of tee) _ w (g.met.V.BoardVolume.seen (volume_of tee)) stands);
      refused = tt;
      refusal = tt;
      cause = tt;
      power = tt;
      orders = tt;
      first_orders = ([], orders_of (lines.Power c.args.pick ∷ []), refl, no_orders _);
      losses = tt;
      honest = λ h. h;
      apps = refl;
      fault = λ is. absurd (never_faulty is);
      later = omega arith;
    }

-- ---- the board is opened again

pub returns-in-Ok : goal.returns-in-Ok
returns-in-Ok g c =
    let behaviour = g.A.Application.behaviour in
    let tee = c.args.tee.now in
    let then = c.power.new.self in
    let told = c.in-Ok.told in
    let names = c.args.names.now in
    let ends = c.write_power.result in
    let served = c.write_power.ensures.served in
    let order = order_made c.args.pick _ _ c.in-Ok.ensures.calls.order in
    record {
      whole = on_ok_weaker ends
          (λ written w stands.
          let begins = c.in-Ok.ensures.restarted w stands in
          let is = begins.told in
          let many : length w ≡ length names = sym (sides_length tee.sides.items w stands.stand.sides_are) ∙ sym c.requires.names in
          power_whole behaviour g.V.BoardVolume.form names w c.args.pick told (owner_known w told _ _ (length names) is many) _ _ _
          (powers_are tee.sides.items w tee.boots stands.stand.sides_are tee.booted c.requires.some) (owner_is w told _ _ is stands.stand.single) c.in-Ok.ensures.boots c.in-Ok.ensures.calls.order
          begins.left begins.world written)
          c.write_power.ensures.ok;
      stopped = unless_refused ends _ _
          (λ written w stands.
          let begins = c.in-Ok.ensures.restarted w stands in
          let is = begins.told in
          let many : length w ≡ length names = sym (sides_length tee.sides.items w stands.stand.sides_are) ∙ sym c.requires.names in
          power_stops behaviour g.V.BoardVolume.form names w c.args.pick told (owner_known w told _ _ (length names) is many) _ _
          (powers_are tee.sides.items w tee.boots stands.stand.sides_are tee.booted c.requires.some) (owner_is w told _ _ is stands.stand.single)
          (stands_leaves g.V.Volume.keeper g.V.BoardVolume.form then.sides.items (volume_of then) _ _ (g.met.V.BoardVolume.seen (volume_of then)) begins.world) written)
          c.write_power.ensures.err;
      refused = no_refusal ends _ served;
      refusal = no_refusal ends _ served;
      cause = no_refusal ends _ served;
      power = no_refusal ends _ served;
      orders = on_ok_known ends _ order;
      first_orders = on_err_known ends _ (all_orders_first (lines.Power c.args.pick ∷ []) _ _ order);
      losses = on_ok_weaker ends (λ written. losses_power names told _ _ _ _ c.requires.words order.later written) c.write_power.ensures.ok;
      honest = λ h. (c.in-Ok.ensures.honest h).0;
      apps = c.in-Ok.ensures.kept.apps;
      fault = c.write_power.ensures.fault;
      later = c.write_power.ensures.later;
    }

-- ---- it isn't

pub returns-in-Err : goal.returns-in-Err
returns-in-Err g c =
    let tee = c.args.tee.now in
    let then = c.power.new.self in
    let order = c.in-Err.ensures.calls.order in
    let rose = λ (is : c.in-Err.why ≡ Failed). c.in-Err.ensures.calls.cause (ap is_no_failure is) in
    record {
      whole = tt;
      stopped = tt;
      refused = λ w stands. (
        power_refused g.A.Application.behaviour g.V.BoardVolume.form c.args.names.now w c.args.pick _ _ order (rose (c.in-Err.ensures.refused w stands).0)
            (within_leaves g.V.Volume.keeper g.V.BoardVolume.form (volume_of tee) (volume_of then) _ w (g.met.V.BoardVolume.seen (volume_of then)) (c.in-Err.ensures.moments w stands)) refl,
        (c.in-Err.ensures.refused w stands).0,
      );
      refusal = λ honest. (c.in-Err.ensures.honest honest).1.refusal;
      cause = λ is. fails_here c.args.pick _ _ order (rose is);
      power = power_here c.args.pick [];
      orders = tt;
      first_orders = all_orders_first (lines.Power c.args.pick ∷ []) _ _ (order_made c.args.pick _ _ order);
      losses = tt;
      honest = λ h. (c.in-Err.ensures.honest h).0;
      apps = c.in-Err.ensures.kept.apps;
      fault = λ is. absurd (never_refused _ is);
      later = omega arith;
    }
