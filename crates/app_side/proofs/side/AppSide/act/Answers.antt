use Rattle.std.proofs.Common.{◌≡◌, ◌∙◌, ℕ, Bool, Err, Some, find, refl, rules, sym, ap, subst}
use Rattle.tee_base.specs.declared.codes.Origin.TheVariants.{Tee}
use Rattle.tee_base.specs.declared.codes.TheConstants.Code.{TARGET_DEAD}
use Rattle.object_asks.specs.Resolutions.{Resolution, Outcome, Panicked, Returned, Serves}
use Rattle.object_asks.specs.Serving.{CrashTurns, EndsUnchanged, UnlessAnswered, serving_of}
use Rattle.store_api.specs.Stores.{empty_store}
use Rattle.object_asks.specs.declared.outcome.Outcome.{Outcome as Result_of}
use Rattle.object_asks.specs.declared.outcome.Outcome.TheVariants as outcomes
use Rattle.object_asks.proofs.Crashes.{idle_crash}
use Rattle.alone.specs.declared.active_entry.ActiveEntry.{ActiveEntry}
use Rattle.alone.specs.Asks.{resolution, resolution_after, mask_noted}
use Rattle.alone.specs.Machine.{Machine, is_number, with_instance}
use Rattle.alone.specs.Step.{after_ask, serve_outcome, torn_down}
use Rattle.alone.proofs.Lists.{found_number}
use Rattle.app_side.specs.Asking.{entry_with_ask, given_next}
use Rattle.app_side.specs.declared.side.AppSide.{AppSide}
use Rattle.app_side.specs.Represents.{IsLeft, IsTurned, IsStep, machine_of, machine_over}
use Rattle.app_side.specs.Serving.{in_doubt_by}
use Rattle.app_side.proofs.Carried.{below, resolution_above, resolution_below, none_tried, plain_turn}
use Rattle.app_side.proofs.Crashed.{acted_crash}
use Rattle.app_side.proofs.Stored.{same_parts}
use Rattle.app_side.proofs.TurnLemmas.{answers, moves, returns, starves_alike, starves_turn, tears, torn_lost, turned_lost}
use Rattle.app_side.proofs.side.AppSide.act.Goals as goal

pub returns-then-entry-ge-MAX_ASKS : goal.returns-then-entry-ge-MAX_ASKS
returns-then-entry-ge-MAX_ASKS g c inst found =
    let t = g.T.AppStore.keeper in
    let before = t.contents c.args.store.now in
    let new = c.tear_down.new.self in
    let replies = c.tear_down.new.replies in
    let ask = c.args.ask in
    let r : ActiveEntry = entry_with_ask c.args.entry ask in
    let numbered : inst.number ≡ c.args.number = found_number c.args.number c.args.self.now.instances.items inst found in
    record {
      step = λ model same doubt.
          let m : Machine g.row.A.Denot = machine_over c.args.self.now before.store doubt in
          subst (λ (k : Resolution (Machine g.row.A.Denot)). IsStep new before.store replies (after_ask m inst (mask_noted r ask) (serve_outcome Serves m ask k)))
          (sym (resolution_above m inst.number r ask c.if-entry-ge-MAX_ASKS.true))
          (tears c.args.self.now new replies inst.number TARGET_DEAD Tee m before.store doubt (subst
          (λ (n : ℕ). IsTurned new replies (torn_down (machine_of c.args.self.now) n TARGET_DEAD Tee)) (sym numbered) c.tear_down.ensures) refl);
      kind = plain_turn t _ _ _ _ c.args.store.now (sym (torn_lost c.args.self.now new replies c.args.number TARGET_DEAD Tee c.tear_down.ensures));
      tried = none_tried _ (t.status c.args.store.now);
      want = tt;
      starves = tt;
      crash = λ honest just doubt. idle_crash t _ _ c.args.store.now just;
    }

pub returns-in-Answered : goal.returns-in-Answered
returns-in-Answered g c inst found =
    let t = g.T.AppStore.keeper in
    let before = t.contents c.args.store.now in
    let after = t.contents c.carry_out.new.store in
    let mid = c.carry_out.new.self in
    let new = c.answer_next.new.self in
    let done = c.in-Ok.served in
    let met = c.in-Ok.ensures in
    let ask = c.args.ask in
    let r : ActiveEntry = entry_with_ask c.args.entry ask in
    let out : done.outcome ≡ outcomes.Answered c.in-Answered.answer = c.in-Answered.is in
    let found_in : find (is_number c.args.number) mid.instances.items ≡ Some inst = ap (λ v. find (is_number c.args.number) v.items) c.carry_out.ensures.instances ∙ found in
    let numbered : inst.number ≡ c.args.number = found_number c.args.number c.args.self.now.instances.items inst found in
    let next = c.answer_next.ensures inst found_in in
    record {
      step = λ model same doubt.
          let m : Machine g.row.A.Denot = machine_over c.args.self.now before.store doubt in
          let stated : Outcome (Machine g.row.A.Denot) = serve_outcome (serving_of done.kind) m ask (resolution m c.args.number r ask) in
          let left : IsLeft (outcomes.Answered c.in-Answered.answer) stated mid after.store doubt m = subst (λ (o : Result_of). IsLeft o stated mid after.store doubt m) out
          (met.left model same doubt) in
          answers mid new c.args.replies.now inst (mask_noted r ask) c.in-Answered.answer after.store left.0 (serve_outcome (serving_of done.kind) m ask (resolution_after m inst.number r ask))
          (next ∙ ap (λ (b : Bool). with_instance (machine_of mid) (record inst { running = Some (given_next c.args.entry b c.in-Answered.answer) })) c.mask_after-masked.ensures) c.requires.none
          (ap (λ (k : Resolution (Machine g.row.A.Denot)). serve_outcome (serving_of done.kind) m ask k) (resolution_below m inst.number c.args.number r ask c.if-entry-ge-MAX_ASKS.false
          numbered) ∙ left.1) m;
      kind = moves t done.kind _ _ _ _ _ _ _ c.args.store.now c.carry_out.new.store (sym (below c.args.entry.asks _ c.if-entry-ge-MAX_ASKS.false)) refl
          (sym (ap (λ (m : Machine g.row.A.Denot). m.lost) next)) met.kind;
      tried = c.carry_out.ensures.tried;
      want = tt;
      starves = tt;
      crash = λ honest just doubt.
          let m : Machine g.row.A.Denot = machine_over c.args.self.now before.store doubt in
          acted_crash t c.args.store.now c.carry_out.new.store m inst (mask_noted r ask) done.kind (serve_outcome (serving_of done.kind) m ask (resolution_after m inst.number r ask))
          (subst (λ (k : Resolution (Machine g.row.A.Denot)). CrashTurns t done.kind (in_doubt_by (serve_outcome (serving_of done.kind) m ask k)) c.args.store.now c.carry_out.new.store)
          (sym (resolution_below m inst.number c.args.number r ask c.if-entry-ge-MAX_ASKS.false numbered)) (met.crash honest just doubt));
    }

pub returns-in_ok-end_entry-in-Returned : goal.returns-in_ok-end_entry-in-Returned
returns-in_ok-end_entry-in-Returned g c inst found =
    let t = g.T.AppStore.keeper in
    let before = t.contents c.args.store.now in
    let after = t.contents c.carry_out.new.store in
    let mid = c.carry_out.new.self in
    let new = c.end_entry.new.self in
    let replies = c.end_entry.new.replies in
    let done = c.in-Ok.served in
    let met = c.in-Ok.ensures in
    let ask = c.args.ask in
    let ending = c.in-Returned.ending in
    let r : ActiveEntry = entry_with_ask c.args.entry ask in
    let out : done.outcome ≡ outcomes.Returned ending = c.in-Returned.is in
    let found_in : find (is_number c.args.number) mid.instances.items ≡ Some inst = ap (λ v. find (is_number c.args.number) v.items) c.carry_out.ensures.instances ∙ found in
    let numbered : inst.number ≡ c.args.number = found_number c.args.number c.args.self.now.instances.items inst found in
    let turned = c.in_ok-end_entry-in-Returned.ensures.ok inst found_in numbered in
    record {
      step = λ model same doubt.
          let m : Machine g.row.A.Denot = machine_over c.args.self.now before.store doubt in
          let stated : Outcome (Machine g.row.A.Denot) = serve_outcome (serving_of done.kind) m ask (resolution m c.args.number r ask) in
          let left : IsLeft (outcomes.Returned ending) stated mid after.store doubt m = subst (λ (o : Result_of). IsLeft o stated mid after.store doubt m) out (met.left model same doubt) in
          let whole : serve_outcome (serving_of done.kind) m ask (resolution_after m inst.number r ask) ≡ Returned ending.code ending.outs =
          ap (λ (k : Resolution (Machine g.row.A.Denot)). serve_outcome (serving_of done.kind) m ask k) (resolution_below m inst.number c.args.number r ask c.if-entry-ge-MAX_ASKS.false numbered)
          ∙ left.0 in
          subst (λ (o : Outcome (Machine g.row.A.Denot)). IsStep new after.store replies (after_ask m inst (mask_noted r ask) o)) (sym whole)
          (returns mid new replies inst r.op r.stage ending m after.store doubt turned left.1);
      kind = moves t done.kind _ _ _ _ _ _ _ c.args.store.now c.carry_out.new.store (sym (below c.args.entry.asks _ c.if-entry-ge-MAX_ASKS.false)) refl
          (turned_lost mid new replies inst r.op r.stage ending.code ending.outs turned) met.kind;
      tried = c.carry_out.ensures.tried;
      want = tt;
      starves = tt;
      crash = λ honest just doubt.
          let m : Machine g.row.A.Denot = machine_over c.args.self.now before.store doubt in
          acted_crash t c.args.store.now c.carry_out.new.store m inst (mask_noted r ask) done.kind (serve_outcome (serving_of done.kind) m ask (resolution_after m inst.number r ask))
          (subst (λ (k : Resolution (Machine g.row.A.Denot)). CrashTurns t done.kind (in_doubt_by (serve_outcome (serving_of done.kind) m ask k)) c.args.store.now c.carry_out.new.store)
          (sym (resolution_below m inst.number c.args.number r ask c.if-entry-ge-MAX_ASKS.false numbered)) (met.crash honest just doubt));
    }

-- a return that finds no memory for what the references of an open are
pub returns-in_err-end_entry-in-Returned : goal.returns-in_err-end_entry-in-Returned
returns-in_err-end_entry-in-Returned g c inst found =
    let t = g.T.AppStore.keeper in
    let before = t.contents c.args.store.now in
    let after = t.contents c.carry_out.new.store in
    let mid = c.carry_out.new.self in
    let done = c.in-Ok.served in
    let met = c.in-Ok.ensures in
    let ask = c.args.ask in
    let ending = c.in-Returned.ending in
    let r : ActiveEntry = entry_with_ask c.args.entry ask in
    let out : done.outcome ≡ outcomes.Returned ending = c.in-Returned.is in
    let none = c.in_err-end_entry-in-Returned.ensures.err in
    let handed : c.from_residual.result ≡ Err c.in_err-end_entry-in-Returned.field-0.0 = search rules in
    starves_turn t _ _ _ c.args.number c.from_residual.result c.in_err-end_entry-in-Returned.field-0.0 c.args.self.now c.end_entry.new.self c.end_entry.new.replies
    c.args.store.now c.carry_out.new.store handed
    c.carry_out.ensures.tried (subst (λ (o : Result_of). UnlessAnswered o (EndsUnchanged t c.args.store.now c.carry_out.new.store)) out met.ends) (record {
      alike = λ model same code origin.
          let m : Machine g.row.A.Denot = machine_over c.args.self.now before.store empty_store in
          let stated : Outcome (Machine g.row.A.Denot) = serve_outcome (serving_of done.kind) m ask (resolution m c.args.number r ask) in
          let left : IsLeft (outcomes.Returned ending) stated mid after.store empty_store m = subst (λ (o : Result_of). IsLeft o stated mid after.store empty_store m) out
          (met.left model same empty_store) in
          ap (λ (x : Machine g.row.A.Denot). torn_down x c.args.number code origin)
          (ap (λ (s : AppSide g.row.A.Denot). machine_of s) none.0 ∙ same_parts mid c.args.self.now after.store before.store empty_store left.1);
      lost = λ same. ap (λ (s : AppSide g.row.A.Denot). s.lost) none.0 ∙ met.kind.lost same;
      none = none.1;
    })

pub returns-in-Panicked : goal.returns-in-Panicked
returns-in-Panicked g c inst found =
    let t = g.T.AppStore.keeper in
    let before = t.contents c.args.store.now in
    let after = t.contents c.carry_out.new.store in
    let mid = c.carry_out.new.self in
    let new = c.tear_down-in-Panicked.new.self in
    let replies = c.tear_down-in-Panicked.new.replies in
    let done = c.in-Ok.served in
    let met = c.in-Ok.ensures in
    let ask = c.args.ask in
    let r : ActiveEntry = entry_with_ask c.args.entry ask in
    let out : done.outcome ≡ outcomes.Panicked = c.in-Panicked.is in
    let numbered : inst.number ≡ c.args.number = found_number c.args.number c.args.self.now.instances.items inst found in
    let torn = c.tear_down-in-Panicked.ensures in
    record {
      step = λ model same doubt.
          let m : Machine g.row.A.Denot = machine_over c.args.self.now before.store doubt in
          let stated : Outcome (Machine g.row.A.Denot) = serve_outcome (serving_of done.kind) m ask (resolution m c.args.number r ask) in
          let left : IsLeft outcomes.Panicked stated mid after.store doubt m = subst (λ (o : Result_of). IsLeft o stated mid after.store doubt m) out (met.left model same doubt) in
          let whole : serve_outcome (serving_of done.kind) m ask (resolution_after m inst.number r ask) ≡ Panicked =
          ap (λ (k : Resolution (Machine g.row.A.Denot)). serve_outcome (serving_of done.kind) m ask k) (resolution_below m inst.number c.args.number r ask c.if-entry-ge-MAX_ASKS.false numbered)
          ∙ left.0 in
          subst (λ (o : Outcome (Machine g.row.A.Denot)). IsStep new after.store replies (after_ask m inst (mask_noted r ask) o)) (sym whole)
          (tears mid new replies inst.number TARGET_DEAD Tee m after.store doubt (subst (λ (n : ℕ). IsTurned new replies (torn_down (machine_of mid) n TARGET_DEAD Tee)) (sym numbered) torn) left.1);
      kind = moves t done.kind _ _ _ _ _ _ _ c.args.store.now c.carry_out.new.store (sym (below c.args.entry.asks _ c.if-entry-ge-MAX_ASKS.false)) refl
          (torn_lost mid new replies c.args.number TARGET_DEAD Tee torn) met.kind;
      tried = c.carry_out.ensures.tried;
      want = tt;
      starves = tt;
      crash = λ honest just doubt.
          let m : Machine g.row.A.Denot = machine_over c.args.self.now before.store doubt in
          acted_crash t c.args.store.now c.carry_out.new.store m inst (mask_noted r ask) done.kind (serve_outcome (serving_of done.kind) m ask (resolution_after m inst.number r ask))
          (subst (λ (k : Resolution (Machine g.row.A.Denot)). CrashTurns t done.kind (in_doubt_by (serve_outcome (serving_of done.kind) m ask k)) c.args.store.now c.carry_out.new.store)
          (sym (resolution_below m inst.number c.args.number r ask c.if-entry-ge-MAX_ASKS.false numbered)) (met.crash honest just doubt));
    }

pub returns-in-Err : goal.returns-in-Err
returns-in-Err g c inst found = let t = g.T.AppStore.keeper in record {
  step = tt;
  kind = tt;
  crash = tt;
  tried = c.carry_out.ensures.tried;
  want = c.in-Err.ensures.want;
  starves = starves_alike t _ _ _ _ _ _ c.in-Err.ensures.starves c.in-Err.ensures.want.status c.requires.none;
}
