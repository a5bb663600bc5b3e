use Rattle.std.proofs.Common.{◌≡◌, ◌+◌, ◌-◌, ◌++◌, List, [], ◌∷◌, append_assoc, length, length-append, sym, subst, ◌∙◌, ap, arith}
use Rattle.std.proofs.lemmas.List.{length_push}
use Rattle.std.specs.Prelude.{IfErr}
use Rattle.turn_cell.specs.Words.{IsSeatOf, cell_id, view as known}
use Rattle.app_side.specs.declared.side.AppSide.{AppSide}
use Rattle.tee_core.proofs.Opens.{none_left}
use Rattle.shared_tee.proofs.BeginLemmas.{idle_at}
use Rattle.shared_tee.proofs.MakeLemmas.{begun_count, begun_more, is_empty, on_ok}
use Rattle.shared_tee.specs.Making.{AreBegun, AreIdle, BegunCell, ComesBack, IsBegun, opened_seat, origin_over, origins_over}
use Rattle.shared_tee.proofs.making.begin_all.Goals as goal

pub loop-app-init : goal.loop-app-init
loop-app-init g c =
    let K = g.V.Volume.keeper in
    let volume = c.args.opened.now.value in
    let apps = c.len-apps.result in
    let apps_are : apps ≡ length c.args.sides.items = c.len-apps.ensures ∙ c.args.sides.ok.0 in
    let none : length c.args.begun.now.items ≡ 0 = ap (λ (bs : List (BegunCell g.row.V.Denot g.row.A.Denot)). length bs) c.requires.none in
    let room = c.requires.room in
    record {
      apps = apps_are;
      begun = ([], c.from-rest.ensures.0, subst (λ (bs : List (BegunCell g.row.V.Denot g.row.A.Denot)). AreBegun 0 [] bs) (sym c.requires.none) tt);
      long = omega (arith, none);
      own = c.requires.own;
      seat =
          c.requires.seat
          ∙ ap (λ n. opened_seat K n volume 0 n) (sym apps_are)
          ∙ ap (λ n. opened_seat K apps volume 0 n) (let e : apps ≡ apps - 0 = omega arith in e)
          ∙ ap (λ k. opened_seat K apps volume k (apps - k)) (sym none);
      room = omega (arith, room, apps_are);
    }

pub unreachable-requires : goal.unreachable-requires
unreachable-requires g c =
    let K = g.V.Volume.keeper in
    let was = c.loop-app.invariant in
    let none : c.loop-app.rest.items ≡ [] = none_left c.loop-app.rest.items (c.in_default.ensures.items ∙ c.in_default.ensures.rest) in
    let all = ap (λ (ss : List (AppSide g.row.A.Denot)). length ss) was.begun.1 in
    let sum = length-append was.begun.0 c.loop-app.rest.items in
    let no = ap (λ (ss : List (AppSide g.row.A.Denot)). length ss) none in
    let count = begun_count K (cell_id c.args.storage.now) c.len-apps.result c.args.opened.now.value 0 was.begun.0 c.loop-app.begun.items was.begun.2 in
    let apps = was.apps in let long = was.long in let before = c.loop-app-test.true in
    omega (arith, all, sum, no, count, apps, long, before)

pub begin_next-requires-clause-idle : goal.begin_next-requires-clause-idle
begin_next-requires-clause-idle g c =
    let was = c.loop-app.invariant in
    let count = begun_count g.V.Volume.keeper (cell_id c.args.storage.now) c.len-apps.result c.args.opened.now.value 0 was.begun.0 c.loop-app.begun.items was.begun.2 in
    idle_at 0 (length c.loop-app.begun.items) was.begun.0 c.in-Some.side c.pop_front.new.self.items (omega (arith, count))
    (subst (λ (ss : List (AppSide g.row.A.Denot)). AreIdle 0 ss)
    (sym was.begun.1 ∙ ap (λ (ss : List (AppSide g.row.A.Denot)). was.begun.0 ++ ss) c.in-Some.ensures.items) c.requires.idle)

pub loop-app-preserved : goal.loop-app-preserved
loop-app-preserved g c =
    let K = g.V.Volume.keeper in
    let volume = c.args.opened.now.value in
    let apps = c.len-apps.result in
    let was = c.loop-app.invariant in
    let front = was.begun.0 in
    let side = c.in-Some.side in
    let n = length c.loop-app.begun.items in
    let one = c.in_ok-seat.ensures.begun.0 in
    let pushed = c.in_ok-seat.ensures.begun.1 in
    let longer : length c.begin_next.new.begun.items ≡ n + 1 =
    ap (λ (bs : List (BegunCell g.row.V.Denot g.row.A.Denot)). length bs) pushed ∙ length_push c.loop-app.begun.items one in
    let long = was.long in let room = was.room in let same = c.in_ok-seat.ensures.capacity in
    record {
      apps = was.apps;
      begun = (
        front ++ side ∷ [],
        append_assoc front (side ∷ []) c.pop_front.new.self.items ∙ ap (λ (ss : List (AppSide g.row.A.Denot)). front ++ ss) (sym c.in-Some.ensures.items) ∙ was.begun.1,
        subst (λ (bs : List (BegunCell g.row.V.Denot g.row.A.Denot)). AreBegun 0 (origins_over K (cell_id c.args.storage.now) apps volume 0 (front ++ side ∷ [])) bs) (sym pushed)
            (begun_more K (cell_id c.args.storage.now) apps volume 0 n front c.loop-app.begun.items side one (omega arith) was.begun.2 c.in_ok-seat.ensures.begun.2),
      );
      long = omega (arith, longer, long);
      own = c.in_ok-seat.ensures.ok.0;
      seat = c.in_ok-seat.ensures.ok.1 ∙ ap (λ k. opened_seat K apps volume k (apps - k)) (sym longer);
      room = omega (arith, room, same);
    }

pub unreachable-requires-in_default-pop_front : goal.unreachable-requires-in_default-pop_front
unreachable-requires-in_default-pop_front g c =
    let K = g.V.Volume.keeper in
    let was = c.loop-app.invariant in
    let none : c.loop-app.rest.items ≡ [] = none_left c.loop-app.rest.items (c.in_default-pop_front.ensures.items ∙ c.in_default-pop_front.ensures.rest) in
    let all = ap (λ (ss : List (AppSide g.row.A.Denot)). length ss) was.begun.1 in
    let sum = length-append was.begun.0 c.loop-app.rest.items in
    let no = ap (λ (ss : List (AppSide g.row.A.Denot)). length ss) none in
    let count = begun_count K (cell_id c.args.storage.now) c.len-apps.result c.args.opened.now.value 0 was.begun.0 c.loop-app.begun.items was.begun.2 in
    let apps = was.apps in let long = was.long in let some = c.requires.some in let end = c.loop-app.auto.app-end (omega (arith, apps, some)) in
    omega (arith, all, sum, no, count, apps, long, end)

pub begin_last-requires-clause-last : goal.begin_last-requires-clause-last
begin_last-requires-clause-last g c =
    let was = c.loop-app.invariant in
    let apps = was.apps in let long = was.long in let some = c.requires.some in let end = c.loop-app.auto.app-end (omega (arith, apps, some)) in let after = c.loop-app-test.false in
    omega (arith, long, end, after)

pub begin_last-requires-clause-seat : goal.begin_last-requires-clause-seat
begin_last-requires-clause-seat g c =
    let was = c.loop-app.invariant in
    let apps = was.apps in let long = was.long in let some = c.requires.some in let end = c.loop-app.auto.app-end (omega (arith, apps, some)) in let after = c.loop-app-test.false in
    was.seat ∙ ap (λ n. opened_seat g.V.Volume.keeper c.len-apps.result c.args.opened.now.value (length c.loop-app.begun.items) n)
    (let e : c.len-apps.result - length c.loop-app.begun.items ≡ 1 = omega (arith, long, end, after) in e)

pub begin_last-requires-clause-idle : goal.begin_last-requires-clause-idle
begin_last-requires-clause-idle g c =
    let was = c.loop-app.invariant in
    let count = begun_count g.V.Volume.keeper (cell_id c.args.storage.now) c.len-apps.result c.args.opened.now.value 0 was.begun.0 c.loop-app.begun.items was.begun.2 in
    idle_at 0 (length c.loop-app.begun.items) was.begun.0 c.in-Some-pop_front.side c.pop_front-2.new.self.items (omega (arith, count))
    (subst (λ (ss : List (AppSide g.row.A.Denot)). AreIdle 0 ss)
    (sym was.begun.1 ∙ ap (λ (ss : List (AppSide g.row.A.Denot)). was.begun.0 ++ ss) c.in-Some-pop_front.ensures.items) c.requires.idle)

pub returns-clause-ok : goal.returns-clause-ok
returns-clause-ok g c =
    let K = g.V.Volume.keeper in
    let storage = cell_id c.args.storage.now in
    let volume = c.args.opened.now.value in
    let apps = c.len-apps.result in
    let was = c.loop-app.invariant in
    let front = was.begun.0 in
    let side = c.in-Some-pop_front.side in
    let rest = c.pop_front-2.new.self.items in
    let begun = c.loop-app.begun.items in
    let n = length begun in
    let count = begun_count K storage apps volume 0 front begun was.begun.2 in
    let apps_are = was.apps in let long = was.long in let some = c.requires.some in let end = c.loop-app.auto.app-end (omega (arith, apps_are, some)) in let after = c.loop-app-test.false in
    let all = ap (λ (ss : List (AppSide g.row.A.Denot)). length ss) was.begun.1 in
    let sum = length-append front c.loop-app.rest.items in
    let popped = ap (λ (ss : List (AppSide g.row.A.Denot)). length ss) c.in-Some-pop_front.ensures.items in
    let none : rest ≡ [] = is_empty rest (omega (arith, count, apps_are, long, end, after, all, sum, popped)) in
    let whole : front ++ side ∷ [] ≡ c.args.sides.items =
    ap (λ (ss : List (AppSide g.row.A.Denot)). front ++ side ∷ ss) (sym none)
    ∙ ap (λ (ss : List (AppSide g.row.A.Denot)). front ++ ss) (sym c.in-Some-pop_front.ensures.items) ∙ was.begun.1 in
    let now = c.begin_last.new.begun.items in
    on_ok c.begin_last.result
    ((one : BegunCell g.row.V.Denot g.row.A.Denot) × (now ≡ begun ++ one ∷ []) × IsBegun n (origin_over K storage apps volume n side) one)
    (AreBegun 0 (origins_over K storage (length c.args.sides.items) volume 0 c.args.sides.items) now)
    (λ (h : (one : BegunCell g.row.V.Denot g.row.A.Denot) × (now ≡ begun ++ one ∷ []) × IsBegun n (origin_over K storage apps volume n side) one).
    subst (λ k. AreBegun 0 (origins_over K storage k volume 0 c.args.sides.items) now) apps_are
    (subst (λ (ss : List (AppSide g.row.A.Denot)). AreBegun 0 (origins_over K storage apps volume 0 ss) now) whole
    (subst (λ (bs : List (BegunCell g.row.V.Denot g.row.A.Denot)). AreBegun 0 (origins_over K storage apps volume 0 (front ++ side ∷ [])) bs) (sym h.1)
    (begun_more K storage apps volume 0 n front begun side h.0 (omega arith) was.begun.2 h.2))))
    c.begin_last.ensures.begun

pub returns-clause-err : goal.returns-clause-err
returns-clause-err g c =
    subst (λ n. IfErr c.begin_last.result (λ back. IsSeatOf c.args.storage.now back × ComesBack g.V.Volume.keeper n c.args.opened.now.value 0 n (known back))) c.loop-app.invariant.apps
    c.begin_last.ensures.err
