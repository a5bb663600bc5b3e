use Rattle.std.proofs.Common.{Option, inl, refl, sym, subst}
use Rattle.epoch.specs.Mounting.{MountsTo, after_found}
use Rattle.epoch.specs.Mounts.{TakesUp}
use Rattle.epoch.specs.declared.header.Header.{Header}
use Rattle.epoch.proofs.OpenLemmas.{opens_none}
use Rattle.tree_paths.specs.Form.{form_root}
use Rattle.v1_volume.specs.Versions.{volume_form}
use Rattle.tree_volume.specs.Opens.{IsOpenAs, Opens, held_after}
use Rattle.tree_volume.specs.Taking.{Takes, TakesByForm, TakesHonestly}
use Rattle.tree_volume.proofs.OpenLemmas.{takes_none}
use Rattle.tree_volume.proofs.TakeLemmas.{all_ok, err_weaker, ok_weaker}
use Rattle.tree_volume.proofs.opening.take_up.Goals as goal

pub returns-in-Some-clause-takes : goal.returns-in-Some-clause-takes
returns-in-Some-clause-takes g c =
    subst (λ (f : Option Header). Takes f c.take_header.result (g.B.Board.view c.args.board.now) (g.B.Board.view c.take_header.new.board)) (sym c.in-Some.is) c.take_header.ensures.takes

pub returns-in-Some-clause-told : goal.returns-in-Some-clause-told
returns-in-Some-clause-told g c tells =
    subst (λ (f : Option Header). TakesByForm f c.take_header.result (g.B.Board.view c.args.board.now) (g.B.Board.view c.take_header.new.board)) (sym c.in-Some.is)
    (c.take_header.ensures.told tells)

pub returns-in-Some-clause-honest : goal.returns-in-Some-clause-honest
returns-in-Some-clause-honest g c h = (
  (c.take_header.ensures.honest h).0,
  subst (λ (f : Option Header). TakesHonestly f c.take_header.result (g.B.Board.view c.args.board.now) (g.B.Board.view c.take_header.new.board)) (sym c.in-Some.is)
      (c.take_header.ensures.honest h).1,
)

pub returns-in-Some-clause-taken : goal.returns-in-Some-clause-taken
returns-in-Some-clause-taken g c =
    ok_weaker c.take_header.result _ _
    (λ o takes. subst (λ (f : Option Header). TakesUp volume_form f 1 o.sequence (form_root o.root)) (sym c.in-Some.is) (takes 1)) c.take_header.ensures.taken

pub returns-in-Some-clause-opens : goal.returns-in-Some-clause-opens
returns-in-Some-clause-opens g c honest h mounts =
    let v = g.B.Board.view c.args.board.now in
    let n = g.B.Board.view c.take_header.new.board in
    subst (λ (f : Option Header). Opens h (after_found volume_form f h) c.take_header.result v n) (sym c.in-Some.is)
    (c.take_header.ensures.opens honest h (subst (MountsTo volume_form v.key h v.state) c.in-Some.is mounts))

pub returns-in-None-clause-takes : goal.returns-in-None-clause-takes
returns-in-None-clause-takes g c =
    let e = c.format_board.ensures in
    record { calls = e.calls; cause = e.cause; unwritten = e.unwritten }

pub returns-in-None-clause-told : goal.returns-in-None-clause-told
returns-in-None-clause-told g c tells =
    subst (λ (f : Option Header). TakesByForm f c.format_board.result (g.B.Board.view c.args.board.now) (g.B.Board.view c.format_board.new.board)) (sym c.in-None.is) (record {
      refused = err_weaker c.format_board.result _ _ (λ why kept. inl kept) c.format_board.ensures.kept;
      taken = all_ok c.format_board.result _ refl;
    })

pub returns-in-None-clause-honest : goal.returns-in-None-clause-honest
returns-in-None-clause-honest g c h =
    let e = c.format_board.ensures in (
      e.honest h,
      subst (λ (f : Option Header). TakesHonestly f c.format_board.result (g.B.Board.view c.args.board.now) (g.B.Board.view c.format_board.new.board)) (sym c.in-None.is) (record {
        past = e.past h;
        alone = e.alone h;
        unchanged = e.unchanged h;
        counter = λ settled. e.counter h settled;
        still = λ settled. err_weaker c.format_board.result _ _ (λ why kept. inl kept) e.kept;
      }),
    )

pub returns-in-None-clause-taken : goal.returns-in-None-clause-taken
returns-in-None-clause-taken g c = takes_none c.args.found c.format_board.result 1 c.in-None.is c.format_board.ensures.formatted

pub returns-in-None-clause-opens : goal.returns-in-None-clause-opens
returns-in-None-clause-opens g c honest h mounts =
    opens_none volume_form IsOpenAs held_after (g.B.Board.view c.args.board.now) (g.B.Board.view c.format_board.new.board) c.format_board.result c.args.found h
    c.in-None.is (c.format_board.ensures.opens honest h) mounts
