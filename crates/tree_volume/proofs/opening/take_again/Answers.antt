use Rattle.std.proofs.Common.{◌≡◌, ◌<◌, ◌∙◌, ℕ, false, Option, Ok, refl, sym, ap, subst}
use Rattle.epoch.specs.Mounting.{MountsTo, after_again}
use Rattle.epoch.specs.Mounts.{TakesUp}
use Rattle.epoch.specs.Reopening.{reopened_of, sequence_after}
use Rattle.epoch.specs.declared.header.Header.{Header}
use Rattle.epoch.specs.declared.taking.TheConstants.{NO_ROOT}
use Rattle.epoch.proofs.AloneLemmas.{alone_none}
use Rattle.epoch.proofs.CallLemmas.{run_none}
use Rattle.epoch.proofs.PastLemmas.{itself}
use Rattle.tree_paths.specs.Form.{form_root}
use Rattle.v1_volume.specs.Versions.{volume_form}
use Rattle.tree_volume.specs.Opens.{Opens}
use Rattle.tree_volume.specs.Taking.{Takes, TakesByForm, TakesHonestly}
use Rattle.tree_volume.proofs.OpenLemmas.{opens_blank}
use Rattle.tree_volume.proofs.TakeLemmas.{ok_weaker}
use Rattle.tree_volume.proofs.ReopenLemmas.{written_so}
use Rattle.tree_volume.proofs.opening.take_again.Goals as goal

pub returns-in-Some-clause-takes : goal.returns-in-Some-clause-takes
returns-in-Some-clause-takes g c =
    subst (λ (f : Option Header). Takes f c.take_header.result (g.B.Board.view c.args.board.now) (g.B.Board.view c.take_header.new.board)) (sym c.in-Some.is) c.take_header.ensures.takes

pub returns-in-Some-clause-told : goal.returns-in-Some-clause-told
returns-in-Some-clause-told g c tells =
    subst (λ (f : Option Header). TakesByForm f c.take_header.result (g.B.Board.view c.args.board.now) (g.B.Board.view c.take_header.new.board)) (sym c.in-Some.is)
    (c.take_header.ensures.told tells)

pub returns-in-Some-clause-honest : goal.returns-in-Some-clause-honest
returns-in-Some-clause-honest g c h = (
  (c.take_header.ensures.honest h).0,
  subst (λ (f : Option Header). TakesHonestly f c.take_header.result (g.B.Board.view c.args.board.now) (g.B.Board.view c.take_header.new.board)) (sym c.in-Some.is)
      (c.take_header.ensures.honest h).1,
)

pub returns-in-Some-clause-taken : goal.returns-in-Some-clause-taken
returns-in-Some-clause-taken g c =
    ok_weaker c.take_header.result _ _
    (λ o takes. subst (λ (f : Option Header). TakesUp volume_form f 0 o.sequence (form_root o.root)) (sym c.in-Some.is) (takes 0)) c.take_header.ensures.taken

pub returns-in-Some-clause-sequence : goal.returns-in-Some-clause-sequence
returns-in-Some-clause-sequence g c =
    ok_weaker c.take_header.result _ _
    (λ o is. is ∙ ap (λ (f : Option Header). sequence_after (reopened_of 2 f)) (sym c.in-Some.is)) c.take_header.ensures.sequence

pub returns-in-Some-clause-same : goal.returns-in-Some-clause-same
returns-in-Some-clause-same g c kept =
    c.take_header.ensures.same (written_so c.in-Some.header.version (subst (λ (f : Option Header). (reopened_of 2 f).rewritten ≡ false) c.in-Some.is kept))

pub returns-in-Some-clause-opens : goal.returns-in-Some-clause-opens
returns-in-Some-clause-opens g c honest h mounts =
    let v = g.B.Board.view c.args.board.now in
    let n = g.B.Board.view c.take_header.new.board in
    subst (λ (f : Option Header). Opens h (after_again volume_form f h) c.take_header.result v n) (sym c.in-Some.is)
    (c.take_header.ensures.opens honest h (subst (MountsTo volume_form v.key h v.state) c.in-Some.is mounts))

pub returns-in-None-clause-takes : goal.returns-in-None-clause-takes
returns-in-None-clause-takes g c = record { calls = run_none _; cause = λ failed. absurd (cc); unwritten = tt }

pub returns-in-None-clause-told : goal.returns-in-None-clause-told
returns-in-None-clause-told g c tells =
    let v = g.B.Board.view c.args.board.now in
    subst (λ (f : Option Header). TakesByForm f (Ok (record { root = NO_ROOT; sequence = 0 })) v v) (sym c.in-None.is) (record { refused = tt; taken = refl })

pub returns-in-None-clause-honest : goal.returns-in-None-clause-honest
returns-in-None-clause-honest g c h =
    let v = g.B.Board.view c.args.board.now in (
      h,
      subst (λ (f : Option Header). TakesHonestly f (Ok (record { root = NO_ROOT; sequence = 0 })) v v) (sym c.in-None.is) (record {
        past = itself _;
        alone = alone_none (λ (k : ℕ). (3 < k) × (k < 8742)) _ (g.met.B.Board.consistent c.args.board.now h);
        unchanged = tt;
        counter = λ settled. settled;
        still = λ settled. tt;
      }),
    )

pub returns-in-None-clause-taken : goal.returns-in-None-clause-taken
returns-in-None-clause-taken g c = subst (λ (f : Option Header). TakesUp volume_form f 0 0 (form_root NO_ROOT)) (sym c.in-None.is) (refl, refl, refl)

pub returns-in-None-clause-sequence : goal.returns-in-None-clause-sequence
returns-in-None-clause-sequence g c = ap (λ (f : Option Header). sequence_after (reopened_of 2 f)) (sym c.in-None.is)

pub returns-in-None-clause-opens : goal.returns-in-None-clause-opens
returns-in-None-clause-opens g c honest h mounts =
    let v = g.B.Board.view c.args.board.now in
    subst (λ (f : Option Header). Opens h (after_again volume_form f h) (Ok (record { root = NO_ROOT; sequence = 0 })) v v) (sym c.in-None.is)
    (opens_blank v h (subst (MountsTo volume_form v.key h v.state) c.in-None.is mounts))
