use Rattle.std.proofs.Common.{◌≡◌, ◌<◌, ℕ, Err, inl, inr, refl, sym, ap, subst, arith}
use Rattle.epoch.specs.declared.answer.OpenAnswer.TheVariants.{Failed, NoMemory}
use Rattle.epoch.proofs.AloneLemmas.{alone_none}
use Rattle.epoch.specs.Mounting.{after_opening}
use Rattle.epoch.specs.Mounts.{IsOpenedTo}
use Rattle.epoch.proofs.CallLemmas.{run_none}
use Rattle.epoch.proofs.KeepLemmas.{steady_in_use}
use Rattle.epoch.proofs.MountLemmas.{leaves_opening, opened_to}
use Rattle.epoch.proofs.PastLemmas.{itself}
use Rattle.v1_volume.specs.Versions.{volume_form}
use Rattle.v1_volume.specs.Frame.{volume_framed}
use Rattle.epoch.proofs.OpenLemmas.{blocks_none}
use Rattle.tree_volume.proofs.AnewLemmas.{anew_open}
use Rattle.tree_volume.proofs.OpenLemmas.{leaves_resting}
use Rattle.tree_volume.proofs.opening.TreeVolumeBoardVolume.open.Goals as goal

pub returns-in-Ok-open_board-clause-opened : goal.returns-in-Ok-open_board-clause-opened
returns-in-Ok-open_board-clause-opened g c honest n h rests large is =
    let v = g.B.Board.view c.args.board in
    let w = g.B.Board.view c.open_board.new.board in
    let opens = c.in-Ok-open_board.ensures.opens honest n h rests large is in
    let makes = opened_to volume_form v h in (
      (c.in-Ok-open_board.ensures.honest honest, λ live. opens.opened.0, steady_in_use volume_form volume_framed w _ _ opens.opened.0, anew_open w _ _ opens.opened.0),
      subst (IsOpenedTo volume_form v h) (sym opens.opened.1) makes,
      leaves_opening volume_form v w h (after_opening volume_form v h) makes opens.leaves,
    )

pub returns-in-Err-clause-unopened : goal.returns-in-Err-clause-unopened
returns-in-Err-clause-unopened g c honest n h rests large is =
    let v = g.B.Board.view c.args.board in
    let opens = c.in-Err.ensures.opens honest n h rests large is in (
      opens.failed,
      leaves_opening volume_form v (g.B.Board.view c.open_board.new.board) h (after_opening volume_form v h) (opened_to volume_form v h) opens.leaves,
    )

pub returns-in-Ok-open_board-clause-bare : goal.returns-in-Ok-open_board-clause-bare
returns-in-Ok-open_board-clause-bare g c = inl (λ image. tt)

pub returns-in_default-clause-rule : goal.returns-in_default-clause-rule
returns-in_default-clause-rule g c tells = (0, tt, tt)

pub returns-in_default-clause-exact : goal.returns-in_default-clause-exact
returns-in_default-clause-exact g c honest =
    let v = g.B.Board.view c.args.board in
    (v.state.counter, record { least = omega arith; greatest = omega arith; fits = (g.met.B.Board.consistent c.args.board honest).counter }, tt, tt)

pub returns-in_default-clause-unopened : goal.returns-in_default-clause-unopened
returns-in_default-clause-unopened g c honest n h rests large is = (inr refl, leaves_resting volume_form (g.B.Board.view c.args.board) n h rests is)

pub returns-in_default-clause-back : goal.returns-in_default-clause-back
returns-in_default-clause-back g c = record {
  calls = run_none _;
  cause = λ failed. absurd (let e : NoMemory ≡ Failed = failed in cc);
  unwritten = λ other. refl;
}

pub returns-in_default-clause-honest_back : goal.returns-in_default-clause-honest_back
returns-in_default-clause-honest_back g c honest = (
  honest,
  record {
    past = itself _;
    alone = alone_none (λ (k : ℕ). (3 < k) × (k < 8742)) _ (g.met.B.Board.consistent c.args.board honest);
    unchanged = λ other. blocks_none _;
    refusal = tt;
  },
)

pub returns-in-Ok-open_board-clause-honest : goal.returns-in-Ok-open_board-clause-honest
returns-in-Ok-open_board-clause-honest g c honest =
    let e = c.in-Ok-open_board.ensures in
    (e.honest honest, record { past = e.past honest; alone = e.alone honest; counter = e.counter honest })

pub returns-in-Err-clause-back : goal.returns-in-Err-clause-back
returns-in-Err-clause-back g c =
    let e = c.in-Err.ensures in
    record { calls = e.calls; cause = λ failed. e.cause (ap Err failed); unwritten = e.unwritten }

pub returns-in-Err-clause-honest_back : goal.returns-in-Err-clause-honest_back
returns-in-Err-clause-honest_back g c honest =
    let e = c.in-Err.ensures in
    (e.honest honest, record { past = e.past honest; alone = e.alone honest; unchanged = e.unchanged honest; refusal = e.refusal honest })
