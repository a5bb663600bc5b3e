use Rattle.std.proofs.Common.{◌≡◌, ◌<◌, ℕ, Err, inl, inr, length, refl, subst, sym, arith, rules}
use Rattle.epoch.specs.declared.answer.OpenAnswer.TheVariants.{Failed, NoMemory}
use Rattle.epoch.proofs.AloneLemmas.{alone_none}
use Rattle.epoch.proofs.OpenLemmas.{blocks_none}
use Rattle.epoch.proofs.PastLemmas.{itself}
use Rattle.tee_core.proofs.Opens.{leaves_resting, run_of_none, told_err}
use Rattle.shared_tee.proofs.StoredLemmas.{comes_out, none_ok, opened_on}
use Rattle.shared_tee.proofs.BeginLemmas.{sides_count}
use Rattle.shared_tee.proofs.shared.SharedTeeOver.new.Goals as goal

-- ---- there is no memory for the hosts

pub returns-in_default-clause-back : goal.returns-in_default-clause-back
returns-in_default-clause-back g c = inl (record {
  calls = run_of_none (g.B.Board.view c.args.board);
  cause = λ failed. absurd (let e : NoMemory ≡ Failed = failed in cc);
  unwritten = λ other. refl;
})

pub returns-in_default-clause-honest_back : goal.returns-in_default-clause-honest_back
returns-in_default-clause-honest_back g c = λ honest. (
  honest,
  inl (record {
    past = itself (g.B.Board.view c.args.board);
    alone = alone_none (λ (k : ℕ). (3 < k) × g.V.BoardVolume.untouched k) _ (g.met.B.Board.consistent c.args.board honest);
    unchanged = λ other. blocks_none _;
    refusal = tt;
  }),
)

pub returns-in_default-clause-exact : goal.returns-in_default-clause-exact
returns-in_default-clause-exact g c = λ honest.
    let state = (g.B.Board.view c.args.board).state in
    (state.counter, record { least = omega arith; greatest = omega arith; fits = (g.met.B.Board.consistent c.args.board honest).counter }, tt, tt)

pub returns-in_default-clause-rule : goal.returns-in_default-clause-rule
returns-in_default-clause-rule g c = λ tells. (0, tt, tt)

pub returns-in_default-clause-unopened : goal.returns-in_default-clause-unopened
returns-in_default-clause-unopened g c = λ honest n h at_rest size is. (inr refl, inl (leaves_resting g.V.BoardVolume.form (g.B.Board.view c.args.board) n h at_rest is))

-- ---- the board isn't opened

pub returns-in_err-volume-clause-back : goal.returns-in_err-volume-clause-back
returns-in_err-volume-clause-back g c =
    let is : c.from_residual.result ≡ Err c.in_err-volume.field-0.0 = search (rules, c.from_residual.ensures) in
    told_err c.from_residual.result c.in_err-volume.field-0.0 _ is (inl c.in_err-volume.ensures.back)

pub returns-in_err-volume-clause-honest_back : goal.returns-in_err-volume-clause-honest_back
returns-in_err-volume-clause-honest_back g c = λ honest.
    let is : c.from_residual.result ≡ Err c.in_err-volume.field-0.0 = search (rules, c.from_residual.ensures) in
    let back = c.in_err-volume.ensures.honest_back honest in
    told_err c.from_residual.result c.in_err-volume.field-0.0 _ is (back.0, inl back.1)

pub returns-in_err-volume-clause-rule : goal.returns-in_err-volume-clause-rule
returns-in_err-volume-clause-rule g c = λ tells.
    let is : c.from_residual.result ≡ Err c.in_err-volume.field-0.0 = search (rules, c.from_residual.ensures) in
    let refused = c.in_err-volume.ensures.rule tells in
    (refused.0, told_err c.from_residual.result c.in_err-volume.field-0.0 _ is refused.1, none_ok c.from_residual.result c.in_err-volume.field-0.0 _ is)

pub returns-in_err-volume-clause-exact : goal.returns-in_err-volume-clause-exact
returns-in_err-volume-clause-exact g c = λ honest.
    let is : c.from_residual.result ≡ Err c.in_err-volume.field-0.0 = search (rules, c.from_residual.ensures) in
    let refused = c.in_err-volume.ensures.exact honest in
    (refused.0, refused.1, told_err c.from_residual.result c.in_err-volume.field-0.0 _ is refused.2, none_ok c.from_residual.result c.in_err-volume.field-0.0 _ is)

pub returns-in_err-volume-clause-unopened : goal.returns-in_err-volume-clause-unopened
returns-in_err-volume-clause-unopened g c = λ honest n h rests size held.
    let is : c.from_residual.result ≡ Err c.in_err-volume.field-0.0 = search (rules, c.from_residual.ensures) in
    let kept = c.in_err-volume.ensures.unopened honest n h rests size held in
    told_err c.from_residual.result c.in_err-volume.field-0.0 _ is (kept.0, inl kept.1)

-- ---- the runtime begins

pub returns-in-Ok-begin_over-clause-begun : goal.returns-in-Ok-begin_over-clause-begun
returns-in-Ok-begin_over-clause-begun g c =
    let volume = c.in_ok-volume.volume in
    let made = c.in_ok-volume.ensures in (
      volume,
      c.in-Ok-begin_over.ensures.ok c.args.hosts.items c.args.seed c.requires c.in-Ok.ensures,
      opened_on g.V.Volume.keeper g.V.BoardVolume.form (λ k. (3 < k) × g.V.BoardVolume.untouched k) g.B.Board.honest g.B.Board.view g.V.BoardVolume.board_of c.args.board
          (length c.args.hosts.items) volume made.calls made.honest made.opened,
    )

pub returns-in-Ok-begin_over-clause-rule : goal.returns-in-Ok-begin_over-clause-rule
returns-in-Ok-begin_over-clause-rule g c = λ tells.
    let found = c.in_ok-volume.ensures.rule tells in
    (found.0, tt, (c.in_ok-volume.volume, c.in-Ok-begin_over.ensures.ok c.args.hosts.items c.args.seed c.requires c.in-Ok.ensures, found.2))

pub returns-in-Ok-begin_over-clause-exact : goal.returns-in-Ok-begin_over-clause-exact
returns-in-Ok-begin_over-clause-exact g c = λ honest.
    let found = c.in_ok-volume.ensures.exact honest in
    (found.0, found.1, tt, (c.in_ok-volume.volume, c.in-Ok-begin_over.ensures.ok c.args.hosts.items c.args.seed c.requires c.in-Ok.ensures, found.3))

-- ---- there is no memory for cells

pub returns-in-Err-clause-back : goal.returns-in-Err-clause-back
returns-in-Err-clause-back g c =
    let volume = c.in_ok-volume.volume in
    let made = c.in_ok-volume.ensures in
    let count = sides_count c.args.seed 0 c.args.hosts.items c.in-Ok.room.sides.items c.in-Ok.ensures.sides in
    inr (comes_out g.V.Volume.keeper g.V.BoardVolume.form (λ k. (3 < k) × g.V.BoardVolume.untouched k) g.B.Board.honest g.B.Board.view g.V.BoardVolume.board_of c.args.board
    (length c.args.hosts.items) volume made.calls made.honest made.opened (length c.in-Ok.room.sides.items) count c.in-Err.volume c.in-Err.ensures.err c.into_board.result c.into_board.ensures)

pub returns-in-Err-clause-honest_back : goal.returns-in-Err-clause-honest_back
returns-in-Err-clause-honest_back g c = λ honest.
    let volume = c.in_ok-volume.volume in
    let made = c.in_ok-volume.ensures in
    let count = sides_count c.args.seed 0 c.args.hosts.items c.in-Ok.room.sides.items c.in-Ok.ensures.sides in
    let below = c.in-Err.ensures.err.below ((g.met.V.BoardVolume.below volume).1 (made.honest honest).0) in (
      subst g.B.Board.honest (sym c.into_board.ensures) ((g.met.V.BoardVolume.below c.in-Err.volume).0 below),
      inr (comes_out g.V.Volume.keeper g.V.BoardVolume.form (λ k. (3 < k) × g.V.BoardVolume.untouched k) g.B.Board.honest g.B.Board.view g.V.BoardVolume.board_of c.args.board
          (length c.args.hosts.items) volume made.calls made.honest made.opened (length c.in-Ok.room.sides.items) count c.in-Err.volume c.in-Err.ensures.err c.into_board.result
          c.into_board.ensures),
    )

pub returns-in-Err-clause-rule : goal.returns-in-Err-clause-rule
returns-in-Err-clause-rule g c = λ tells. ((c.in_ok-volume.ensures.rule tells).0, tt, tt)

pub returns-in-Err-clause-exact : goal.returns-in-Err-clause-exact
returns-in-Err-clause-exact g c = λ honest. let found = c.in_ok-volume.ensures.exact honest in (found.0, found.1, tt, tt)

pub returns-in-Err-clause-unopened : goal.returns-in-Err-clause-unopened
returns-in-Err-clause-unopened g c = λ honest n h rests size held.
    let volume = c.in_ok-volume.volume in
    let made = c.in_ok-volume.ensures in
    let count = sides_count c.args.seed 0 c.args.hosts.items c.in-Ok.room.sides.items c.in-Ok.ensures.sides in (
      inr refl,
      inr (comes_out g.V.Volume.keeper g.V.BoardVolume.form (λ k. (3 < k) × g.V.BoardVolume.untouched k) g.B.Board.honest g.B.Board.view g.V.BoardVolume.board_of c.args.board
          (length c.args.hosts.items) volume made.calls made.honest made.opened (length c.in-Ok.room.sides.items) count c.in-Err.volume c.in-Err.ensures.err c.into_board.result
          c.into_board.ensures),
    )
