use Rattle.std.proofs.Common.{◌≡◌, ◌<◌, ℕ, Err, inr, refl, arith, rules}
use Rattle.store_api.specs.Stores.{empty_store}
use Rattle.epoch.specs.declared.answer.OpenAnswer.TheVariants.{Failed, NoMemory}
use Rattle.epoch.proofs.AloneLemmas.{alone_none}
use Rattle.epoch.proofs.OpenLemmas.{blocks_none}
use Rattle.epoch.proofs.PastLemmas.{itself}
use Rattle.tee_core.proofs.DirectoryLemmas.{held_none}
use Rattle.tee_core.proofs.Opens.{leaves_resting, run_of_none, stand_opened, told_err, turns_started}
use Rattle.tee_core.proofs.tee.TeeOver.open.Goals as goal

-- ---- there is no memory for the hosts

pub returns-in_default-clause-exact : goal.returns-in_default-clause-exact
returns-in_default-clause-exact g c = λ honest.
    let state = (g.B.Board.view c.args.board).state in
    (state.counter, record { least = omega arith; greatest = omega arith; fits = (g.met.B.Board.consistent c.args.board honest).counter }, tt, tt)

pub returns-in_default-clause-rule : goal.returns-in_default-clause-rule
returns-in_default-clause-rule g c = λ tells. (0, tt, tt)

pub returns-in_default-clause-unopened : goal.returns-in_default-clause-unopened
returns-in_default-clause-unopened g c = λ honest n h at_rest size is. (inr refl, leaves_resting g.V.BoardVolume.form (g.B.Board.view c.args.board) n h at_rest is)

-- ---- the board isn't opened

pub returns-in_err-volume-clause-rule : goal.returns-in_err-volume-clause-rule
returns-in_err-volume-clause-rule g c = λ tells. let refused = c.in_err-volume.ensures.rule tells in (refused.0, search (rules, refused.1), search rules)

pub returns-in_err-volume-clause-unopened : goal.returns-in_err-volume-clause-unopened
returns-in_err-volume-clause-unopened g c = λ honest n h rests size is. let kept = c.in_err-volume.ensures.unopened honest n h rests size is in search (rules, kept)

-- ---- it is

pub returns-clause-world : goal.returns-clause-world
returns-clause-world g c = λ honest n h stores at_rest size sound.
    let made = c.in_ok-volume.ensures.opened honest n h at_rest size sound.opens in (
      record {
        stand = stand_opened g.V.Volume.keeper g.met.V.Volume.rests g.V.BoardVolume.form (g.B.Board.view c.args.board) n h c.args.hosts.items c.args.seed stores sound
            (g.V.Volume.keeper.held c.in_ok-volume.volume) made.1 c.in-Ok.sides.items c.in_ok-volume.volume (c.in-Ok.ensures.world stores) made.0 refl c.in_ok-volume.ensures.fresh;
        held = held_none (g.V.Volume.keeper.held c.in_ok-volume.volume).leaves c.none.result.places c.none.ensures;
      },
      made.2,
    )

pub returns-clause-opened : goal.returns-clause-opened
returns-clause-opened g c = c.in_ok-volume.ensures.calls

pub returns-clause-honest : goal.returns-clause-honest
returns-clause-honest g c = c.in_ok-volume.ensures.honest

pub returns-clause-rule : goal.returns-clause-rule
returns-clause-rule g c = c.in_ok-volume.ensures.rule

pub returns-clause-exact : goal.returns-clause-exact
returns-clause-exact g c = c.in_ok-volume.ensures.exact

pub returns-in_default-clause-back : goal.returns-in_default-clause-back
returns-in_default-clause-back g c = record {
  calls = run_of_none (g.B.Board.view c.args.board);
  cause = λ failed. absurd (let e : NoMemory ≡ Failed = failed in cc);
  unwritten = λ other. refl;
}

pub returns-in_default-clause-honest_back : goal.returns-in_default-clause-honest_back
returns-in_default-clause-honest_back g c = λ honest. (
  honest,
  record {
    past = itself (g.B.Board.view c.args.board);
    alone = alone_none (λ (k : ℕ). (3 < k) × g.V.BoardVolume.untouched k) _ (g.met.B.Board.consistent c.args.board honest);
    unchanged = λ other. blocks_none _;
    refusal = tt;
  },
)

pub returns-in_err-volume-clause-honest_back : goal.returns-in_err-volume-clause-honest_back
returns-in_err-volume-clause-honest_back g c = λ honest.
    let is : c.from_residual.result ≡ Err c.in_err-volume.field-0.0 = search rules in
    told_err c.from_residual.result c.in_err-volume.field-0.0 _ is (c.in_err-volume.ensures.honest_back honest)

pub returns-clause-begun : goal.returns-clause-begun
returns-clause-begun g c = record {
  apps = c.in-Ok.ensures.count;
  turns = λ app. turns_started 0 c.args.hosts.items c.args.seed (λ k. empty_store) c.in-Ok.sides.items (c.in-Ok.ensures.world (λ k. empty_store)) app;
  boots = refl;
}
