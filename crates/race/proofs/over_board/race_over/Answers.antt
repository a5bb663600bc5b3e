use Rattle.std.proofs.Common.{◌≡◌, ◌<◌, Err, length, subst, rules}
use Rattle.tee_core.proofs.Opens.{told_err}
use Rattle.race.proofs.BoardLemmas.{comes_back, leaves_begin}
use Rattle.race.proofs.BoardRaceLemmas.{came_to, none_known, runs_on}
use Rattle.race.specs.Races.{AllKeep}
use Rattle.race.proofs.over_board.race_over.Goals as goal

-- ---- the board isn't opened, or comes back

pub returns-in_err-shared-clause-unopened : goal.returns-in_err-shared-clause-unopened
returns-in_err-shared-clause-unopened g c = λ honest n h stores rests size sound.
    let is : c.from_residual.result ≡ Err c.in_err-shared.field-0.0 = search (rules, c.from_residual.ensures) in
    let u = c.in_err-shared.field-0.0 in
    let laws = g.met.V.BoardVolume g.world.𝓛 g.world.𝓜 g.world.𝓡 ((λ s x. x), (λ x. x), (λ x. x), λ x. x) in
    told_err c.from_residual.result u _ is
    (leaves_begin g.V.Volume.keeper g.V.BoardVolume.form (λ k. (3 < k) × g.V.BoardVolume.untouched k) g.B.Board.honest g.B.Board.view g.V.BoardVolume.board_of laws.seen
    c.args.board c.args.hosts.items c.args.seed honest n h stores rests size sound u.why u.board (c.in_err-shared.ensures.unopened honest n h rests size sound.opens))

pub returns-in_err-shared-clause-back : goal.returns-in_err-shared-clause-back
returns-in_err-shared-clause-back g c =
    let is : c.from_residual.result ≡ Err c.in_err-shared.field-0.0 = search (rules, c.from_residual.ensures) in
    let u = c.in_err-shared.field-0.0 in
    let laws = g.met.V.BoardVolume g.world.𝓛 g.world.𝓜 g.world.𝓡 ((λ s x. x), (λ x. x), (λ x. x), λ x. x) in
    told_err c.from_residual.result u _ is
    (comes_back g.V.Volume.keeper g.V.BoardVolume.form (λ k. (3 < k) × g.V.BoardVolume.untouched k) g.B.Board.honest g.B.Board.view g.V.BoardVolume.board_of laws.seen
    c.args.board (length c.args.hosts.items) u.why u.board c.in_err-shared.ensures.back)

pub returns-in_err-shared-clause-rule : goal.returns-in_err-shared-clause-rule
returns-in_err-shared-clause-rule g c = λ tells.
    let is : c.from_residual.result ≡ Err c.in_err-shared.field-0.0 = search (rules, c.from_residual.ensures) in
    let refused = c.in_err-shared.ensures.rule tells in
    (refused.0, told_err c.from_residual.result c.in_err-shared.field-0.0 _ is refused.1)

-- ---- the race

pub race_all-passes-requires-clause-none : goal.race_all-passes-requires-clause-none
race_all-passes-requires-clause-none g c κs within =
    let made = c.in_ok-shared.ensures.begun in
    none_known g.V.Volume.keeper c.args.hosts.items c.args.seed c.in_ok-shared.shared c.in_ok-shared.passes.items made.0 made.1

pub returns-clause-came : goal.returns-clause-came
returns-clause-came g c = λ honest n h stores rests size sound.
    let made = c.in_ok-shared.ensures.begun in
    let raced = c.race_all-passes in
    came_to g.V.Volume.keeper c.args.hosts.items c.args.seed c.in_ok-shared.shared c.in_ok-shared.passes.items made.0 made.1 g.A.Application.behaviour g.V.BoardVolume.form
    (λ k. (3 < k) × g.V.BoardVolume.untouched k) g.B.Board.honest g.B.Board.view g.V.BoardVolume.board_of c.requires.fit.some c.args.board made.2 c.args.lines.now raced.result.0.items
    raced.ensures.back raced.ensures.known raced.result.1 raced.ensures.full c.finish-logs.result.0.items c.finish-logs.result.1 c.finish-logs.ensures
    (subst (λ ls. AllKeep ls) c.as_slice.ensures.value c.all_keep.ensures) raced.ensures.ok raced.ensures.err honest n h stores rests size sound

pub returns-clause-runs : goal.returns-clause-runs
returns-clause-runs g c =
    let made = c.in_ok-shared.ensures.begun in
    let raced = c.race_all-passes in
    runs_on g.V.Volume.keeper c.args.hosts.items c.args.seed c.in_ok-shared.shared c.in_ok-shared.passes.items made.0 made.1 g.A.Application.behaviour g.V.BoardVolume.form
    (λ k. (3 < k) × g.V.BoardVolume.untouched k) g.B.Board.honest g.B.Board.view g.V.BoardVolume.board_of c.requires.fit.some c.args.board made.2 c.args.lines.now raced.result.0.items
    raced.ensures.back raced.ensures.known raced.result.1 raced.ensures.full c.finish-logs.result.0.items c.finish-logs.result.1 c.finish-logs.ensures
    (subst (λ ls. AllKeep ls) c.as_slice.ensures.value c.all_keep.ensures)
