use Rattle.std.proofs.Common.{◌<◌, ℕ, ◌≡◌, ◌∙◌, ap, Err, Option, rules}
use Rattle.epoch.proofs.AloneLemmas.{alone_fewer, alone_more}
use Rattle.epoch.proofs.CallLemmas.{rose_later, run_as, run_more}
use Rattle.epoch.specs.Opening.{no_failure}
use Rattle.epoch.proofs.PastLemmas.{followed}
use Rattle.epoch.specs.Mounts.{IsRefusal, IsRefusalOver, IsRefusedNow, TakesUp}
use Rattle.epoch.specs.declared.header.Header.{Header}
use Rattle.epoch.proofs.AdmitLemmas.{lifted}
use Rattle.epoch.proofs.MountLemmas.{rests_holding}
use Rattle.tree_paths.specs.Form.{form_root}
use Rattle.v1_volume.specs.Versions.{volume_form}
use Rattle.tree_volume.specs.Opens.{IsOpenAs, held_after}
use Rattle.tree_volume.specs.declared.volume.Opened.{Opened}
use Rattle.v1_volume.specs.Frame.{volume_format, volume_framed}
use Rattle.epoch.proofs.OpenLemmas.{blocks_more, err_so, not_ok, opens_failed, opens_joined, told_so}
use Rattle.tree_volume.proofs.ReopenLemmas.{refused_then}
use Rattle.tree_volume.proofs.TakeLemmas.{exact_found, rule_found}
use Rattle.tree_volume.proofs.opening.open_board.Goals as goal

pub returns-in_err-found-clause-rule : goal.returns-in_err-found-clause-rule
returns-in_err-found-clause-rule g c tells =
    let v = g.B.Board.view c.args.board.now in
    let is : c.from_residual.result ≡ Err c.in_err-found.field-0.0 = search rules in
    let w = g.B.Board.view c.mount.new.board in
    let told = c.in_err-found.ensures.rule tells in (
      told.0,
      told_so c.from_residual.result c.in_err-found.field-0.0 (λ why. IsRefusalOver volume_form v w.state.reads told.0 why) is
          (lifted volume_form v.key w.state.reads _ c.in_err-found.field-0.0 (told.1 volume_form volume_format).0),
      not_ok c.from_residual.result _ c.from_residual.ensures.0,
    )

pub returns-in_err-found-clause-exact : goal.returns-in_err-found-clause-exact
returns-in_err-found-clause-exact g c honest =
    let v = g.B.Board.view c.args.board.now in
    let is : c.from_residual.result ≡ Err c.in_err-found.field-0.0 = search rules in
    let told = c.in_err-found.ensures.exact honest in (
      told.0,
      told.1,
      told_so c.from_residual.result c.in_err-found.field-0.0 (λ why. IsRefusal volume_form v v.state.reads told.0 why) is
          (lifted volume_form v.key v.state.reads _ c.in_err-found.field-0.0 (told.2 volume_form volume_format).0),
      not_ok c.from_residual.result _ c.from_residual.ensures.0,
    )

pub returns-in_err-found-clause-refusal : goal.returns-in_err-found-clause-refusal
returns-in_err-found-clause-refusal g c honest =
    let w = g.B.Board.view c.mount.new.board in
    let is : c.from_residual.result ≡ Err c.in_err-found.field-0.0 = search rules in
    told_so c.from_residual.result c.in_err-found.field-0.0 (λ why. IsRefusedNow volume_form w why) is (c.in_err-found.ensures.refusal honest volume_form volume_format)

pub returns-clause-refusal : goal.returns-clause-refusal
returns-clause-refusal g c honest =
    let v = g.B.Board.view c.args.board.now in
    let w = g.B.Board.view c.mount.new.board in
    let n = g.B.Board.view c.take_up.new.board in
    let found = c.in_ok-found.ensures.honest honest in
    let calls = c.in_ok-found.ensures.search.calls in
    let told = c.in_ok-found.ensures.exact honest in
    let take = c.take_up.ensures.honest found.0 in
    refused_then v w n c.in_ok-found.found calls.size calls.key c.take_up.ensures.takes.calls.size c.take_up.ensures.takes.calls.key
    (g.met.B.Board.consistent c.take_up.new.board take.0).counter v.state.reads found.1.blocks.reads told.0 (told.2 volume_form volume_format) found.1.counter
    c.take_up.result (c.take_up.ensures.told (g.met.B.Board.honest_reads c.mount.new.board found.0)) take.1

pub returns-in_err-found-clause-opens : goal.returns-in_err-found-clause-opens
returns-in_err-found-clause-opens g c honest n h rests large is =
    let v = g.B.Board.view c.args.board.now in
    let same : c.from_residual.result ≡ Err c.in_err-found.field-0.0 = search rules in
    let mounts = c.in_err-found.ensures.holds honest volume_form h volume_framed volume_format large (rests_holding volume_form v.key h n v.state rests is) in
    opens_failed volume_form IsOpenAs held_after v (g.B.Board.view c.mount.new.board) c.in_err-found.field-0.0 c.from_residual.result h _ same mounts.failed mounts.leaves

pub returns-clause-rule : goal.returns-clause-rule
returns-clause-rule g c tells =
    let v = g.B.Board.view c.args.board.now in
    let w = g.B.Board.view c.mount.new.board in
    let n = g.B.Board.view c.take_up.new.board in
    let told = c.in_ok-found.ensures.rule tells in
    let both = rule_found v w n told.0 c.in_ok-found.found c.in_ok-found.ensures.search.calls.key 1 c.take_up.result (told.1 volume_form volume_format)
    (c.take_up.ensures.told tells) c.take_up.ensures.taken in
    (told.0, both.0, both.1)

pub returns-clause-exact : goal.returns-clause-exact
returns-clause-exact g c honest =
    let v = g.B.Board.view c.args.board.now in
    let w = g.B.Board.view c.mount.new.board in
    let n = g.B.Board.view c.take_up.new.board in
    let found = c.in_ok-found.ensures.honest honest in
    let told = c.in_ok-found.ensures.exact honest in
    let both = exact_found v w n told.0 c.in_ok-found.found c.in_ok-found.ensures.search.calls.key v.state.reads found.1.blocks.reads
    (λ (o : Opened) (header : Option Header). TakesUp volume_form header 1 o.sequence (form_root o.root)) c.take_up.result (told.2 volume_form volume_format)
    (c.take_up.ensures.told (g.met.B.Board.honest_reads c.mount.new.board found.0)) c.take_up.ensures.taken in
    (told.0, told.1, both.0, both.1)

pub returns-clause-opens : goal.returns-clause-opens
returns-clause-opens g c honest n h rests large is =
    let v = g.B.Board.view c.args.board.now in
    let mounts = c.in_ok-found.ensures.holds honest volume_form h volume_framed volume_format large (rests_holding volume_form v.key h n v.state rests is) in
    opens_joined volume_form IsOpenAs held_after v (g.B.Board.view c.mount.new.board) (g.B.Board.view c.take_up.new.board) c.in_ok-found.found c.take_up.result h
    c.in_ok-found.ensures.search.calls.key mounts.mounted mounts.leaves
    (c.take_up.ensures.opens (c.in_ok-found.ensures.honest honest).0 h)

pub returns-in_err-found-clause-calls : goal.returns-in_err-found-clause-calls
returns-in_err-found-clause-calls g c =
    let is : c.from_residual.result ≡ Err c.in_err-found.field-0.0 = search rules in
    run_as _ _ _ _ (ap no_failure is) c.in_err-found.ensures.search.calls

pub returns-clause-calls : goal.returns-clause-calls
returns-clause-calls g c = run_more _ _ _ _ c.in_ok-found.ensures.search.calls c.take_up.ensures.takes.calls

pub returns-clause-cause : goal.returns-clause-cause
returns-clause-cause g c failed = rose_later _ _ _ c.in_ok-found.ensures.search.calls.faults (c.take_up.ensures.takes.cause failed)

pub returns-in_err-found-clause-unwritten : goal.returns-in_err-found-clause-unwritten
returns-in_err-found-clause-unwritten g c =
    let is : c.from_residual.result ≡ Err c.in_err-found.field-0.0 = search rules in
    told_so c.from_residual.result c.in_err-found.field-0.0 _ is (λ made. c.in_err-found.ensures.search.writes)

pub returns-in_err-found-clause-unchanged : goal.returns-in_err-found-clause-unchanged
returns-in_err-found-clause-unchanged g c honest =
    let is : c.from_residual.result ≡ Err c.in_err-found.field-0.0 = search rules in
    told_so c.from_residual.result c.in_err-found.field-0.0 _ is (λ made. (c.in_err-found.ensures.honest honest).1.blocks)

pub returns-clause-unwritten : goal.returns-clause-unwritten
returns-clause-unwritten g c = err_so c.take_up.result _ _ (λ why still made. still made ∙ c.in_ok-found.ensures.search.writes) c.take_up.ensures.takes.unwritten

pub returns-clause-unchanged : goal.returns-clause-unchanged
returns-clause-unchanged g c honest =
    err_so c.take_up.result _ _ (λ why still made. blocks_more _ _ _ (c.in_ok-found.ensures.honest honest).1.blocks (still made))
    (c.take_up.ensures.honest (c.in_ok-found.ensures.honest honest).0).1.unchanged

pub returns-clause-past : goal.returns-clause-past
returns-clause-past g c honest = followed _ _ _ (c.in_ok-found.ensures.honest honest).1.past (c.take_up.ensures.honest (c.in_ok-found.ensures.honest honest).0).1.past

pub returns-in_err-found-clause-counter : goal.returns-in_err-found-clause-counter
returns-in_err-found-clause-counter g c honest = not_ok c.from_residual.result _ c.from_residual.ensures.0

pub returns-clause-counter : goal.returns-clause-counter
returns-clause-counter g c honest = (c.take_up.ensures.honest (c.in_ok-found.ensures.honest honest).0).1.counter (c.in_ok-found.ensures.honest honest).1.counter

pub returns-in_err-found-clause-alone : goal.returns-in_err-found-clause-alone
returns-in_err-found-clause-alone g c h = alone_fewer (λ (k : ℕ). Unit {0}) (λ (k : ℕ). (3 < k) × (k < 8742)) _ _ (λ k is. tt) (c.in_err-found.ensures.honest h).1.alone

pub returns-clause-alone : goal.returns-clause-alone
returns-clause-alone g c h =
    alone_more (λ (k : ℕ). (3 < k) × (k < 8742)) _ _ _
    (alone_fewer (λ (k : ℕ). Unit {0}) (λ (k : ℕ). (3 < k) × (k < 8742)) _ _ (λ k is. tt) (c.in_ok-found.ensures.honest h).1.alone)
    (c.take_up.ensures.honest (c.in_ok-found.ensures.honest h).0).1.alone
