use Rattle.std.proofs.Common.{◌∙◌, Option, Result, Ok, refl, ap, inl}
use Rattle.epoch.specs.declared.answer.OpenAnswer.{OpenAnswer}
use Rattle.epoch.specs.declared.header.Header.{Header}
use Rattle.epoch.proofs.AdmitLemmas.{lifted, refusal_so}
use Rattle.epoch.proofs.MountLemmas.{rests_holding}
use Rattle.v1_volume.specs.Versions.{volume_form}
use Rattle.v1_volume.specs.Frame.{volume_format, volume_framed}
use Rattle.inspect.proofs.OpeningLemmas.{found_holds}
use Rattle.inspect.proofs.opening.open_at.Goals as goal

pub returns-in-Ok-None-clause-unread : goal.returns-in-Ok-None-clause-unread
returns-in-Ok-None-clause-unread g c honest =
    let told = c.in-Ok-None.ensures.exact honest in (
      told.0,
      told.1,
      (told.2 volume_form volume_format).1 ∙ ap (λ (found : Option Header). let r : Result (Option Header) OpenAnswer = Ok found in r) c.in-Ok-None.field-0-is,
    )

pub returns-in-Err-clause-unread : goal.returns-in-Err-clause-unread
returns-in-Err-clause-unread g c honest =
    let told = c.in-Err.ensures.exact honest in
    let v = g.B.Board.view c.args.board in
    (told.0, lifted volume_form v.key v.state.reads _ _ (told.2 volume_form volume_format).0)

pub returns-in-Err-clause-sound : goal.returns-in-Err-clause-sound
returns-in-Err-clause-sound g c honest n h rests large is =
    let v = g.B.Board.view c.args.board in
    let mounts = c.in-Err.ensures.holds honest volume_form h volume_framed volume_format large (rests_holding volume_form v.key h n v.state rests is) in
    inl mounts.failed

pub returns-in-Ok-clause-sound : goal.returns-in-Ok-clause-sound
returns-in-Ok-clause-sound g c honest n h rests large is =
    let v = g.B.Board.view c.args.board in
    let w = g.B.Board.view c.mount.new.board in
    let found = c.in-Ok-Some.ensures in
    let mounts = found.holds honest volume_form h volume_framed volume_format large (rests_holding volume_form v.key h n v.state rests is) in
    let still = found_holds volume_form v w h c.in-Ok-Some.field-0 c.in-Ok-Some.header volume_framed found.search.calls.size found.search.calls.key large c.in-Ok-Some.field-0-is mounts.mounted.0 in
    (c.in-Ok.ensures.opened (found.honest honest).0 h.sequence h still.rests still.large still.holds).0

pub returns-in-Err-open-clause-unread : goal.returns-in-Err-open-clause-unread
returns-in-Err-open-clause-unread g c honest =
    let v = g.B.Board.view c.args.board in
    let w = g.B.Board.view c.mount.new.board in
    let found = c.in-Ok-Some.ensures in
    let told = c.in-Err-open.ensures.exact (found.honest honest).0 in
    (told.0, refusal_so volume_form v w found.search.calls.size found.search.calls.key _ _ told.0 told.0 (found.honest honest).1.blocks.reads refl c.in-Err-open.unopened.why told.2)

pub returns-in-Err-open-clause-sound : goal.returns-in-Err-open-clause-sound
returns-in-Err-open-clause-sound g c honest n h rests large is =
    let v = g.B.Board.view c.args.board in
    let w = g.B.Board.view c.mount.new.board in
    let found = c.in-Ok-Some.ensures in
    let mounts = found.holds honest volume_form h volume_framed volume_format large (rests_holding volume_form v.key h n v.state rests is) in
    let still = found_holds volume_form v w h c.in-Ok-Some.field-0 c.in-Ok-Some.header volume_framed found.search.calls.size found.search.calls.key large c.in-Ok-Some.field-0-is mounts.mounted.0 in
    (c.in-Err-open.ensures.unopened (found.honest honest).0 h.sequence h still.rests still.large still.holds).0
