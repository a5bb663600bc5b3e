use Rattle.std.proofs.Common.{◌∙◌, ◌++◌, ◌-◌, ap, length, refl}
use Rattle.std.specs.Prelude.{slice_get}
use Rattle.std.specs.Option.{unwrap_or}
use Rattle.alone.specs.KeptLogs.{highs_from}
use Rattle.alone.proofs.HighLemmas.{last_read}
use Rattle.alone.proofs.log.note_highs.Goals as goal

pub loop-reply-init : goal.loop-reply-init
loop-reply-init c =
    let items = c.args.highs.now.items in
    let read = c.copied.ensures ∙ c.last.ensures.value ∙ ap (λ xs. slice_get xs (length xs - 1)) c.deref.ensures.value in
    let high = c.unwrap_or-high.ensures ∙ ap (λ o. unwrap_or o 0) read ∙ last_read items in
    (refl, c.requires, ap (λ h. items ++ highs_from h c.args.replies.now) high)
