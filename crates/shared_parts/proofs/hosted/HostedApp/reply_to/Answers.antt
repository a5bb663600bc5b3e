use Rattle.std.proofs.Common.{◌∙◌, Some, ap, sym}
use Rattle.std.specs.Option.{option_map}
use Rattle.shared_parts.specs.HostedApps.{reply_in}
use Rattle.shared_parts.specs.declared.recorded.Recorded.{Recorded}
use Rattle.shared_parts.proofs.hosted.HostedApp.reply_to.Goals as goal

pub returns-in_ok-copy-in-Some : goal.returns-in_ok-copy-in-Some
returns-in_ok-copy-in-Some g c =
    let copied = ap Some c.in_ok-copy-in-Some.ensures in
    let found = ap (λ o. option_map (λ r. r.now) o) (sym c.in-Some.is) in
    copied ∙ found ∙ c.reply_to.ensures ∙ ap (λ (x : Recorded g.row.A.Denot). reply_in c.args.op x.log.entries) c.deref.ensures ∙ ap (λ h. reply_in c.args.op h.log) c.self.view_is
