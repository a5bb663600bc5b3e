use Rattle.std.proofs.Common.{◌∙◌, ◌++◌, ap, codes, sym}
use Rattle.std.specs.Fmt.{decimal}
use Rattle.std.proofs.lemmas.Result.{on_ok_weaker}
use Rattle.run_board.specs.Statuses.{why_text}
use Rattle.run_board.proofs.status.write_why.Goals as goal

pub returns-in-UnknownVersion : goal.returns-in-UnknownVersion
returns-in-UnknownVersion c =
    on_ok_weaker c.write_count-in-UnknownVersion.result
    (λ same. same ∙ ap (λ n. c.args.line.now ++ (codes "unknown version " ++ decimal n)) c.from-in-UnknownVersion.ensures
    ∙ ap (λ why. c.args.line.now ++ why_text why) (sym c.in-UnknownVersion.is))
    c.write_count-in-UnknownVersion.ensures
