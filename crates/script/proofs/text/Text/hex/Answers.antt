use Rattle.std.proofs.Common.{◌++◌, ◌∙◌, ap}
use Rattle.std.proofs.lemmas.Result.{on_ok_weaker}
use Rattle.script.proofs.text.Text.hex.Goals as goal

pub returns : goal.returns
returns c = on_ok_weaker c.push.result (λ pushed. pushed ∙ ap (λ digits. c.args.self.now ++ digits) (c.as_bytes.ensures.value ∙ c.in_ok-digits.ensures)) c.push.ensures
