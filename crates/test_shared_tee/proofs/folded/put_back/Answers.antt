use Rattle.std.proofs.Common.{◌∷◌, sym, ◌∙◌, ap, subst}
use Rattle.shared_tee.specs.Ending.{ArePasses}
use Rattle.test_shared_tee.proofs.folded.put_back.Goals as goal

pub returns : goal.returns
returns g c =
    let first = c.check_place.ensures in let second = c.check_place-2.ensures in
    subst (λ ps. ArePasses c.args.tee.now ps) (sym (c.put-2.ensures ∙ ap (λ ps. c.args.first ∷ ps) c.put.ensures))
    (c.requires.whole c.args.first c.args.second c.requires.first c.requires.second first.app first.client second.app second.client)
