use Rattle.std.proofs.Common.{List, ℕ, ◌/◌, ◌++◌, ◌∙◌, ap, length, take, subst}
use Rattle.std.proofs.lemmas.List.{take-append-drop, take_rest}
use Rattle.aes_core.specs.Key.{key_bytes}
use Rattle.ae_modes.specs.Message.{Message, begun, with_aad}
use Rattle.ae_modes.specs.Represents.{Represents}
use Rattle.test_ae_modes.proofs.beginning.begin.Goals as goal

pub returns : goal.returns
returns c =
    let aad : List ℕ = c.args.aad.now in
    let half : ℕ = length aad / 2 in
    let start : Message = begun (key_bytes c.args.key) c.args.way c.args.nonce.now 128 in
    let first : Represents c.aad.new.self (with_aad start (take half aad)) = c.in_ok-aad.ensures.taken start c.in_ok-message.ensures.started in
    subst (λ (z : List ℕ). Represents c.aad-2.new.self (with_aad start z)) (ap (λ (z : List ℕ). take half aad ++ z) (take_rest aad half) ∙ take-append-drop half aad)
    (c.in_ok-aad-2.ensures.taken (with_aad start (take half aad)) first)
