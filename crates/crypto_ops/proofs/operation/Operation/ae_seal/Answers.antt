-- What the message gives at its end is what the operation gives.
use Rattle.std.proofs.Common.{◌≡◌, ◌∙◌, sym, subst, ap, length, true, false, Err, rules}
use Rattle.std.specs.Prelude.{Result}
use Rattle.crypto_ops.specs.Operations.{ae_message, encrypts, is_too_much, sealed_within, Answers}
use Rattle.crypto_ops.specs.Represents.{Serves}
use Rattle.crypto_ops.specs.declared.answer.OpAnswer.{OpAnswer}
use Rattle.crypto_ops.specs.declared.operation.State.{State}
use Rattle.crypto_ops.specs.declared.sealed.OpSealed.{OpSealed}
use Rattle.crypto_ops.proofs.operation.Operation.ae_seal.Goals as goal

pub returns-in_err-sealed-clause-answer : goal.returns-in_err-sealed-clause-answer
returns-in_err-sealed-clause-answer c op r =
    let s = subst (λ (s : State). Serves s op) c.in-Gcm.is r.serves in
    let few : is_too_much (length c.args.bytes.now) ≡ false = sym c.is_too_much.ensures ∙ c.if-is_too_much.false in
    let room : is_too_much c.args.room ≡ false = sym c.is_too_much-else-is_too_much.ensures ∙ c.if-is_too_much-2.false in
    let tag_room : is_too_much c.args.tag_room ≡ false = sym c.is_too_much-else-is_too_much-2.ensures ∙ c.if-is_too_much-3.false in
    let way : encrypts (ae_message op).way ≡ true = ap encrypts (sym s.2.way_is ∙ sym c.in-Encrypt.ensures) in
    let handed : c.from_residual.result ≡ Err c.in_err-sealed.field-0.0 = search rules in
    rw (few, room, tag_room, s.0, s.1, way)
    (subst (λ (x : Result OpSealed OpAnswer). Answers x (sealed_within (ae_message op) c.args.bytes.now c.args.room c.args.tag_room))
    (sym handed) (c.in_err-sealed.ensures.answer (ae_message op) s.2))

pub returns-clause-answer : goal.returns-clause-answer
returns-clause-answer c op r =
    let s = subst (λ (s : State). Serves s op) c.in-Gcm.is r.serves in
    let few : is_too_much (length c.args.bytes.now) ≡ false = sym c.is_too_much.ensures ∙ c.if-is_too_much.false in
    let room : is_too_much c.args.room ≡ false = sym c.is_too_much-else-is_too_much.ensures ∙ c.if-is_too_much-2.false in
    let tag_room : is_too_much c.args.tag_room ≡ false = sym c.is_too_much-else-is_too_much-2.ensures ∙ c.if-is_too_much-3.false in
    let way : encrypts (ae_message op).way ≡ true = ap encrypts (sym s.2.way_is ∙ sym c.in-Encrypt.ensures) in
    rw (few, room, tag_room, s.0, s.1, way) (c.in_ok-sealed.ensures.answer (ae_message op) s.2)

pub returns-clause-joined : goal.returns-clause-joined
returns-clause-joined c op r =
    let s = subst (λ (s : State). Serves s op) c.in-Gcm.is r.serves in c.in_ok-sealed.ensures.joined (ae_message op) s.2
