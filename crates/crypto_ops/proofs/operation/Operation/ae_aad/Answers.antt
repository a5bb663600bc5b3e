-- What the message answers is what the operation answers.
use Rattle.std.proofs.Common.{◌≡◌, ◌∙◌, sym, refl, subst, length, false, Ok, Err}
use Rattle.ae_modes.specs.Message.{aad_answer}
use Rattle.crypto_ops.specs.Operations.{ae_message, is_too_much}
use Rattle.crypto_ops.specs.Represents.{Serves}
use Rattle.crypto_ops.specs.declared.operation.State.{State}
use Rattle.crypto_ops.proofs.AeLemmas.{aad_misuse}
use Rattle.crypto_ops.proofs.operation.Operation.ae_aad.Goals as goal

pub returns-in-Ok-clause-answer : goal.returns-in-Ok-clause-answer
returns-in-Ok-clause-answer c op r =
    let s = subst (λ (s : State). Serves s op) c.in-Gcm.is r.serves in
    let few : is_too_much (length c.args.bytes.now) ≡ false = sym c.is_too_much.ensures ∙ c.if-is_too_much.false in
    let answer : aad_answer (ae_message op) _ ≡ Ok tt = sym (c.aad.ensures.answer _ s.2) ∙ c.in-Ok.is in
    rw (few, s.0, s.1, answer) refl

pub returns-in-Ok-clause-after : goal.returns-in-Ok-clause-after
returns-in-Ok-clause-after c op r =
    let s = subst (λ (s : State). Serves s op) c.in-Gcm.is r.serves in
    record {
      algorithm_is = r.algorithm_is;
      max_bits_is = r.max_bits_is;
      key_is = r.key_is;
      serves = (s.0, refl, c.in-Ok.ensures.taken (ae_message op) s.2);
      key_fits = r.key_fits;
    }

pub returns-in-Err-clause-answer : goal.returns-in-Err-clause-answer
returns-in-Err-clause-answer c op r =
    let s = subst (λ (s : State). Serves s op) c.in-Gcm.is r.serves in
    let few : is_too_much (length c.args.bytes.now) ≡ false = sym c.is_too_much.ensures ∙ c.if-is_too_much.false in
    let answer : aad_answer (ae_message op) _ ≡ Err c.in-Err.field-0 = sym (c.aad.ensures.answer _ s.2) ∙ c.in-Err.is in
    rw (few, s.0, s.1) (sym (aad_misuse (ae_message op) _ _ answer))
