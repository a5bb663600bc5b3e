-- What the message answers and becomes is what the operation does.
use Rattle.std.proofs.Common.{◌≡◌, ◌∙◌, sym, refl, subst, length, false}
use Rattle.std.proofs.lemmas.Result.{on_ok_weaker, on_err_weaker}
use Rattle.std.specs.Prelude.{Result, Ok, Err, OnOk, OnErr}
use Rattle.ae_modes.specs.Message.{with_more}
use Rattle.ae_modes.specs.Represents as ae
use Rattle.ae_modes.specs.declared.message.Gcm.{Gcm}
use Rattle.crypto_ops.specs.Operations.{CryptoOperation, ae_message, is_too_much, after_ok, with_more_message}
use Rattle.crypto_ops.specs.Represents.{Represents, Serves}
use Rattle.crypto_ops.specs.declared.answer.OpAnswer.{OpAnswer}
use Rattle.crypto_ops.specs.declared.operation.Operation.{Operation}
use Rattle.crypto_ops.specs.declared.operation.State.{State}
use Rattle.crypto_ops.proofs.operation.Operation.ae_update.Goals as goal

pub returns-clause-answer : goal.returns-clause-answer
returns-clause-answer c op r =
    let s = subst (λ (s : State). Serves s op) c.in-Gcm.is r.serves in
    let few : is_too_much (length c.args.bytes.now) ≡ false = sym c.is_too_much.ensures ∙ c.if-is_too_much.false in
    let room : is_too_much c.args.room ≡ false = sym c.is_too_much-else-is_too_much.ensures ∙ c.if-is_too_much-2.false in
    rw (few, room, s.0, s.1) (c.converted.ensures.answer (ae_message op) s.2)

pub returns-clause-joined : goal.returns-clause-joined
returns-clause-joined c op r =
    let s = subst (λ (s : State). Serves s op) c.in-Gcm.is r.serves in c.converted.ensures.joined (ae_message op) s.2

-- the new operation where it answered Ok, else the old one
left : {A : Type 0} (result : Result A OpAnswer) (value : Operation) (old new : CryptoOperation)
    → OnOk result (Represents value new) → OnErr result (Represents value old) → Represents value (after_ok result old new)
left (Ok x) value old new on_ok on_err = on_ok
left (Err x) value old new on_ok on_err = on_err

pub returns-clause-after : goal.returns-clause-after
returns-clause-after c op r =
    let s = subst (λ (s : State). Serves s op) c.in-Gcm.is r.serves in
    left c.converted.result _ op (with_more_message op c.args.bytes.now)
    (on_ok_weaker c.converted.result (λ (taken : ae.Represents c.converted.new.gcm (with_more (ae_message op) c.args.bytes.now)). record {
      algorithm_is = r.algorithm_is;
      max_bits_is = r.max_bits_is;
      key_is = r.key_is;
      serves = (s.0, refl, taken);
      key_fits = r.key_fits;
    }) (c.converted.ensures.taken (ae_message op) s.2))
    (on_err_weaker c.converted.result (λ (same : c.converted.new.gcm ≡ c.in-Gcm.gcm). record {
      algorithm_is = r.algorithm_is;
      max_bits_is = r.max_bits_is;
      key_is = r.key_is;
      serves = (s.0, s.1, subst (λ (g : Gcm). ae.Represents g (ae_message op)) (sym same) s.2);
      key_fits = r.key_fits;
    }) c.converted.ensures.unchanged)
