-- What the message gives at its end is what the operation gives.
use Rattle.std.proofs.Common.{◌≡◌, ◌∙◌, sym, subst, ap, refl, length, true, false, Bool, Ok, Err, List, ℕ, cond, rules}
use Rattle.std.specs.Prelude.{Result, Some, None}
use Rattle.ae_modes.specs.declared.answers.AeAnswer.TheVariants.{BadTag}
use Rattle.crypto_ops.specs.Operations.{ae_message, ae_given, encrypts, is_too_much, opened_within, after_comparison, Answers}
use Rattle.crypto_ops.specs.Represents.{Serves}
use Rattle.crypto_ops.specs.declared.answer.OpAnswer.{OpAnswer}
use Rattle.crypto_ops.specs.declared.answer.OpAnswer.TheVariants.{MacInvalid, NoMemory}
use Rattle.crypto_ops.specs.declared.operation.State.{State}
use Rattle.crypto_ops.proofs.AeLemmas.{refused_first, refused_leaves, room_fits}
use Rattle.crypto_ops.proofs.operation.Operation.ae_open.Goals as goal

-- the answer by the comparison of the tag
of_some : (same : Bool) (more : ℕ) (part content : List ℕ) → Some content ≡ cond same (Some part) None
    → ae_given (cond same (Ok more) (Err BadTag)) part ≡ Ok content
of_some true more part content e = cc
of_some false more part content e = search rules

of_none : (same : Bool) (more : ℕ) (part : List ℕ) → None ≡ cond same (Some part) None
    → ae_given (cond same (Ok more) (Err BadTag)) part ≡ Err MacInvalid
of_none true more part e = search rules
of_none false more part e = refl

wants : (same : Bool) (more : ℕ) (part : List ℕ) → Answers {A = List ℕ} (Err NoMemory) (ae_given (cond same (Ok more) (Err BadTag)) part)
wants true more part = refl
wants false more part = refl

pub returns-in_err-look_for_room-clause-answer : goal.returns-in_err-look_for_room-clause-answer
returns-in_err-look_for_room-clause-answer c op r =
    let s = subst (λ (s : State). Serves s op) c.in-Gcm.is r.serves in
    let few : is_too_much (length c.args.bytes.now) ≡ false = sym c.is_too_much.ensures ∙ c.if-is_too_much.false in
    let room : is_too_much c.args.room ≡ false = sym c.is_too_much-else-is_too_much.ensures ∙ c.if-is_too_much-2.false in
    let tag : is_too_much (length c.args.tag.now) ≡ false = sym c.is_too_much-else-is_too_much-2.ensures ∙ c.if-is_too_much-3.false in
    let way : encrypts (ae_message op).way ≡ false = ap encrypts (sym s.2.way_is ∙ sym c.in-Decrypt.ensures) in
    let handed : c.from_residual.result ≡ Err c.in_err-look_for_room.field-0.0 = search rules in
    rw (few, room, tag, s.0, s.1, way)
    (subst (λ (x : Result (List ℕ) OpAnswer). Answers x (opened_within (ae_message op) c.args.bytes.now c.args.room c.args.tag.now))
    (sym handed) (refused_first (List ℕ) _ _ _ _ _ _ (c.in_err-look_for_room.ensures.answer (ae_message op) s.2)))

pub returns-in_err-look_for_room-clause-after : goal.returns-in_err-look_for_room-clause-after
returns-in_err-look_for_room-clause-after c op r =
    let s = subst (λ (s : State). Serves s op) c.in-Gcm.is r.serves in
    let handed : c.from_residual.result ≡ Err c.in_err-look_for_room.field-0.0 = search rules in
    let left : after_comparison c.from_residual.result op ≡ op =
    ap (λ (x : Result (List ℕ) OpAnswer). after_comparison x op) handed
    ∙ refused_leaves (List ℕ) _ _ _ op _ (c.in_err-look_for_room.ensures.answer (ae_message op) s.2) in
    rw left (record {
      algorithm_is = r.algorithm_is;
      max_bits_is = r.max_bits_is;
      key_is = r.key_is;
      serves = s;
      key_fits = r.key_fits;
    })

pub returns-in_err-memory-clause-answer : goal.returns-in_err-memory-clause-answer
returns-in_err-memory-clause-answer c op r =
    let s = subst (λ (s : State). Serves s op) c.in-Gcm.is r.serves in
    let few : is_too_much (length c.args.bytes.now) ≡ false = sym c.is_too_much.ensures ∙ c.if-is_too_much.false in
    let room : is_too_much c.args.room ≡ false = sym c.is_too_much-else-is_too_much.ensures ∙ c.if-is_too_much-2.false in
    let tag : is_too_much (length c.args.tag.now) ≡ false = sym c.is_too_much-else-is_too_much-2.ensures ∙ c.if-is_too_much-3.false in
    let way : encrypts (ae_message op).way ≡ false = ap encrypts (sym s.2.way_is ∙ sym c.in-Decrypt.ensures) in
    let fits = room_fits _ _ _ _ (c.in_ok-look_for_room.ensures.answer (ae_message op) s.2) in
    let handed : c.from_residual-in_err-memory.result ≡ Err c.in_err-memory.field-0.0 = search rules in
    let wanted : Answers {A = List ℕ} (Err NoMemory) (opened_within (ae_message op) c.args.bytes.now c.args.room c.args.tag.now) =
    rw (fits.0, fits.1) (wants _ _ _) in
    rw (few, room, tag, s.0, s.1, way)
    (subst (λ (x : Result (List ℕ) OpAnswer). Answers x (opened_within (ae_message op) c.args.bytes.now c.args.room c.args.tag.now))
    (sym (handed ∙ ap Err c.in_err-memory.ensures.err)) wanted)

pub returns-in-Some-clause-answer : goal.returns-in-Some-clause-answer
returns-in-Some-clause-answer c op r =
    let s = subst (λ (s : State). Serves s op) c.in-Gcm.is r.serves in
    let few : is_too_much (length c.args.bytes.now) ≡ false = sym c.is_too_much.ensures ∙ c.if-is_too_much.false in
    let room : is_too_much c.args.room ≡ false = sym c.is_too_much-else-is_too_much.ensures ∙ c.if-is_too_much-2.false in
    let tag : is_too_much (length c.args.tag.now) ≡ false = sym c.is_too_much-else-is_too_much-2.ensures ∙ c.if-is_too_much-3.false in
    let way : encrypts (ae_message op).way ≡ false = ap encrypts (sym s.2.way_is ∙ sym c.in-Decrypt.ensures) in
    let fits = room_fits _ _ _ _ (c.in_ok-look_for_room.ensures.answer (ae_message op) s.2) in
    rw (few, room, tag, s.0, s.1, way, fits.0, fits.1)
    (of_some _ _ _ _ (c.in-Some.ensures.content (ae_message op) s.2 fits.0))

pub returns-in-Some-clause-joined : goal.returns-in-Some-clause-joined
returns-in-Some-clause-joined c op r =
    let s = subst (λ (s : State). Serves s op) c.in-Gcm.is r.serves in c.in-Some.ensures.joined (ae_message op) s.2

pub returns-in-None-clause-answer : goal.returns-in-None-clause-answer
returns-in-None-clause-answer c op r =
    let s = subst (λ (s : State). Serves s op) c.in-Gcm.is r.serves in
    let few : is_too_much (length c.args.bytes.now) ≡ false = sym c.is_too_much.ensures ∙ c.if-is_too_much.false in
    let room : is_too_much c.args.room ≡ false = sym c.is_too_much-else-is_too_much.ensures ∙ c.if-is_too_much-2.false in
    let tag : is_too_much (length c.args.tag.now) ≡ false = sym c.is_too_much-else-is_too_much-2.ensures ∙ c.if-is_too_much-3.false in
    let way : encrypts (ae_message op).way ≡ false = ap encrypts (sym s.2.way_is ∙ sym c.in-Decrypt.ensures) in
    let fits = room_fits _ _ _ _ (c.in_ok-look_for_room.ensures.answer (ae_message op) s.2) in
    rw (few, room, tag, s.0, s.1, way, fits.0, fits.1)
    (of_none _ _ _ (c.in-None.ensures.content (ae_message op) s.2 fits.0))
