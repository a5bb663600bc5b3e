use Rattle.std.proofs.Common.{◌≡◌, ◌∙◌, ℕ, Bool, List, cond, refl, sym, subst, length, take, ap, rules}
use Rattle.std.specs.Prelude.{◌↔◌, IsTrue, Ok, Err}
use Rattle.aes_core.specs.Key.{key_bytes}
use Rattle.ae_modes.specs.Message.{Message, with_more, at_start, tag_of, tag_len, open_answer}
use Rattle.ae_modes.specs.Represents.{Represents}
use Rattle.ae_modes.specs.declared.answers.AeAnswer.TheVariants.{BadTag}
use Rattle.ae_modes.proofs.MessageLemmas.{cipher_decrypted, open_answered, text_of-extended}
use Rattle.ae_modes.proofs.message.Gcm.open.Goals as goal
use Rattle.ae_modes.proofs.message.Gcm.open.Goals.{After-is_same}

-- with the last bytes of the ciphertext
taken : (c : After-is_same) (m : Message) → Represents c.args.self.now m → Represents c.take_cipher.new.self (with_more m c.args.input.now)
taken c m is = c.take_cipher.ensures.taken m c.args.input.now is refl (cipher_decrypted m c.args.input.now (sym is.way_is ∙ c.requires))

-- as at the start
ended : (c : After-is_same) (m : Message) → Represents c.args.self.now m → Represents c.finish-whole.new.self (at_start m)
ended c m is = c.finish-whole.ensures.restarted (with_more m c.args.input.now) (taken c m is)

-- what the comparison answers
compared : (c : After-is_same) (m : Message) → Represents c.args.self.now m
    → (IsTrue c.is_same.result ↔ (c.args.tag.now ≡ tag_of (with_more m c.args.input.now)))
compared c m is =
    subst (λ (right : List ℕ). IsTrue c.is_same.result ↔ (c.args.tag.now ≡ right))
    (ap (λ (n : ℕ). take n c.finish-whole.result) (ended c m is).tag_len_is
    ∙ ap (take (tag_len m)) (c.finish-whole.ensures.tag (with_more m c.args.input.now) (taken c m is)))
    c.is_same.ensures

-- the answer, by the comparison
answered : (c : After-is_same) (m : Message) (same : Bool) → Represents c.args.self.now m
    → (IsTrue same ↔ (c.args.tag.now ≡ tag_of (with_more m c.args.input.now)))
    → cond c.is_same.result (Ok (length c.args.input.now)) (Err BadTag) ≡ open_answer m (length c.args.input.now) (length c.args.output.now) same
answered c m same is right =
    open_answered m (length c.args.input.now) (length c.args.output.now) c.args.self.now.text_len c.is_same.result same c.args.tag.now
    (tag_of (with_more m c.args.input.now)) is.text_len_is c.in_ok-written.ensures.fits c.in_ok-written.ensures.room (compared c m is) right

pub returns-then-not-is_same-clause-answer : goal.returns-then-not-is_same-clause-answer
returns-then-not-is_same-clause-answer c = λ m same is right.
    let s = (goal.at.returns-then-not-is_same-clause-answer c).After-is_same in
    ap (λ (b : Bool). cond b (Ok (length c.args.input.now)) (Err BadTag)) (sym c.if-not-is_same.true) ∙ answered s m same is right

pub returns-then-not-is_same-clause-restarted : goal.returns-then-not-is_same-clause-restarted
returns-then-not-is_same-clause-restarted c = λ m is ends. ended (goal.at.returns-then-not-is_same-clause-restarted c).After-is_same m is

pub returns-clause-answer : goal.returns-clause-answer
returns-clause-answer c = λ m same is right.
    let s = (goal.at.returns-clause-answer c).After-is_same in
    ap (λ (n : ℕ). Ok n) c.in_ok-written.ensures.written
    ∙ ap (λ (b : Bool). cond b (Ok (length c.args.input.now)) (Err BadTag)) (sym c.if-not-is_same.false) ∙ answered s m same is right

pub returns-clause-text : goal.returns-clause-text
returns-clause-text c = λ m is.
    let after = ended (goal.at.returns-clause-text c).After-is_same m is in
    text_of-extended m c.args.input.now _ (key_bytes c.finish-whole.new.self.key) c.finish-whole.new.self.counter c.args.self.now.text_len
    after.key_is after.counter_is is.text_len_is
    (ap (λ (n : ℕ). take n c.write_text.new.output) c.in_ok-written.ensures.written ∙ c.write_text.ensures.text)

pub returns-clause-restarted : goal.returns-clause-restarted
returns-clause-restarted c = λ m is ends.
    let after = ended (goal.at.returns-clause-restarted c).After-is_same m is in search rules
