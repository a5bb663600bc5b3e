use Rattle.std.proofs.Common.{◌≡◌, ◌∙◌, ◌++◌, ℕ, List, sym, length, take, arith, rules}
use Rattle.std.proofs.lemmas.List.{length-take-le}
use Rattle.aes_core.specs.Key.{key_bytes}
use Rattle.ae_modes.specs.Message.{with_more, text_of}
use Rattle.ae_modes.proofs.MessageLemmas.{text_of-extended, cipher_encrypted}
use Rattle.ae_modes.proofs.message.Gcm.convert.Goals as goal

pub returns-in-Encrypt-clause-text : goal.returns-in-Encrypt-clause-text
returns-in-Encrypt-clause-text c = λ m is.
    text_of-extended m c.args.input.now _ (key_bytes c.args.self.now.key) c.args.self.now.counter c.args.self.now.text_len
    is.key_is is.counter_is is.text_len_is c.write_text.ensures.text

pub returns-in-Encrypt-clause-taken : goal.returns-in-Encrypt-clause-taken
returns-in-Encrypt-clause-taken c = λ m is.
    let out : List ℕ = take (length c.args.input.now) c.write_text.new.output in
    let text : text_of (with_more m c.args.input.now) ≡ text_of m ++ out =
    text_of-extended m c.args.input.now out (key_bytes c.args.self.now.key) c.args.self.now.counter c.args.self.now.text_len
    is.key_is is.counter_is is.text_len_is c.write_text.ensures.text in
    let width : length c.args.input.now ≡ length out =
    sym (length-take-le (length c.args.input.now) c.write_text.new.output (omega (arith, c.write_text.auto.output, c.requires.room))) in
    c.take_cipher.ensures.taken m c.args.input.now (search rules) width (cipher_encrypted m c.args.input.now out (sym is.way_is ∙ c.in-Encrypt.is) text)

pub returns-in-Decrypt-clause-text : goal.returns-in-Decrypt-clause-text
returns-in-Decrypt-clause-text c = λ m is.
    text_of-extended m c.args.input.now _ (key_bytes c.args.self.now.key) c.args.self.now.counter c.args.self.now.text_len
    is.key_is is.counter_is is.text_len_is c.write_text.ensures.text
