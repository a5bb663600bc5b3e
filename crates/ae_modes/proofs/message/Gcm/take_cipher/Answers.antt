use Rattle.std.proofs.Common.{◌∙◌, ◌++◌, ℕ, List, Bool, cond, refl, ap, sym, arith, subst}
use Rattle.std.proofs.lemmas.List.{length-append}
use Rattle.ae_modes.specs.Absorbs.{Absorbs}
use Rattle.ae_modes.specs.Gcm.{hash_subkey}
use Rattle.ae_modes.specs.Ghash.{whole_blocks}
use Rattle.ae_modes.specs.Message.{cipher_of}
use Rattle.ae_modes.specs.Represents.{hash_so_far}
use Rattle.ae_modes.proofs.MessageLemmas.{length-cipher_of, hashed_more}
use Rattle.ae_modes.proofs.message.Gcm.take_cipher.Goals as goal

pub returns-clause-taken : goal.returns-clause-taken
returns-clause-taken c = λ m piece is width grown.
    let h : ℕ = hash_subkey m.key in
    let before : List ℕ = hash_so_far m.aad (cipher_of m) in
    let begins : Bool = c.begins_with-begins.result in
    let taken : Absorbs c.absorb.new.self h (cond begins (whole_blocks before) before ++ c.args.cipher.now) =
    c.absorb.ensures h (cond begins (whole_blocks before) before) (c.fill_if.ensures h before is.hash_is) in
    record {
      key_is = is.key_is;
      way_is = is.way_is;
      counter_is = is.counter_is;
      tag_len_is = is.tag_len_is;
      aad_len_is = is.aad_len_is;
      text_len_is = omega (arith, is.text_len_is, length-append m.message piece, width);
      hash_is =
          subst (λ (x : List ℕ). Absorbs c.absorb.new.self h x)
          (hashed_more m.aad (cipher_of m) c.args.cipher.now c.args.self.now.text_len _ begins (is.text_len_is ∙ sym (length-cipher_of m)) refl c.begins_with-begins.ensures
          ∙ ap (hash_so_far m.aad) (sym grown)) taken;
    }
