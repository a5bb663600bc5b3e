use Rattle.std.proofs.Common.{◌≡◌, ◌∙◌, ◌++◌, ℕ, List, [], ap, sym, arith, subst}
use Rattle.std.proofs.lemmas.List.{length-append}
use Rattle.ae_modes.specs.Absorbs.{Absorbs}
use Rattle.ae_modes.specs.Gcm.{hash_subkey}
use Rattle.ae_modes.specs.Message.{cipher_of}
use Rattle.ae_modes.specs.Represents.{hash_so_far}
use Rattle.ae_modes.proofs.MessageLemmas.{cipher_none, hashed_begun}
use Rattle.ae_modes.proofs.message.Gcm.take_aad.Goals as goal

pub returns-clause-taken : goal.returns-clause-taken
returns-clause-taken c = λ m is.
    let none : cipher_of m ≡ [] = cipher_none m (sym is.text_len_is ∙ c.requires.early) in
    let taken : Absorbs c.absorb.new.self (hash_subkey m.key) (hash_so_far m.aad (cipher_of m) ++ c.args.bytes.now) =
    c.absorb.ensures (hash_subkey m.key) (hash_so_far m.aad (cipher_of m)) is.hash_is in
    record {
      key_is = is.key_is;
      way_is = is.way_is;
      counter_is = is.counter_is;
      tag_len_is = is.tag_len_is;
      aad_len_is = omega (arith, is.aad_len_is, length-append m.aad c.args.bytes.now);
      text_len_is = is.text_len_is;
      hash_is =
          subst (λ (x : List ℕ). Absorbs c.absorb.new.self (hash_subkey m.key) x)
          (ap (λ (x : List ℕ). x ++ c.args.bytes.now) (hashed_begun m.aad (cipher_of m) none)
          ∙ sym (hashed_begun (m.aad ++ c.args.bytes.now) (cipher_of m) none)) taken;
    }
