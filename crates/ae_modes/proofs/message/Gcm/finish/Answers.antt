use Rattle.std.proofs.Common.{◌≡◌, ◌∙◌, ◌++◌, ℕ, List, [], refl, ap, sym, subst}
use Rattle.aes_core.specs.Cipher.{cipher}
use Rattle.aes_core.specs.Key.{key_bytes}
use Rattle.aes_modes.specs.Modes.{xor_bytes, counter_block}
use Rattle.ae_modes.specs.Absorbs.{Absorbs}
use Rattle.ae_modes.specs.Gcm.{hash_subkey, hash_input}
use Rattle.ae_modes.specs.Ghash.{ghash, whole_blocks}
use Rattle.ae_modes.specs.Message.{Message, at_start, cipher_of}
use Rattle.ae_modes.specs.Represents.{Represents, hash_so_far}
use Rattle.ae_modes.proofs.MessageLemmas.{length-cipher_of, finished_input, whole_tag_is, hashed_begun, cipher_begun}
use Rattle.ae_modes.proofs.message.Gcm.finish.Goals as goal

-- what GHASH has taken before its last sum
taken : (c : goal.After-xor) (m : Message) → Represents c.args.self.now m
    → Absorbs c.absorb.new.self (hash_subkey m.key) (whole_blocks (hash_so_far m.aad (cipher_of m)) ++ c.two_lengths-lengths.result)
taken c m is =
    c.absorb.ensures (hash_subkey m.key) (whole_blocks (hash_so_far m.aad (cipher_of m)))
    (c.fill.ensures (hash_subkey m.key) (hash_so_far m.aad (cipher_of m)) is.hash_is)

pub returns-clause-tag : goal.returns-clause-tag
returns-clause-tag c = λ m is.
    let all = taken c m is in
    let sum : c.absorb.new.self.sum ≡ ghash (hash_subkey m.key) (hash_input m.aad (cipher_of m)) =
    all.sum_is ∙ ap (ghash (hash_subkey m.key))
    (finished_input m.aad (cipher_of m) _ c.two_lengths-lengths.result c.args.self.now.aad_len c.args.self.now.text_len refl c.two_lengths-lengths.ensures
    is.aad_len_is (is.text_len_is ∙ sym (length-cipher_of m))) in
    c.xor.ensures
    ∙ ap (λ (z : List ℕ). xor_bytes z c.block_of_number-sum.result) c.key_block.ensures
    ∙ ap (xor_bytes (cipher (key_bytes c.args.self.now.key) (counter_block c.args.self.now.counter))) c.block_of_number-sum.ensures
    ∙ whole_tag_is m.key m.nonce m.aad (cipher_of m) (key_bytes c.args.self.now.key) c.args.self.now.counter c.absorb.new.self.sum is.key_is is.counter_is sum

pub returns-clause-restarted : goal.returns-clause-restarted
returns-clause-restarted c = λ m is.
    record {
      key_is = is.key_is;
      way_is = is.way_is;
      counter_is = is.counter_is;
      tag_len_is = is.tag_len_is;
      aad_len_is = refl;
      text_len_is = refl;
      hash_is =
          subst (λ (x : List ℕ). Absorbs c.restart.new.self (hash_subkey m.key) x)
          (sym (hashed_begun [] (cipher_of (at_start m)) (cipher_begun m.way m.key m.nonce)))
          (c.restart.ensures (hash_subkey m.key) _ (taken c m is));
    }
