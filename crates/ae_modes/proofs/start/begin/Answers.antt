use Rattle.std.proofs.Common.{ℕ, List, [], refl, sym, subst}
use Rattle.aes_core.specs.Key.{key_bytes}
use Rattle.ae_modes.specs.Absorbs.{Absorbs}
use Rattle.ae_modes.specs.Gcm.{hash_subkey}
use Rattle.ae_modes.proofs.MessageLemmas.{cipher_begun, hashed_begun}
use Rattle.ae_modes.proofs.start.begin.Goals as goal

pub returns : goal.returns
returns c =
    let key : List ℕ = key_bytes c.args.key in
    let started : Absorbs c.start-hash.result (hash_subkey key) [] =
    subst (λ (h : ℕ). Absorbs c.start-hash.result h []) c.subkey.ensures c.start-hash.ensures in
    record {
      key_is = refl;
      way_is = refl;
      counter_is = c.first_counter-counter.ensures key started;
      tag_len_is = refl;
      aad_len_is = refl;
      text_len_is = refl;
      hash_is =
          subst (λ (x : List ℕ). Absorbs c.start-hash.result (hash_subkey key) x)
          (sym (hashed_begun [] _ (cipher_begun c.args.way key c.args.nonce.now))) started;
    }
