-- What a `Gcm` stands for: a message so far, with its associated data.
use Rattle.std.specs.Prelude.{◌≡◌, ℕ, List, [], ◌∷◌, ◌++◌, length}
use Rattle.aes_core.specs.Key.{key_bytes}
use Rattle.ae_modes.specs.Absorbs.{Absorbs}
use Rattle.ae_modes.specs.Gcm.{hash_subkey, first_counter}
use Rattle.ae_modes.specs.Ghash.{whole_blocks}
use Rattle.ae_modes.specs.Message.{Message, cipher_of, tag_len}
use Rattle.ae_modes.specs.declared.message.Gcm.{Gcm}

-- what GHASH has taken so far: the associated data are filled when the ciphertext begins
unfoldable pub hash_so_far : List ℕ → List ℕ → List ℕ
hash_so_far aad [] = aad
hash_so_far aad (x ∷ c) = whole_blocks aad ++ x ∷ c

-- the value has taken the associated data and the message so far
pub record Represents (g : Gcm) (m : Message) : Type 0 where
  pub key_is : key_bytes g.key ≡ m.key
  pub way_is : g.way ≡ m.way
  pub counter_is : g.counter ≡ first_counter m.key m.nonce
  pub tag_len_is : g.tag_len ≡ tag_len m
  pub aad_len_is : g.aad_len ≡ length m.aad
  pub text_len_is : g.text_len ≡ length m.message
  pub hash_is : Absorbs g.hash (hash_subkey m.key) (hash_so_far m.aad (cipher_of m))
