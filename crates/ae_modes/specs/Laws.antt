-- The law of GCM.
use Rattle.std.specs.Prelude.{◌≡◌, ℕ, List}
use Rattle.ae_modes.specs.Gcm.{gcm_text, gcm_tag}

-- a ciphertext opens to the message m: its tag is right, and its text is m
pub record Opens (key nonce : List ℕ) (tag_bits : ℕ) (aad c tag m : List ℕ) : Type 0 where
  pub tag_is : tag ≡ gcm_tag key nonce tag_bits aad c
  pub text_is : gcm_text key nonce c ≡ m

-- the ciphertext and the tag of a message open to the message, with the same key, nonce and associated data
abbrev pub OpeningGivesTheMessage : Type 0
OpeningGivesTheMessage =
    (key nonce : List ℕ) (tag_bits : ℕ) (aad m : List ℕ)
    → Opens key nonce tag_bits aad (gcm_text key nonce m) (gcm_tag key nonce tag_bits aad (gcm_text key nonce m)) m
