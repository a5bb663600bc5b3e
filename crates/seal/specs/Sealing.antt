-- How a block is sealed: its keys, its initial vector, its ciphertext and its tag.
use Rattle.std.specs.Prelude.{◌≡◌, ℕ, List, ◌++◌, take, codes}
use Rattle.std.specs.Int.{w64, to_le_bytes}
use Rattle.aes_modes.specs.Modes.{mode_text}
use Rattle.aes_modes.specs.declared.modes.Mode.TheVariants.{Ctr}
use Rattle.aes_modes.specs.declared.modes.Way.TheVariants.{Encrypt, Decrypt}
use Rattle.mac_digest.specs.Hmac.{hmac_of}
use Rattle.mac_digest.specs.declared.digests.Hash.TheVariants.{Sha256}
use Rattle.seal.specs.declared.leaf.Tags.{Tags}
use Rattle.tee_base.specs.Words.{Key, Sequence}

-- the key of initial vectors that a board's key gives: the code of a text
unfoldable pub vector_key : Key → List ℕ
vector_key key = hmac_of Sha256 key (codes "tee iv")

-- the key of the cipher
unfoldable pub cipher_key : Key → List ℕ
cipher_key key = hmac_of Sha256 key (codes "tee cipher")

-- the key of tags
unfoldable pub tag_key : Key → List ℕ
tag_key key = hmac_of Sha256 key (codes "tee tag")

-- a number in eight bytes, the least significant first
abbrev pub le64 : ℕ → List ℕ
le64 n = to_le_bytes w64 n

-- the initial vector of a block at a place, as a commit with this sequence writes it
unfoldable pub seal_vector : Key → ℕ → Sequence → List ℕ → List ℕ
seal_vector key place sequence plain =
    take 16 (hmac_of Sha256 (vector_key key) (le64 place ++ le64 sequence ++ plain))

-- a block encrypted: AES-256 in counter mode from the initial vector on (SP 800-38A, section 6.5)
unfoldable pub ciphertext : Key → List ℕ → List ℕ → List ℕ
ciphertext key iv plain = mode_text Ctr Encrypt (cipher_key key) iv plain

-- and back again
unfoldable pub plaintext : Key → List ℕ → List ℕ → List ℕ
plaintext key iv cipher = mode_text Ctr Decrypt (cipher_key key) iv cipher

-- the tag of a sealed block
unfoldable pub seal_tag : Key → ℕ → Sequence → List ℕ → List ℕ → List ℕ
seal_tag key place sequence iv cipher =
    hmac_of Sha256 (tag_key key) (le64 place ++ le64 sequence ++ iv ++ cipher)

-- these tags and this ciphertext seal the block
pub record SealsBlock (key : Key) (place sequence : ℕ) (plain : List ℕ) (tags : Tags)
    (cipher : List ℕ) : Type 0 where
  pub iv : tags.iv ≡ seal_vector key place sequence plain
  pub text : cipher ≡ ciphertext key tags.iv plain
  pub tag : tags.tag ≡ seal_tag key place sequence tags.iv cipher
