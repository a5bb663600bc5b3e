-- What a stream stands for: a message so far.
use Rattle.std.specs.Prelude.{◌≡◌, ℕ, zero, suc, ◌+◌, ◌*◌, ◌/◌, ◌%◌, ◌^◌, List, [], ◌++◌, length, take, drop}
use Rattle.aes_core.specs.Cipher.{cipher, inv_cipher}
use Rattle.aes_core.specs.Key.{key_bytes}
use Rattle.aes_modes.specs.Conversion.{Conversion}
use Rattle.aes_modes.specs.Modes.{block_at, xor_bytes, number_of}
use Rattle.aes_modes.specs.declared.modes.Mode.{Mode}
use Rattle.aes_modes.specs.declared.modes.Mode.TheVariants.{Ecb, Cbc, Ctr}
use Rattle.aes_modes.specs.declared.modes.Way.{Way}
use Rattle.aes_modes.specs.declared.modes.Way.TheVariants.{Encrypt, Decrypt}
use Rattle.aes_modes.specs.declared.stream.Stream.{Stream}

-- one block by a mode of whole blocks, after the vector v
unfoldable pub step_text : Mode → Way → List ℕ → List ℕ → List ℕ → List ℕ
step_text Ecb Encrypt key v b = cipher key b
step_text Ecb Decrypt key v b = inv_cipher key b
step_text Cbc Encrypt key v b = cipher key (xor_bytes v b)
step_text Cbc Decrypt key v b = xor_bytes (inv_cipher key b) v
step_text Ctr way key v b = b

-- the vector after that block
unfoldable pub step_vector : Mode → Way → List ℕ → List ℕ → List ℕ → List ℕ
step_vector Ecb way key v b = v
step_vector Cbc Encrypt key v b = cipher key (xor_bytes v b)
step_vector Cbc Decrypt key v b = b
step_vector Ctr way key v b = v

-- the vector after the first n blocks of a list, from v on
unfoldable pub vector_after : Mode → Way → List ℕ → List ℕ → List ℕ → ℕ → List ℕ
vector_after mode way key v d zero = v
vector_after mode way key v d (suc n) =
    step_vector mode way key (vector_after mode way key v d n) (block_at d n)

-- the text of the first n blocks of a list, from v on
unfoldable pub blocks_text : Mode → Way → List ℕ → List ℕ → List ℕ → ℕ → List ℕ
blocks_text mode way key v d zero = []
blocks_text mode way key v d (suc n) =
    blocks_text mode way key v d n ++ step_text mode way key (vector_after mode way key v d n) (block_at d n)

-- what a stream keeps of the message: the vector and the part of a block, or the counter
abbrev pub Keeps : Mode → Stream → Conversion → Type 0
Keeps Ctr s c = s.counter ≡ (number_of c.iv + length c.message / 16) % 2 ^ 128
Keeps mode s c =
    (take s.count s.held ≡ drop (16 * (length c.message / 16)) c.message)
    × (s.vector ≡ vector_after c.mode c.way c.key c.iv c.message (length c.message / 16))

-- a stream has taken the message so far
pub record Represents (s : Stream) (c : Conversion) : Type 0 where
  pub key_is : key_bytes s.key ≡ c.key
  pub mode_is : s.mode ≡ c.mode
  pub way_is : s.way ≡ c.way
  pub iv_is : s.iv ≡ c.iv
  pub count_is : s.count ≡ length c.message % 16
  pub keeps : Keeps c.mode s c
