-- Laws of the block cipher.
use Rattle.std.specs.Prelude.{◌≡◌, ℕ, ◌<◌, List, length, All}
use Rattle.aes_core.specs.Cipher.{cipher, inv_cipher}

-- a block of 16 bytes that was encrypted decrypts to itself, under any key
abbrev pub DecryptionUndoesEncryption : Type 0
DecryptionUndoesEncryption =
    (key b : List ℕ) → length b ≡ 16 → All (λ x. x < 256) b → inv_cipher key (cipher key b) ≡ b

-- and one that was decrypted encrypts to itself
abbrev pub EncryptionUndoesDecryption : Type 0
EncryptionUndoesDecryption =
    (key b : List ℕ) → length b ≡ 16 → All (λ x. x < 256) b → cipher key (inv_cipher key b) ≡ b
