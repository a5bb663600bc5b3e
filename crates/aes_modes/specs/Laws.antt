-- Laws of the modes.
use Rattle.std.specs.Prelude.{◌≡◌, ℕ, ◌<◌, false, List, length, All}
use Rattle.aes_modes.specs.Conversion.{ends_within}
use Rattle.aes_modes.specs.Modes.{mode_text}
use Rattle.aes_modes.specs.declared.modes.Mode.{Mode}
use Rattle.aes_modes.specs.declared.modes.Way.TheVariants.{Encrypt, Decrypt}

-- a message that was encrypted decrypts to itself: of whole blocks in ECB and CBC, of any length in CTR
abbrev pub DecryptionUndoesEncryption : Type 0
DecryptionUndoesEncryption =
    (mode : Mode) (key iv m : List ℕ)
    → length iv ≡ 16 → All (λ x. x < 256) iv → All (λ x. x < 256) m → ends_within mode (length m) ≡ false
    → mode_text mode Decrypt key iv (mode_text mode Encrypt key iv m) ≡ m
