-- What a `Cmac` stands for: a key, and the message so far.
use Rattle.std.specs.Prelude.{◌≡◌, ℕ, zero, suc, ◌*◌, List, drop, replicate}
use Rattle.aes_core.specs.Cipher.{cipher}
use Rattle.aes_core.specs.Key.{key_bytes}
use Rattle.aes_modes.specs.Modes.{block_at, xor_bytes}
use Rattle.ae_modes.specs.Cmac.{first_subkey, blocks_before}
use Rattle.ae_modes.specs.Waiting.{waiting_bytes}
use Rattle.ae_modes.specs.declared.code.Cmac.{Cmac}

-- what CBC adds to the block behind the first n
unfoldable pub chain_value : List ℕ → List ℕ → ℕ → List ℕ
chain_value key m zero = replicate 16 0
chain_value key m (suc n) = cipher key (xor_bytes (chain_value key m n) (block_at m n))

-- the value has taken the message so far: all but its last block is enciphered
pub record HoldsMessage (c : Cmac) (key m : List ℕ) : Type 0 where
  pub key_is : key_bytes c.key ≡ key
  pub subkey_is : c.subkey ≡ first_subkey key
  pub vector_is : c.vector ≡ chain_value key m (blocks_before m)
  pub waiting_are : waiting_bytes c.waiting ≡ drop (16 * blocks_before m) m
