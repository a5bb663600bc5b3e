-- The bytes of an expanded key.
use Rattle.std.specs.Prelude.{ℕ, List}
use Rattle.aes_core.specs.declared.key.Key.{Key}
use Rattle.aes_core.specs.KeyExpansion.{key_of_words}

-- the key that was expanded
unfoldable pub key_bytes : Key → List ℕ
key_bytes k = key_of_words k.rounds k.words
