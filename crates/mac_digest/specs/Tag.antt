-- A tag as the list of its bytes.
use Rattle.std.specs.Prelude.{ℕ, List}
use Rattle.mac_digest.specs.declared.digests.TagBytes.{TagBytes}
use Rattle.mac_digest.specs.declared.digests.TagBytes.TheVariants.{Of32, Of48, Of64}

-- the bytes, whatever their number
abbrev pub bytes_of : TagBytes → List ℕ
bytes_of (Of32 bytes) = bytes
bytes_of (Of48 bytes) = bytes
bytes_of (Of64 bytes) = bytes
