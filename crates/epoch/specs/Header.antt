-- The bytes of a header and of an entry, at the places of the format's tables.
use Rattle.std.specs.Prelude.{◌≡◌, ℕ, ◌+◌, List, ◌++◌, length, take, replicate, codes}
use Rattle.std.specs.Int.{w32, w64, to_le_bytes, from_le_bytes}
use Rattle.mac_digest.specs.Hmac.{hmac_of}
use Rattle.mac_digest.specs.declared.digests.Hash.TheVariants.{Sha256}
use Rattle.seal.specs.Sealing.{le64, tag_key}
use Rattle.epoch.specs.Parts.{part}
use Rattle.board.specs.declared.TheConstants.{BLOCK}
use Rattle.epoch.specs.declared.header.TheConstants.{SLOT_0, TAGGED}
use Rattle.epoch.specs.declared.header.Header.{Header}
use Rattle.epoch.specs.declared.header.TreeEntry.{TreeEntry}
use Rattle.tee_base.specs.Words.{Key}

-- the entry that stands in a block from a place on
abbrev pub entry_at : ℕ → List ℕ → TreeEntry
entry_at at block = record {
  copy = from_le_bytes w64 (part at 8 block);
  sequence = from_le_bytes w64 (part (at + 8) 8 block);
  iv = part (at + 16) 16 block;
  tag = part (at + 32) 32 block;
}

-- the header that stands in a block
abbrev pub header_of : List ℕ → Header
header_of block = record {
  version = from_le_bytes w32 (part 8 4 block);
  sequence = from_le_bytes w64 (part 16 8 block);
  root = entry_at 24 block;
}

-- the tag of a header: of its slot's number, which no place has, and of the bytes before the tag
unfoldable pub header_tag : Key → ℕ → List ℕ → List ℕ
header_tag key slot bytes = hmac_of Sha256 (tag_key key) (le64 (SLOT_0 + slot) ++ bytes)

-- the bytes of an entry
pub record IsEntry (entry : TreeEntry) (bytes : List ℕ) : Type 0 where
  pub long : length bytes ≡ 64
  pub copy : part 0 8 bytes ≡ le64 entry.copy
  pub sequence : part 8 8 bytes ≡ le64 entry.sequence
  pub iv : part 16 16 bytes ≡ entry.iv
  pub tag : part 32 32 bytes ≡ entry.tag

-- the block of a header in a slot
pub record IsHeaderBlock (key : Key) (slot : ℕ) (header : Header)
    (block : List ℕ) : Type 0 where
  pub long : length block ≡ BLOCK
  pub text : part 0 8 block ≡ codes "TEEVOLUM"
  pub version : part 8 4 block ≡ to_le_bytes w32 header.version
  pub blank : part 12 4 block ≡ replicate 4 0
  pub sequence : part 16 8 block ≡ le64 header.sequence
  pub root : IsEntry header.root (part 24 64 block)
  pub tag : part TAGGED 32 block ≡ header_tag key slot (take TAGGED block)
  pub rest : part 120 904 block ≡ replicate 904 0
