-- Tags that identify their messages: equal tags on two ways from one root come from equal messages.
use Rattle.std.specs.Prelude.{◌≡◌, ℕ, zero, suc, List, ◌++◌}
use Rattle.mac_digest.specs.Hmac.{hmac_of}
use Rattle.mac_digest.specs.declared.digests.Hash.TheVariants.{Sha256}
use Rattle.seal.specs.Sealing.{le64, tag_key}
use Rattle.epoch.specs.declared.header.TreeEntry.{TreeEntry}
use Rattle.tree_paths.specs.Shape.{Shape}
use Rattle.tree_paths.specs.Tree.{Look, block_at, entry_below, on_image}
use Rattle.tee_base.specs.Words.{Image, Key}

-- the message of a tag, by place and entry
abbrev pub Messages : Type 0
Messages = ℕ → TreeEntry → List ℕ

-- that of the block of an entry's copy on an image
abbrev pub message_on : Shape → Image → Messages
message_on s image place entry =
    le64 place ++ le64 entry.sequence ++ entry.iv ++ image (block_at s place entry.copy)

-- equal codes of these two messages come from equal messages
abbrev pub CodeIdentifies : Key → List ℕ → List ℕ → Type 0
CodeIdentifies key found kept =
    hmac_of Sha256 (tag_key key) found ≡ hmac_of Sha256 (tag_key key) kept → found ≡ kept

module _ (s : Shape) (key : Key) (found kept : Look) (found_message kept_message : Messages)
    (root : TreeEntry) where
  -- it is so at each place on the way to one so far below the root
  abbrev pub TagsIdentify : ℕ → ℕ → Type 0
  TagsIdentify zero place = CodeIdentifies key (found_message place root) (kept_message place root)
  TagsIdentify (suc level) place =
      TagsIdentify level (s.parent place)
      × CodeIdentifies key (found_message place (entry_below s found root (suc level) place))
      (kept_message place (entry_below s kept root (suc level) place))

-- so it is on the ways to a place on two images
abbrev pub ImagesIdentify : Shape → Key → (ℕ → List ℕ) → (ℕ → List ℕ) → TreeEntry → ℕ → Type 0
ImagesIdentify s key found kept root place =
    TagsIdentify s key (on_image s key found) (on_image s key kept) (message_on s found)
    (message_on s kept) root (s.level place) place
