-- The way from a root down to a place: each entry stands in the node above, over what is found at each place.
use Rattle.std.specs.Prelude.{ℕ, zero, suc, ◌+◌, ◌*◌, ◌==◌, if◌then◌else◌, List, Option, Some, None, replicate}
use Rattle.tee_base.specs.declared.limits.TheConstants.{BLOCK_BYTES}
use Rattle.store_api.specs.declared.answer.Mismatch.{Mismatch}
use Rattle.seal.specs.Sealing.{plaintext, seal_tag}
use Rattle.epoch.specs.Copies.{copy_of, difference, first_damage}
use Rattle.epoch.specs.Header.{entry_at}
use Rattle.epoch.specs.declared.header.TreeEntry.{TreeEntry}
use Rattle.tree_paths.specs.declared.places.TheConstants.{ENTRY_BYTES}
use Rattle.tree_paths.specs.Shape.{Shape}
use Rattle.tee_base.specs.Words.{Image, Key, Text}

-- the block of a copy of a place
abbrev pub block_at : Shape → ℕ → ℕ → ℕ
block_at s place copy = s.first_block + 2 * place + copy_of copy

-- what is found at a place: the tag that it has, and the bytes that it stands for
pub record Found : Type 0 where
  pub tag : List ℕ
  pub text : Text

-- what is found by a place and the entry that names it
abbrev pub Look : Type 0
Look = ℕ → TreeEntry → Found

-- bytes that are known to be the ones that an entry names
abbrev pub entry_of_known : Text → TreeEntry → Found
entry_of_known text entry = record { tag = entry.tag; text = text }

-- an entry of sequence 0 names zeros, and nothing is looked up for it
unfoldable pub unless_zero : TreeEntry → Found → Found
unless_zero entry found = if entry.sequence == 0 then entry_of_known (replicate BLOCK_BYTES 0) entry else found

-- what is found on an image, under a board's key: the block of the entry's copy
abbrev pub on_image : Shape → Key → Image → Look
on_image s key image place entry = unless_zero entry (record {
  tag = seal_tag key place entry.sequence entry.iv (image (block_at s place entry.copy));
  text = plaintext key entry.iv (image (block_at s place entry.copy));
})

-- bytes that are known, else what is found
abbrev pub or_known : Option (List ℕ) → TreeEntry → Found → Found
or_known None entry found = found
or_known (Some text) entry found = entry_of_known text entry

-- what is found where some places are to have other bytes, whatever their entries
abbrev pub with_new : (ℕ → Option (List ℕ)) → Look → Look
with_new fresh look place entry = or_known (fresh place) entry (look place entry)

-- the damage of a place under its entry
abbrev pub damage_at : Look → ℕ → TreeEntry → Option Mismatch
damage_at look place entry = difference (look place entry).tag entry.tag

module _ (s : Shape) (look : Look) (root : TreeEntry) where
  -- the entry of a place so far below the root: it stands in the node that the place is an entry of
  unfoldable pub entry_below : ℕ → ℕ → TreeEntry
  entry_below zero place = root
  entry_below (suc level) place =
      entry_at (ENTRY_BYTES * s.slot place) (look (s.parent place) (entry_below level (s.parent place))).text

  -- the first damage on the way from the root down to a place, the place's own included
  unfoldable pub damage_below : ℕ → ℕ → Option Mismatch
  damage_below zero place = damage_at look place root
  damage_below (suc level) place =
      first_damage (damage_below level (s.parent place)) (damage_at look place (entry_below (suc level) place))

  -- and without it
  abbrev pub damage_above : ℕ → ℕ → Option Mismatch
  damage_above zero place = None
  damage_above (suc level) place = damage_below level (s.parent place)

  -- the entry of a place
  abbrev pub entry_of : ℕ → TreeEntry
  entry_of place = entry_below (s.level place) place

  -- the first damage on the way to it
  abbrev pub damage_of : ℕ → Option Mismatch
  damage_of place = damage_below (s.level place) place

  -- the bytes that it stands for
  abbrev pub text_of : ℕ → List ℕ
  text_of place = (look place (entry_of place)).text
