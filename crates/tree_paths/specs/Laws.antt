-- Laws of the ways from a root down.
use Rattle.std.specs.Prelude.{◌≡◌, ◌<◌, ℕ, List, None, replicate}
use Rattle.tee_base.specs.declared.limits.TheConstants.{BLOCK_BYTES, MAX_HOSTS}
use Rattle.epoch.specs.declared.header.TreeEntry.{TreeEntry}
use Rattle.tree_paths.specs.Identify.{TagsIdentify, message_on}
use Rattle.tree_paths.specs.Shape.{IsShape, Shape}
use Rattle.tree_paths.specs.Tree.{Look, damage_below, damage_of, entry_below, entry_of_known, on_image}
use Rattle.tree_paths.specs.Walk.{AreChildren, Children, first_wrong, visits}
use Rattle.tee_base.specs.Words.{Key}

-- nothing is looked up for an entry of sequence 0, which names zeros
abbrev pub SkipsZeros : Look → Type 0
SkipsZeros look = (place : ℕ) (entry : TreeEntry) → entry.sequence ≡ 0
    → look place entry ≡ entry_of_known (replicate BLOCK_BYTES 0) entry

-- where a walk from the root down finds nothing wrong, no place has a damage on its way
abbrev pub WalkFindsAll : Type 0
WalkFindsAll =
    (s : Shape) → IsShape s → (c : Children) (depth : ℕ) → AreChildren s c depth → (look : Look) → SkipsZeros look
    → (root : TreeEntry) → first_wrong look (visits c look depth 0 root) ≡ None
    → (place : ℕ) → place < s.places → damage_of s look root place ≡ None

-- where no leaf has a damage on its way, a walk from the root down finds nothing wrong
abbrev pub WalkIsExact : Type 0
WalkIsExact =
    (s : Shape) → IsShape s → (c : Children) (depth : ℕ) → AreChildren s c depth → (look : Look) → SkipsZeros look
    → (root : TreeEntry) → 0 < s.places
    → ((r l : ℕ) → r < MAX_HOSTS → l < s.leaves → damage_of s look root (s.leaf_place r l) ≡ None)
    → first_wrong look (visits c look depth 0 root) ≡ None

-- two images without a damage on the way from one root to a place, and equal tags there from equal messages: the same entry
-- names the same bytes
abbrev pub AgreesWhereIdentified : Type 0
AgreesWhereIdentified =
    (s : Shape) (key : Key) (found kept : ℕ → List ℕ) (root : TreeEntry) (level place : ℕ)
    → damage_below s (on_image s key found) root level place ≡ None
    → damage_below s (on_image s key kept) root level place ≡ None
    → TagsIdentify s key (on_image s key found) (on_image s key kept) (message_on s found) (message_on s kept) root level place
    → (entry_below s (on_image s key found) root level place ≡ entry_below s (on_image s key kept) root level place)
    × ((on_image s key found place (entry_below s (on_image s key found) root level place)).text
    ≡ (on_image s key kept place (entry_below s (on_image s key kept) root level place)).text)
