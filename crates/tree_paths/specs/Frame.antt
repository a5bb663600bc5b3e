-- The laws of the form of a tree: what its leaves rest on, and what a root of sequence 0 stands for.
use Rattle.std.proofs.Common.{◌≡◌, ◌≤◌, ◌<◌, ◌+◌, ◌-◌, ◌*◌, ◌/◌, ◌%◌, ◌==◌, ◌∙◌, if◌then◌else◌, ℕ}
use Rattle.std.proofs.Common.{zero, suc, true, false, nat_lt, List, Option, None, take, replicate, refl, ap, subst, arith}
use Rattle.std.specs.Int.{w64, from_le_bytes}
use Rattle.std.proofs.lemmas.Bool.Decides.{nat_tests}
use Rattle.std.proofs.lemmas.List.{drop-replicate, take-replicate}
use Rattle.tee_base.specs.declared.limits.TheConstants.{BLOCK_BYTES}
use Rattle.store_api.specs.declared.answer.Mismatch.{Mismatch}
use Rattle.epoch.specs.Forms.{IsFramed}
use Rattle.epoch.specs.Header.{entry_at}
use Rattle.epoch.specs.Parts.{part}
use Rattle.epoch.specs.declared.header.TreeEntry.{TreeEntry}
use Rattle.tree_paths.specs.Form.{tree, tree_form, tree_uses}
use Rattle.tree_paths.specs.Shape.{IsShape, Shape, shape}
use Rattle.epoch.specs.Copies.{copy_of, difference, first_damage}
use Rattle.tree_paths.specs.Tree.{Found, Look, block_at, damage_at, damage_below, entry_below, entry_of, on_image}
use Rattle.tree_paths.specs.Shapes.{is_shape}
use Rattle.tree_paths.specs.Ways.{above, both_none, found_zero, zero_damage}
use Rattle.tee_base.specs.Words.{Image, Key}

-- two looks that find the same on the ways of one of them
module _ (s : Shape) (is : IsShape s) (one two : Look) (root : TreeEntry)
    (same : (level p : ℕ) → p < s.places → s.level p ≡ level → two p (entry_below s one root level p) ≡ one p (entry_below s one root level p)) where
  -- each place has the same entry
  pub entry_same : (level p : ℕ) → p < s.places → s.level p ≡ level → entry_below s two root level p ≡ entry_below s one root level p
  unfolding entry_below
  entry_same zero p inside at = refl
  entry_same (suc level) p inside at =
      let up = above s is level p inside at in
      ap (λ (e : TreeEntry). entry_at (64 * s.slot p) (two (s.parent p) e).text) (entry_same level (s.parent p) up.1 up.0)
      ∙ ap (λ (f : Found). entry_at (64 * s.slot p) f.text) (same level (s.parent p) up.1 up.0)

  -- what is found is the same
  pub found_same : (level p : ℕ) → p < s.places → s.level p ≡ level → two p (entry_below s two root level p) ≡ one p (entry_below s one root level p)
  found_same level p inside at = ap (two p) (entry_same level p inside at) ∙ same level p inside at

  damage_here : (level p : ℕ) → p < s.places → s.level p ≡ level → damage_at two p (entry_below s two root level p) ≡ damage_at one p (entry_below s one root level p)
  damage_here level p inside at =
      ap (λ (e : TreeEntry). difference (two p e).tag e.tag) (entry_same level p inside at)
      ∙ ap (λ (f : Found). difference f.tag (entry_below s one root level p).tag) (same level p inside at)

  -- and so is the damage on the way
  pub damage_same : (level p : ℕ) → p < s.places → s.level p ≡ level → damage_below s two root level p ≡ damage_below s one root level p
  unfolding damage_below entry_below
  damage_same zero p inside at = damage_here zero p inside at
  damage_same (suc level) p inside at =
      let up = above s is level p inside at in
      ap (λ (d : Option Mismatch). first_damage d (damage_at two p (entry_below s two root (suc level) p))) (damage_same level (s.parent p) up.1 up.0)
      ∙ ap (first_damage (damage_below s one root level (s.parent p))) (damage_here (suc level) p inside at)

-- a copy is 0 or 1
pub copy_below : (copy : ℕ) → copy_of copy < 2
copy_below copy = elim (copy == 0) as (λ b. (if b then 0 else 1) < 2) [ true ↦ omega arith | false ↦ omega arith ]

-- the place and the copy of a block
at_place : (f place b k : ℕ) → b < 2 → k ≡ f + 2 * place + b → (k - f) / 2 ≡ place
at_place f place b k below is = omega arith

at_copy : (f place b k : ℕ) → b < 2 → k ≡ f + 2 * place + b → (k - f) % 2 ≡ b
at_copy f place b k below is = omega arith

is_itself : (k : ℕ) → (k == k) ≡ true
is_itself k = grind arith

behind_slots : (f place b : ℕ) → 0 < f → nat_lt (f - 1) (f + 2 * place + b) ≡ true
behind_slots f place b some = grind (arith, nat_tests)

-- a block is used where the entry of its place names that copy
pub uses_by : (s : Shape) (look : Look) (root : TreeEntry) (place copy : ℕ) → 0 < s.first_block
    → tree_uses s look root (block_at s place copy) ≡ (copy_of copy == copy_of (entry_of s look root place).copy)
unfolding tree_uses
uses_by s look root place copy some =
    let below = copy_below copy in
    let at : (block_at s place copy - s.first_block) / 2 ≡ place = at_place s.first_block place (copy_of copy) (block_at s place copy) below refl in
    let which : (block_at s place copy - s.first_block) % 2 ≡ copy_of copy = at_copy s.first_block place (copy_of copy) (block_at s place copy) below refl in
    let behind : nat_lt (s.first_block - 1) (block_at s place copy) ≡ true = behind_slots s.first_block place (copy_of copy) some in
    rw (behind, at, which) refl

-- a piece of zeros
part_zeros : (at n total : ℕ) → at + n ≤ total → part at n (replicate total 0) ≡ replicate n 0
part_zeros at n total fits = ap (take n) (drop-replicate at total 0) ∙ take-replicate n (total - at) 0 (omega arith)

-- an entry of a node of zeros has the sequence 0
pub zero_entry : (n : ℕ) → n < 16 → (entry_at (64 * n) (replicate BLOCK_BYTES 0)).sequence ≡ 0
zero_entry n below = ap (from_le_bytes w64) (part_zeros (64 * n + 8) 8 BLOCK_BYTES (omega arith))

module _ (s : Shape) (is : IsShape s) (key : Key) where
  slots : 0 < s.first_block
  slots = omega (arith, is.behind)

  -- images that have the same blocks of the ways find the same there
  module _ (root : TreeEntry) (base image : Image) (same : (k : ℕ) → tree_uses s (on_image s key base) root k ≡ true → image k ≡ base k) where
    pub image_same : (level p : ℕ) → p < s.places → s.level p ≡ level
        → on_image s key image p (entry_below s (on_image s key base) root level p) ≡ on_image s key base p (entry_below s (on_image s key base) root level p)
    image_same level p inside at =
        let e : TreeEntry = entry_of s (on_image s key base) root p in
        let used : tree_uses s (on_image s key base) root (block_at s p e.copy) ≡ true = uses_by s (on_image s key base) root p e.copy slots ∙ is_itself (copy_of e.copy) in
        let block : image (block_at s p e.copy) ≡ base (block_at s p e.copy) = same (block_at s p e.copy) used in
        let here : on_image s key image p e ≡ on_image s key base p e = rw block refl in
        subst (λ (l : ℕ). on_image s key image p (entry_below s (on_image s key base) root l p) ≡ on_image s key base p (entry_below s (on_image s key base) root l p)) at here

  -- under a root of sequence 0 each entry has the sequence 0
  module _ (root : TreeEntry) (image : Image) (none : root.sequence ≡ 0) where
    zero_below : (level p : ℕ) → p < s.places → s.level p ≡ level → (entry_below s (on_image s key image) root level p).sequence ≡ 0
    unfolding entry_below
    zero_below zero p inside at = none
    zero_below (suc level) p inside at =
        let up = above s is level p inside at in
        let q : ℕ = s.parent p in
        ap (λ (f : Found). (entry_at (64 * s.slot p) f.text).sequence)
        (found_zero s key image (s.parent p) (entry_below s (on_image s key image) root level (s.parent p)) (zero_below level (s.parent p) up.1 up.0))
        ∙ zero_entry (s.slot p) (is.fits p up.2)

    zero_damages : (level p : ℕ) → p < s.places → s.level p ≡ level → damage_below s (on_image s key image) root level p ≡ None
    unfolding damage_below entry_below
    zero_damages zero p inside at = zero_damage s key image p root none
    zero_damages (suc level) p inside at =
        let up = above s is level p inside at in
        both_none (damage_below s (on_image s key image) root level (s.parent p)) (damage_at (on_image s key image) p (entry_below s (on_image s key image) root (suc level) p))
        (zero_damages level (s.parent p) up.1 up.0)
        (zero_damage s key image p (entry_below s (on_image s key image) root (suc level) p) (zero_below (suc level) p inside at))

low_unused : (f k : ℕ) → 3 < f → k < 4 → nat_lt (f - 1) k ≡ false
low_unused f k behind low = grind (arith, nat_tests)

-- the leaves and their damage rest on the blocks that the ways use
pub tree_framed : (s : Shape) → IsShape s → IsFramed (tree s)
unfolding tree_uses
tree_framed s is = record {
  same_damage = λ key root base image region leaf same r l.
      (let place : ℕ = s.leaf_place region leaf in
      damage_same s is (on_image s key base) (on_image s key image) root.entry (image_same s is key root.entry base image same) (s.level place) place (is.leaf_inside region leaf r l) refl);
  same_leaf = λ key root base image region leaf same r l.
      (let place : ℕ = s.leaf_place region leaf in
      ap (λ (f : Found). f.text)
      (found_same s is (on_image s key base) (on_image s key image) root.entry (image_same s is key root.entry base image same) (s.level place) place (is.leaf_inside region leaf r l) refl));
  same_sound = λ key root base image same. refl;
  behind = λ key root image k low.
      (let t : nat_lt (s.first_block - 1) k ≡ false = low_unused s.first_block k is.behind low in rw t refl);
  slots = omega (arith, is.behind);
  accepted = is_itself s.version;
  no_damage = λ key root image region leaf none r l.
      (let place : ℕ = s.leaf_place region leaf in
      zero_damages s is key root.entry image none.sequence (s.level place) place (is.leaf_inside region leaf r l) refl);
  zeros = λ key root image region leaf none r l.
      (let place : ℕ = s.leaf_place region leaf in
      ap (λ (f : Found). f.text)
      (found_zero s key image place (entry_of s (on_image s key image) root.entry place)
      (zero_below s is key root.entry image none.sequence (s.level place) place (is.leaf_inside region leaf r l) refl)));
  blank_sound = λ key root image none. refl;
  no_refusal = λ key root image sealed. refl;
}

-- the form that is written
pub form_framed : IsFramed tree_form
form_framed = tree_framed shape is_shape
