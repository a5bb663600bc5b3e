-- What the leaves of a volume of either version and their damage rest on: the laws of the form of both versions.
use Rattle.std.proofs.Common.{◌≡◌, ◌≤◌, ◌<◌, ◌+◌, ◌*◌, ◌==◌, ◌&&◌, ◌∙◌, if◌then◌else◌, ℕ, zero, suc, Bool, true, false, nat_lt, List, None, refl, sym, ap, subst, ⊎_elim, arith}
use Rattle.std.specs.Prelude.{is_ok, replicate}
use Rattle.std.proofs.lemmas.Bool.{cases_lt}
use Rattle.std.proofs.lemmas.Bool.Decides.{nat_tests}
use Rattle.tee_base.specs.Words.{Image, Key}
use Rattle.tee_base.specs.declared.limits.TheConstants.{MAX_HOSTS}
use Rattle.epoch.specs.Copies.{copy_of}
use Rattle.epoch.specs.Formats.{IsFormatOf}
use Rattle.epoch.specs.Forms.{IsBlankRoot, IsFramed, Root, all_below}
use Rattle.epoch.specs.declared.header.TreeEntry.{TreeEntry}
use Rattle.region_plan.specs.Layout.{layout}
use Rattle.region_plan.specs.Regions.{region_of}
use Rattle.region_plan.specs.declared.form.Form.TheVariants.{One}
use Rattle.v1_volume.specs.Renumbering.{converted_leaf}
use Rattle.tree_paths.specs.Form.{tree_form, tree_root, tree_uses}
use Rattle.tree_paths.specs.Frame.{copy_below, damage_same, form_framed, found_same, tree_framed, uses_by}
use Rattle.tree_paths.specs.Shape.{first_shape}
use Rattle.tree_paths.specs.Shapes.{is_first_shape}
use Rattle.tree_paths.specs.Tree.{Found, Look, block_at, entry_below, entry_of, on_image}
use Rattle.v1_volume.specs.Old.{old_damage, old_leaves}
use Rattle.v1_volume.specs.Versions.{all_stand, is_old, old_uses, volume_form}
use Rattle.v1_volume.specs.declared.versions.TheConstants.{VERSIONS}
use Rattle.v1_volume.specs.Taken.{sealed_taken}
use Rattle.v1_volume.specs.Ways.{no_damage, no_leaf, old_damaged, old_leaf}

is_itself : (k : ℕ) → (k == k) ≡ true
is_itself k = grind arith

both_true : (a b : Bool) → a ≡ true → b ≡ true → (a && b) ≡ true
both_true a b one two = rw (one, two) refl

and_false : (a b : Bool) → b ≡ false → (a && b) ≡ false
and_false true b is = is
and_false false b is = refl

-- tests that agree below a number
below_same : (n : ℕ) (p q : ℕ → Bool) → ((k : ℕ) → k < n → p k ≡ q k) → all_below n p ≡ all_below n q
unfolding all_below
below_same zero p q same = refl
below_same (suc n) p q same =
    let rest : all_below n p ≡ all_below n q = below_same n p q (λ k below. same k (omega arith)) in
    let last : p n ≡ q n = same n (omega arith) in
    rw (rest, last) refl

-- a copy of a place is among the blocks
inside_blocks : (p copy : ℕ) → p < 4369 → nat_lt (block_at first_shape p copy) 8742 ≡ true
inside_blocks p copy inside =
    let low : copy_of copy < 2 = copy_below copy in
    let less : 4 + 2 * p + copy_of copy < 8742 = omega (arith, low, inside) in
    grind (arith, nat_tests)

-- two images that have the same blocks of the ways to the leaves of the first version
module _ (key : Key) (root : TreeEntry) (base image : Image) (same : (k : ℕ) → old_uses (on_image first_shape key base) root k ≡ true → image k ≡ base k) where
  found_here : (level p : ℕ) → p < 4369 → first_shape.level p ≡ level
      → on_image first_shape key image p (entry_below first_shape (on_image first_shape key base) root level p)
      ≡ on_image first_shape key base p (entry_below first_shape (on_image first_shape key base) root level p)
  found_here level p inside at =
      let look : Look = on_image first_shape key base in
      let e : TreeEntry = entry_of first_shape look root p in
      let named : tree_uses first_shape look root (block_at first_shape p e.copy) ≡ true = uses_by first_shape look root p e.copy (omega arith) ∙ is_itself (copy_of e.copy) in
      let used : old_uses look root (block_at first_shape p e.copy) ≡ true
      = both_true (nat_lt (block_at first_shape p e.copy) 8742) (tree_uses first_shape look root (block_at first_shape p e.copy)) (inside_blocks p e.copy inside) named in
      let block : image (block_at first_shape p e.copy) ≡ base (block_at first_shape p e.copy) = same (block_at first_shape p e.copy) used in
      let here : on_image first_shape key image p e ≡ look p e = rw block refl in
      subst (λ (l : ℕ). on_image first_shape key image p (entry_below first_shape look root l p) ≡ look p (entry_below first_shape look root l p)) at here

  place_inside : (region leaf : ℕ) → region < 16 → leaf < 256 → first_shape.leaf_place region leaf < 4369
  place_inside region leaf r l = is_first_shape.leaf_inside region leaf r l

  -- each leaf is the same
  pub leaves_same : (region : ℕ) → region < 16 → old_leaves (on_image first_shape key image) root region ≡ old_leaves (on_image first_shape key base) root region
  leaves_same region r = λ j leaf. one leaf j
    where
      one : (leaf : ℕ) → old_leaves (on_image first_shape key image) root region leaf ≡ old_leaves (on_image first_shape key base) root region leaf
      one leaf =
          ⊎_elim
          (λ (low : leaf < 256).
          let place : ℕ = first_shape.leaf_place region leaf in
          old_leaf (on_image first_shape key image) root region leaf low
          ∙ ap (λ (f : Found). f.text)
          (found_same first_shape is_first_shape (on_image first_shape key base) (on_image first_shape key image) root found_here (first_shape.level place) place (place_inside region leaf r low) refl)
          ∙ sym (old_leaf (on_image first_shape key base) root region leaf low))
          (λ (past : 256 ≤ leaf). no_leaf (on_image first_shape key image) root region leaf past ∙ sym (no_leaf (on_image first_shape key base) root region leaf past))
          (cases_lt leaf 256)

  -- and so is its damage
  pub damages_same : (region leaf : ℕ) → region < 16 → old_damage (on_image first_shape key image) root region leaf ≡ old_damage (on_image first_shape key base) root region leaf
  damages_same region leaf r =
      ⊎_elim
      (λ (low : leaf < 256).
      let place : ℕ = first_shape.leaf_place region leaf in
      old_damaged (on_image first_shape key image) root region leaf low
      ∙ damage_same first_shape is_first_shape (on_image first_shape key base) (on_image first_shape key image) root found_here (first_shape.level place) place (place_inside region leaf r low) refl
      ∙ sym (old_damaged (on_image first_shape key base) root region leaf low))
      (λ (past : 256 ≤ leaf). no_damage (on_image first_shape key image) root region leaf past ∙ sym (no_damage (on_image first_shape key base) root region leaf past))
      (cases_lt leaf 256)

  -- and whether each region stands for a store
  pub stand_same : all_stand (old_leaves (on_image first_shape key image) root) ≡ all_stand (old_leaves (on_image first_shape key base) root)
  stand_same =
      below_same MAX_HOSTS _ _ (λ region r. ap (λ (l : ℕ → List ℕ). is_ok (region_of (layout One) l)) (leaves_same region r))

-- a root that a blank board may have isn't of the first version
blank_new : (root : Root) → IsBlankRoot volume_form root → is_old root ≡ false
blank_new root none = ap (λ (v : ℕ). v == 1) none.version

blank_tree : (root : Root) → IsBlankRoot volume_form root → IsBlankRoot tree_form root
blank_tree root none = record { version = none.version; sequence = none.sequence }

-- the leaves of either version and their damage rest on the blocks that the ways use
pub volume_framed : IsFramed volume_form
volume_framed = record {
  same_damage = λ key root base image region leaf same r l.
      elim (is_old root) as (λ b. ((k : ℕ) → (if b then old_uses (on_image first_shape key base) root.entry k else tree_form.uses key base root k) ≡ true → image k ≡ base k)
      → (if b then old_damage (on_image first_shape key image) root.entry region leaf else tree_form.damage key image root region leaf)
      ≡ (if b then old_damage (on_image first_shape key base) root.entry region leaf else tree_form.damage key base root region leaf)) [
        | true ↦ λ s. damages_same key root.entry base image s region leaf r
        | false ↦ λ s. form_framed.same_damage key root base image region leaf s r l
      ] same;
  same_leaf = λ key root base image region leaf same r l.
      elim (is_old root) as (λ b. ((k : ℕ) → (if b then old_uses (on_image first_shape key base) root.entry k else tree_form.uses key base root k) ≡ true → image k ≡ base k)
      → (if b then converted_leaf (old_leaves (on_image first_shape key image) root.entry region) leaf else tree_form.leaf key image root region leaf)
      ≡ (if b then converted_leaf (old_leaves (on_image first_shape key base) root.entry region) leaf else tree_form.leaf key base root region leaf)) [
        | true ↦ λ s. ap (λ (old : ℕ → List ℕ). converted_leaf old leaf) (leaves_same key root.entry base image s region r)
        | false ↦ λ s. form_framed.same_leaf key root base image region leaf s r l
      ] same;
  same_sound = λ key root base image same.
      elim (is_old root) as (λ b. ((k : ℕ) → (if b then old_uses (on_image first_shape key base) root.entry k else tree_form.uses key base root k) ≡ true → image k ≡ base k)
      → (if b then all_stand (old_leaves (on_image first_shape key image) root.entry) else tree_form.sound key image root)
      ≡ (if b then all_stand (old_leaves (on_image first_shape key base) root.entry) else tree_form.sound key base root)) [
        | true ↦ λ s. stand_same key root.entry base image s
        | false ↦ λ s. form_framed.same_sound key root base image s
      ] same;
  behind = λ key root image k low.
      elim (is_old root) as (λ b. (if b then old_uses (on_image first_shape key image) root.entry k else tree_form.uses key image root k) ≡ false) [
        | true ↦ and_false (nat_lt k 8742) (tree_uses first_shape (on_image first_shape key image) root.entry k)
            ((tree_framed first_shape is_first_shape).behind key (tree_root first_shape root.entry) image k low)
        | false ↦ form_framed.behind key root image k low
      ];
  slots = form_framed.slots;
  accepted = refl;
  no_damage = λ key root image region leaf none r l.
      subst (λ (b : Bool).
      (if b then old_damage (on_image first_shape key image) root.entry region leaf else tree_form.damage key image root region leaf) ≡ None)
      (sym (blank_new root none)) (form_framed.no_damage key root image region leaf (blank_tree root none) r l);
  zeros = λ key root image region leaf none r l.
      subst (λ (b : Bool).
      (if b then converted_leaf (old_leaves (on_image first_shape key image) root.entry region) leaf else tree_form.leaf key image root region leaf) ≡ replicate 1024 0)
      (sym (blank_new root none)) (form_framed.zeros key root image region leaf (blank_tree root none) r l);
  blank_sound = λ key root image none.
      subst (λ (b : Bool).
      (if b then all_stand (old_leaves (on_image first_shape key image) root.entry) else tree_form.sound key image root) ≡ true)
      (sym (blank_new root none)) (form_framed.blank_sound key root image (blank_tree root none));
  no_refusal = sealed_taken;
}

-- the versions and the blocks that an opening takes are those of the form
pub volume_format : IsFormatOf volume_form VERSIONS
volume_format = record { known = refl; blocks = refl }
