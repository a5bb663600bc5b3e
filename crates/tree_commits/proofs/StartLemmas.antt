-- Where a commit starts: some places are to have other bytes, and those above the leaves still have their own.
use Rattle.std.proofs.Common.{◌≡◌, ◌≤◌, ◌<◌, ◌*◌, ◌∙◌, ℕ, zero, suc, List, Option, None, Some, refl, ap, arith}
use Rattle.epoch.specs.Header.{entry_at}
use Rattle.epoch.specs.declared.header.TreeEntry.{TreeEntry}
use Rattle.tree_paths.specs.Shape.{IsShape, Shape}
use Rattle.tree_paths.specs.Tree.{Found, Look, damage_at, damage_below, entry_below, or_known, with_new}
use Rattle.epoch.proofs.EntryLemmas.{no_difference}
use Rattle.tree_paths.specs.Ways.{above, both_none, first_none, second_none}

-- the first bytes, where there are any, else the others
abbrev pub or_else : Option (List ℕ) → List ℕ → List ℕ
or_else (Some text) other = text
or_else None other = other

-- bytes that are known, or those that were found
or_known_text : (o : Option (List ℕ)) (x : TreeEntry) (f : Found) → (or_known o x f).text ≡ or_else o f.text
or_known_text None x f = refl
or_known_text (Some t) x f = refl

-- and which are the same, where those that are known are those that were found
true_text : (o : Option (List ℕ)) (text : List ℕ) → ((t : List ℕ) → o ≡ Some t → t ≡ text) → or_else o text ≡ text
true_text None text is = refl
true_text (Some t) text is = is t refl

known_damage : (o : Option (List ℕ)) (look : Look) (p : ℕ) (x : TreeEntry) → damage_at look p x ≡ None → damage_at (λ q y. or_known o y (look q y)) p x ≡ None
known_damage None look p x none = none
known_damage (Some t) look p x none = no_difference x.tag

module _ (s : Shape) (is : IsShape s) (look : Look) (root : TreeEntry) (fresh : ℕ → Option (List ℕ)) (depth : ℕ)
    (nodes : (level p : ℕ) (t : List ℕ) → p < s.places → s.level p ≡ level → level < depth → fresh p ≡ Some t → t ≡ (look p (entry_below s look root level p)).text) where
  -- each place has its entry
  pub entry_start : (level p : ℕ) → p < s.places → s.level p ≡ level → level ≤ depth → entry_below s (with_new fresh look) root level p ≡ entry_below s look root level p
  unfolding entry_below
  entry_start zero p inside at le = refl
  entry_start (suc level) p inside at le =
      let up = above s is level p inside at in
      let q : ℕ = s.parent p in
      ap (entry_at (64 * s.slot p))
      (or_known_text (fresh (s.parent p)) (entry_below s (with_new fresh look) root level (s.parent p)) (look (s.parent p) (entry_below s (with_new fresh look) root level (s.parent p)))
      ∙ ap (λ (x : TreeEntry). or_else (fresh (s.parent p)) (look (s.parent p) x).text) (entry_start level (s.parent p) up.1 up.0 (omega arith))
      ∙ true_text (fresh (s.parent p)) (look (s.parent p) (entry_below s look root level (s.parent p))).text
      (λ t has. nodes level (s.parent p) t up.1 up.0 (omega arith) has))

  -- and the bytes that it is to have, or its own
  pub text_start : (level p : ℕ) → p < s.places → s.level p ≡ level → level ≤ depth
      → (with_new fresh look p (entry_below s (with_new fresh look) root level p)).text ≡ or_else (fresh p) (look p (entry_below s look root level p)).text
  text_start level p inside at le =
      or_known_text (fresh p) (entry_below s (with_new fresh look) root level p) (look p (entry_below s (with_new fresh look) root level p))
      ∙ ap (λ (x : TreeEntry). or_else (fresh p) (look p x).text) (entry_start level p inside at le)

  damage_here : (level p : ℕ) → p < s.places → s.level p ≡ level → level ≤ depth → damage_at look p (entry_below s look root level p) ≡ None
      → damage_at (with_new fresh look) p (entry_below s (with_new fresh look) root level p) ≡ None
  damage_here level p inside at le none =
      ap (damage_at (with_new fresh look) p) (entry_start level p inside at le) ∙ known_damage (fresh p) look p (entry_below s look root level p) none

  -- no damage comes to any way
  pub damage_start : (level p : ℕ) → p < s.places → s.level p ≡ level → level ≤ depth → damage_below s look root level p ≡ None → damage_below s (with_new fresh look) root level p ≡ None
  unfolding damage_below entry_below
  damage_start zero p inside at le none = damage_here zero p inside at le none
  damage_start (suc level) p inside at le none =
      let up = above s is level p inside at in
      both_none (damage_below s (with_new fresh look) root level (s.parent p)) (damage_at (with_new fresh look) p (entry_below s (with_new fresh look) root (suc level) p))
      (damage_start level (s.parent p) up.1 up.0 (omega arith) (first_none (damage_below s look root level (s.parent p)) (damage_at look p (entry_below s look root (suc level) p)) none))
      (damage_here (suc level) p inside at le (second_none (damage_below s look root level (s.parent p)) (damage_at look p (entry_below s look root (suc level) p)) none))
