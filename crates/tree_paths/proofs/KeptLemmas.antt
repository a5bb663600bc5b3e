-- What is kept of the nodes of a tree, and what a read adds to it.
use Rattle.std.proofs.Common.{◌≡◌, ◌<◌, ◌⊎◌, ◌∙◌, ℕ, suc, List, ◌∷◌, None, Some, refl, sym, ap, subst, ⊎_elim}
use Rattle.node_cache.specs.Kept.{HoldsNothing, kept_at}
use Rattle.node_cache.specs.declared.cache.Kept.{Kept}
use Rattle.board.specs.Moment.{View}
use Rattle.epoch.specs.declared.header.TreeEntry.{TreeEntry}
use Rattle.tree_paths.specs.declared.way.Passed.{Passed}
use Rattle.tree_paths.specs.Kept.{AreKept, ArePassed, IsFound, IsFoundUnder}
use Rattle.tree_paths.specs.Shape.{IsShape, Shape}
use Rattle.tree_paths.specs.Tree.{Look, damage_above, damage_at, damage_below, damage_of, entry_below, entry_of, on_image, text_of}
use Rattle.tree_paths.specs.Ways.{above, second_none}
use Rattle.tree_paths.proofs.ReadLemmas.{damage_split, entry_top}

module _ (s : Shape) (look : Look) (root : TreeEntry) where
  -- where nothing is kept, nothing else is
  pub nothing_kept : (pairs : List (ℕ × Kept)) → HoldsNothing pairs → AreKept s look root pairs
  nothing_kept pairs nothing = record {
    each = λ place tag node has. absurd (let both : None ≡ Some node = sym (nothing.nowhere place tag) ∙ has in cc);
  }

  module _ (level place : ℕ) (e : TreeEntry) (at : s.level place ≡ level) (is : e ≡ entry_below s look root level place) where
    same : e ≡ entry_of s look root place
    same = is ∙ ap (λ (l : ℕ). entry_below s look root l place) (sym at)

    -- what is kept of a place is what its entry names
    pub found_under : (pairs : List (ℕ × Kept)) → AreKept s look root pairs → IsFoundUnder pairs look place e
    found_under pairs kept node has =
        let found : IsFound s look root place e.tag node = kept.each place e.tag node has in
        let own : damage_at look place (entry_of s look root place) ≡ None
        = second_none (damage_above s look root (s.level place) place) (damage_at look place (entry_of s look root place))
        (sym (damage_split s look root (s.level place) place) ∙ found.sound) in (
          found.text ∙ ap (λ (x : TreeEntry). (look place x).text) (sym same),
          ap (damage_at look place) same ∙ own,
        )

    -- a node that was verified, with all that is above it, is what reads give
    pub found_here : (node : List ℕ) → node ≡ (look place e).text → damage_below s look root level place ≡ None → IsFound s look root place e.tag node
    found_here node text none = record {
      tag = ap (λ (x : TreeEntry). x.tag) same;
      text = text ∙ ap (λ (x : TreeEntry). (look place x).text) same;
      sound = ap (λ (l : ℕ). damage_below s look root l place) at ∙ none;
    }

  -- one more node that was found
  pub passed_more : (passed : Passed) (old new : List Passed) → (new ≡ old) ⊎ (new ≡ passed ∷ old) → IsFound s look root passed.place passed.tag passed.node
      → ArePassed s look root old → ArePassed s look root new
  passed_more passed old new step found are =
      ⊎_elim
      (λ (e : new ≡ old). subst (ArePassed s look root) (sym e) are)
      (λ (e : new ≡ passed ∷ old). subst (ArePassed s look root) (sym e) (found, are))
      step

  -- one more node that is kept
  pub kept_more : (place : ℕ) (tag node : List ℕ) (old new : List (ℕ × Kept))
      → ((p : ℕ) (t n : List ℕ) → kept_at new p t ≡ Some n → (kept_at old p t ≡ Some n) ⊎ ((p ≡ place) × (t ≡ tag) × (n ≡ node)))
      → IsFound s look root place tag node → AreKept s look root old → AreKept s look root new
  kept_more place tag node old new others found are = record {
    each = λ p t n has.
        ⊎_elim
        (λ (was : kept_at old p t ≡ Some n). are.each p t n was)
        (λ (e : (p ≡ place) × (t ≡ tag) × (n ≡ node)). record {
          tag = e.1 ∙ found.tag ∙ ap (λ (q : ℕ). (entry_of s look root q).tag) (sym e.0);
          text = e.2 ∙ found.text ∙ ap (text_of s look root) (sym e.0);
          sound = ap (damage_of s look root) e.0 ∙ found.sound;
        })
        (others p t n has);
  }

-- how far the place above a place lies below the root
pub level_up : (s : Shape) → IsShape s → (level k place up : ℕ) → suc k ≡ level → up ≡ s.parent place → place < s.places → s.level place ≡ level → s.level up ≡ k
level_up s is level k place up one parent inside at = ap s.level parent ∙ (above s is k place inside (at ∙ sym one)).0

-- what is kept of the place above a place, where reads stayed as they were
pub under_read : (s : Shape) → IsShape s → (key : List ℕ) (one two : ℕ → List ℕ) (root : TreeEntry) (pairs : List (ℕ × Kept)) (level k place up : ℕ) (e : TreeEntry)
    → suc k ≡ level → up ≡ s.parent place → place < s.places → s.level place ≡ level → e ≡ entry_below s (on_image s key one) root k up → two ≡ one
    → AreKept s (on_image s key one) root pairs → IsFoundUnder pairs (on_image s key two) up e
under_read s is key one two root pairs level k place up e more parent inside at entry same kept =
    subst (λ (reads : ℕ → List ℕ). IsFoundUnder pairs (on_image s key reads) up e) (sym same)
    (found_under s (on_image s key one) root k up e (level_up s is level k place up more parent inside at) entry pairs kept)

-- what is kept of the root
pub found_top : (s : Shape) (look : Look) (root : TreeEntry) (pairs : List (ℕ × Kept)) (place : ℕ) → s.level place ≡ 0 → AreKept s look root pairs → IsFoundUnder pairs look place root
found_top s look root pairs place at kept = found_under s look root 0 place root at (entry_top s look root 0 place refl) pairs kept

module _ (s : Shape) (key : List ℕ) (one two : ℕ → List ℕ) (same : two ≡ one) (root : TreeEntry) (pairs : List (ℕ × Kept)) (kept : AreKept s (on_image s key one) root pairs) where
  -- what is kept where reads stayed as they were
  pub kept_as : AreKept s (on_image s key two) root pairs
  kept_as = subst (λ (reads : ℕ → List ℕ). AreKept s (on_image s key reads) root pairs) (sym same) kept

  -- and what is kept of one place
  pub under_as : (place : ℕ) (e : TreeEntry) → e ≡ entry_of s (on_image s key one) root place → IsFoundUnder pairs (on_image s key two) place e
  under_as place e is =
      subst (λ (reads : ℕ → List ℕ). IsFoundUnder pairs (on_image s key reads) place e) (sym same)
      (found_under s (on_image s key one) root (s.level place) place e refl is pairs kept)

-- by the key and the reads of another view
pub kept_now : (s : Shape) (old new : View) (root : TreeEntry) (pairs : List (ℕ × Kept)) → new.key ≡ old.key → new.state.reads ≡ old.state.reads
    → AreKept s (on_image s old.key old.state.reads) root pairs → AreKept s (on_image s new.key new.state.reads) root pairs
kept_now s old new root pairs key reads kept =
    subst (λ (k : List ℕ). AreKept s (on_image s k new.state.reads) root pairs) (sym key) (kept_as s old.key old.state.reads new.state.reads reads root pairs kept)
