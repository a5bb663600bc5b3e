-- One step of a commit: the bytes of a place are found under a new entry, which stands in the node above.
use Rattle.std.proofs.Common.{◌≡◌, ◌≢◌, ◌<◌, ◌*◌, ◌∙◌, ℕ, zero, suc, List, Option, None, refl, sym, ap, subst, ⊎_elim, arith}
use Rattle.std.proofs.lemmas.Bool.{cases_eq}
use Rattle.store_api.specs.declared.answer.Mismatch.{Mismatch}
use Rattle.epoch.specs.Header.{entry_at}
use Rattle.epoch.specs.declared.header.TreeEntry.{TreeEntry}
use Rattle.tree_paths.specs.Shape.{IsShape, Shape}
use Rattle.epoch.specs.Copies.{difference, first_damage}
use Rattle.tree_paths.specs.Tree.{Found, Look, damage_at, damage_below, entry_below, entry_of_known}
use Rattle.epoch.proofs.EntryLemmas.{no_difference}
use Rattle.tree_paths.specs.Ways.{above, is_root}

-- bytes that are known have no damage
pub known_damage : (look : Look) (p : ℕ) (x : TreeEntry) (text : List ℕ) → look p x ≡ entry_of_known text x → damage_at look p x ≡ None
known_damage look p x text is = ap (λ (f : Found). difference f.tag x.tag) is ∙ no_difference x.tag

-- the bytes that are known of a place, by another name of it
pub known_text : (look : Look) (p q : ℕ) (x : TreeEntry) (text : List ℕ) → q ≡ p → look p x ≡ entry_of_known text x → (look q x).text ≡ text
known_text look p q x text same is = subst (λ (r : ℕ). (look r x).text ≡ text) (sym same) (ap (λ (f : Found). f.text) is)

module _ (s : Shape) (is : IsShape s) (old new : Look) (root : TreeEntry) (p : ℕ) (e : TreeEntry) (under : 0 < p) (inside : p < s.places) (tp tq tq' : List ℕ)
    (old_here : (x : TreeEntry) → old p x ≡ entry_of_known tp x) (new_here : new p e ≡ entry_of_known tp e)
    (old_above : (x : TreeEntry) → old (s.parent p) x ≡ entry_of_known tq x) (new_above : (x : TreeEntry) → new (s.parent p) x ≡ entry_of_known tq' x)
    (put : entry_at (64 * s.slot p) tq' ≡ e) (others_put : (n : ℕ) → n < 16 → n ≢ s.slot p → entry_at (64 * n) tq' ≡ entry_at (64 * n) tq)
    (others : (r : ℕ) → r ≢ p → r ≢ s.parent p → (x : TreeEntry) → new r x ≡ old r x) where
  -- the place has the new entry, and each other the one that it had
  abbrev Entries : ℕ → ℕ → Type 0
  Entries level r = (r ≢ p → entry_below s new root level r ≡ entry_below s old root level r) × (r ≡ p → entry_below s new root level r ≡ e)

  pub entries_after : (level r : ℕ) → s.level r ≡ level → r < s.places → Entries level r
  unfolding entry_below
  entries_after zero r at in_r =
      (λ (ne : r ≢ p). refl, λ (same : r ≡ p). absurd (let z : r ≡ 0 = is_root s is r in_r at in omega arith))
  entries_after (suc level) r at in_r =
      let up = above s is level r in_r at in
      let lower : s.parent r < r = is.before r up.2 in
      let ih : Entries level (s.parent r) = entries_after level (s.parent r) up.0 up.1 in
      ⊎_elim
      (λ (same : s.parent r ≡ p).
      let text : (new (s.parent r) (entry_below s new root level (s.parent r))).text ≡ (old (s.parent r) (entry_below s old root level (s.parent r))).text
      = ap (λ (x : TreeEntry). (new (s.parent r) x).text) (ih.1 same) ∙ known_text new p (s.parent r) e tp same new_here
      ∙ sym (known_text old p (s.parent r) (entry_below s old root level (s.parent r)) tp same (old_here (entry_below s old root level (s.parent r)))) in
      (λ (ne : r ≢ p). ap (entry_at (64 * s.slot r)) text, λ (this : r ≡ p). absurd (omega arith)))
      (λ (other : s.parent r ≢ p).
      ⊎_elim
      (λ (same : s.parent r ≡ s.parent p).
      let now : (new (s.parent r) (entry_below s new root level (s.parent r))).text ≡ tq'
      = known_text new (s.parent p) (s.parent r) (entry_below s new root level (s.parent r)) tq' same (new_above (entry_below s new root level (s.parent r))) in
      let was : (old (s.parent r) (entry_below s old root level (s.parent r))).text ≡ tq
      = known_text old (s.parent p) (s.parent r) (entry_below s old root level (s.parent r)) tq same (old_above (entry_below s old root level (s.parent r))) in (
        λ (ne : r ≢ p).
            ap (entry_at (64 * s.slot r)) now ∙ others_put (s.slot r) (is.fits r up.2) (λ (slots : s.slot r ≡ s.slot p). ne (is.apart r p up.2 under same slots))
            ∙ sym (ap (entry_at (64 * s.slot r)) was),
        λ (this : r ≡ p). ap (entry_at (64 * s.slot r)) now ∙ ap (λ (z : ℕ). entry_at (64 * s.slot z) tq') this ∙ put,
      ))
      (λ (apart : s.parent r ≢ s.parent p). (
        λ (ne : r ≢ p).
            ap (λ (x : TreeEntry). entry_at (64 * s.slot r) (new (s.parent r) x).text) (ih.0 other)
            ∙ ap (λ (f : Found). entry_at (64 * s.slot r) f.text) (others (s.parent r) other apart (entry_below s old root level (s.parent r))),
        λ (this : r ≡ p). absurd (apart (ap s.parent this)),
      ))
      (cases_eq (s.parent r) (s.parent p)))
      (cases_eq (s.parent r) p)

  -- no other bytes than those of the node above change
  pub texts_after : (level r : ℕ) → s.level r ≡ level → r < s.places → r ≢ s.parent p
      → (new r (entry_below s new root level r)).text ≡ (old r (entry_below s old root level r)).text
  texts_after level r at in_r ne =
      let entries : Entries level r = entries_after level r at in_r in
      ⊎_elim
      (λ (this : r ≡ p).
      ap (λ (x : TreeEntry). (new r x).text) (entries.1 this) ∙ known_text new p r e tp this new_here
      ∙ sym (known_text old p r (entry_below s old root level r) tp this (old_here (entry_below s old root level r))))
      (λ (other : r ≢ p).
      ap (λ (x : TreeEntry). (new r x).text) (entries.0 other) ∙ ap (λ (f : Found). f.text) (others r other ne (entry_below s old root level r)))
      (cases_eq r p)

  damage_step : (level r : ℕ) → s.level r ≡ level → r < s.places → damage_at new r (entry_below s new root level r) ≡ damage_at old r (entry_below s old root level r)
  damage_step level r at in_r =
      let entries : Entries level r = entries_after level r at in_r in
      ⊎_elim
      (λ (this : r ≡ p).
      ap (λ (x : TreeEntry). damage_at new r x) (entries.1 this)
      ∙ subst (λ (z : ℕ). damage_at new z e ≡ None) (sym this) (known_damage new p e tp new_here)
      ∙ sym (subst (λ (z : ℕ). damage_at old z (entry_below s old root level r) ≡ None) (sym this)
      (known_damage old p (entry_below s old root level r) tp (old_here (entry_below s old root level r)))))
      (λ (other : r ≢ p).
      ⊎_elim
      (λ (same : r ≡ s.parent p).
      subst (λ (z : ℕ). damage_at new z (entry_below s new root level r) ≡ None) (sym same)
      (known_damage new (s.parent p) (entry_below s new root level r) tq' (new_above (entry_below s new root level r)))
      ∙ sym (subst (λ (z : ℕ). damage_at old z (entry_below s old root level r) ≡ None) (sym same)
      (known_damage old (s.parent p) (entry_below s old root level r) tq (old_above (entry_below s old root level r)))))
      (λ (ne : r ≢ s.parent p).
      ap (λ (x : TreeEntry). damage_at new r x) (entries.0 other)
      ∙ ap (λ (f : Found). difference f.tag (entry_below s old root level r).tag) (others r other ne (entry_below s old root level r)))
      (cases_eq r (s.parent p)))
      (cases_eq r p)

  -- and no damage on any way
  pub damages_after : (level r : ℕ) → s.level r ≡ level → r < s.places → damage_below s new root level r ≡ damage_below s old root level r
  unfolding damage_below entry_below
  damages_after zero r at in_r = damage_step zero r at in_r
  damages_after (suc level) r at in_r =
      let up = above s is level r in_r at in
      ap (λ (d : Option Mismatch). first_damage d (damage_at new r (entry_below s new root (suc level) r))) (damages_after level (s.parent r) up.0 up.1)
      ∙ ap (first_damage (damage_below s old root level (s.parent r))) (damage_step (suc level) r at in_r)

-- the last step: the bytes of the root are found under a new entry
module _ (s : Shape) (is : IsShape s) (old new : Look) (root e : TreeEntry) (t : List ℕ)
    (old_here : (x : TreeEntry) → old 0 x ≡ entry_of_known t x) (new_here : new 0 e ≡ entry_of_known t e)
    (others : (r : ℕ) → r ≢ 0 → (x : TreeEntry) → new r x ≡ old r x) where
  root_entry : (level r : ℕ) → s.level r ≡ level → r < s.places → r ≢ 0 → entry_below s new e level r ≡ entry_below s old root level r
  unfolding entry_below
  root_entry zero r at in_r ne = absurd (ne (is_root s is r in_r at))
  root_entry (suc level) r at in_r ne =
      let up = above s is level r in_r at in
      ⊎_elim
      (λ (top : s.parent r ≡ 0).
      let level_is : 0 ≡ level = sym is.top ∙ ap s.level (sym top) ∙ up.0 in
      let now : (new (s.parent r) (entry_below s new e level (s.parent r))).text ≡ t
      = subst (λ (k : ℕ). (new (s.parent r) (entry_below s new e k (s.parent r))).text ≡ t) level_is (known_text new 0 (s.parent r) e t top new_here) in
      let was : (old (s.parent r) (entry_below s old root level (s.parent r))).text ≡ t
      = known_text old 0 (s.parent r) (entry_below s old root level (s.parent r)) t top (old_here (entry_below s old root level (s.parent r))) in
      ap (entry_at (64 * s.slot r)) (now ∙ sym was))
      (λ (other : s.parent r ≢ 0).
      ap (λ (x : TreeEntry). entry_at (64 * s.slot r) (new (s.parent r) x).text) (root_entry level (s.parent r) up.0 up.1 other)
      ∙ ap (λ (f : Found). entry_at (64 * s.slot r) f.text) (others (s.parent r) other (entry_below s old root level (s.parent r))))
      (cases_eq (s.parent r) 0)

  -- what stood under any root stands under it
  pub root_text : (level r : ℕ) → s.level r ≡ level → r < s.places → (new r (entry_below s new e level r)).text ≡ (old r (entry_below s old root level r)).text
  unfolding entry_below
  root_text zero r at in_r =
      let top : r ≡ 0 = is_root s is r in_r at in
      known_text new 0 r e t top new_here ∙ sym (known_text old 0 r root t top (old_here root))
  root_text (suc level) r at in_r =
      let up = above s is level r in_r at in
      let ne : r ≢ 0 = (λ (z : r ≡ 0). absurd (omega (arith, up.2))) in
      ap (λ (x : TreeEntry). (new r x).text) (root_entry (suc level) r at in_r ne) ∙ ap (λ (f : Found). f.text) (others r ne (entry_below s old root (suc level) r))

  pub root_damage : (level r : ℕ) → s.level r ≡ level → r < s.places → damage_below s new e level r ≡ damage_below s old root level r
  unfolding damage_below
  root_damage zero r at in_r =
      let top : r ≡ 0 = is_root s is r in_r at in
      subst (λ (z : ℕ). damage_at new z e ≡ damage_at old z root) (sym top) (known_damage new 0 e t new_here ∙ sym (known_damage old 0 root t (old_here root)))
  root_damage (suc level) r at in_r =
      let up = above s is level r in_r at in
      let ne : r ≢ 0 = (λ (z : r ≡ 0). absurd (omega (arith, up.2))) in
      let here : damage_at new r (entry_below s new e (suc level) r) ≡ damage_at old r (entry_below s old root (suc level) r)
      = ap (λ (x : TreeEntry). damage_at new r x) (root_entry (suc level) r at in_r ne)
      ∙ ap (λ (f : Found). difference f.tag (entry_below s old root (suc level) r).tag) (others r ne (entry_below s old root (suc level) r)) in
      ap (λ (d : Option Mismatch). first_damage d (damage_at new r (entry_below s new e (suc level) r))) (root_damage level (s.parent r) up.0 up.1)
      ∙ ap (first_damage (damage_below s old root level (s.parent r))) here
