-- Two ways from one root, without damage: where equal tags come from equal messages they have the same bytes.
use Rattle.std.proofs.Common.{◌≡◌, ◌*◌, ◌==◌, ◌++◌, ◌∙◌, if◌then◌else◌, ℕ, zero, suc, Bool, true, false, List, [], ◌∷◌, None, replicate, refl, sym, ap, subst}
use Rattle.seal.specs.Sealing.{le64, plaintext, seal_tag}
use Rattle.epoch.specs.Header.{entry_at}
use Rattle.epoch.specs.declared.header.TreeEntry.{TreeEntry}
use Rattle.tree_paths.specs.Identify.{CodeIdentifies, message_on}
use Rattle.tree_paths.specs.Laws.{AgreesWhereIdentified}
use Rattle.tree_paths.specs.Shape.{Shape}
use Rattle.tree_paths.specs.Tree.{Found, block_at, damage_at, damage_below, entry_below, entry_of_known, on_image, unless_zero}
use Rattle.tree_paths.specs.Ways.{agree, first_none, second_none}

-- what follows the same list is the same
cancelled : (a b c : List ℕ) → a ++ b ≡ a ++ c → b ≡ c
cancelled [] b c same = same
cancelled (x ∷ a) b c same = cancelled a b c (let e : a ++ b ≡ a ++ c = cc in e)

module _ (s : Shape) (key : List ℕ) (found kept : ℕ → List ℕ) where
  -- equal tags come from the same block
  same_block : (p : ℕ) (x : TreeEntry) → seal_tag key p x.sequence x.iv (found (block_at s p x.copy)) ≡ x.tag → seal_tag key p x.sequence x.iv (kept (block_at s p x.copy)) ≡ x.tag
      → CodeIdentifies key (message_on s found p x) (message_on s kept p x) → found (block_at s p x.copy) ≡ kept (block_at s p x.copy)
  unfolding seal_tag
  same_block p x one two identifies =
      cancelled x.iv (found (block_at s p x.copy)) (kept (block_at s p x.copy))
      (cancelled (le64 x.sequence) (x.iv ++ found (block_at s p x.copy)) (x.iv ++ kept (block_at s p x.copy))
      (cancelled (le64 p) (le64 x.sequence ++ x.iv ++ found (block_at s p x.copy)) (le64 x.sequence ++ x.iv ++ kept (block_at s p x.copy))
      (identifies (one ∙ sym two))))

  -- what an entry names on an image, by whether its sequence is 0
  abbrev named : (ℕ → List ℕ) → ℕ → TreeEntry → Bool → Found
  named image p x b =
      if b then entry_of_known (replicate 1024 0) x
      else (record { tag = seal_tag key p x.sequence x.iv (image (block_at s p x.copy)); text = plaintext key x.iv (image (block_at s p x.copy)) })

  -- the same entry on both images, without damage
  same_here : (p : ℕ) (x : TreeEntry) → damage_at (on_image s key found) p x ≡ None → damage_at (on_image s key kept) p x ≡ None
      → CodeIdentifies key (message_on s found p x) (message_on s kept p x) → (on_image s key found p x).text ≡ (on_image s key kept p x).text
  unfolding unless_zero
  same_here p x one two identifies =
      elim (x.sequence == 0) as (λ b. (named found p x b).tag ≡ x.tag → (named kept p x b).tag ≡ x.tag → (named found p x b).text ≡ (named kept p x b).text) [
        | true ↦ λ one two. refl
        | false ↦ λ one two. ap (plaintext key x.iv) (same_block p x one two identifies)
      ] (agree (on_image s key found p x).tag x.tag one) (agree (on_image s key kept p x).tag x.tag two)

pub agrees : AgreesWhereIdentified
unfolding entry_below damage_below
agrees s key found kept root zero p one two identifies = (refl, same_here s key found kept p root one two identifies)
agrees s key found kept root (suc level) p one two identifies =
    let above = agrees s key found kept root level (s.parent p)
    (first_none (damage_below s (on_image s key found) root level (s.parent p)) (damage_at (on_image s key found) p (entry_below s (on_image s key found) root (suc level) p)) one)
    (first_none (damage_below s (on_image s key kept) root level (s.parent p)) (damage_at (on_image s key kept) p (entry_below s (on_image s key kept) root (suc level) p)) two)
    identifies.0 in
    let same : entry_below s (on_image s key found) root (suc level) p ≡ entry_below s (on_image s key kept) root (suc level) p = ap (entry_at (64 * s.slot p)) above.1 in
    let here : damage_at (on_image s key kept) p (entry_below s (on_image s key found) root (suc level) p) ≡ None
    = ap (damage_at (on_image s key kept) p) same
    ∙ second_none (damage_below s (on_image s key kept) root level (s.parent p)) (damage_at (on_image s key kept) p (entry_below s (on_image s key kept) root (suc level) p)) two in
    let identifies_here : CodeIdentifies key (message_on s found p (entry_below s (on_image s key found) root (suc level) p))
    (message_on s kept p (entry_below s (on_image s key found) root (suc level) p))
    = subst (λ (x : TreeEntry). CodeIdentifies key (message_on s found p (entry_below s (on_image s key found) root (suc level) p)) (message_on s kept p x)) (sym same) identifies.1 in (
      same,
      same_here s key found kept p (entry_below s (on_image s key found) root (suc level) p)
          (second_none (damage_below s (on_image s key found) root level (s.parent p)) (damage_at (on_image s key found) p (entry_below s (on_image s key found) root (suc level) p)) one)
          here identifies_here
          ∙ ap (λ (x : TreeEntry). (on_image s key kept p x).text) same,
    )
