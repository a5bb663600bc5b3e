-- A node that is sealed into its spare copy, and its entry put into the node above: over the list of nodes and the image.
use Rattle.std.proofs.Common.{◌≡◌, ◌≢◌, ◌≤◌, ◌<◌, ◌+◌, ◌-◌, ◌*◌, ◌^◌, ◌∙◌, ℕ, suc, List, [], ◌∷◌, Option, None, Some, IsSome, length, refl, sym, ap, subst, arith}
use Rattle.std.proofs.lemmas.Bool.{false≢true}
use Rattle.epoch.specs.Header.{IsEntry, entry_at}
use Rattle.epoch.specs.Parts.{with_bytes_at}
use Rattle.epoch.specs.declared.header.TreeEntry.{TreeEntry}
use Rattle.tree_commits.specs.declared.touched.Node.{Node}
use Rattle.tree_paths.specs.Frame.{copy_below}
use Rattle.tree_paths.specs.Shape.{IsShape, Shape, shape}
use Rattle.tree_commits.specs.Touched.{AreOrdered, all_with_bytes, fresh_of, spare_block}
use Rattle.epoch.specs.Copies.{copy_of}
use Rattle.tree_paths.specs.Tree.{Found, Look, block_at, damage_below, entry_below, entry_of_known, on_image, or_known, with_new}
use Rattle.epoch.proofs.EntryLemmas.{entry_here}
use Rattle.tree_commits.proofs.TouchedLemmas.{entries_other, fresh_head, fresh_tail, long_of, none_kept, order_kept, put_here, put_other}
use Rattle.tree_commits.proofs.StepLemmas.{damages_after, root_damage, root_text, texts_after}

-- a block of another place is another block
pub other_block : (s : Shape) (p q a b : ℕ) → p ≢ q → block_at s p a ≢ block_at s q b
other_block s p q a b ne = λ same. numbers s.first_block p q (copy_of a) (copy_of b) (copy_below a) (copy_below b) ne same where
  numbers : (f p q x y : ℕ) → x < 2 → y < 2 → p ≢ q → f + 2 * p + x ≡ f + 2 * q + y → ⊥
  numbers f p q x y one two ne same = absurd (omega arith)

-- bytes that are known are found
fresh_known : (o : Option (List ℕ)) (t : List ℕ) (x : TreeEntry) (f : Found) → o ≡ Some t → or_known o x f ≡ entry_of_known t x
fresh_known o t x f is = ap (λ (p : Option (List ℕ)). or_known p x f) is

fresh_none : (o : Option (List ℕ)) (x : TreeEntry) (f : Found) → o ≡ None → or_known o x f ≡ f
fresh_none o x f is = ap (λ (p : Option (List ℕ)). or_known p x f) is

-- the bytes that are there
value : (o : Option (List ℕ)) → IsSome o → List ℕ
value None has = absurd (false≢true has)
value (Some t) has = t

value_is : (o : Option (List ℕ)) (has : IsSome o) → o ≡ Some (value o has)
unfolding value
value_is None has = absurd (false≢true has)
value_is (Some t) has = refl

module _ (s : Shape) (key : List ℕ) (old new : ℕ → List ℕ) (node : Node) (elsewhere : (k : ℕ) → k ≢ spare_block s node → new k ≡ old k) where
  -- what stands at another place is found as before
  pub image_other : (r : ℕ) → r ≢ node.place → (x : TreeEntry) → on_image s key new r x ≡ on_image s key old r x
  image_other r ne x =
      let same : new (block_at s r x.copy) ≡ old (block_at s r x.copy) = elsewhere (block_at s r x.copy) (other_block s r node.place x.copy (1 - copy_of node.copy) ne) in
      rw same refl

module _ (s : Shape) (is : IsShape s) (key : List ℕ) (old new : ℕ → List ℕ) (node next : Node) (nodes : List Node) (e : TreeEntry) (bytes : List ℕ)
    (ordered : AreOrdered s (node ∷ next ∷ nodes)) (elsewhere : (k : ℕ) → k ≢ spare_block s node → new k ≡ old k)
    (found : on_image s key new node.place e ≡ entry_of_known node.bytes e) (entry : IsEntry e bytes) (copy : e.copy < 2 ^ 64) (sequence : e.sequence < 2 ^ 64) where
  -- what is found before the step, and after it
  abbrev before : Look
  before = with_new (fresh_of (node ∷ next ∷ nodes)) (on_image s key old)

  abbrev after : Look
  after = with_new (fresh_of (all_with_bytes (s.parent node.place) (64 * s.slot node.place) bytes (next ∷ nodes))) (on_image s key new)

  -- the bytes of the node above
  abbrev above_bytes : List ℕ
  above_bytes = value (fresh_of (next ∷ nodes) (s.parent node.place)) ordered.4

  above_is : fresh_of (next ∷ nodes) (s.parent node.place) ≡ Some above_bytes
  above_is = value_is (fresh_of (next ∷ nodes) (s.parent node.place)) ordered.4

  above_long : length above_bytes ≡ 1024
  above_long = long_of s (next ∷ nodes) (s.parent node.place) above_bytes ordered.5 above_is

  below_parent : s.parent node.place < node.place
  below_parent = is.before node.place ordered.0

  parent_apart : node.place ≢ s.parent node.place
  parent_apart = λ same. absurd (let b : s.parent node.place < node.place = below_parent in omega arith)

  fits : 64 * s.slot node.place + 64 ≤ 1024
  fits = let b : s.slot node.place < 16 = is.fits node.place ordered.0 in omega arith

  old_here : (x : TreeEntry) → before node.place x ≡ entry_of_known node.bytes x
  old_here x = fresh_known (fresh_of (node ∷ next ∷ nodes) node.place) node.bytes x (on_image s key old node.place x) (fresh_head node (next ∷ nodes) node.place refl)

  new_here : after node.place e ≡ entry_of_known node.bytes e
  new_here =
      fresh_none (fresh_of (all_with_bytes (s.parent node.place) (64 * s.slot node.place) bytes (next ∷ nodes)) node.place) e (on_image s key new node.place e)
      (none_kept (s.parent node.place) (64 * s.slot node.place) bytes node.place (next ∷ nodes) ordered.3) ∙ found

  old_above : (x : TreeEntry) → before (s.parent node.place) x ≡ entry_of_known above_bytes x
  old_above x =
      fresh_known (fresh_of (node ∷ next ∷ nodes) (s.parent node.place)) above_bytes x (on_image s key old (s.parent node.place) x)
      (fresh_tail node (next ∷ nodes) (s.parent node.place) parent_apart ∙ above_is)

  new_above : (x : TreeEntry) → after (s.parent node.place) x ≡ entry_of_known (with_bytes_at (64 * s.slot node.place) bytes above_bytes) x
  new_above x =
      fresh_known (fresh_of (all_with_bytes (s.parent node.place) (64 * s.slot node.place) bytes (next ∷ nodes)) (s.parent node.place)) (with_bytes_at (64 * s.slot node.place) bytes above_bytes) x
      (on_image s key new (s.parent node.place) x) (put_here (s.parent node.place) (64 * s.slot node.place) bytes (next ∷ nodes) above_bytes above_is)

  put : entry_at (64 * s.slot node.place) (with_bytes_at (64 * s.slot node.place) bytes above_bytes) ≡ e
  put = entry_here (64 * s.slot node.place) e bytes above_bytes (with_bytes_at (64 * s.slot node.place) bytes above_bytes) entry (omega (arith, fits, above_long)) refl copy sequence

  others_put : (n : ℕ) → n < 16 → n ≢ s.slot node.place → entry_at (64 * n) (with_bytes_at (64 * s.slot node.place) bytes above_bytes) ≡ entry_at (64 * n) above_bytes
  others_put n below ne =
      entries_other n (s.slot node.place) bytes above_bytes (with_bytes_at (64 * s.slot node.place) bytes above_bytes) entry.long (omega (arith, fits, above_long)) ne refl

  others : (r : ℕ) → r ≢ node.place → r ≢ s.parent node.place → (x : TreeEntry) → after r x ≡ before r x
  others r ne apart x =
      let fresh : fresh_of (all_with_bytes (s.parent node.place) (64 * s.slot node.place) bytes (next ∷ nodes)) r ≡ fresh_of (node ∷ next ∷ nodes) r
      = put_other (s.parent node.place) (64 * s.slot node.place) bytes r apart (next ∷ nodes) ∙ sym (fresh_tail node (next ∷ nodes) r (λ same. ne (sym same))) in
      ap (λ (o : Option (List ℕ)). or_known o x (on_image s key new r x)) fresh
      ∙ ap (or_known (fresh_of (node ∷ next ∷ nodes) r) x) (image_other s key old new node elsewhere r ne x)

  -- no damage changes
  pub step_damage : (root : TreeEntry) (level r : ℕ) → s.level r ≡ level → r < s.places → damage_below s after root level r ≡ damage_below s before root level r
  step_damage root =
      damages_after s is before after root node.place e ordered.0 ordered.2 node.bytes above_bytes (with_bytes_at (64 * s.slot node.place) bytes above_bytes)
      old_here new_here old_above new_above put others_put others

  -- and no leaf
  pub step_text : (root : TreeEntry) (level r : ℕ) → s.level r ≡ level → r < s.places → s.level node.place ≤ level
      → (after r (entry_below s after root level r)).text ≡ (before r (entry_below s before root level r)).text
  step_text root level r at inside deep =
      texts_after s is before after root node.place e ordered.0 ordered.2 node.bytes above_bytes (with_bytes_at (64 * s.slot node.place) bytes above_bytes)
      old_here new_here old_above new_above put others_put others level r at inside
      (λ same. absurd
      (let up : s.level node.place ≡ suc (s.level (s.parent node.place)) = is.below node.place ordered.0 ordered.2 in
      let level_same : s.level r ≡ s.level (s.parent node.place) = ap s.level same in
      omega arith))

-- the root, which is the last
module _ (s : Shape) (is : IsShape s) (key : List ℕ) (old new : ℕ → List ℕ) (node : Node) (e : TreeEntry) (top : node.place ≡ 0)
    (elsewhere : (k : ℕ) → k ≢ spare_block s node → new k ≡ old k) (found : on_image s key new node.place e ≡ entry_of_known node.bytes e) where
  abbrev last_before : Look
  last_before = with_new (fresh_of (node ∷ [])) (on_image s key old)

  last_old : (x : TreeEntry) → last_before 0 x ≡ entry_of_known node.bytes x
  last_old x = fresh_known (fresh_of (node ∷ []) 0) node.bytes x (on_image s key old 0 x) (fresh_head node [] 0 top)

  last_new : on_image s key new 0 e ≡ entry_of_known node.bytes e
  last_new = subst (λ (q : ℕ). on_image s key new q e ≡ entry_of_known node.bytes e) top found

  last_others : (r : ℕ) → r ≢ 0 → (x : TreeEntry) → on_image s key new r x ≡ last_before r x
  last_others r ne x =
      image_other s key old new node elsewhere r (λ same. ne (same ∙ top)) x
      ∙ sym (fresh_none (fresh_of (node ∷ []) r) x (on_image s key old r x) (fresh_tail node [] r (λ same. ne (sym same ∙ top))))

  pub last_damage : (root : TreeEntry) (level r : ℕ) → s.level r ≡ level → r < s.places → damage_below s (on_image s key new) e level r ≡ damage_below s last_before root level r
  last_damage root = root_damage s is last_before (on_image s key new) root e node.bytes last_old last_new last_others

  pub last_text : (root : TreeEntry) (level r : ℕ) → s.level r ≡ level → r < s.places
      → (on_image s key new r (entry_below s (on_image s key new) e level r)).text ≡ (last_before r (entry_below s last_before root level r)).text
  last_text root = root_text s is last_before (on_image s key new) root e node.bytes last_old last_new last_others

-- the root stands alone
pub last_is : (s : Shape) (node : Node) (rest : List Node) → AreOrdered s (node ∷ rest) → node.place ≡ 0 → rest ≡ []
last_is s node [] ordered top = refl
last_is s node (next ∷ nodes) ordered top = absurd (let b : 0 < node.place = ordered.0 in omega arith)

pub place_inside : (s : Shape) (node : Node) (rest : List Node) → 0 < s.places → AreOrdered s (node ∷ rest) → node.place < s.places
place_inside s node [] some ordered = omega (arith, ordered.0)
place_inside s node (next ∷ nodes) some ordered = ordered.2

-- what is left is in its order
pub rest_ordered : (s : Shape) (at : ℕ) (bytes : List ℕ) (node : Node) (rest : List Node) → at + length bytes ≤ 1024 → AreOrdered s (node ∷ rest) → node.place ≢ 0
    → AreOrdered s (all_with_bytes (s.parent node.place) at bytes rest)
rest_ordered s at bytes node [] room ordered ne = absurd (ne ordered.0)
rest_ordered s at bytes node (next ∷ nodes) room ordered ne = order_kept (s.parent node.place) at bytes s (next ∷ nodes) room ordered.5

module _ (s : Shape) (is : IsShape s) (key : List ℕ) (old new : ℕ → List ℕ) (node : Node) (e : TreeEntry) (bytes : List ℕ)
    (elsewhere : (k : ℕ) → k ≢ spare_block s node → new k ≡ old k)
    (found : on_image s key new node.place e ≡ entry_of_known node.bytes e) (entry : IsEntry e bytes) (copy : e.copy < 2 ^ 64) (sequence : e.sequence < 2 ^ 64) where
  -- one step, whatever is left
  pub more_damage : (rest : List Node) → AreOrdered s (node ∷ rest) → node.place ≢ 0 → (root : TreeEntry) (level r : ℕ) → s.level r ≡ level → r < s.places
      → damage_below s (with_new (fresh_of (all_with_bytes (s.parent node.place) (64 * s.slot node.place) bytes rest)) (on_image s key new)) root level r
      ≡ damage_below s (with_new (fresh_of (node ∷ rest)) (on_image s key old)) root level r
  more_damage [] ordered ne root level r at inside = absurd (ne ordered.0)
  more_damage (next ∷ nodes) ordered ne root level r at inside =
      step_damage s is key old new node next nodes e bytes ordered elsewhere found entry copy sequence root level r at inside

  pub more_text : (rest : List Node) → AreOrdered s (node ∷ rest) → node.place ≢ 0 → (root : TreeEntry) (level r : ℕ) → s.level r ≡ level → r < s.places → s.level node.place ≤ level
      → (with_new (fresh_of (all_with_bytes (s.parent node.place) (64 * s.slot node.place) bytes rest)) (on_image s key new) r
      (entry_below s (with_new (fresh_of (all_with_bytes (s.parent node.place) (64 * s.slot node.place) bytes rest)) (on_image s key new)) root level r)).text
      ≡ (with_new (fresh_of (node ∷ rest)) (on_image s key old) r (entry_below s (with_new (fresh_of (node ∷ rest)) (on_image s key old)) root level r)).text
  more_text [] ordered ne root level r at inside deep = absurd (ne ordered.0)
  more_text (next ∷ nodes) ordered ne root level r at inside deep =
      step_text s is key old new node next nodes e bytes ordered elsewhere found entry copy sequence root level r at inside deep

-- no copy lies before the first one
pub before_copies : (node : Node) (k : ℕ) → k < 8742 → k ≢ spare_block shape node
before_copies node k low = λ same. absurd (omega (arith, low, same))
