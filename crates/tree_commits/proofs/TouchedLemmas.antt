-- The places that a commit touches, when an entry is put into one of them.
use Rattle.std.proofs.Common.{◌≡◌, ◌≢◌, ◌≤◌, ◌<◌, ◌+◌, ◌*◌, ◌==◌, ◌∙◌, ℕ, suc, Bool, true, false, List, [], ◌∷◌}
use Rattle.std.proofs.Common.{Option, None, Some, IsSome, ◌++◌, length, map, take, drop, append-nil, refl, sym, ap, subst, ⊎_elim, arith}
use Rattle.std.proofs.lemmas.Bool.{cases_eq, false≢true}
use Rattle.std.specs.Prelude.{reverse}
use Rattle.std.proofs.lemmas.List.{drop_all, map-append, reverse-append, take_all}
use Rattle.epoch.specs.Header.{entry_at}
use Rattle.epoch.specs.Parts.{with_bytes_at}
use Rattle.epoch.proofs.EntryLemmas.{entries_apart, entry_other}
use Rattle.epoch.proofs.HeaderLemmas.{length-patched}
use Rattle.tree_commits.specs.declared.touched.Node.{Node}
use Rattle.tree_paths.specs.Shape.{Shape}
use Rattle.tree_commits.specs.Touched.{AreOrdered, AreSpare, all_with_bytes, fresh_of, spare_block, with_bytes}

module _ (node : Node) (nodes : List Node) (place : ℕ) where
  -- the bytes of the first node
  pub fresh_head : node.place ≡ place → fresh_of (node ∷ nodes) place ≡ Some node.bytes
  fresh_head same = let t : (node.place == place) ≡ true = grind arith in rw t refl

  -- and of those behind it
  pub fresh_tail : node.place ≢ place → fresh_of (node ∷ nodes) place ≡ fresh_of nodes place
  fresh_tail ne = let t : (node.place == place) ≡ false = grind arith in rw t refl

module _ (place at : ℕ) (bytes : List ℕ) where
  -- a node with new bytes in it
  abbrev patched_node : Node → Node
  patched_node node = record { place = node.place; copy = node.copy; bytes = with_bytes_at at bytes node.bytes }

  pub with_here : (node : Node) → node.place ≡ place → with_bytes place at bytes node ≡ patched_node node
  with_here node same = let t : (node.place == place) ≡ true = grind arith in rw t refl

  pub with_other : (node : Node) → node.place ≢ place → with_bytes place at bytes node ≡ node
  with_other node ne = let t : (node.place == place) ≡ false = grind arith in rw t refl

  place_kept : (node : Node) → (with_bytes place at bytes node).place ≡ node.place
  place_kept node =
      ⊎_elim (λ (e : node.place ≡ place). ap (λ (n : Node). n.place) (with_here node e)) (λ (ne : node.place ≢ place). ap (λ (n : Node). n.place) (with_other node ne)) (cases_eq node.place place)

  copy_kept : (node : Node) → (with_bytes place at bytes node).copy ≡ node.copy
  copy_kept node =
      ⊎_elim (λ (e : node.place ≡ place). ap (λ (n : Node). n.copy) (with_here node e)) (λ (ne : node.place ≢ place). ap (λ (n : Node). n.copy) (with_other node ne)) (cases_eq node.place place)

  -- the bytes of the place
  pub put_here : (nodes : List Node) (t : List ℕ) → fresh_of nodes place ≡ Some t → fresh_of (all_with_bytes place at bytes nodes) place ≡ Some (with_bytes_at at bytes t)
  put_here [] t is = absurd (cc)
  put_here (node ∷ nodes) t is =
      ⊎_elim
      (λ (e : node.place ≡ place).
      let same : node.bytes ≡ t = (let both : Some node.bytes ≡ Some t = sym (fresh_head node nodes place e) ∙ is in cc) in
      fresh_head (with_bytes place at bytes node) (all_with_bytes place at bytes nodes) place (place_kept node ∙ e)
      ∙ ap (λ (n : Node). Some n.bytes) (with_here node e) ∙ ap (λ (b : List ℕ). Some (with_bytes_at at bytes b)) same)
      (λ (ne : node.place ≢ place).
      fresh_tail (with_bytes place at bytes node) (all_with_bytes place at bytes nodes) place (λ e. ne (sym (place_kept node) ∙ e))
      ∙ put_here nodes t (sym (fresh_tail node nodes place ne) ∙ is))
      (cases_eq node.place place)

  -- those of another
  pub put_other : (q : ℕ) → q ≢ place → (nodes : List Node) → fresh_of (all_with_bytes place at bytes nodes) q ≡ fresh_of nodes q
  put_other q ne [] = refl
  put_other q ne (node ∷ nodes) =
      ⊎_elim
      (λ (e : node.place ≡ q).
      fresh_head (with_bytes place at bytes node) (all_with_bytes place at bytes nodes) q (place_kept node ∙ e)
      ∙ ap (λ (n : Node). Some n.bytes) (with_other node (λ (same : node.place ≡ place). ne (sym e ∙ same))) ∙ sym (fresh_head node nodes q e))
      (λ (apart : node.place ≢ q).
      fresh_tail (with_bytes place at bytes node) (all_with_bytes place at bytes nodes) q (λ e. apart (sym (place_kept node) ∙ e))
      ∙ put_other q ne nodes ∙ sym (fresh_tail node nodes q apart))
      (cases_eq node.place q)

  -- a place that isn't among them isn't afterwards
  pub none_kept : (q : ℕ) (nodes : List Node) → fresh_of nodes q ≡ None → fresh_of (all_with_bytes place at bytes nodes) q ≡ None
  none_kept q [] none = refl
  none_kept q (node ∷ nodes) none =
      ⊎_elim
      (λ (e : node.place ≡ q). absurd (let both : Some node.bytes ≡ None = sym (fresh_head node nodes q e) ∙ none in cc))
      (λ (apart : node.place ≢ q).
      fresh_tail (with_bytes place at bytes node) (all_with_bytes place at bytes nodes) q (λ e. apart (sym (place_kept node) ∙ e))
      ∙ none_kept q nodes (sym (fresh_tail node nodes q apart) ∙ none))
      (cases_eq node.place q)

  -- and one that is, is still
  pub some_kept : (q : ℕ) (nodes : List Node) → IsSome (fresh_of nodes q) → IsSome (fresh_of (all_with_bytes place at bytes nodes) q)
  some_kept q nodes has = elim (fresh_of nodes q) as (λ o. fresh_of nodes q ≡ o → IsSome o → IsSome (fresh_of (all_with_bytes place at bytes nodes) q)) [
    | None ↦ λ is none. absurd (false≢true none)
    | Some t ↦ λ is some.
        ⊎_elim
        (λ (e : q ≡ place).
        subst (λ (o : Option (List ℕ)). IsSome o)
        (sym (subst (λ (r : ℕ). fresh_of (all_with_bytes place at bytes nodes) r ≡ Some (with_bytes_at at bytes t)) (sym e) (put_here nodes t (ap (fresh_of nodes) (sym e) ∙ is)))) refl)
        (λ (ne : q ≢ place). subst (λ (o : Option (List ℕ)). IsSome o) (sym (put_other q ne nodes ∙ is)) refl)
        (cases_eq q place)
  ] refl has

  long_kept : (node : Node) → at + length bytes ≤ 1024 → length node.bytes ≡ 1024 → length (with_bytes place at bytes node).bytes ≡ 1024
  long_kept node fits long =
      ⊎_elim
      (λ (e : node.place ≡ place). ap (λ (n : Node). length n.bytes) (with_here node e) ∙ length-patched at bytes node.bytes (omega (arith, fits, long)) ∙ long)
      (λ (ne : node.place ≢ place). ap (λ (n : Node). length n.bytes) (with_other node ne) ∙ long)
      (cases_eq node.place place)

  -- they stand in their order still
  pub order_kept : (s : Shape) (nodes : List Node) → at + length bytes ≤ 1024 → AreOrdered s nodes → AreOrdered s (all_with_bytes place at bytes nodes)
  order_kept s [] fits are = are
  order_kept s (node ∷ []) fits are = (place_kept node ∙ are.0, long_kept node fits are.1)
  order_kept s (node ∷ next ∷ nodes) fits are = (
    subst (λ (p : ℕ). 0 < p) (sym (place_kept node)) are.0,
    long_kept node fits are.1,
    subst (λ (p : ℕ). p < s.places) (sym (place_kept node)) are.2,
    subst (λ (p : ℕ). fresh_of (all_with_bytes place at bytes (next ∷ nodes)) p ≡ None) (sym (place_kept node)) (none_kept node.place (next ∷ nodes) are.3),
    subst (λ (p : ℕ). IsSome (fresh_of (all_with_bytes place at bytes (next ∷ nodes)) (s.parent p))) (sym (place_kept node)) (some_kept (s.parent node.place) (next ∷ nodes) are.4),
    order_kept s (next ∷ nodes) fits are.5,
  )

  -- and their spare copies are the same blocks
  pub spare_kept : (s : Shape) (open_at : ℕ → Bool) (nodes : List Node) → AreSpare s open_at nodes → AreSpare s open_at (all_with_bytes place at bytes nodes)
  spare_kept s open_at [] are = are
  spare_kept s open_at (node ∷ nodes) are =
      (same_block node are.0, spare_kept s open_at nodes are.1)
    where
      same_block : (node : Node) → open_at (spare_block s node) ≡ true → open_at (spare_block s (with_bytes place at bytes node)) ≡ true
      same_block node is =
          ⊎_elim
          (λ (e : node.place ≡ place). ap (λ (n : Node). open_at (spare_block s n)) (with_here node e) ∙ is)
          (λ (ne : node.place ≢ place). ap (λ (n : Node). open_at (spare_block s n)) (with_other node ne) ∙ is)
          (cases_eq node.place place)

  -- and there are as many
  pub length_kept : (nodes : List Node) → length (all_with_bytes place at bytes nodes) ≡ length nodes
  length_kept [] = refl
  length_kept (node ∷ nodes) = ap suc (length_kept nodes)

-- a node's bytes are a block
pub long_of : (s : Shape) (nodes : List Node) (q : ℕ) (t : List ℕ) → AreOrdered s nodes → fresh_of nodes q ≡ Some t → length t ≡ 1024
long_of s [] q t are is = absurd are
long_of s (node ∷ []) q t are is =
    ⊎_elim
    (λ (e : node.place ≡ q). (let both : Some node.bytes ≡ Some t = sym (fresh_head node [] q e) ∙ is in let same : node.bytes ≡ t = cc in ap length (sym same) ∙ are.1))
    (λ (ne : node.place ≢ q). absurd (let both : None ≡ Some t = sym (fresh_tail node [] q ne) ∙ is in cc))
    (cases_eq node.place q)
long_of s (node ∷ next ∷ nodes) q t are is =
    ⊎_elim
    (λ (e : node.place ≡ q). (let both : Some node.bytes ≡ Some t = sym (fresh_head node (next ∷ nodes) q e) ∙ is in let same : node.bytes ≡ t = cc in ap length (sym same) ∙ are.1))
    (λ (ne : node.place ≢ q). long_of s (next ∷ nodes) q t are.5 (sym (fresh_tail node (next ∷ nodes) q ne) ∙ is))
    (cases_eq node.place q)

map_reverse : (f : Node → Node) (nodes : List Node) → map f (reverse nodes) ≡ reverse (map f nodes)
map_reverse f [] = refl
map_reverse f (node ∷ nodes) =
    ap (map f) (reverse-append (node ∷ []) nodes) ∙ map-append f (reverse nodes) (node ∷ []) ∙ ap (λ (l : List Node). l ++ f node ∷ []) (map_reverse f nodes)
    ∙ sym (reverse-append (f node ∷ []) (map f nodes))

-- all nodes have the bytes, in the order in which they are written
pub all_put : (place at : ℕ) (bytes : List ℕ) (items after nodes : List Node) (n : ℕ) → length items ≤ n
    → after ≡ map (with_bytes place at bytes) (take n items) ++ drop n items → nodes ≡ reverse items → reverse after ≡ all_with_bytes place at bytes nodes
all_put place at bytes items after nodes n all is view =
    let f : Node → Node = with_bytes place at bytes in
    let whole : map f (take n items) ++ drop n items ≡ map f items
    = ap (λ (l : List Node). map f l ++ drop n items) (take_all n items all) ∙ ap (λ (l : List Node). map f items ++ l) (drop_all n items all) ∙ append-nil (map f items) in
    ap reverse (is ∙ whole) ∙ sym (map_reverse f items) ∙ ap (map f) (sym view)

-- the entry at another number stays where one is put
pub entries_other : (n number : ℕ) (bytes old new : List ℕ) → length bytes ≡ 64 → 64 * number + 64 ≤ length old → n ≢ number → new ≡ with_bytes_at (64 * number) bytes old
    → entry_at (64 * n) new ≡ entry_at (64 * n) old
entries_other n number bytes old new long fits ne patch =
    entry_other (64 * n) (64 * number) bytes old new long fits (entries_apart n number ne) patch
