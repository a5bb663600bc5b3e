-- What the inodes of a region tell of its store.
use Rattle.std.proofs.Common.{◌≡◌, ◌<◌, ℕ, Bool, true, false, cond, not, List, [], ◌∷◌, length, map, take, drop, Option, None, Some}
use Rattle.std.proofs.Common.{find, option_map, option_copied, Bor, Result, Ok, Err, refl, sym, ◌∙◌, ap, subst}
use Rattle.std.specs.Prelude.{◌&&◌, if◌then◌else◌}
use Rattle.std.specs.List.{All}
use Rattle.std.specs.Str.{bytes_eq}
use Rattle.std.specs.Ordering.{is_eq, is_lt}
use Rattle.std.specs.Cmp.{both_ways, tied_itself}
use Rattle.std.specs.Cmp.Lexicographic.{nat_list_cmp_total}
use Rattle.std.specs.FinMap as finite
use Rattle.std.proofs.lemmas.Slice.Eq.{bytes_eq-Decides}
use Rattle.std.proofs.lemmas.List.Elements.{All-head, All-tail, filter_passes}
use Rattle.std.proofs.lemmas.List.FromFn.{length-map-range_with_len}
use Rattle.store_api.specs.declared.object.Object.{Object}
use Rattle.store_api.specs.Stores.{Store, object_at, is_after, with_object, facts_of, found, secret_at, read_at, listing_answer, next_after}
use Rattle.store_api.specs.declared.object.Facts.{Facts}
use Rattle.store_api.specs.declared.object.Listed.{Listed}
use Rattle.store_api.specs.declared.answer.StoreAnswer.{StoreAnswer}
use Rattle.store_api.specs.declared.answer.StoreAnswer.TheVariants.{NotFound}
use Rattle.store_api.proofs.Costs.{by_bytes, tied_same, equal}
use Rattle.region_plan.specs.Layout.{Layout}
use Rattle.region_plan.specs.Inodes.{identifier_in, secret_in, inode_of, length_in}
use Rattle.region_plan.specs.Regions.{numbers, inodes_of, store_of, object_of, inode_numbers, content_of, byte_at}
use Rattle.region_plan.specs.Entries.{is_inode}
use Rattle.region_plan.specs.Locating.{Locates}
use Rattle.region_plan.specs.Tables.{inode_with, inode_facts, best_after, is_better}
use Rattle.region_plan.proofs.NextLemmas.{merged, find_put, after_upward}
use Rattle.region_plan.specs.declared.inode.Inode.{Inode}

abbrev pub Entries : Type 0
Entries = List (List ℕ × Object)

-- to be the same and to tie are one
pub same_is_tied : (x q : List ℕ) → bytes_eq x q ≡ is_eq (by_bytes q x)
same_is_tied x q =
    both_ways (bytes_eq x q) (is_eq (by_bytes q x))
    (λ e. let same : x ≡ q = (bytes_eq-Decides x q).0 e in subst (λ y. is_eq (by_bytes q y) ≡ true) (sym same) (ap is_eq (tied_itself nat_list_cmp_total q)))
    (λ e. let same : q ≡ x = tied_same q x (equal _ e) in (bytes_eq-Decides x q).1 (sym same))

abbrev facts_with : ℕ → ℕ → ℕ → ℕ → Facts
facts_with kind usage secret long = record { kind = kind; usage = usage; secret = secret; length = long }

abbrev pub listed_as : List ℕ → Facts → Result Listed StoreAnswer
listed_as id facts = Ok (record { id = id; facts = facts })

module _ (L : Layout) (leaves : ℕ → List ℕ) where
  abbrev told : ℕ → Inode
  told i = inode_of i (leaves i)

  abbrev kept : ℕ → List ℕ × Object
  kept i = (identifier_in (leaves i), object_of L leaves i)

  abbrev objects : List ℕ → Store
  objects ns = finite.from_entries (map kept ns)

  -- what stands under the identifier of an inode
  abbrev pub entry_for : Inode → List ℕ × Object
  entry_for inode = (inode.id, object_of L leaves inode.number)

  told_id : (i : ℕ) → (told i).id ≡ identifier_in (leaves i)
  unfolding inode_of
  told_id i = refl

  told_number : (i : ℕ) → (told i).number ≡ i
  unfolding inode_of
  told_number i = refl

  find_told : (q : List ℕ) (ns : List ℕ) → finite.find by_bytes q (map kept ns) ≡ option_map (λ inode. object_of L leaves inode.number) (find (λ inode. bytes_eq inode.id q) (map told ns))
  find_told q [] = refl
  find_told q (i ∷ ns) =
      let same : bytes_eq (told i).id q ≡ is_eq (by_bytes q (identifier_in (leaves i))) = ap (λ x. bytes_eq x q) (told_id i) ∙ same_is_tied (identifier_in (leaves i)) q in
      let rest = find_told q ns in
      let number = told_number i in
      elim (bytes_eq (told i).id q) as (λ b. b ≡ is_eq (by_bytes q (identifier_in (leaves i))) → cond (is_eq (by_bytes q (identifier_in (leaves i)))) (Some (object_of L leaves i))
      (finite.find by_bytes q (map kept ns)) ≡ option_map (λ inode. object_of L leaves inode.number)
      (cond b (Some (told i)) (find (λ inode. bytes_eq inode.id q) (map told ns)))) [
        | true ↦ λ e. ap (λ b. cond b (Some (object_of L leaves i)) (finite.find by_bytes q (map kept ns))) (sym e) ∙ ap (λ (n : ℕ). Some (object_of L leaves n)) (sym number)
        | false ↦ λ e. ap (λ b. cond b (Some (object_of L leaves i)) (finite.find by_bytes q (map kept ns))) (sym e) ∙ rest
      ] same

  -- the object of an identifier is that of the inode that tells of it
  pub object_is : (q : List ℕ) → object_at (store_of L leaves) q ≡ option_map (λ inode. object_of L leaves inode.number) (inode_with q (inodes_of L leaves))
  unfolding store_of inodes_of
  object_is q = finite.get-from_entries nat_list_cmp_total (map kept (inode_numbers L leaves)) q ∙ find_told q (inode_numbers L leaves)

  -- an inode that was found is what its leaf tells
  find_is_told : (p : Inode → Bool) (ns : List ℕ) (inode : Inode) → find p (map told ns) ≡ Some inode → inode ≡ told inode.number
  find_is_told p [] inode is = cc
  find_is_told p (i ∷ ns) inode is =
      elim (p (told i)) as (λ b. cond b (Some (told i)) (find p (map told ns)) ≡ Some inode → inode ≡ told inode.number) [
        | true ↦ λ e. let same : told i ≡ inode = cc in sym same ∙ ap told (sym (told_number i) ∙ ap (λ (x : Inode). x.number) same)
        | false ↦ λ e. find_is_told p ns inode e
      ] is

  pub found_is_told : (q : List ℕ) (inode : Inode) → inode_with q (inodes_of L leaves) ≡ Some inode → inode ≡ told inode.number
  unfolding inodes_of
  found_is_told q inode is = find_is_told (λ x. bytes_eq x.id q) (inode_numbers L leaves) inode is

  pub length_content : (i : ℕ) → length (content_of L leaves i) ≡ length_in (leaves i)
  unfolding content_of
  length_content i = length-map-range_with_len (λ at. byte_at L leaves i at) 0 (length_in (leaves i))

  -- an inode that was found is one
  find_is_inode : (p : Inode → Bool) (ns : List ℕ) (inode : Inode) → All (λ i. is_inode L leaves i ≡ true) ns → find p (map told ns) ≡ Some inode → is_inode L leaves inode.number ≡ true
  find_is_inode p [] inode all is = cc
  find_is_inode p (i ∷ ns) inode all is =
      elim (p (told i)) as (λ b. cond b (Some (told i)) (find p (map told ns)) ≡ Some inode → is_inode L leaves inode.number ≡ true) [
        | true ↦ λ e.
            let same : told i ≡ inode = cc in
            let number : i ≡ inode.number = sym (told_number i) ∙ ap (λ (x : Inode). x.number) same in
            subst (λ (n : ℕ). is_inode L leaves n ≡ true) number (All-head (λ (n : ℕ). is_inode L leaves n ≡ true) i ns all)
        | false ↦ λ e. find_is_inode p ns inode (All-tail (λ (n : ℕ). is_inode L leaves n ≡ true) i ns all) e
      ] is

  pub found_is_inode : (q : List ℕ) (inode : Inode) → inode_with q (inodes_of L leaves) ≡ Some inode → is_inode L leaves inode.number ≡ true
  unfolding inodes_of inode_numbers
  found_is_inode q inode is = find_is_inode (λ x. bytes_eq x.id q) (inode_numbers L leaves) inode (filter_passes (λ i. is_inode L leaves i) (numbers L)) is

  pub found_id : (q : List ℕ) (inode : Inode) → inode_with q (inodes_of L leaves) ≡ Some inode → inode.id ≡ q
  found_id q inode is = (bytes_eq-Decides inode.id q).0 (passes (λ x. bytes_eq x.id q) (inodes_of L leaves) inode is)
    where
      passes : (p : Inode → Bool) (xs : List Inode) (x : Inode) → find p xs ≡ Some x → p x ≡ true
      passes p [] x e = cc
      passes p (y ∷ ys) x e =
          elim (p y) as (λ b. p y ≡ b → cond b (Some y) (find p ys) ≡ Some x → p x ≡ true) [
            | true ↦ λ t e'. let same : y ≡ x = cc in subst (λ z. p z ≡ true) same t
            | false ↦ λ t e'. passes p ys x e'
          ] refl e

  facts_same : (inode : Inode) → inode ≡ told inode.number → facts_of (object_of L leaves inode.number) ≡ inode_facts inode
  unfolding object_of inode_of
  facts_same inode is =
      ap (λ (n : ℕ). facts_with (told inode.number).kind (told inode.number).usage (length (secret_in (leaves inode.number))) n) (length_content inode.number)
      ∙ sym (ap inode_facts is)

  -- what is told of an object, where an inode has the identifier, and where none has
  pub facts_told : (q : List ℕ) (inode : Inode) → inode_with q (inodes_of L leaves) ≡ Some inode → found (store_of L leaves) q ≡ Ok (inode_facts inode)
  facts_told q inode is =
      ap (λ r. with_object r (λ o. Ok (facts_of o))) (object_is q ∙ ap (option_map (λ (x : Inode). object_of L leaves x.number)) is)
      ∙ ap (λ f. Ok f) (facts_same inode (found_is_told q inode is))

  pub absent_is : {A : Type 0} (f : Object → Result A StoreAnswer) (q : List ℕ) → inode_with q (inodes_of L leaves) ≡ None → with_object (object_at (store_of L leaves) q) f ≡ Err NotFound
  absent_is f q is = ap (λ r. with_object r f) (object_is q ∙ ap (option_map (λ (x : Inode). object_of L leaves x.number)) is)

  secret_same : (n : ℕ) → (object_of L leaves n).secret ≡ (told n).secret
  unfolding object_of inode_of
  secret_same n = refl

  content_same : (n : ℕ) → (object_of L leaves n).content ≡ content_of L leaves n
  unfolding object_of
  content_same n = refl

  length_same : (n : ℕ) → (told n).length ≡ length_in (leaves n)
  unfolding inode_of
  length_same n = refl

  pub secret_told : (q : List ℕ) (inode : Inode) → inode_with q (inodes_of L leaves) ≡ Some inode → secret_at (store_of L leaves) q ≡ Ok inode.secret
  secret_told q inode is =
      ap (λ r. with_object r (λ o. Ok o.secret)) (object_is q ∙ ap (option_map (λ (x : Inode). object_of L leaves x.number)) is)
      ∙ ap (λ s. Ok s) (secret_same inode.number ∙ sym (ap (λ (x : Inode). x.secret) (found_is_told q inode is)))

  pub content_told : (q : List ℕ) (inode : Inode) (from count : ℕ) → inode_with q (inodes_of L leaves) ≡ Some inode →
      read_at (store_of L leaves) q from count ≡ Ok (take count (drop from (content_of L leaves inode.number)))
  content_told q inode from count is =
      ap (λ r. with_object r (λ o. Ok (take count (drop from o.content)))) (object_is q ∙ ap (option_map (λ (x : Inode). object_of L leaves x.number)) is)
      ∙ ap (λ c. Ok (take count (drop from c))) (content_same inode.number)

  pub length_told : (q : List ℕ) (inode : Inode) → inode_with q (inodes_of L leaves) ≡ Some inode → inode.length ≡ length_in (leaves inode.number)
  length_told q inode is = ap (λ (x : Inode). x.length) (found_is_told q inode is) ∙ length_same inode.number

  -- an inode leaf that was found
  pub located : (q : List ℕ) (inode : Inode) → inode.number < L.leaves → inode_with q (inodes_of L leaves) ≡ Some inode → Locates L leaves (store_of L leaves) q (Ok inode.number)
  located q inode below is = (
    below,
    found_is_inode q inode is,
    sym (told_id inode.number) ∙ sym (ap (λ (x : Inode). x.id) (found_is_told q inode is)) ∙ found_id q inode is,
    object_is q ∙ ap (option_map (λ (x : Inode). object_of L leaves x.number)) is,
  )

  pub located_none : (q : List ℕ) → inode_with q (inodes_of L leaves) ≡ None → object_at (store_of L leaves) q ≡ None
  located_none q is = object_is q ∙ ap (option_map (λ (x : Inode). object_of L leaves x.number)) is

  -- the least of the identifiers greater than the last one, among inodes and in the store
  pub no_entries : finite.entries (finite.empty {X = Object} {R = by_bytes}) ≡ []
  no_entries =
      ap finite.entries (sym (finite.empty_of_len (finite.from_sorted {R = by_bytes} []) (finite.len-entries (finite.from_sorted {R = by_bytes} [])
      ∙ ap length (finite.entries-from_sorted {X = Object} by_bytes [] tt))))
      ∙ finite.entries-from_sorted {X = Object} by_bytes [] tt

  entry_told : (i : ℕ) → entry_for (told i) ≡ kept i
  unfolding inode_of
  entry_told i = refl

  better_is : (after : Bool) (best : Option Inode) (t : Inode) → option_map entry_for (if after && is_better best t then Some t else best) ≡ merged after t.id
      (object_of L leaves t.number) (option_map entry_for best)
  better_is false best t = refl
  better_is true None t = refl
  better_is true (Some b) t =
      elim (is_lt (by_bytes b.id t.id)) as (λ r. option_map entry_for (if not r then Some t else Some b) ≡ cond r (Some (entry_for b)) (Some (t.id, object_of L leaves t.number)))
      [ true ↦ refl | false ↦ refl ]

  best_met : (last : Option (List ℕ)) (ns : List ℕ) → option_map entry_for (best_after last (map told ns)) ≡ find (λ e. is_after last e.0) (finite.entries (objects ns))
  best_met last [] = ap (find (λ e. is_after last e.0)) (sym no_entries)
  best_met last (i ∷ ns) =
      better_is (is_after last (told i).id) (best_after last (map told ns)) (told i)
      ∙ ap (λ (e : List ℕ × Object). merged (is_after last e.0) e.0 e.1 (option_map entry_for (best_after last (map told ns)))) (entry_told i)
      ∙ ap (merged (is_after last (kept i).0) (kept i).0 (kept i).1) (best_met last ns)
      ∙ sym (find_put (λ x. is_after last x) (after_upward last) (kept i).0 (kept i).1 (finite.entries (objects ns)) (finite.entries_sorted (objects ns)))
      ∙ ap (find (λ e. is_after last e.0)) (sym (finite.entries-insert nat_list_cmp_total (objects ns) (kept i).0 (kept i).1))

  best_is_told : (last : Option (List ℕ)) (ns : List ℕ) (inode : Inode) → best_after last (map told ns) ≡ Some inode → inode ≡ told inode.number
  best_is_told last [] inode is = cc
  best_is_told last (i ∷ ns) inode is =
      elim (is_after last (told i).id && is_better (best_after last (map told ns)) (told i)) as (λ b. (if b then Some (told i) else best_after last (map told ns)) ≡ Some inode →
      inode ≡ told inode.number) [
        | true ↦ λ e. let same : told i ≡ inode = cc in sym same ∙ ap told (sym (told_number i) ∙ ap (λ (x : Inode). x.number) same)
        | false ↦ λ e. best_is_told last ns inode e
      ] is

  next_is : (last : Option (List ℕ)) → next_after (store_of L leaves) last ≡ listing_answer (option_map entry_for (best_after last (inodes_of L leaves)))
  unfolding store_of inodes_of
  next_is last = ap listing_answer (sym (best_met last (inode_numbers L leaves)))

  listed_is_told : (last : Option (List ℕ)) (inode : Inode) → best_after last (inodes_of L leaves) ≡ Some inode → inode ≡ told inode.number
  unfolding inodes_of
  listed_is_told last inode is = best_is_told last (inode_numbers L leaves) inode is

  pub next_told : (last : Option (List ℕ)) (inode : Inode) → best_after last (inodes_of L leaves) ≡ Some inode →
      next_after (store_of L leaves) last ≡ Ok (record { id = inode.id; facts = inode_facts inode })
  next_told last inode is =
      next_is last ∙ ap (λ r. listing_answer (option_map entry_for r)) is ∙ ap (listed_as inode.id) (facts_same inode (listed_is_told last inode is))

  pub next_none : (last : Option (List ℕ)) → best_after last (inodes_of L leaves) ≡ None → next_after (store_of L leaves) last ≡ Err NotFound
  next_none last is = next_is last ∙ ap (λ r. listing_answer (option_map entry_for r)) is

  -- what the code looked up
  pub looked_none : (q : List ℕ) (r : Option (Bor Inode)) (slice items : List Inode) → option_copied r ≡ inode_with q slice → slice ≡ items → items ≡ inodes_of L leaves →
      r ≡ None → inode_with q (inodes_of L leaves) ≡ None
  looked_none q r slice items told same all is = ap (λ (l : List Inode). inode_with q l) (sym (same ∙ all)) ∙ sym told ∙ ap option_copied is

  pub looked_up : (q : List ℕ) (r : Option (Bor Inode)) (slice items : List Inode) (inode : Bor Inode) → option_copied r ≡ inode_with q slice → slice ≡ items →
      items ≡ inodes_of L leaves → r ≡ Some inode → inode_with q (inodes_of L leaves) ≡ Some inode.now
  looked_up q r slice items inode told same all is = ap (λ (l : List Inode). inode_with q l) (sym (same ∙ all)) ∙ sym told ∙ ap option_copied is

  pub listed_none : (last : Option (List ℕ)) (r : Option (Bor Inode)) (slice items : List Inode) → option_copied r ≡ best_after last slice → slice ≡ items →
      items ≡ inodes_of L leaves → r ≡ None → best_after last (inodes_of L leaves) ≡ None
  listed_none last r slice items told same all is = ap (λ (l : List Inode). best_after last l) (sym (same ∙ all)) ∙ sym told ∙ ap option_copied is

  pub listed_up : (last : Option (List ℕ)) (r : Option (Bor Inode)) (slice items : List Inode) (inode : Bor Inode) → option_copied r ≡ best_after last slice → slice ≡ items →
      items ≡ inodes_of L leaves → r ≡ Some inode → best_after last (inodes_of L leaves) ≡ Some inode.now
  listed_up last r slice items inode told same all is = ap (λ (l : List Inode). best_after last l) (sym (same ∙ all)) ∙ sym told ∙ ap option_copied is
