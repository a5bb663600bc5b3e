-- Plans that move an object to another identifier, or take it away.
use Rattle.std.proofs.Common.{◌≡◌, ◌≢◌, ◌⊎◌, inl, inr, ℕ, zero, suc, ◌+◌, ◌<◌, ◌≤◌, Bool, true, false, List, [], ◌∷◌, length, Option, None, Some, Ok, Bor, refl, sym, ◌∙◌, ap, subst, arith}
use Rattle.std.specs.Prelude.{◌&&◌, ◌||◌, ◌==◌, if◌then◌else◌}
use Rattle.std.specs.FinMap as finite
use Rattle.std.proofs.lemmas.Bool.{eqb-true, eqb-false, eq-eqb, ne_eqb}
use Rattle.store_api.specs.Ascending.{is_above_all}
use Rattle.store_api.specs.declared.leaves.Leaf.{Leaf}
use Rattle.store_api.specs.declared.object.Object.{Object}
use Rattle.store_api.specs.Stores.{Store, object_at}
use Rattle.region_plan.specs.Layout.{Layout}
use Rattle.region_plan.specs.Edits.{IsEditedLeaf}
use Rattle.region_plan.specs.Entries.{entry_at, is_inode, is_data_of}
use Rattle.region_plan.specs.Inodes.{identifier_in, length_in, IsHead}
use Rattle.region_plan.specs.Places.{IsMapOf, entries_in, free_entry, is_of, is_free, free_before, place_leaves, with_entry}
use Rattle.region_plan.specs.Plans.{NamesInodes, with_leaves, IsEdited, IsMapLeaf, kept_leaves}
use Rattle.region_plan.specs.Regions.{data_leaves, object_of, content_of, region_of, store_of}
use Rattle.region_plan.specs.declared.edit.Edit.{Edit}
use Rattle.region_plan.specs.declared.entry.Entry.{Entry}
use Rattle.region_plan.specs.declared.inode.Inode.{Inode}
use Rattle.region_plan.specs.declared.entry.TheConstants.{INODE}
use Rattle.region_plan.proofs.ChangedLemmas.{IsChanged, changed_region}
use Rattle.region_plan.proofs.EditedLemmas.{after_same, left_all}
use Rattle.region_plan.proofs.EditLemmas.{base_of, same_object, edited_framed, edited_inode, edited_object, inode_now}
use Rattle.region_plan.proofs.FoundLemmas.{IsFound, told_head}
use Rattle.region_plan.proofs.FrameLemmas.{Framed, is_own}
use Rattle.region_plan.proofs.HeldLemmas.{held_at}
use Rattle.region_plan.proofs.LimitLemmas.{used_later}
use Rattle.region_plan.proofs.MapLemmas.{map_of, map_of_is, mapped_by, mapped_leaf}
use Rattle.region_plan.proofs.NamedLemmas.{after_above}
use Rattle.region_plan.proofs.PlaceLemmas.{IsBase, IsWith, IsTaken, IsFreed, IsKept, ways}
use Rattle.region_plan.proofs.PlanLemmas.{names_framed, sound, same_store, inode_entry, content_held, inserted_here, inserted_beside, removed_here, removed_beside}
use Rattle.region_plan.proofs.SoundLemmas.{Sound, SoundInode, and_both, index_short}
use Rattle.region_plan.proofs.StoreLemmas.{length_content}
use Rattle.region_plan.proofs.FormLemmas.{IsLaid}

abbrev pub object_with : Inode → List ℕ → Object
object_with inode content = record { kind = inode.kind; usage = inode.usage; secret = inode.secret; content = content }

module _ (L : Layout) (laid : IsLaid L) where
  -- what is told of a found inode is of its object
  pub object_told : (leaves : ℕ → List ℕ) (id : List ℕ) (inode : Inode) → Sound L leaves → IsFound L laid leaves id inode
      → object_of L leaves inode.number ≡ record { kind = inode.kind; usage = inode.usage; secret = inode.secret; content = content_of L leaves inode.number }
  unfolding object_of
  object_told leaves id inode sound' found =
      let head = told_head L laid inode.number (leaves inode.number) inode inode.length found.told (sound'.inode inode.number found.high found.is).bytes refl in
      same_object (object_of L leaves inode.number) inode.kind inode.usage inode.secret (content_of L leaves inode.number) head.is_kind head.is_usage head.is_secret refl

  module _ (leaves : ℕ → List ℕ) (store : Store) (stands : region_of L leaves ≡ Ok store) where
    abbrev whole : Sound L leaves
    whole = sound L laid leaves store stands

    -- an object under another identifier
    module _ (id to : List ℕ) (inode : Inode) (found : IsFound L laid leaves id inode) (block : List ℕ) (named : List Leaf)
        (named_is : named ≡ record { number = inode.number; bytes = block } ∷ []) (some' : Bor (List ℕ))
        (is_head : IsHead block inode.kind inode.usage to inode.secret inode.length) (absent : object_at store to ≡ None) where
      abbrev moved : ℕ → List ℕ
      moved = with_leaves named leaves

      abbrev m : ℕ
      m = inode.number

      abbrev idle : Edit
      idle = record { had = inode.length; kept = inode.length; at = inode.length; bytes = record some' { now = [] }; length = inode.length }

      moved_here : moved m ≡ block
      moved_here = ap (λ (l : List Leaf). with_leaves l leaves m) named_is ∙ ap (λ b. if b then block else leaves m) (eq-eqb m m refl)

      moved_beside : (i : ℕ) → i ≢ m → moved i ≡ leaves i
      moved_beside i other = ap (λ (l : List Leaf). with_leaves l leaves i) named_is ∙ ap (λ b. if b then block else leaves i) (ne_eqb m i (λ same. other (sym same)))

      abbrev own_map : List Entry
      own_map = map_of L leaves

      at_map : (i : ℕ) → i < L.leaves → entry_at L leaves i ≡ entries_in own_map i
      at_map i below = sym (map_of_is L leaves i below)

      data_before : (i : ℕ) → i < L.leaves → is_of m (entries_in own_map i) ≡ true → (entries_in own_map i).index < data_leaves inode.length
      data_before i below is =
          let own = whole.inode m found.high found.is in
          let of : is_data_of L leaves m i ≡ true = ap (is_of m) (at_map i below) ∙ is in
          subst (λ (e : Entry). e.index < data_leaves inode.length) (at_map i below) (subst (λ (k : ℕ). (entry_at L leaves i).index < data_leaves k) (sym found.long)
          (own.before i below of))

      all_kept : (i : ℕ) → i < L.leaves → place_leaves L (entries_in own_map) m (kept_leaves inode.length idle) (data_leaves inode.length) i ≡ entries_in own_map i
      all_kept i below = each (ways (is_free L (entries_in own_map) i) (entries_in own_map i) m (kept_leaves inode.length idle + free_before L (entries_in own_map) i) (data_leaves inode.length))
        where
          each : IsTaken (is_free L (entries_in own_map) i) (entries_in own_map i) m (kept_leaves inode.length idle + free_before L (entries_in own_map) i) (data_leaves inode.length)
              ⊎ (IsFreed (is_free L (entries_in own_map) i) (entries_in own_map i) m (kept_leaves inode.length idle + free_before L (entries_in own_map) i) (data_leaves inode.length)
              ⊎ IsKept (is_free L (entries_in own_map) i) (entries_in own_map i) m (kept_leaves inode.length idle + free_before L (entries_in own_map) i) (data_leaves inode.length))
              → place_leaves L (entries_in own_map) m (kept_leaves inode.length idle) (data_leaves inode.length) i ≡ entries_in own_map i
          each (inl t) = absurd (let inside = t.inside in omega (arith, inside))
          each (inr (inl f)) = absurd (let past = f.past in let inside = data_before i below f.own in omega (arith, past, inside))
          each (inr (inr k)) = k.is

      idle_leaf : (i : ℕ) → i < L.leaves → is_of m (entries_in own_map i) ≡ true → IsEditedLeaf idle (entries_in own_map i).index (leaves i) (moved i) ⊎ (i ≡ m)
      idle_leaf i below is = each (i == m) refl
        where
          inside : (entries_in own_map i).index < data_leaves inode.length
          inside = data_before i below is

          each : (b : Bool) → (i == m) ≡ b → IsEditedLeaf idle (entries_in own_map i).index (leaves i) (moved i) ⊎ (i ≡ m)
          each true e = inr (eqb-true i m e)
          each false e = inl (record {
            left = λ l. moved_beside i (eqb-false i m e);
            changed = λ l. absurd (let f : true ≡ false = sym (left_all idle (entries_in own_map i).index refl refl inside) ∙ l in cc);
          })

      -- the indexes of the object's data are within the bounds of entries
      index_few : data_leaves inode.length ≤ L.indexes
      index_few = each (data_leaves inode.length) refl
        where
          own : SoundInode L leaves m
          own = whole.inode m found.high found.is

          each : (n : ℕ) → data_leaves inode.length ≡ n → n ≤ L.indexes
          each zero e = omega arith
          each (suc n) e =
              let last : n < data_leaves (length_in (leaves m)) = subst (λ (k : ℕ). n < data_leaves k) found.long (subst (λ (k : ℕ). n < k) (sym e) (omega arith)) in
              let met = own.present n last in
              let parts = and_both _ _ met.2 in
              let kinds = and_both _ _ parts.0 in
              let short = index_short L leaves met.0 (whole.formed met.0 met.1) kinds.0 in
              let at = eqb-true (entry_at L leaves met.0).index n parts.1 in
              omega (arith, short, at)

      moved_edited : IsEdited L leaves moved own_map own_map m inode.length (Some block) idle
      moved_edited = record {
        map_is = λ i below. sym (all_kept i below);
        short = index_few;
        enough = omega arith;
        each = λ i below. record {
          first = λ low. subst (λ (b : List ℕ). IsMapLeaf L own_map i b) (sym (moved_beside i (λ same. (let later = found.low in omega (arith, later, low, same)))))
              (mapped_leaf L laid leaves own_map (map_of_is L leaves) i low);
          own = λ later at. ap moved at ∙ moved_here;
          data' = λ later other is. which (idle_leaf i below is) other;
          other = λ later other is. moved_beside i other;
        };
      }
        where
          which : {i : ℕ} → IsEditedLeaf idle (entries_in own_map i).index (leaves i) (moved i) ⊎ (i ≡ m) → i ≢ m → IsEditedLeaf idle (entries_in own_map i).index (leaves i) (moved i)
          which (inl is) other = is
          which (inr same) other = absurd (other same)

      base_is : IsBase L laid leaves m (data_leaves inode.length)
      base_is = subst (λ (k : ℕ). IsBase L laid leaves m (data_leaves k)) (sym found.long) (base_of L laid leaves m whole found.low found.high found.is)

      with_is : IsWith L laid leaves m (entries_in own_map)
      with_is = record { inode = sym (at_map m found.high) ∙ inode_entry L laid leaves store stands m found.low found.high found.is; beside = λ i below other. sym (at_map i below) }

      moved_frame : Framed L laid m leaves moved
      moved_frame = edited_framed L laid leaves moved own_map own_map m inode.length (Some block) idle whole base_is with_is (omega arith) moved_edited

      moved_now : is_inode L moved m ≡ true
      moved_now = inode_now L laid leaves moved own_map own_map m inode.length (Some block) idle whole base_is with_is (omega arith) moved_edited

      moved_head : IsHead (moved m) inode.kind inode.usage to inode.secret inode.length
      moved_head = subst (λ (b : List ℕ). IsHead b inode.kind inode.usage to inode.secret inode.length) (sym moved_here) is_head

      content_long : length (content_of L leaves m) ≡ inode.length
      content_long = length_content L leaves m ∙ sym found.long

      moved_own : SoundInode L moved m
      moved_own = edited_inode L laid leaves moved own_map own_map m inode.length (Some block) idle whole base_is with_is (omega arith) moved_edited (content_of L leaves m)
          content_long inode.kind inode.usage to inode.secret
          (λ k below is early. content_held L laid leaves store stands m found.high found.is k below is) moved_head

      moved_object : object_of L moved m ≡ object_of L leaves m
      moved_object =
          edited_object L laid leaves moved own_map own_map m inode.length (Some block) idle whole base_is with_is (omega arith) moved_edited (content_of L leaves m) content_long
          inode.kind inode.usage to inode.secret
          (λ k below is early. content_held L laid leaves store stands m found.high found.is k below is) moved_head
          ∙ ap (λ (c : List ℕ). object_with inode c) (after_same idle (content_of L leaves m) content_long refl (sym content_long))
          ∙ sym (object_told leaves id inode whole found)

      held_id : object_at store id ≡ Some (object_of L leaves m)
      held_id = ap (λ (s : Store). object_at s id) (same_store L laid leaves store stands) ∙ ap (object_at (store_of L leaves)) (sym found.named)
          ∙ held_at L leaves whole m found.high found.is

      differs : to ≢ id
      differs same = (let never : ◌≡◌ {A = Option Object} None (Some (object_of L leaves m)) = sym absent ∙ ap (object_at store) same ∙ held_id in cc)

      abbrev moved_store : Store
      moved_store = finite.remove (finite.insert store to (object_of L leaves m)) id

      moved_apart : (k : ℕ) → k < L.leaves → k ≢ m → is_inode L leaves k ≡ true → identifier_in (leaves k) ≢ identifier_in (moved m)
      moved_apart k below other is same =
          let held : object_at store to ≡ Some (object_of L leaves k) = ap (λ (s : Store). object_at s to) (same_store L laid leaves store stands)
          ∙ ap (object_at (store_of L leaves)) (sym (same ∙ moved_head.is_id)) ∙ held_at L leaves whole k below is in
          let never : ◌≡◌ {A = Option Object} None (Some (object_of L leaves k)) = sym absent ∙ held in
          cc

      moved_to : IsChanged L laid leaves moved m moved_store
      moved_to = record {
        here = λ is. ap (object_at moved_store) moved_head.is_id ∙ removed_beside (finite.insert store to (object_of L leaves m)) id to differs
            ∙ inserted_here store to (object_of L leaves m) ∙ ap (λ (o : Object). Some o) (sym moved_object);
        gone = λ is other. ap (object_at moved_store) found.named ∙ removed_here (finite.insert store to (object_of L leaves m)) id;
        beside = λ q not_now not_then.
            removed_beside (finite.insert store to (object_of L leaves m)) id q (λ same. not_then found.is (same ∙ sym found.named))
            ∙ inserted_beside store to q (object_of L leaves m) (λ same. not_now moved_now (same ∙ sym moved_head.is_id)) ∙ ap (λ (s : Store). object_at s q) (same_store L laid leaves store stands);
      }

      pub moved_names : NamesInodes L leaves named
      moved_names = names_framed L laid leaves named m moved_frame (λ unnamed. found.is)

      pub moved_stands : region_of L moved ≡ Ok moved_store
      moved_stands = changed_region L laid leaves moved m found.high whole moved_frame (λ is. moved_own) (λ is. moved_apart) moved_store moved_to

    -- an object that is taken away
    module _ (id : List ℕ) (inode : Inode) (found : IsFound L laid leaves id inode) (map mid after : List Entry) (first : IsMapOf L leaves map) (named : List Leaf)
        (each_is : (i : ℕ) → i < L.map_leaves → IsMapLeaf L after i (with_leaves named leaves i)) (above : is_above_all named L.map_leaves ≡ true)
        (placed_is : (i : ℕ) → i < L.leaves → entries_in mid i ≡ place_leaves L (entries_in map) inode.number 0 0 i)
        (set : (i : ℕ) → entries_in after i ≡ with_entry inode.number free_entry (entries_in mid) i) where
      abbrev left : ℕ → List ℕ
      left = with_leaves named leaves

      abbrev d : ℕ
      d = inode.number

      left_beside : (i : ℕ) → L.map_leaves ≤ i → left i ≡ leaves i
      left_beside i later = after_above named L.map_leaves i (leaves i) above later

      now_at : (i : ℕ) → i < L.leaves → entry_at L left i ≡ with_entry d free_entry (entries_in mid) i
      now_at i below = sym (mapped_by L laid left after each_is i below) ∙ set i

      was_at : (i : ℕ) → i < L.leaves → entries_in map i ≡ entry_at L leaves i
      was_at i below = first i below

      now_inode : entry_at L left d ≡ free_entry
      now_inode = now_at d found.high ∙ ap (λ b. if b then free_entry else entries_in mid d) (eq-eqb d d refl)

      -- data is free, and all else as it was
      pub record Left (i : ℕ) : Type 0 where
        pub data' : is_data_of L leaves d i ≡ true → entry_at L left i ≡ free_entry
        pub other : is_data_of L leaves d i ≡ false → entry_at L left i ≡ entry_at L leaves i

      left_is : (i : ℕ) → i < L.leaves → i ≢ d → Left i
      left_is i below apart = each (ways (is_free L (entries_in map) i) (entries_in map i) d (0 + free_before L (entries_in map) i) 0)
        where
          now : entry_at L left i ≡ place_leaves L (entries_in map) d 0 0 i
          now = now_at i below ∙ ap (λ b. if b then free_entry else entries_in mid i) (ne_eqb i d apart) ∙ placed_is i below

          of : is_of d (entries_in map i) ≡ is_data_of L leaves d i
          of = ap (is_of d) (was_at i below)

          each : IsTaken (is_free L (entries_in map) i) (entries_in map i) d (0 + free_before L (entries_in map) i) 0
              ⊎ (IsFreed (is_free L (entries_in map) i) (entries_in map i) d (0 + free_before L (entries_in map) i) 0 ⊎ IsKept (is_free L (entries_in map) i) (entries_in map i) d
              (0 + free_before L (entries_in map) i) 0)
              → Left i
          each (inl t) = absurd (let inside = t.inside in omega (arith, inside))
          each (inr (inl f)) = record { data' = λ is. now ∙ f.is; other = λ isnt. absurd (let g : true ≡ false = sym f.own ∙ of ∙ isnt in cc) }
          each (inr (inr k)) = record { data' = λ is. absurd (let inside = k.inside (of ∙ is) in omega (arith, inside)); other = λ isnt. now ∙ k.is ∙ was_at i below }

      or_neither : (a b c : Bool) → a ≡ false → c ≡ false → ((a && b) || c) ≡ false
      or_neither a b c p q = ap (λ x. (x && b) || c) p ∙ q

      not_own : (i : ℕ) → i < L.leaves → is_own L laid d left i ≡ false
      not_own i below =
          elim (i == d) as (λ b. (i == d) ≡ b → is_own L laid d left i ≡ false) [
            | true ↦ λ e. (let same : i ≡ d = eqb-true i d e in
                ap (λ (k : ℕ). is_own L laid d left k) same ∙ ap (λ (x : Entry). ((d == d) && (x.kind == INODE)) || is_of d x) now_inode ∙ neither (d == d))
            | false ↦ λ e. (let left' = left_is i below (eqb-false i d e) in
                elim (is_data_of L leaves d i) as (λ b. is_data_of L leaves d i ≡ b → is_own L laid d left i ≡ false) [
                  | true ↦ λ f. or_neither (i == d) (is_inode L left i) (is_data_of L left d i) e (ap (is_of d) (left'.data' f))
                  | false ↦ λ f. or_neither (i == d) (is_inode L left i) (is_data_of L left d i) e (ap (is_of d) (left'.other f) ∙ f)
                ] refl)
          ] refl
        where
          neither : (b : Bool) → ((b && false) || false) ≡ false
          neither true = refl
          neither false = refl

      own_split : (i : ℕ) → i ≢ d → is_own L laid d leaves i ≡ is_data_of L leaves d i
      own_split i apart = ap (λ b. (b && is_inode L leaves i) || is_data_of L leaves d i) (ne_eqb i d apart)

      own_inode : is_own L laid d leaves d ≡ true
      own_inode = ap (λ b. (b && is_inode L leaves d) || is_data_of L leaves d d) (eq-eqb d d refl) ∙ ap (λ b. b || is_data_of L leaves d d) found.is

      left_frame : Framed L laid d leaves left
      left_frame = record {
        others = λ i below was now. elim (i == d) as (λ b. (i == d) ≡ b → entry_at L left i ≡ entry_at L leaves i) [
          | true ↦ λ e. absurd (let f : true ≡ false = sym own_inode ∙ ap (λ (k : ℕ). is_own L laid d leaves k) (sym (eqb-true i d e)) ∙ was in cc)
          | false ↦ λ e. (left_is i below (eqb-false i d e)).other (sym (own_split i (eqb-false i d e)) ∙ was)
        ] refl;
        taken = λ i below was now. absurd (let f : true ≡ false = sym now ∙ not_own i below in cc);
        freed = λ i below was now. elim (i == d) as (λ b. (i == d) ≡ b → entry_at L left i ≡ free_entry) [
          | true ↦ λ e. ap (λ (k : ℕ). entry_at L left k) (eqb-true i d e) ∙ now_inode
          | false ↦ λ e. (left_is i below (eqb-false i d e)).data' (sym (own_split i (eqb-false i d e)) ∙ was)
        ] refl;
        bytes = λ i below used was. left_beside i (used_later L laid leaves whole i used);
        formed = λ i below now. absurd (let f : true ≡ false = sym now ∙ not_own i below in cc);
      }

      no_inode : is_inode L left d ≡ false
      no_inode = ap (λ (e : Entry). e.kind == INODE) now_inode

      left_to : IsChanged L laid leaves left d (finite.remove store id)
      left_to = record {
        here = λ is. absurd (let f : true ≡ false = sym is ∙ no_inode in cc);
        gone = λ is other. ap (object_at (finite.remove store id)) found.named ∙ removed_here store id;
        beside = λ q not_now not_then. removed_beside store id q (λ same. not_then found.is (same ∙ sym found.named)) ∙ ap (λ (s : Store). object_at s q) (same_store L laid leaves store stands);
      }

      pub left_names : NamesInodes L leaves named
      left_names = names_framed L laid leaves named d left_frame (λ unnamed. found.is)

      pub left_stands : region_of L left ≡ Ok (finite.remove store id)
      left_stands = changed_region L laid leaves left d found.high whole left_frame (λ is. absurd (let f : true ≡ false = sym is ∙ no_inode in cc))
          (λ is. absurd (let f : true ≡ false = sym is ∙ no_inode in cc)) (finite.remove store id) left_to
