-- A region after an object was edited.
use Rattle.std.proofs.Common.{◌≡◌, ◌≢◌, inl, ℕ, ◌<◌, ◌≤◌, true, false, List, length, Option, refl, sym, ◌∙◌, ap, subst, arith}
use Rattle.store_api.specs.declared.object.Object.{Object}
use Rattle.region_plan.specs.Layout.{Layout}
use Rattle.region_plan.specs.Edits.{content_after, IsEditedLeaf}
use Rattle.region_plan.specs.Entries.{entry_at, is_inode, is_data_of}
use Rattle.region_plan.specs.Inodes.{length_in, IsHead}
use Rattle.region_plan.specs.Places.{entries_in, is_of, place_leaves}
use Rattle.region_plan.specs.Plans.{bytes_or, kept_leaves, IsChangedLeaf, IsEdited}
use Rattle.region_plan.specs.Regions.{object_of, data_leaves}
use Rattle.region_plan.specs.declared.edit.Edit.{Edit}
use Rattle.region_plan.specs.declared.entry.Entry.{Entry}
use Rattle.region_plan.proofs.BlockLemmas.{IsLeafOf, edited_content, edited_padded}
use Rattle.region_plan.proofs.FrameLemmas.{Framed}
use Rattle.region_plan.proofs.MapLemmas.{mapped_by}
use Rattle.region_plan.proofs.PlaceLemmas.{IsBase, IsWith, HasEach, placed_framed, placed_each, old_index, is_inode_now, data_later, not_inode}
use Rattle.region_plan.proofs.SoundLemmas.{Sound, SoundInode}
use Rattle.region_plan.proofs.FormLemmas.{IsLaid}

pub same_object : (o : Object) (kind usage : ℕ) (secret content : List ℕ) → o.kind ≡ kind → o.usage ≡ usage → o.secret ≡ secret → o.content ≡ content →
    o ≡ record { kind = kind; usage = usage; secret = secret; content = content }
same_object o kind usage secret content a b c d = λ i. record { kind = a i; usage = b i; secret = c i; content = d i }

module _ (L : Layout) (laid : IsLaid L) where
  -- the entries of a region are those of its map
  pub in_map : (leaves after : ℕ → List ℕ) (map : List Entry) (n : ℕ) (head : Option (List ℕ)) (edit : Edit) → ((i : ℕ) → i < L.leaves → IsChangedLeaf L leaves map n head edit i (after i))
      → (i : ℕ) → i < L.leaves → entry_at L after i ≡ entries_in map i
  in_map leaves after map n head edit each i below = sym (mapped_by L laid after map (λ leaf low. (each leaf (let more = laid.more in omega (arith, more, low))).first low) i below)

  -- an object that there is, as a base for another content
  pub base_of : (leaves : ℕ → List ℕ) (n : ℕ) → Sound L leaves → L.map_leaves ≤ n → n < L.leaves → is_inode L leaves n ≡ true → IsBase L laid leaves n (data_leaves (length_in (leaves n)))
  base_of leaves n sound low high inode = (let own = sound.inode n high inode in record { low = low; high = high; state = inl inode; present = own.present; single = own.single; before = own.before })

  pub each_of : (leaves : ℕ → List ℕ) (n : ℕ) → SoundInode L leaves n → HasEach L laid leaves n (data_leaves (length_in (leaves n)))
  each_of leaves n own = record { present = own.present; single = own.single; before = own.before }

  module _ (leaves after : ℕ → List ℕ) (base map : List Entry) (n had : ℕ) (head : Option (List ℕ)) (edit : Edit) (sound : Sound L leaves) (is_base : IsBase L laid leaves n (data_leaves had))
      (is_with : IsWith L laid leaves n (entries_in base)) (kept_had : edit.kept ≤ had) (edited : IsEdited L leaves after base map n had head edit) where
    mapped : (i : ℕ) → i < L.leaves → entry_at L after i ≡ place_leaves L (entries_in base) n (kept_leaves had edit) (data_leaves edit.length) i
    mapped i below = in_map leaves after map n head edit edited.each i below ∙ edited.map_is i below

    data_map : (i : ℕ) → i < L.leaves → is_of n (entries_in map i) ≡ is_data_of L after n i
    data_map i below = ap (is_of n) (sym (in_map leaves after map n head edit edited.each i below))

    bytes : (i : ℕ) → i < L.leaves → L.map_leaves ≤ i → i ≢ n → is_data_of L after n i ≡ false → after i ≡ leaves i
    bytes i below later other data' = (edited.each i below).other later other (data_map i below ∙ data')

    kept_all : (x : ℕ) → x < data_leaves had → x < data_leaves edit.length → x < kept_leaves had edit
    kept_all x one two = omega (arith, one, two)

    pub edited_framed : Framed L laid n leaves after
    edited_framed = placed_framed L laid leaves after n (data_leaves had) (kept_leaves had edit) (data_leaves edit.length) (entries_in base) sound is_base is_with (omega arith)
        (omega arith) kept_all edited.enough mapped edited.short bytes

    pub each_now : HasEach L laid after n (data_leaves edit.length)
    each_now = placed_each L laid leaves after n (data_leaves had) (kept_leaves had edit) (data_leaves edit.length) (entries_in base) sound is_base is_with (omega arith) (omega arith)
        kept_all edited.enough mapped edited.short bytes

    pub inode_now : is_inode L after n ≡ true
    inode_now = is_inode_now L laid leaves after n (data_leaves had) (kept_leaves had edit) (data_leaves edit.length) (entries_in base) sound is_base is_with (omega arith) (omega arith)
        kept_all edited.enough mapped edited.short bytes

    pub head_now : after n ≡ bytes_or head (leaves n)
    head_now = (edited.each n is_base.high).own is_base.low refl

    -- where the leaves held what was kept, the object is the edited one
    module _ (old : List ℕ) (long : length old ≡ edit.kept) (kind usage : ℕ) (id secret : List ℕ)
        (was : (k : ℕ) → k < L.leaves → is_data_of L leaves n k ≡ true → (entry_at L leaves k).index < data_leaves edit.kept →
        IsLeafOf old (entry_at L leaves k).index (leaves k))
        (is_head : IsHead (after n) kind usage id secret edit.length) where
      was_now : (k : ℕ) → k < L.leaves → is_data_of L after n k ≡ true → (entry_at L after k).index < data_leaves edit.kept → IsLeafOf old (entry_at L after k).index (leaves k)
      was_now k below data' early =
          let inside = each_now.before k below data' in
          let held : (entry_at L after k).index < kept_leaves had edit = omega (arith, inside, early, kept_had) in
          let was' = old_index L laid leaves after n (data_leaves had) (kept_leaves had edit) (data_leaves edit.length) (entries_in base) sound is_base is_with (omega arith) (omega arith)
          kept_all edited.enough mapped edited.short bytes k below data' held in
          subst (λ (e : Entry). IsLeafOf old e.index (leaves k)) (sym was'.1) (was k below was'.0 (subst (λ (e : Entry). e.index < data_leaves edit.kept) was'.1 early))

      edited_now : (k : ℕ) → k < L.leaves → is_data_of L after n k ≡ true → IsEditedLeaf edit (entry_at L after k).index (leaves k) (after k)
      edited_now k below data' =
          subst (λ (e : Entry). IsEditedLeaf edit e.index (leaves k) (after k)) (sym (in_map leaves after map n head edit edited.each k below))
          ((edited.each k below).data' (data_later L laid leaves after n (data_leaves had) (kept_leaves had edit) (data_leaves edit.length) (entries_in base) sound is_base is_with
          (omega arith) (omega arith) kept_all edited.enough mapped edited.short bytes k below data')
          (not_inode L laid leaves after n (data_leaves had) (kept_leaves had edit) (data_leaves edit.length) (entries_in base) sound is_base is_with (omega arith) (omega arith) kept_all
          edited.enough mapped edited.short bytes k data') (data_map k below ∙ data'))

      pub edited_inode : SoundInode L after n
      edited_inode =
          let each' = subst (λ (m : ℕ). HasEach L laid after n (data_leaves m)) (sym is_head.is_long) each_now in
          record {
            bytes = is_head.rules;
            present = each'.present;
            single = each'.single;
            before = each'.before;
            padded = edited_padded L laid edit old long leaves after n is_head.is_long each_now was_now edited_now;
          }

      pub edited_object : object_of L after n ≡ record { kind = kind; usage = usage; secret = secret; content = content_after edit old }
      unfolding object_of
      edited_object = same_object (object_of L after n) kind usage secret (content_after edit old) is_head.is_kind is_head.is_usage is_head.is_secret
          (edited_content L laid edit old long leaves after n is_head.is_long each_now was_now edited_now)
