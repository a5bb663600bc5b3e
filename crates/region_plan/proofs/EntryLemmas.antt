-- Entries of the map.
use Rattle.std.proofs.Common.{◌≡◌, ℕ, zero, suc, ◌+◌, ◌<◌, ◌≤◌, ◌/◌, ◌%◌, ◌∙◌, Bool, true, false, List, [], ◌∷◌, length, get_or, replicate, Option, Some, nat_le, refl, sym, ap, subst, arith, nat_lt}
use Rattle.std.specs.Prelude.{◌==◌, ◌&&◌, if◌then◌else◌, IfSome}
use Rattle.std.proofs.lemmas.Bool.{eqb-true, ltb-true}
use Rattle.std.proofs.lemmas.List.{get_or_default}
use Rattle.region_plan.specs.Layout.{Layout}
use Rattle.region_plan.specs.Entries.{entry_at, number_in, form_of, follows, is_zero, is_well_formed}
use Rattle.region_plan.specs.Places.{IsPlaced, IsMapOf, IsWritable, AreWritable, data_at, entries_in, free_before, free_entry, is_free, is_of, place_leaves, with_entry}
use Rattle.region_plan.specs.declared.entry.Entry.{Entry}
use Rattle.region_plan.specs.declared.entry.TheConstants.{FREE, INODE}
use Rattle.region_plan.proofs.FormLemmas.{IsLaid}
use Rattle.region_plan.proofs.SoundLemmas.{and_both}

-- where a map has no entry, a free leaf's is met
pub beyond : (map : List Entry) (i : ℕ) → length map ≤ i → free_entry ≡ entries_in map i
unfolding entries_in
beyond [] i le = refl
beyond (e ∷ map) zero le = absurd (omega arith)
beyond (e ∷ map) (suc i) le = beyond map i (omega arith)

-- an entry of a map is the one that was read
pub read_is : (items map : List Entry) (i : ℕ) (e : Entry) → items ≡ map → i < length items → e ≡ get_or items i e → e ≡ entries_in map i
unfolding entries_in
read_is items map i e same low is = is ∙ get_or_default items i e free_entry low ∙ ap (λ (m : List Entry). get_or m i free_entry) same

-- the rules on an entry, of the region and of its map
module _ (L : Layout) (laid : IsLaid L) (leaves : ℕ → List ℕ) (map : List Entry) (is : IsMapOf L leaves map) where
  owner_below : (i : ℕ) → (entry_at L leaves i).inode < L.leaves
  unfolding entry_at
  owner_below i = laid.inode (number_in (leaves (i / 256)) (i % 256))

  pub follows_is : (i : ℕ) → i < L.leaves → follows L (entries_in map) i ≡ is_well_formed L leaves i
  unfolding is_well_formed
  follows_is i below =
      ap (λ (e : Entry). if nat_lt i L.map_leaves then is_zero e else form_of i e (((entries_in map e.inode).kind == INODE) && nat_lt e.index L.indexes)) (is i below)
      ∙ ap (λ (e : Entry). if nat_lt i L.map_leaves then is_zero (entry_at L leaves i) else form_of i (entry_at L leaves i) ((e.kind == INODE) && nat_lt (entry_at L leaves i).index L.indexes))
      (is (entry_at L leaves i).inode (owner_below i))

-- an entry that follows the rules may be written
module _ (L : Layout) (laid : IsLaid L) (entries : ℕ → Entry) (i : ℕ) (below : i < L.leaves) (inode : (entries i).inode < L.leaves) where
  zero_parts : (e : Entry) → is_zero e ≡ true → (e.kind ≡ 0) × (e.index ≡ 0)
  zero_parts e zero' =
      let parts = and_both (e.kind == FREE) ((e.inode == 0) && (e.index == 0)) zero' in
      (eqb-true e.kind 0 parts.0, eqb-true e.index 0 (and_both (e.inode == 0) (e.index == 0) parts.1).1)

  form_parts : (e : Entry) (b : Bool) → form_of i e (b && nat_lt e.index L.indexes) ≡ true → (e.kind ≤ 2) × (e.index < L.indexes)
  form_parts e b formed = each (e.kind == 0) (e.kind == 1) (e.kind == 2) refl refl refl formed
    where
      low : e.index ≡ 0 → e.index < L.indexes
      low none = (let more = laid.more in let wide = laid.indexes in omega (arith, none, more, wide))

      each : (x y z : Bool) → (e.kind == 0) ≡ x → (e.kind == 1) ≡ y → (e.kind == 2) ≡ z
          → (if x then (e.inode == 0) && (e.index == 0) else if y then (e.inode == i) && (e.index == 0) else z && (b && nat_lt e.index L.indexes)) ≡ true
          → (e.kind ≤ 2) × (e.index < L.indexes)
      each true y z p q r f = (let k : e.kind ≡ 0 = eqb-true e.kind 0 p in let small : e.kind ≤ 2 = omega (arith, k) in (small, low (eqb-true e.index 0 (and_both _ _ f).1)))
      each false true z p q r f = (let k : e.kind ≡ 1 = eqb-true e.kind 1 q in let small : e.kind ≤ 2 = omega (arith, k) in (small, low (eqb-true e.index 0 (and_both _ _ f).1)))
      each false false true p q r f = (let k : e.kind ≡ 2 = eqb-true e.kind 2 r in let small : e.kind ≤ 2 = omega (arith, k) in
          (small, ltb-true e.index L.indexes (and_both _ _ f).1))
      each false false false p q r f = absurd (let g : false ≡ true = f in cc)

  pub follows_writable : follows L entries i ≡ true → IsWritable L (entries i)
  follows_writable formed =
      elim (nat_lt i L.map_leaves) as (λ b. (if b then is_zero (entries i) else form_of i (entries i) (((entries (entries i).inode).kind == INODE) && nat_lt (entries i).index L.indexes)) ≡ true
      → IsWritable L (entries i)) [
        | true ↦ λ e. (let parts = zero_parts (entries i) e in let more = laid.more in let wide = laid.indexes in
            record { kind = omega (arith, parts.0); inode = inode; index = omega (arith, parts.1, more, wide) })
        | false ↦ λ e. (let parts = form_parts (entries i) _ e in record { kind = parts.0; inode = inode; index = parts.1 })
      ] formed

-- a map of free leaves
pub all_free : (n i : ℕ) → entries_in (replicate n free_entry) i ≡ free_entry
unfolding entries_in
all_free zero i = refl
all_free (suc n) zero = refl
all_free (suc n) (suc i) = all_free n i

pub free_named : (L : Layout) (laid : IsLaid L) (map : List Entry) → ((i : ℕ) → entries_in map i ≡ free_entry) → (i : ℕ) → (entries_in map i).inode < L.leaves
free_named L laid map free i = subst (λ (e : Entry). e.inode < L.leaves) (sym (free i)) (let more = laid.more in omega (arith, more))

pub free_writable : (L : Layout) → IsLaid L → IsWritable L free_entry
free_writable L laid = (let more = laid.more in let wide = laid.indexes in record { kind = omega arith; inode = omega (arith, more); index = omega (arith, more, wide) })

-- entries that may be written, with another one of them
pub set_writable : (L : Layout) (map next : List Entry) (leaf : ℕ) (e : Entry) → AreWritable L map → IsWritable L e
    → ((i : ℕ) → entries_in next i ≡ with_entry leaf e (entries_in map) i) → AreWritable L next
set_writable L map next leaf e all one set i below =
    subst (λ (x : Entry). IsWritable L x) (sym (set i))
    (elim (i == leaf) as (λ b. (i == leaf) ≡ b → IsWritable L (if b then e else entries_in map i)) [ true ↦ λ t. one | false ↦ λ t. all i below ] refl)

-- and with data placed
pub placed_writable : (L : Layout) (laid : IsLaid L) (map next : List Entry) (inode kept blocks : ℕ) → AreWritable L map → inode < L.leaves → blocks ≤ L.indexes
    → ((i : ℕ) → i < L.leaves → entries_in next i ≡ place_leaves L (entries_in map) inode kept blocks i) → AreWritable L next
placed_writable L laid map next inode kept blocks all owner few is i below =
    subst (λ (x : Entry). IsWritable L x) (sym (is i below))
    (elim (is_free L (entries_in map) i && nat_lt (kept + free_before L (entries_in map) i) blocks) as
    (λ b. (is_free L (entries_in map) i && nat_lt (kept + free_before L (entries_in map) i) blocks) ≡ b
    → IsWritable L (if b then data_at inode (kept + free_before L (entries_in map) i) else
    if is_of inode (entries_in map i) && nat_le blocks (entries_in map i).index then free_entry else entries_in map i)) [
      | true ↦ λ t. (let inside : kept + free_before L (entries_in map) i < blocks = ltb-true (kept + free_before L (entries_in map) i) blocks (and_both _ _ t).1 in
          record { kind = omega arith; inode = owner; index = omega (arith, inside, few) })
      | false ↦ λ t. elim (is_of inode (entries_in map i) && nat_le blocks (entries_in map i).index) as
          (λ b. IsWritable L (if b then free_entry else entries_in map i)) [
            | true ↦ free_writable L laid
            | false ↦ all i below
          ]
    ] refl)

-- a map that was placed, where one was
pub placed_some : (L : Layout) (r : Option (List Entry)) (map after : List Entry) (inode kept blocks : ℕ) → r ≡ Some after
    → IfSome r (λ next. IsPlaced L (entries_in map) next inode kept blocks) → IsPlaced L (entries_in map) after inode kept blocks
placed_some L r map after inode kept blocks is holds = subst (λ (s : Option (List Entry)). IfSome s (λ next. IsPlaced L (entries_in map) next inode kept blocks)) is holds
