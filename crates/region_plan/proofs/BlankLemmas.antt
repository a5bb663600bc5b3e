-- A region of zeros.
use Rattle.std.proofs.Common.{◌≡◌, ℕ, zero, suc, ◌+◌, ◌-◌, ◌*◌, ◌/◌, ◌%◌, ◌<◌, ◌≤◌, Bool, true, false, cond, List, [], ◌∷◌, map, take, drop, replicate, None, Some, Ok, find, refl, ◌∙◌, ap, arith}
use Rattle.std.specs.Prelude.{not, ◌&&◌, ◌||◌, ◌==◌, if◌then◌else◌, nat_lt}
use Rattle.std.specs.List.{range_with_len, filter}
use Rattle.std.specs.Int.{w32, from_le_bytes}
use Rattle.std.specs.FinMap as finite
use Rattle.store_api.specs.Stores.{empty_store}
use Rattle.region_plan.specs.Layout.{Layout}
use Rattle.region_plan.specs.Entries.{entry_at, entry_number, number_in, form_of, is_zero, is_inode, is_well_formed}
use Rattle.region_plan.specs.Inodes.{identifier_in}
use Rattle.region_plan.specs.Laws.{IsBlank}
use Rattle.region_plan.specs.Regions.{numbers, breaks, object_of, store_of, inode_numbers, first_broken, region_of, unless_broken}
use Rattle.region_plan.specs.declared.entry.Entry.{Entry}
use Rattle.region_plan.specs.declared.entry.TheConstants.{INODE, DATA}
use Rattle.region_plan.proofs.FormLemmas.{IsLaid}

pub drop_zeros : (k n : ℕ) → drop {A = ℕ} k (replicate n 0) ≡ replicate (n - k) 0
drop_zeros zero n = ap (λ (m : ℕ). replicate m 0) (let e : n ≡ n - 0 = omega arith in e)
drop_zeros (suc k) zero = ap (λ (m : ℕ). replicate m 0) (let e : 0 ≡ 0 - suc k = omega arith in e)
drop_zeros (suc k) (suc n) = drop_zeros k n ∙ ap (λ (m : ℕ). replicate m 0) (let e : n - k ≡ suc n - suc k = omega arith in e)

take_zeros : (k n : ℕ) → k ≤ n → take {A = ℕ} k (replicate n 0) ≡ replicate k 0
take_zeros zero n le = refl
take_zeros (suc k) zero le = absurd (omega arith)
take_zeros (suc k) (suc n) le = ap (λ (l : List ℕ). 0 ∷ l) (take_zeros k n (omega arith))

-- nothing passes
none_met : (p : ℕ → Bool) (n a : ℕ) → ((i : ℕ) → i < a + n → p i ≡ false) → find p (range_with_len a n) ≡ None
none_met p zero a fails = refl
none_met p (suc n) a fails =
    ap (λ b. cond b (Some a) (find p (range_with_len (a + 1) n))) (fails a (omega arith)) ∙ none_met p n (a + 1) (λ i below. fails i (omega arith))

none_kept : (p : ℕ → Bool) (n a : ℕ) → ((i : ℕ) → i < a + n → p i ≡ false) → filter p (range_with_len a n) ≡ []
none_kept p zero a fails = refl
none_kept p (suc n) a fails =
    ap (λ b. cond b (a ∷ filter p (range_with_len (a + 1) n)) (filter p (range_with_len (a + 1) n))) (fails a (omega arith)) ∙ none_kept p n (a + 1) (λ i below. fails i (omega arith))

clear : (f i d x y : Bool) → f ≡ true → i ≡ false → d ≡ false → (not f || ((i && x) || (d && y))) ≡ false
clear f i d x y formed other free = rw (formed, other, free) refl

module _ (L : Layout) (laid : IsLaid L) where
  module _ (leaves : ℕ → List ℕ) (blank : IsBlank L leaves) where
    number_zero : (i : ℕ) → i < L.leaves → entry_number L leaves i ≡ 0
    number_zero i below =
        let whole = laid.mapped in
        let more = laid.more in
        let inside : 4 ≤ 1024 - 4 * (i % 256) = omega arith in
        ap (λ (bytes : List ℕ). number_in bytes (i % 256)) (blank (i / 256) (omega (arith, whole, more, below)))
        ∙ ap (λ (bytes : List ℕ). from_le_bytes w32 (take 4 bytes)) (drop_zeros (4 * (i % 256)) 1024)
        ∙ ap (λ (bytes : List ℕ). from_le_bytes w32 bytes) (take_zeros 4 (1024 - 4 * (i % 256)) inside)

    entry_free : (i : ℕ) → i < L.leaves → entry_at L leaves i ≡ record { kind = 0; inode = 0; index = 0 }
    unfolding entry_at
    entry_free i below = ap (λ (n : ℕ). L.entry_of n) (number_zero i below) ∙ laid.zero

    no_inode : (i : ℕ) → i < L.leaves → is_inode L leaves i ≡ false
    no_inode i below = ap (λ (e : Entry). e.kind == INODE) (entry_free i below)

    formed : (i : ℕ) → i < L.leaves → is_well_formed L leaves i ≡ true
    unfolding is_well_formed
    formed i below =
        ap (λ (e : Entry). if nat_lt i L.map_leaves then is_zero e else form_of i e (is_inode L leaves e.inode && nat_lt e.index L.indexes)) (entry_free i below)
        ∙ each (nat_lt i L.map_leaves)
      where
        each : (b : Bool) → (if b then true else true) ≡ true
        each true = refl
        each false = refl

    unbroken : (i : ℕ) → i < L.leaves → breaks L leaves i ≡ false
    unfolding breaks
    unbroken i below = clear (is_well_formed L leaves i) (is_inode L leaves i) ((entry_at L leaves i).kind == DATA) _ _ (formed i below)
        (no_inode i below) (ap (λ (e : Entry). e.kind == DATA) (entry_free i below))

    none_broken : first_broken L leaves ≡ None
    unfolding first_broken numbers
    none_broken = none_met (λ i. breaks L leaves i) L.leaves 0 (λ i below. unbroken i (omega arith))

    none_inode : inode_numbers L leaves ≡ []
    unfolding inode_numbers numbers
    none_inode = none_kept (λ i. is_inode L leaves i) L.leaves 0 (λ i below. no_inode i (omega arith))

    no_object : store_of L leaves ≡ empty_store
    unfolding store_of
    no_object = ap (λ (ns : List ℕ). finite.from_entries (map (λ i. (identifier_in (leaves i), object_of L leaves i)) ns)) none_inode

    pub blank_region : region_of L leaves ≡ Ok empty_store
    unfolding region_of
    blank_region = ap (λ r. unless_broken L leaves r) none_broken ∙ ap (λ s. Ok s) no_object
