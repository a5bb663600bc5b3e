-- What the first leaf of a region of the first form says of each.
use Rattle.std.proofs.Common.{◌≡◌, ◌+◌, ◌/◌, ◌%◌, ◌^◌, ◌<◌, ◌≤◌, ◌∙◌, ℕ, List, [], ◌∷◌, length, map, get_or, replicate, Bool, true, false, refl, sym, ap, arith}
use Rattle.std.specs.Prelude.{◌&&◌, ◌==◌, nat_le, if◌then◌else◌}
use Rattle.std.proofs.lemmas.Bool.{eqb-true, le-ltb}
use Rattle.std.proofs.lemmas.List.{same_lists, get_or_default}
use Rattle.std.proofs.lemmas.List.FromFn.{get_or-map-range_with_len, length-map-range_with_len}
use Rattle.region_plan.specs.Parts.{are_zero}
use Rattle.v1_volume.specs.Renumbering.{converted_leaf, is_taken, map_byte, old_number}
use Rattle.region_plan.specs.Layout.{layout}
use Rattle.region_plan.specs.Entries.{entry_at, is_used, number_in}
use Rattle.region_plan.specs.Regions.{numbers}
use Rattle.region_plan.specs.declared.form.Form.TheVariants.{One}
use Rattle.std.specs.List.{range_with_len}

pub one_leaves : (layout One).leaves ≡ 256
unfolding layout
one_leaves = refl

pub one_map : (layout One).map_leaves ≡ 1
unfolding layout
one_map = refl

pub all_numbers : numbers (layout One) ≡ range_with_len 0 256
unfolding numbers layout
all_numbers = refl

-- an entry is where its number says in the only leaf of the map
pub entry_here : (leaves : ℕ → List ℕ) (i : ℕ) → i < 256 → (layout One).entry_of (number_in (leaves 0) i) ≡ entry_at (layout One) leaves i
unfolding entry_at
entry_here leaves i below =
    let map' : i / 256 ≡ 0 = omega (arith, below) in
    let place : i % 256 ≡ i = omega (arith, below) in
    sym (λ j. (layout One).entry_of (number_in (leaves (map' j)) (place j)))

-- the parts of an entry are small
pub kind_small : (n : ℕ) → ((layout One).entry_of n).kind < 256
unfolding layout
kind_small n = omega arith

pub inode_small : (n : ℕ) → ((layout One).entry_of n).inode < 256
unfolding layout
inode_small n = omega arith

pub index_small : (n : ℕ) → n < 2 ^ 32 → ((layout One).entry_of n).index < 65536
unfolding layout
index_small n low = omega (arith, low)

-- behind the leaves in use all is zeros
pub converted_past : (leaves : ℕ → List ℕ) (i : ℕ) → 259 ≤ i → converted_leaf leaves i ≡ replicate 1024 0
unfolding converted_leaf
converted_past leaves i past =
    ap (λ b. if b then map (λ k. map_byte leaves i k) (range_with_len 0 1024) else if is_taken leaves i then leaves (old_number i) else replicate 1024 0)
    (le-ltb i 4 (omega (arith, past)))
    ∙ ap (λ b. if nat_le 4 i && (b && is_used (layout One) leaves (old_number i)) then leaves (old_number i) else replicate 1024 0) (le-ltb i 259 past)
    ∙ neither (nat_le 4 i)
  where
    neither : (b : Bool) → (if b && false then leaves (old_number i) else replicate 1024 0) ≡ replicate 1024 0
    neither true = refl
    neither false = refl

-- bytes of which none is another than zero
pub zeros_are : (bytes : List ℕ) → length bytes ≡ 1024 → are_zero bytes ≡ true → bytes ≡ replicate 1024 0
zeros_are bytes long zero' = all_zeros bytes zero' ∙ ap (λ (n : ℕ). replicate n 0) long
  where
    both : (x y : Bool) → (x && y) ≡ true → (x ≡ true) × (y ≡ true)
    both true y e = (refl, e)
    both false y e = absurd (let f : false ≡ true = e in cc)

    all_zeros : (xs : List ℕ) → are_zero xs ≡ true → xs ≡ replicate (length xs) 0
    all_zeros [] is = refl
    all_zeros (x ∷ xs) is = (let parts = both (x == 0) (are_zero xs) is in
        ap (λ (y : ℕ). y ∷ xs) (eqb-true x 0 parts.0) ∙ ap (λ (l : List ℕ). 0 ∷ l) (all_zeros xs parts.1))

-- a leaf whose bytes are known
pub made_of : (bytes : List ℕ) (f : ℕ → ℕ) → length bytes ≡ 1024 → ((k : ℕ) → k < 1024 → get_or bytes k 0 ≡ f k) → bytes ≡ map f (range_with_len 0 1024)
made_of bytes f long each =
    same_lists bytes (map f (range_with_len 0 1024)) (long ∙ sym (length-map-range_with_len f 0 1024))
    (λ k d low.
    let less : k < 1024 = omega (arith, low, long) in
    get_or_default bytes k d 0 low ∙ each k less ∙ sym (get_or-map-range_with_len f 0 1024 k k d less (let e : 0 + k ≡ k = omega arith in e)))
