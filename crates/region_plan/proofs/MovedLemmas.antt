-- The order of inodes where one is put among them, or taken out.
use Rattle.std.proofs.Common.{◌≡◌, ◌≢◌, ◌<◌, ◌≤◌, ◌+◌, ◌-◌, inl, inr, ℕ, zero, suc, true, false, List, [], ◌∷◌, ◌++◌, length, map, refl, sym, ◌∙◌, ap, subst, arith}
use Rattle.std.specs.Prelude.{◌&&◌, nat_lt, nat_le, if◌then◌else◌, slice_index_or}
use Rattle.std.specs.List.{insert, remove}
use Rattle.std.proofs.lemmas.Bool.{eq-eqb, ne_eqb, le-leb, leb-true, leb-false, lt-ltb, ltb-true, ltb-false, and_from}
use Rattle.std.proofs.lemmas.Bool.Decides.{nat_tests}
use Rattle.std.proofs.lemmas.List.Edits.{length-insert, length-remove, get_or-insert_below, get_or-insert_at, get_or-insert_above, get_or-remove_below, get_or-remove_above}
use Rattle.store_api.proofs.Costs.{by_bytes}
use Rattle.region_plan.specs.Orders.{IsLess, IsOrder, WouldStandAt, id_at, ordered_id, place_at, place_in, place_out}
use Rattle.region_plan.specs.declared.inode.Inode.{Inode}
use Rattle.region_plan.proofs.OrderLemmas.{compared, never_less}
use Rattle.region_plan.proofs.OrderedLemmas.{id_before, id_last, inserted, length_more}

less_by : (a b c d : List ℕ) → a ≡ c → b ≡ d → IsLess c d → IsLess a b
less_by a b c d left right less = ap (λ (i : List ℕ). by_bytes i b) left ∙ ap (by_bytes c) right ∙ less

-- the same inodes at other places
pub renumbered : (inodes others : List Inode) (order next : List ℕ) (f : ℕ → ℕ) → IsOrder inodes order → length next ≡ length order
    → ((n : ℕ) → n < length order → place_at next n ≡ f (place_at order n)) → ((p : ℕ) → p < length inodes → f p < length others)
    → ((p : ℕ) → p < length inodes → id_at others (f p) ≡ id_at inodes p) → ((q : ℕ) → q < length others → (p : ℕ) × (p < length inodes) × (f p ≡ q)) → IsOrder others next
renumbered inodes others order next f is long each' inside' same back = record {
  inside = λ n low. (let below : n < length order = omega (arith, low, long) in
      subst (λ (k : ℕ). k < length others) (sym (each' n below)) (inside' (place_at order n) (is.inside n below)));
  each = λ q low. (let from = back q low in let at = is.each from.0 from.1 in let below = at.1 in
      (at.0, omega (arith, below, long), each' at.0 at.1 ∙ ap f at.2 ∙ from.2));
  ascending = λ m n less low. (let below : n < length order = omega (arith, low, long) in let early : m < length order = omega (arith, less, below) in
      less_by _ _ _ _ (ap (id_at others) (each' m early) ∙ same (place_at order m) (is.inside m early))
      (ap (id_at others) (each' n below) ∙ same (place_at order n) (is.inside n below)) (is.ascending m n less below));
}

-- identifiers with one more inode among them, and one less
ids_insert : (xs : List Inode) (p : ℕ) (x : Inode) → map (λ i. i.id) (insert xs p x) ≡ insert (map (λ i. i.id) xs) p x.id
ids_insert [] zero x = refl
ids_insert (y ∷ ys) zero x = refl
ids_insert [] (suc p) x = refl
ids_insert (y ∷ ys) (suc p) x = ap (λ (l : List (List ℕ)). y.id ∷ l) (ids_insert ys p x)

ids_remove : (xs : List Inode) (p : ℕ) → map (λ i. i.id) (remove xs p) ≡ remove (map (λ i. i.id) xs) p
ids_remove [] zero = refl
ids_remove (y ∷ ys) zero = refl
ids_remove [] (suc p) = refl
ids_remove (y ∷ ys) (suc p) = ap (λ (l : List (List ℕ)). y.id ∷ l) (ids_remove ys p)

ids_long : (xs : List Inode) → length (map (λ i. i.id) xs) ≡ length xs
ids_long [] = refl
ids_long (y ∷ ys) = ap suc (ids_long ys)

abbrev ids : List Inode → List (List ℕ)
ids xs = map (λ i. i.id) xs

abbrev id_of : List (List ℕ) → ℕ → List ℕ
id_of l k = slice_index_or l k []

id_insert_below : (xs : List Inode) (p : ℕ) (x : Inode) (k : ℕ) → k < p → p ≤ length xs → id_at (insert xs p x) k ≡ id_at xs k
id_insert_below xs p x k low inside =
    ap (λ (l : List (List ℕ)). id_of l k) (ids_insert xs p x) ∙ get_or-insert_below (ids xs) p x.id [] k low (let long = ids_long xs in omega (arith, long, inside))

id_insert_at : (xs : List Inode) (p : ℕ) (x : Inode) → p ≤ length xs → id_at (insert xs p x) p ≡ x.id
id_insert_at xs p x inside = ap (λ (l : List (List ℕ)). id_of l p) (ids_insert xs p x) ∙ get_or-insert_at (ids xs) p x.id [] (let long = ids_long xs in omega (arith, long, inside))

id_insert_above : (xs : List Inode) (p : ℕ) (x : Inode) (k : ℕ) → p ≤ k → p ≤ length xs → id_at (insert xs p x) (k + 1) ≡ id_at xs k
id_insert_above xs p x k high inside =
    ap (λ (l : List (List ℕ)). id_of l (k + 1)) (ids_insert xs p x) ∙ get_or-insert_above (ids xs) p x.id [] k high (let long = ids_long xs in omega (arith, long, inside))

id_remove_below : (xs : List Inode) (p k : ℕ) → k < p → p < length xs → id_at (remove xs p) k ≡ id_at xs k
id_remove_below xs p k low inside =
    ap (λ (l : List (List ℕ)). id_of l k) (ids_remove xs p) ∙ get_or-remove_below (ids xs) p [] k low (let long = ids_long xs in omega (arith, long, inside))

id_remove_above : (xs : List Inode) (p k : ℕ) → p ≤ k → p < length xs → id_at (remove xs p) k ≡ id_at xs (k + 1)
id_remove_above xs p k high inside =
    ap (λ (l : List (List ℕ)). id_of l k) (ids_remove xs p) ∙ get_or-remove_above (ids xs) p [] k high (let long = ids_long xs in omega (arith, long, inside))

-- an inode at a place
item_at : (xs : List Inode) (p : ℕ) → p < length xs → (x : Inode) × (x.id ≡ id_at xs p)
item_at [] p low = absurd (omega (arith, low))
item_at (y ∷ ys) zero low = (y, refl)
item_at (y ∷ ys) (suc p) low = item_at ys p (omega (arith, low))

-- where each place comes to be
in_last : (m p k : ℕ) → k ≡ m → place_in m p k ≡ p
in_last m p k same = ap (λ b. if b then p else if nat_le p k && nat_lt k m then k + 1 else k) (eq-eqb k m same)

in_above : (m p k : ℕ) → p ≤ k → k < m → place_in m p k ≡ k + 1
in_above m p k high low =
    ap (λ b. if b then p else if nat_le p k && nat_lt k m then k + 1 else k) (ne_eqb k m (λ same. omega (arith, same, low)))
    ∙ ap (λ b. if b then k + 1 else k) (and_from (nat_le p k) (nat_lt k m) (le-leb p k high) (lt-ltb k m low))

in_below : (m p k : ℕ) → k < m → k < p → place_in m p k ≡ k
in_below m p k low less = grind (arith, nat_tests)

out_here : (p m k : ℕ) → k ≡ p → place_out p m k ≡ m
out_here p m k same = ap (λ b. if b then m else if nat_lt p k && nat_le k m then k - 1 else k) (eq-eqb k p same)

out_above : (p m k : ℕ) → p < k → k ≤ m → place_out p m k ≡ k - 1
out_above p m k high low =
    ap (λ b. if b then m else if nat_lt p k && nat_le k m then k - 1 else k) (ne_eqb k p (λ same. omega (arith, same, high)))
    ∙ ap (λ b. if b then k - 1 else k) (and_from (nat_lt p k) (nat_le k m) (lt-ltb p k high) (le-leb k m low))

out_below : (p m k : ℕ) → k < p → place_out p m k ≡ k
out_below p m k low = grind (arith, nat_tests)

-- the last of all inodes is put among the others
module _ (xs : List Inode) (x : Inode) (p : ℕ) (inside : p ≤ length xs) where
  abbrev m : ℕ
  m = length xs

  abbrev all : List Inode
  all = xs ++ x ∷ []

  abbrev others : List Inode
  others = insert xs p x

  wide : length others ≡ length xs + 1
  wide = length-insert xs p x inside

  in_inside : (k : ℕ) → k < length all → place_in m p k < length others
  in_inside k low =
      let size = length_more xs x in
      let wide' = wide in
      elim (compared k m) [
        | inl less ↦ elim (nat_le p k) as (λ b. nat_le p k ≡ b → place_in m p k < length others) [
          | true ↦ λ e. (let at = in_above m p k (leb-true p k e) less in omega (arith, at, wide', less))
          | false ↦ λ e. (let at = in_below m p k less (leb-false p k e) in omega (arith, at, wide', less))
        ] refl
        | inr (inl same) ↦ (let at = in_last m p k same in omega (arith, at, wide', inside))
        | inr (inr more) ↦ absurd (omega (arith, more, low, size))
      ]

  in_same : (k : ℕ) → k < length all → id_at others (place_in m p k) ≡ id_at all k
  in_same k low =
      let size = length_more xs x in
      elim (compared k m) [
        | inl less ↦ elim (nat_le p k) as (λ b. nat_le p k ≡ b → id_at others (place_in m p k) ≡ id_at all k) [
          | true ↦ λ e. ap (id_at others) (in_above m p k (leb-true p k e) less) ∙ id_insert_above xs p x k (leb-true p k e) inside ∙ sym (id_before xs x k less)
          | false ↦ λ e. ap (id_at others) (in_below m p k less (leb-false p k e)) ∙ id_insert_below xs p x k (leb-false p k e) inside ∙ sym (id_before xs x k less)
        ] refl
        | inr (inl same) ↦ ap (id_at others) (in_last m p k same) ∙ id_insert_at xs p x inside ∙ sym (ap (id_at all) same ∙ id_last xs x)
        | inr (inr more) ↦ absurd (omega (arith, more, low, size))
      ]

  in_back : (q : ℕ) → q < length others → (k : ℕ) × (k < length all) × (place_in m p k ≡ q)
  in_back q low =
      let size = length_more xs x in
      let wide' = wide in
      elim (compared q p) [
        | inl less ↦ (q, omega (arith, size, less, inside), in_below m p q (omega (arith, less, inside)) less)
        | inr (inl same) ↦ (m, omega (arith, size), in_last m p m refl ∙ sym same)
        | inr (inr more) ↦ (
          q - 1,
          omega (arith, size, low, wide', more),
          in_above m p (q - 1) (omega (arith, more)) (omega (arith, low, wide', more)) ∙ (let back : q - 1 + 1 ≡ q = omega (arith, more) in back),
        )
      ]

  pub put_in : (order next : List ℕ) → IsOrder all order → length next ≡ length order → ((n : ℕ) → n < length order → place_at next n ≡ place_in m p (place_at order n))
      → IsOrder others next
  put_in order next is long each' = renumbered all others order next (place_in m p) is long each' in_inside in_same in_back

-- and a new one
pub put_among : (inodes : List Inode) (order next : List ℕ) → IsOrder inodes order → (x : Inode) (n p : ℕ) → WouldStandAt inodes order x.id n → p ≤ length inodes
    → length next ≡ length (insert order n (length inodes))
    → ((k : ℕ) → k < length (insert order n (length inodes)) → place_at next k ≡ place_in (length inodes) p (place_at (insert order n (length inodes)) k)) → IsOrder (insert inodes p x) next
put_among inodes order next is x n p gap inside long each' = put_in inodes x p inside (insert order n (length inodes)) next (inserted inodes order is x n gap) long each'

-- an order without the last of all inodes
module _ (xs : List Inode) (x : Inode) (order : List ℕ) (is : IsOrder (xs ++ x ∷ []) order) (n : ℕ) (low : n < length order) (here : place_at order n ≡ length xs) where
  abbrev whole : List Inode
  whole = xs ++ x ∷ []

  abbrev rest : List ℕ
  rest = remove order n

  abbrev up : ℕ → ℕ
  up k = if nat_lt k n then k else k + 1

  shorter : length rest + 1 ≡ length order
  shorter = length-remove order n low

  place_up : (k : ℕ) → place_at rest k ≡ place_at order (up k)
  place_up k = elim (nat_lt k n) as (λ b. nat_lt k n ≡ b → place_at rest k ≡ place_at order (if b then k else k + 1)) [
    | true ↦ λ e. get_or-remove_below order n 0 k (ltb-true k n e) low
    | false ↦ λ e. get_or-remove_above order n 0 k (ltb-false k n e) low
  ] refl

  up_inside : (k : ℕ) → k < length rest → up k < length order
  up_inside k inside = (let s = shorter in
      elim (nat_lt k n) as (λ b. (if b then k else k + 1) < length order) [ true ↦ omega (arith, s, inside) | false ↦ omega (arith, s, inside) ])

  up_other : (k : ℕ) → up k ≢ n
  up_other k = elim (nat_lt k n) as (λ b. nat_lt k n ≡ b → (if b then k else k + 1) ≢ n) [
    | true ↦ λ e same. (let less = ltb-true k n e in omega (arith, less, same))
    | false ↦ λ e same. (let high = ltb-false k n e in omega (arith, high, same))
  ] refl

  up_rises : (j k : ℕ) → j < k → up j < up k
  up_rises j k less =
      elim (nat_lt j n) as (λ b. nat_lt j n ≡ b → (if b then j else j + 1) < up k) [
        | true ↦ λ e. elim (nat_lt k n) as (λ b. j < (if b then k else k + 1)) [ true ↦ omega (arith, less) | false ↦ omega (arith, less) ]
        | false ↦ λ e. elim (nat_lt k n) as (λ b. nat_lt k n ≡ b → j + 1 < (if b then k else k + 1)) [
          | true ↦ λ f. absurd (let high = ltb-false j n e in let early = ltb-true k n f in omega (arith, high, early, less))
          | false ↦ λ f. omega (arith, less)
        ] refl
      ] refl

  alone : (j : ℕ) → j < length order → j ≢ n → place_at order j ≢ length xs
  alone j inside other same =
      let one : ordered_id whole order j ≡ ordered_id whole order n = ap (id_at whole) (same ∙ sym here) in
      elim (compared j n) [
        | inl less ↦ never_less (ordered_id whole order n) (subst (λ (i : List ℕ). IsLess i (ordered_id whole order n)) one (is.ascending j n less low))
        | inr (inl e) ↦ other e
        | inr (inr more) ↦ never_less (ordered_id whole order n) (subst (λ (i : List ℕ). IsLess (ordered_id whole order n) i) one (is.ascending n j more inside))
      ]

  inside_rest : (k : ℕ) → k < length rest → place_at rest k < length xs
  inside_rest k inside =
      let high = is.inside (up k) (up_inside k inside) in
      let size = length_more xs x in
      let other = alone (up k) (up_inside k inside) (up_other k) in
      let e = place_up k in
      omega (arith, high, size, other, e)

  each_rest : (place : ℕ) → place < length xs → (k : ℕ) × (k < length rest) × (place_at rest k ≡ place)
  each_rest place below =
      let size = length_more xs x in
      let at = is.each place (omega (arith, below, size)) in
      let s = shorter in
      let inside = at.1 in
      elim (compared at.0 n) [
        | inl less ↦ (at.0, omega (arith, s, inside, less, low), get_or-remove_below order n 0 at.0 less low ∙ at.2)
        | inr (inl e) ↦ absurd (let p : place ≡ length xs = sym at.2 ∙ ap (place_at order) e ∙ here in omega (arith, p, below))
        | inr (inr more) ↦ (
          at.0 - 1,
          omega (arith, s, inside, more),
          get_or-remove_above order n 0 (at.0 - 1) (omega (arith, more)) low ∙ ap (place_at order) (let back : at.0 - 1 + 1 ≡ at.0 = omega (arith, more) in back) ∙ at.2,
        )
      ]

  id_rest : (k : ℕ) → k < length rest → ordered_id xs rest k ≡ ordered_id whole order (up k)
  id_rest k inside = sym (id_before xs x (place_at rest k) (inside_rest k inside)) ∙ ap (id_at whole) (place_up k)

  pub dropped : IsOrder xs rest
  dropped = record {
    inside = inside_rest;
    each = each_rest;
    ascending = λ j k less below. less_by _ _ _ _ (id_rest j (omega (arith, less, below))) (id_rest k below) (is.ascending (up j) (up k) (up_rises j k less) (up_inside k below));
  }

-- an inode is taken out from among the others
module _ (ys : List Inode) (p : ℕ) (inside : p < length ys) where
  abbrev kept : List Inode
  kept = remove ys p

  abbrev last : ℕ
  last = length ys - 1

  gone : (x : Inode) × (x.id ≡ id_at ys p)
  gone = item_at ys p inside

  abbrev moved : List Inode
  moved = kept ++ gone.0 ∷ []

  fewer : length kept + 1 ≡ length ys
  fewer = length-remove ys p inside

  out_inside : (k : ℕ) → k < length ys → place_out p last k < length moved
  out_inside k low =
      let size = length_more kept gone.0 in
      let fewer' = fewer in
      elim (compared k p) [
        | inl less ↦ (let at = out_below p last k less in omega (arith, at, size, fewer', low))
        | inr (inl same) ↦ (let at = out_here p last k same in omega (arith, at, size, fewer'))
        | inr (inr more) ↦ (let at = out_above p last k more (omega (arith, low)) in omega (arith, at, size, fewer', low))
      ]

  out_same : (k : ℕ) → k < length ys → id_at moved (place_out p last k) ≡ id_at ys k
  out_same k low =
      let fewer' = fewer in
      elim (compared k p) [
        | inl less ↦ ap (id_at moved) (out_below p last k less) ∙ id_before kept gone.0 k (omega (arith, fewer', less, inside)) ∙ id_remove_below ys p k less inside
        | inr (inl same) ↦ ap (id_at moved) (out_here p last k same ∙ (let e : last ≡ length kept = omega (arith, fewer') in e)) ∙ id_last kept gone.0 ∙ gone.1 ∙ ap (id_at ys) (sym same)
        | inr (inr more) ↦ ap (id_at moved) (out_above p last k more (omega (arith, low))) ∙ id_before kept gone.0 (k - 1) (omega (arith, fewer', more, low))
            ∙ id_remove_above ys p (k - 1) (omega (arith, more)) inside ∙ ap (id_at ys) (let back : k - 1 + 1 ≡ k = omega (arith, more) in back)
      ]

  out_back : (q : ℕ) → q < length moved → (k : ℕ) × (k < length ys) × (place_out p last k ≡ q)
  out_back q low =
      let size = length_more kept gone.0 in
      let fewer' = fewer in
      elim (compared q last) [
        | inl less ↦ elim (nat_lt q p) as (λ b. nat_lt q p ≡ b → (k : ℕ) × (k < length ys) × (place_out p last k ≡ q)) [
          | true ↦ λ e. (q, omega (arith, less), out_below p last q (ltb-true q p e))
          | false ↦ λ e. (let high = ltb-false q p e in
              (q + 1, omega (arith, less), out_above p last (q + 1) (omega (arith, high)) (omega (arith, less)) ∙ (let back : q + 1 - 1 ≡ q = omega arith in back)))
        ] refl
        | inr (inl same) ↦ (p, inside, out_here p last p refl ∙ sym same)
        | inr (inr more) ↦ absurd (omega (arith, more, low, size, fewer'))
      ]

  pub taken_out : (order next : List ℕ) → IsOrder ys order → (n : ℕ) → n < length order → place_at order n ≡ p → length next ≡ length order
      → ((k : ℕ) → k < length order → place_at next k ≡ place_out p last (place_at order k)) → IsOrder kept (remove next n)
  taken_out order next is n low here long each' =
      let fewer' = fewer in
      dropped kept gone.0 next (renumbered ys moved order next (place_out p last) is long each' out_inside out_same out_back) n (omega (arith, low, long))
      (each' n low ∙ ap (place_out p last) here ∙ out_here p last p refl ∙ (let e : last ≡ length kept = omega (arith, fewer') in e))
