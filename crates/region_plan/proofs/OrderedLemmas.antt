-- The next inode in the order of identifiers, and one more in it.
use Rattle.std.proofs.Common.{◌≡◌, ◌≢◌, ◌<◌, ◌≤◌, ◌+◌, ◌-◌, inl, inr, ℕ, zero, suc, true, false, not, List, [], ◌∷◌, ◌++◌, length, Option, None, Some}
use Rattle.std.proofs.Common.{refl, sym, ◌∙◌, ap, subst, arith, Bor, option_copied}
use Rattle.std.specs.Prelude.{◌&&◌, if◌then◌else◌, IfSome}
use Rattle.std.specs.declared.cmp.Ordering.{Ordering}
use Rattle.std.specs.declared.cmp.Ordering.TheVariants.{Less, Equal}
use Rattle.std.specs.Ordering.{is_lt}
use Rattle.std.specs.Cmp.{tied_itself}
use Rattle.std.specs.Cmp.Lexicographic.{nat_list_cmp_total}
use Rattle.std.specs.List.{All, insert, slice_get}
use Rattle.std.proofs.lemmas.List.Edits.{length-insert, get_or-insert_below, get_or-insert_at, get_or-insert_above}
use Rattle.store_api.specs.Stores.{is_after}
use Rattle.store_api.proofs.Costs.{by_bytes}
use Rattle.region_plan.specs.Orders.{IsNext, IsOrder, IsLess, StandsAt, WouldStandAt, id_at, ordered_id, place_at}
use Rattle.region_plan.specs.Tables.{best_after, is_better}
use Rattle.region_plan.specs.declared.inode.Inode.{Inode}
use Rattle.region_plan.proofs.NextLemmas.{turned}
use Rattle.std.specs.Slice.{IsItemAt}
use Rattle.std.proofs.lemmas.Bool.{cases_lt}
use Rattle.region_plan.proofs.OrderLemmas.{compared, got_within, id_got, lent_is, missing}

-- an inode that is listed next is one of the list, behind the last one
pub met : (last : Option (List ℕ)) (inodes : List Inode) (b : Inode) → best_after last inodes ≡ Some b → (k : ℕ) × (k < length inodes) × (slice_get inodes k ≡ Some b) × (is_after last b.id ≡ true)
met last [] b is = absurd (let e : None ≡ Some b = is in cc)
met last (x ∷ xs) b is =
    elim (is_after last x.id) as (λ t. is_after last x.id ≡ t → (if t && is_better (best_after last xs) x then Some x else best_after last xs) ≡ Some b →
    (k : ℕ) × (k < length (x ∷ xs)) × (slice_get (x ∷ xs) k ≡ Some b) × (is_after last b.id ≡ true)) [
      | true ↦ λ after. elim (is_better (best_after last xs) x) as (λ t. (if t then Some x else best_after last xs) ≡ Some b →
          (k : ℕ) × (k < length (x ∷ xs)) × (slice_get (x ∷ xs) k ≡ Some b) × (is_after last b.id ≡ true)) [
            | true ↦ λ e. let same : x ≡ b = cc in (0, omega arith, e, subst (λ (i : Inode). is_after last i.id ≡ true) same after)
            | false ↦ λ e. let rest = met last xs b e in (suc rest.0, (let low = rest.1 in omega (arith, low)), rest.2, rest.3)
          ]
      | false ↦ λ after e. let rest = met last xs b e in (suc rest.0, (let low = rest.1 in omega (arith, low)), rest.2, rest.3)
    ] refl is

-- so it is within what holds of each
pub listed_within : (P : Inode → Type 0) (last : Option (List ℕ)) (inodes : List Inode) (r : Option (Bor Inode)) → All P inodes → option_copied r ≡ best_after last inodes →
    IfSome r (λ inode. P inode.now)
listed_within P last inodes None all is = tt
listed_within P last inodes (Some b) all is = (let at = met last inodes b.now (sym is) in got_within P inodes at.0 b.now all at.1 at.2)

-- nothing is listed where no inode is behind the last one
after_none : (last : Option (List ℕ)) (inodes : List Inode) → ((k : ℕ) → k < length inodes → is_after last (id_at inodes k) ≡ false) → best_after last inodes ≡ None
after_none last [] none = refl
after_none last (x ∷ xs) none =
    ap (λ t. if t && is_better (best_after last xs) x then Some x else best_after last xs) (none 0 (omega arith))
    ∙ after_none last xs (λ k low. none (suc k) (omega (arith, low)))

-- an inode behind the last one is listed where it is less than all others there
after_one : (last : Option (List ℕ)) (inodes : List Inode) (k : ℕ) → k < length inodes → is_after last (id_at inodes k) ≡ true →
    ((m : ℕ) → m < length inodes → is_after last (id_at inodes m) ≡ true → m ≢ k → IsLess (id_at inodes k) (id_at inodes m)) → best_after last inodes ≡ slice_get inodes k
after_one last [] k low after least = absurd (omega (arith, low))
after_one last (x ∷ xs) zero low after least =
    ap (λ t. if t && is_better (best_after last xs) x then Some x else best_after last xs) after
    ∙ ap (λ t. if t then Some x else best_after last xs) (best (best_after last xs) refl)
  where
    best : (b : Option Inode) → best_after last xs ≡ b → is_better b x ≡ true
    best None is = refl
    best (Some b) is =
        let at = met last xs b is in
        let named : id_at xs at.0 ≡ b.id = id_got xs at.0 b at.2 in
        let less : IsLess x.id (id_at xs at.0) = least (suc at.0) (let inside = at.1 in omega (arith, inside)) (subst (λ (i : List ℕ). is_after last i ≡ true) (sym named) at.3)
        (let high : suc at.0 ≢ 0 = omega arith in high) in
        ap (λ (o : Ordering). not (is_lt o)) (turned x.id b.id Less (subst (λ (i : List ℕ). IsLess x.id i) named less))
after_one last (x ∷ xs) (suc k) low after least =
    let rest = after_one last xs k (omega (arith, low)) after (λ m inside behind other. least (suc m) (omega (arith, inside)) behind (λ same. other (omega (arith, same)))) in
    elim (is_after last x.id) as (λ t. is_after last x.id ≡ t → (if t && is_better (best_after last xs) x then Some x else best_after last xs) ≡ slice_get xs k) [
      | true ↦ λ t.
          let less : IsLess (id_at xs k) x.id = least 0 (omega arith) t (let low' : 0 ≢ suc k = omega arith in low') in
          ap (λ u. if u then Some x else best_after last xs) (worse less (best_after last xs) rest) ∙ rest
      | false ↦ λ t. rest
    ] refl
  where
    worse : IsLess (id_at xs k) x.id → (b : Option Inode) → b ≡ slice_get xs k → is_better b x ≡ false
    worse less None is = absurd (let inside : k < length xs = omega (arith, low) in missing xs k inside (sym is))
    worse less (Some b) is = ap (λ (o : Ordering). not (is_lt o)) (subst (λ (i : List ℕ). IsLess i x.id) (id_got xs k b (sym is)) less)

module _ (inodes : List Inode) (order : List ℕ) (is : IsOrder inodes order) where
  -- where the identifiers behind the last one begin
  pub first_next : IsNext inodes order None 0
  first_next = record { before = λ m low. absurd (omega (arith, low)); behind = λ m high low. refl }

  pub stands_next : (last : List ℕ) (n : ℕ) → StandsAt inodes order last n → IsNext inodes order (Some last) (n + 1)
  stands_next last n at = record {
    before = λ m low inside. elim (compared m n) [
      | inl less ↦ ap is_lt (turned (ordered_id inodes order m) last Less (subst (λ (i : List ℕ). IsLess (ordered_id inodes order m) i) at.is (is.ascending m n less at.inside)))
      | inr (inl same) ↦ ap is_lt (subst (λ (i : List ℕ). by_bytes last i ≡ Equal) (sym (ap (ordered_id inodes order) same ∙ at.is)) (tied_itself nat_list_cmp_total last))
      | inr (inr more) ↦ absurd (omega (arith, more, low))
    ];
    behind = λ m high inside. ap is_lt (subst (λ (i : List ℕ). IsLess i (ordered_id inodes order m)) at.is (is.ascending n m (omega (arith, high)) inside));
  }

  pub gap_next : (last : List ℕ) (n : ℕ) → WouldStandAt inodes order last n → IsNext inodes order (Some last) n
  gap_next last n gap = record {
    before = λ m low inside. ap is_lt (turned (ordered_id inodes order m) last Less (gap.before m low));
    behind = λ m high inside. ap is_lt (gap.behind m high inside);
  }

  -- what is listed next
  pub next_none : (last : Option (List ℕ)) (n : ℕ) → IsNext inodes order last n → length order ≤ n → best_after last inodes ≡ None
  next_none last n next past = after_none last inodes (λ k low.
      let at = is.each k low in
      subst (λ (p : ℕ). is_after last (id_at inodes p) ≡ false) at.2 (next.before at.0 (let inside = at.1 in omega (arith, inside, past)) at.1))

  pub next_some : (last : Option (List ℕ)) (n : ℕ) → IsNext inodes order last n → n < length order → best_after last inodes ≡ slice_get inodes (place_at order n)
  next_some last n next low =
      after_one last inodes (place_at order n) (is.inside n low) (next.behind n (omega arith) low) (λ m inside after other.
      let at = is.each m inside in
      let tells = subst (λ (p : ℕ). is_after last (id_at inodes p) ≡ true) (sym at.2) after in
      subst (λ (p : ℕ). IsLess (ordered_id inodes order n) (id_at inodes p)) at.2
      (elim (compared at.0 n) [
        | inl less ↦ absurd (let wrong : false ≡ true = sym (next.before at.0 less at.1) ∙ tells in cc)
        | inr (inl same) ↦ absurd (other (sym at.2 ∙ ap (place_at order) same))
        | inr (inr more) ↦ is.ascending n at.0 more at.1
      ]))

  pub next_is : (last : Option (List ℕ)) (n place : ℕ) (r : Option (Bor Inode)) → IsNext inodes order last n → n < length order → place ≡ place_at order n → IsItemAt inodes place r →
      option_copied r ≡ best_after last inodes
  next_is last n place r next low here lent = lent_is inodes place r lent ∙ ap (slice_get inodes) here ∙ sym (next_some last n next low)

-- identifiers with one more inode behind the others
pub id_before : (inodes : List Inode) (x : Inode) (k : ℕ) → k < length inodes → id_at (inodes ++ x ∷ []) k ≡ id_at inodes k
id_before [] x k low = absurd (omega (arith, low))
id_before (y ∷ ys) x zero low = refl
id_before (y ∷ ys) x (suc k) low = id_before ys x k (omega (arith, low))

pub id_last : (inodes : List Inode) (x : Inode) → id_at (inodes ++ x ∷ []) (length inodes) ≡ x.id
id_last [] x = refl
id_last (y ∷ ys) x = id_last ys x

pub length_more : (inodes : List Inode) (x : Inode) → length (inodes ++ x ∷ []) ≡ length inodes + 1
length_more [] x = refl
length_more (y ∷ ys) x = (let rest = length_more ys x in omega (arith, rest))

module _ (inodes : List Inode) (order : List ℕ) (is : IsOrder inodes order) (x : Inode) (n : ℕ) (gap : WouldStandAt inodes order x.id n) where
  abbrev more : List Inode
  more = inodes ++ x ∷ []

  abbrev wider : List ℕ
  wider = insert order n (length inodes)

  place_below : (i : ℕ) → i < n → place_at wider i ≡ place_at order i
  place_below i low = get_or-insert_below order n (length inodes) 0 i low gap.inside

  place_here : place_at wider n ≡ length inodes
  place_here = get_or-insert_at order n (length inodes) 0 gap.inside

  place_above : (i : ℕ) → n ≤ i → place_at wider (i + 1) ≡ place_at order i
  place_above i high = get_or-insert_above order n (length inodes) 0 i high gap.inside

  id_below : (i : ℕ) → i < n → ordered_id more wider i ≡ ordered_id inodes order i
  id_below i low = ap (id_at more) (place_below i low) ∙ id_before inodes x (place_at order i) (is.inside i (let inside = gap.inside in omega (arith, low, inside)))

  id_here : ordered_id more wider n ≡ x.id
  id_here = ap (id_at more) place_here ∙ id_last inodes x

  id_above : (i : ℕ) → n ≤ i → i < length order → ordered_id more wider (i + 1) ≡ ordered_id inodes order i
  id_above i high low = ap (id_at more) (place_above i high) ∙ id_before inodes x (place_at order i) (is.inside i low)

  longer : length wider ≡ length order + 1
  longer = length-insert order n (length inodes) gap.inside

  less_as : (a b c d : List ℕ) → a ≡ c → b ≡ d → IsLess c d → IsLess a b
  less_as a b c d left right less = ap (λ (i : List ℕ). by_bytes i b) left ∙ ap (by_bytes c) right ∙ less

  -- from any number to one above the new one
  ascends_above : (i j : ℕ) → i ≤ j → n ≤ j → j < length order → IsLess (ordered_id more wider i) (ordered_id more wider (j + 1))
  ascends_above i j low high inside = elim (compared i n) [
    | inl less ↦ less_as _ _ _ _ (id_below i less) (id_above j high inside) (is.ascending i j (omega (arith, less, high)) inside)
    | inr (inl same) ↦ less_as _ _ _ _ (ap (ordered_id more wider) same ∙ id_here) (id_above j high inside) (gap.behind j high inside)
    | inr (inr above) ↦
        let back : i ≡ (i - 1) + 1 = omega (arith, above) in
        less_as _ _ _ _ (ap (ordered_id more wider) back ∙ id_above (i - 1) (omega (arith, above)) (omega (arith, low, inside, above))) (id_above j high inside)
        (is.ascending (i - 1) j (omega (arith, low, above)) inside)
  ]

  ascends : (i j : ℕ) → i < j → j < length wider → IsLess (ordered_id more wider i) (ordered_id more wider j)
  ascends i j low inside = elim (compared j n) [
    | inl less ↦ less_as _ _ _ _ (id_below i (omega (arith, low, less))) (id_below j less) (is.ascending i j low (let end = gap.inside in omega (arith, less, end)))
    | inr (inl same) ↦ less_as _ _ _ _ (id_below i (omega (arith, low, same))) (ap (ordered_id more wider) same ∙ id_here) (gap.before i (omega (arith, low, same)))
    | inr (inr above) ↦
        let back : (j - 1) + 1 ≡ j = omega (arith, above) in
        let within : j - 1 < length order = (let long = longer in omega (arith, inside, long, above)) in
        subst (λ (k : ℕ). IsLess (ordered_id more wider i) (ordered_id more wider k)) back (ascends_above i (j - 1) (omega (arith, low)) (omega (arith, above)) within)
  ]

  inside_more : (i : ℕ) → i < length wider → place_at wider i < length more
  inside_more i inside =
      let long = longer in
      let size = length_more inodes x in
      elim (compared i n) [
        | inl less ↦ (let e = place_below i less in let end = gap.inside in let low = is.inside i (omega (arith, less, end)) in omega (arith, e, low, size))
        | inr (inl same) ↦ (let e = ap (place_at wider) same ∙ place_here in omega (arith, e, size))
        | inr (inr above) ↦
            let back : i ≡ (i - 1) + 1 = omega (arith, above) in
            let e = ap (place_at wider) back ∙ place_above (i - 1) (omega (arith, above)) in
            let low = is.inside (i - 1) (omega (arith, inside, long, above)) in
            omega (arith, e, low, size)
      ]

  each_more : (place : ℕ) → place < length more → (m : ℕ) × (m < length wider) × (place_at wider m ≡ place)
  each_more place low =
      let long = longer in
      let size = length_more inodes x in
      let end = gap.inside in
      elim (cases_lt place (length inodes)) [
        | inl old ↦
            let at = is.each place old in
            let inside = at.1 in
            elim (cases_lt at.0 n) [
              | inl less ↦ (at.0, omega (arith, inside, long), place_below at.0 less ∙ at.2)
              | inr high ↦ (at.0 + 1, omega (arith, inside, long), place_above at.0 high ∙ at.2)
            ]
        | inr new ↦ (n, omega (arith, end, long), place_here ∙ omega (arith, low, size, new))
      ]

  -- the order with a new inode in its place
  pub inserted : IsOrder more wider
  inserted = record { inside = inside_more; each = each_more; ascending = ascends }

-- what comes next, told of the last one as it was passed
pub told_next : (inodes : List Inode) (order : List ℕ) (last : Option (Bor (List ℕ))) (given : Bor (List ℕ)) → last ≡ Some given → (n : ℕ) → IsNext inodes order (Some given.now) n →
    IsNext inodes order (option_copied last) n
told_next inodes order last given is n next = subst (λ (l : Option (Bor (List ℕ))). IsNext inodes order (option_copied l) n) (sym is) next
