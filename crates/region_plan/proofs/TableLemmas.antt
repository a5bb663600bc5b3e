-- The inodes of a region, one after another.
use Rattle.std.proofs.Common.{◌≡◌, ℕ, zero, suc, ◌+◌, ◌<◌, Bool, true, false, cond, List, [], ◌∷◌, ◌++◌, map, length, get_or, drop, Some, find, refl, sym, ◌∙◌, ap, arith}
use Rattle.std.specs.Prelude.{not, ◌||◌, ◌==◌}
use Rattle.std.specs.List.{range_with_len, filter, list_any}
use Rattle.std.proofs.Math.Seq.{drop-cons}
use Rattle.std.proofs.lemmas.Bool.{eq-eqb, ne_eqb}
use Rattle.std.proofs.lemmas.List.{map-append}
use Rattle.std.proofs.lemmas.List.Elements.{filter-append}
use Rattle.region_plan.specs.Layout.{Layout}
use Rattle.region_plan.specs.Entries.{entry_at, is_inode}
use Rattle.region_plan.specs.Inodes.{inode_of}
use Rattle.region_plan.specs.Regions.{numbers, inode_numbers, inodes_of}
use Rattle.region_plan.specs.Tables.{inodes_below}
use Rattle.region_plan.specs.declared.entry.Entry.{Entry}
use Rattle.region_plan.specs.declared.entry.TheConstants.{INODE}
use Rattle.region_plan.specs.declared.inode.Inode.{Inode}
use Rattle.region_plan.proofs.FormLemmas.{IsLaid}

-- one more number
pub range_more : (a n : ℕ) → range_with_len a (suc n) ≡ range_with_len a n ++ (a + n) ∷ []
range_more a zero = ap (λ (k : ℕ). k ∷ []) (let e : a ≡ a + 0 = omega arith in e)
range_more a (suc n) = ap (λ (l : List ℕ). a ∷ l) (range_more (a + 1) n ∙ ap (λ (k : ℕ). range_with_len (a + 1) n ++ k ∷ []) (let e : a + 1 + n ≡ a + suc n = omega arith in e))

module _ (L : Layout) (leaves : ℕ → List ℕ) where
  pub inodes_none : inodes_below L leaves 0 ≡ []
  unfolding inodes_below
  inodes_none = refl

  more : (n : ℕ) → inodes_below L leaves (suc n) ≡ inodes_below L leaves n ++ map (λ i. inode_of i (leaves i)) (filter (λ i. is_inode L leaves i) (n ∷ []))
  unfolding inodes_below
  more n =
      ap (λ (l : List ℕ). map (λ i. inode_of i (leaves i)) (filter (λ i. is_inode L leaves i) l)) (range_more 0 n ∙ ap (λ (k : ℕ). range_with_len 0 n ++ k ∷ []) (let e : 0 + n ≡ n = omega arith in e))
      ∙ ap (map (λ i. inode_of i (leaves i))) (filter-append (λ i. is_inode L leaves i) (range_with_len 0 n) (n ∷ []))
      ∙ map-append (λ i. inode_of i (leaves i)) (filter (λ i. is_inode L leaves i) (range_with_len 0 n)) (filter (λ i. is_inode L leaves i) (n ∷ []))

  pub inodes_more : (n m : ℕ) → m ≡ n + 1 → is_inode L leaves n ≡ true → inodes_below L leaves m ≡ inodes_below L leaves n ++ inode_of n (leaves n) ∷ []
  inodes_more n m is_m is =
      let e : m ≡ suc n = omega arith in
      ap (λ (k : ℕ). inodes_below L leaves k) e ∙ more n ∙ ap (λ b. inodes_below L leaves n ++ map (λ i. inode_of i (leaves i)) (cond b (n ∷ []) [])) is

  pub inodes_stay : (n m : ℕ) → m ≡ n + 1 → is_inode L leaves n ≡ false → inodes_below L leaves m ≡ inodes_below L leaves n
  inodes_stay n m is_m is =
      let e : m ≡ suc n = omega arith in
      ap (λ (k : ℕ). inodes_below L leaves k) e ∙ more n ∙ ap (λ b. inodes_below L leaves n ++ map (λ i. inode_of i (leaves i)) (cond b (n ∷ []) [])) is ∙ nothing_more (inodes_below L leaves n)
    where
      nothing_more : (l : List Inode) → l ++ [] ≡ l
      nothing_more [] = refl
      nothing_more (x ∷ l) = ap (λ (r : List Inode). x ∷ r) (nothing_more l)

  pub inodes_all : (n : ℕ) → n ≡ L.leaves → inodes_below L leaves n ≡ inodes_of L leaves
  unfolding inodes_below inodes_of inode_numbers numbers
  inodes_all n is = ap (λ (k : ℕ). map (λ i. inode_of i (leaves i)) (filter (λ i. is_inode L leaves i) (range_with_len 0 k))) is

-- a look-up from a place on
pub find_here : {X : Type 0} (p : X → Bool) (xs : List X) (i : ℕ) (x : X) → i < length xs → x ≡ get_or xs i x → find p (drop i xs) ≡ cond (p x) (Some x) (find p (drop (suc i) xs))
find_here p xs i x below is = ap (find p) (drop-cons xs i x below) ∙ ap (λ y. cond (p y) (Some y) (find p (drop (suc i) xs))) (sym is)

pub found_here : {X : Type 0} (p : X → Bool) (xs : List X) (i : ℕ) (x : X) → i < length xs → x ≡ get_or xs i x → find p (drop i xs) ≡ find p xs → p x ≡ true → Some x ≡ find p xs
found_here p xs i x below is rest passes = sym (sym rest ∙ find_here p xs i x below is ∙ ap (λ b. cond b (Some x) (find p (drop (suc i) xs))) passes)

pub find_on : {X : Type 0} (p : X → Bool) (xs : List X) (i j : ℕ) (x : X) → j ≡ i + 1 → i < length xs → x ≡ get_or xs i x → find p (drop i xs) ≡ find p xs → p x ≡ false →
    find p (drop j xs) ≡ find p xs
find_on p xs i j x is_j below is rest fails =
    let e : j ≡ suc i = omega arith in
    ap (λ (k : ℕ). find p (drop k xs)) e ∙ sym (ap (λ b. cond b (Some x) (find p (drop (suc i) xs))) fails) ∙ sym (find_here p xs i x below is) ∙ rest

-- whether any of a list from a place on passes
any_here : {X : Type 0} (p : X → Bool) (xs : List X) (i : ℕ) (x : X) → i < length xs → x ≡ get_or xs i x → list_any p (drop i xs) ≡ (p x || list_any p (drop (suc i) xs))
any_here p xs i x below is = ap (list_any p) (drop-cons xs i x below) ∙ ap (λ y. p y || list_any p (drop (suc i) xs)) (sym is)

pub any_found : {X : Type 0} (p : X → Bool) (xs : List X) (i : ℕ) (x : X) → i < length xs → x ≡ get_or xs i x → list_any p (drop i xs) ≡ list_any p xs → p x ≡ true → false ≡ not (list_any p xs)
any_found p xs i x below is rest passes = ap not (sym (sym rest ∙ any_here p xs i x below is ∙ ap (λ b. b || list_any p (drop (suc i) xs)) passes))

pub any_on : {X : Type 0} (p : X → Bool) (xs : List X) (i j : ℕ) (x : X) → j ≡ i + 1 → i < length xs → x ≡ get_or xs i x → list_any p (drop i xs) ≡ list_any p xs → p x ≡ false →
    list_any p (drop j xs) ≡ list_any p xs
any_on p xs i j x is_j below is rest fails =
    let e : j ≡ suc i = omega arith in
    ap (λ (k : ℕ). list_any p (drop k xs)) e ∙ sym (ap (λ b. b || list_any p (drop (suc i) xs)) fails) ∙ sym (any_here p xs i x below is) ∙ rest

module _ (L : Layout) (laid : IsLaid L) where
  -- one more inode was read
  pub inodes_pushed : (leaves mid : ℕ → List ℕ) (n m : ℕ) (e : Entry) (old new : List Inode) (inode : Inode) → mid ≡ leaves → m ≡ n + 1 → e ≡ entry_at L leaves n →
      e.kind ≡ 1 → old ≡ inodes_below L leaves n
      → inode ≡ inode_of n (mid n) → new ≡ old ++ inode ∷ [] → new ≡ inodes_below L leaves m
  inodes_pushed leaves mid n m e old new inode same is_m is kind before told pushed =
      pushed ∙ ap (λ (l : List Inode). l ++ inode ∷ []) before ∙ ap (λ (x : Inode). inodes_below L leaves n ++ x ∷ []) (told ∙ ap (λ (l : ℕ → List ℕ). inode_of n (l n)) same)
      ∙ sym (inodes_more L leaves n m is_m (ap (λ (x : Entry). x.kind == INODE) (sym is) ∙ eq-eqb e.kind 1 kind))

  -- the leaf is no inode
  pub inodes_passed : (leaves : ℕ → List ℕ) (n m : ℕ) (e : Entry) (old new : List Inode) → m ≡ n + 1 → e ≡ entry_at L leaves n → (e.kind ≡ 1 → ⊥) →
      old ≡ inodes_below L leaves n → new ≡ old → new ≡ inodes_below L leaves m
  inodes_passed leaves n m e old new is_m is kind before same =
      same ∙ before ∙ sym (inodes_stay L leaves n m is_m (ap (λ (x : Entry). x.kind == INODE) (sym is) ∙ ne_eqb e.kind 1 kind))
