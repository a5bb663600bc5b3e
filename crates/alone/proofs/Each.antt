-- What holds of each element of a list, and numbers that stand in one.
use Rattle.std.proofs.Common.{ℕ, ◌≡◌, ◌+◌, ◌≤◌, ◌==◌, ◌&&◌, ◌||◌, nat_eq, Bool, true, false, not, List, [], ◌∷◌, ◌++◌, filter, map, refl, sym, ap, ◌∙◌, ⊎_elim, arith}
use Rattle.std.specs.List.{AllByRecursion, list_any}
use Rattle.std.proofs.lemmas.Bool.{cases_Bool, cond-true, cond-false, cond_both, eqb-true, both_ways}
use Rattle.instances.specs.declared.session.Slot.{Slot}
use Rattle.instances.specs.Instances.{with_ending}
use Rattle.alone.proofs.Totals.{bit, total}

pub each_filter : {X : Type 0} (P : X → Type 0) (p : X → Bool) (xs : List X) → AllByRecursion P xs → AllByRecursion P (filter p xs)
each_filter P p [] h = tt
each_filter P p (x ∷ xs) h = cond_both (p x) (x ∷ filter p xs) (filter p xs) (AllByRecursion P) (λ _. (h.0, each_filter P p xs h.1)) (λ _. each_filter P p xs h.1)

-- what passed has passed
pub each_passed : {X : Type 0} (P Q : X → Type 0) (p : X → Bool) (xs : List X) → ((x : X) → P x → p x ≡ true → Q x) → AllByRecursion P xs → AllByRecursion Q (filter p xs)
each_passed P Q p [] f h = tt
each_passed P Q p (x ∷ xs) f h = cond_both (p x) (x ∷ filter p xs) (filter p xs) (AllByRecursion Q) (λ yes. (f x h.0 yes, each_passed P Q p xs f h.1)) (λ _. each_passed P Q p xs f h.1)

pub each_map : {X : Type 0} (P Q : X → Type 0) (f : X → X) (xs : List X) → ((x : X) → P x → Q (f x)) → AllByRecursion P xs → AllByRecursion Q (map f xs)
each_map P Q f [] g h = tt
each_map P Q f (x ∷ xs) g h = (g x h.0, each_map P Q f xs g h.1)

pub each_weaker : {X : Type 0} (P Q : X → Type 0) (xs : List X) → ((x : X) → P x → Q x) → AllByRecursion P xs → AllByRecursion Q xs
each_weaker P Q [] g h = tt
each_weaker P Q (x ∷ xs) g h = (g x h.0, each_weaker P Q xs g h.1)

pub each_both : {X : Type 0} (P Q R : X → Type 0) (xs : List X) → ((x : X) → P x → Q x → R x) → AllByRecursion P xs → AllByRecursion Q xs → AllByRecursion R xs
each_both P Q R [] f g h = tt
each_both P Q R (x ∷ xs) f g h = (f x g.0 h.0, each_both P Q R xs f g.1 h.1)

pub each_more : {X : Type 0} (P : X → Type 0) (xs : List X) (y : X) → AllByRecursion P xs → P y → AllByRecursion P (xs ++ y ∷ [])
each_more P [] y h new = (new, tt)
each_more P (x ∷ xs) y h new = (h.0, each_more P xs y h.1 new)

-- where none counts, none passes
pub none_passes : {X : Type 0} (p : X → Bool) (xs : List X) → total (λ x. bit (p x)) xs ≤ 0 → AllByRecursion (λ x. p x ≡ false) xs
none_passes p [] h = tt
none_passes p (x ∷ xs) h = (
  ⊎_elim
      (λ (yes : p x ≡ true). absurd (omega (arith, h, ap bit yes)))
      (λ (no : p x ≡ false). no)
      (cases_Bool (p x)),
  none_passes p xs (omega (arith, h)),
)

-- ---- numbers

pub numbers_filter : {X : Type 0} (number : X → ℕ) (k : ℕ) (xs : List X) → map number (filter (λ x. not (number x == k)) xs) ≡ filter (λ n. not (n == k)) (map number xs)
numbers_filter number k [] = refl
numbers_filter number k (x ∷ xs) = ⊎_elim
    (λ (yes : not (number x == k) ≡ true).
    ap (map number) (cond-true (not (number x == k)) (x ∷ filter (λ y. not (number y == k)) xs) (filter (λ y. not (number y == k)) xs) yes)
    ∙ ap (λ ns. number x ∷ ns) (numbers_filter number k xs)
    ∙ sym (cond-true (not (number x == k)) (number x ∷ filter (λ n. not (n == k)) (map number xs)) (filter (λ n. not (n == k)) (map number xs)) yes))
    (λ (no : not (number x == k) ≡ false).
    ap (map number) (cond-false (not (number x == k)) (x ∷ filter (λ y. not (number y == k)) xs) (filter (λ y. not (number y == k)) xs) no)
    ∙ numbers_filter number k xs
    ∙ sym (cond-false (not (number x == k)) (number x ∷ filter (λ n. not (n == k)) (map number xs)) (filter (λ n. not (n == k)) (map number xs)) no))
    (cases_Bool (not (number x == k)))

pub numbers_push : {X : Type 0} (number : X → ℕ) (xs : List X) (y : X) → map number (xs ++ y ∷ []) ≡ map number xs ++ number y ∷ []
numbers_push number [] y = refl
numbers_push number (x ∷ xs) y = ap (λ ns. number x ∷ ns) (numbers_push number xs y)

pub ending_numbers : (i : ℕ) (slots : List Slot) → map (λ s. s.number) (map (with_ending i) slots) ≡ map (λ s. s.number) slots
ending_numbers i [] = refl
ending_numbers i (slot ∷ slots) =
    cond_both (slot.number == i) (record slot { ending = true }) slot
    (λ (s : Slot). s.number ∷ map (λ (s : Slot). s.number) (map (with_ending i) slots) ≡ slot.number ∷ map (λ (s : Slot). s.number) slots)
    (λ _. ap (λ ns. slot.number ∷ ns) (ending_numbers i slots))
    (λ _. ap (λ ns. slot.number ∷ ns) (ending_numbers i slots))

-- another number stays where one goes
pub stays_there : (i k : ℕ) (ns : List ℕ) → (i == k) ≡ false → list_any (nat_eq i) ns ≡ true → list_any (nat_eq i) (filter (λ n. not (n == k)) ns) ≡ true
stays_there i k [] apart h = h
stays_there i k (n ∷ ns) apart h = ⊎_elim
    (λ (yes : nat_eq i n ≡ true).
    let other : not (n == k) ≡ true = ap not (ap (λ m. m == k) (sym (eqb-true i n yes)) ∙ apart) in
    ap (list_any (nat_eq i)) (cond-true (not (n == k)) (n ∷ filter (λ m. not (m == k)) ns) (filter (λ m. not (m == k)) ns) other)
    ∙ ap (λ b. b || list_any (nat_eq i) (filter (λ m. not (m == k)) ns)) yes)
    (λ (no : nat_eq i n ≡ false).
    let rest : list_any (nat_eq i) (filter (λ m. not (m == k)) ns) ≡ true = stays_there i k ns apart (sym (ap (λ b. b || list_any (nat_eq i) ns) no) ∙ h) in
    cond_both (not (n == k)) (n ∷ filter (λ m. not (m == k)) ns) (filter (λ m. not (m == k)) ns) (λ ms. list_any (nat_eq i) ms ≡ true)
    (λ _. ap (λ b. b || list_any (nat_eq i) (filter (λ m. not (m == k)) ns)) no ∙ rest)
    (λ _. rest))
    (cases_Bool (nat_eq i n))

pub still_there : (i n : ℕ) (ns : List ℕ) → list_any (nat_eq i) ns ≡ true → list_any (nat_eq i) (ns ++ n ∷ []) ≡ true
still_there i n [] h = absurd (both_ways _ refl h)
still_there i n (m ∷ ns) h = ⊎_elim
    (λ (yes : nat_eq i m ≡ true). ap (λ b. b || list_any (nat_eq i) (ns ++ n ∷ [])) yes)
    (λ (no : nat_eq i m ≡ false). ap (λ b. b || list_any (nat_eq i) (ns ++ n ∷ [])) no ∙ still_there i n ns (sym (ap (λ b. b || list_any (nat_eq i) ns) no) ∙ h))
    (cases_Bool (nat_eq i m))

pub now_there : (i : ℕ) (ns : List ℕ) → nat_eq i i ≡ true → list_any (nat_eq i) (ns ++ i ∷ []) ≡ true
now_there i [] same = ap (λ b. b || false) same
now_there i (m ∷ ns) same = ⊎_elim
    (λ (yes : nat_eq i m ≡ true). ap (λ b. b || list_any (nat_eq i) (ns ++ i ∷ [])) yes)
    (λ (no : nat_eq i m ≡ false). ap (λ b. b || list_any (nat_eq i) (ns ++ i ∷ [])) no ∙ now_there i ns same)
    (cases_Bool (nat_eq i m))

-- ---- tests

pub bit_split : (a b : Bool) → bit b ≤ bit (not a && b) + bit a
bit_split true true = omega arith
bit_split true false = omega arith
bit_split false b = omega arith

pub bit_and : (a b : Bool) → bit (a && b) ≤ bit b
bit_and true b = omega arith
bit_and false b = omega arith

pub bit_when : (a b : Bool) → a ≡ true → bit b ≤ bit (a && b)
bit_when true b h = omega arith
bit_when false b h = absurd (both_ways _ refl h)

-- what a test that fails would have let pass
pub bit_unless : (a b c : Bool) → (a ≡ false → bit b ≤ bit c) → bit (not a && b) ≤ bit c
bit_unless true b c h = omega arith
bit_unless false b c h = h refl

pub or_later : (a b : Bool) → b ≡ true → (a || b) ≡ true
or_later true b h = refl
or_later false b h = h
