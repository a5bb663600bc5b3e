-- Numbers that are computed from digits are those that the digits write.
use Rattle.std.proofs.Common.{◌≡◌, ℕ, ◌+◌, ◌-◌, ◌*◌, ◌^◌, ◌<◌, ◌≤◌, Bool, true, false, cond, ◌&&◌, eqb, leb, ltb, List, [], ◌∷◌, length, Option, Some, None, refl, sym, ap, ◌∙◌, arith, rules}
use Rattle.std.specs.Fmt.{decimal}
use Rattle.std.specs.Int.{IsInRange}
use Rattle.std.specs.List.{AllByRecursion}
use Rattle.std.specs.Str.Parse.{AllDigits}
use Rattle.std.proofs.lemmas.Bool.{and_from, and_parts, le-leb, leb-true, lt-ltb, ltb-true, ne_eqb}
use Rattle.std.proofs.lemmas.Fmt.{decimal_is_IsNumeral}
use Rattle.std.proofs.lemmas.Option.{cond_some, none-some}
use Rattle.std.proofs.lemmas.Str.Parse.{IsNumeralModel, digit_from_value, numerals_by_fold}
use Rattle.script.specs.Numbers.{is_digit, digits_on, if_it_fits, number_of, number32_of, within}
use Rattle.script.specs.Words.{IsNumber, IsNumber32}

abbrev are_digits : List ℕ → Bool
are_digits [] = true
are_digits (c ∷ cs) = is_digit c && are_digits cs

abbrev read_on : ℕ → List ℕ → ℕ
read_on n [] = n
read_on n (c ∷ cs) = read_on (n * 10 + (c - 48)) cs

own : IsNumeralModel (λ ds. are_digits ds ≡ true) (read_on 0)
own = numerals_by_fold (λ ds. are_digits ds ≡ true) (search rules) read_on (search rules)

digits_on_is : (ds : List ℕ) (n : ℕ) → digits_on n ds ≡ cond (are_digits ds) (Some (read_on n ds)) None
digits_on_is [] n = refl
digits_on_is (c ∷ cs) n =
    elim (is_digit c) as (λ b. cond b (digits_on (n * 10 + (c - 48)) cs) None ≡ cond (b && are_digits cs) (Some (read_on (n * 10 + (c - 48)) cs)) None) [
      | true ↦ digits_on_is cs (n * 10 + (c - 48))
      | false ↦ refl
    ]

by_test : (ds : List ℕ) (n : ℕ) (b : Bool) → are_digits ds ≡ b → 0 < length ds → if_it_fits (cond b (Some (read_on 0 ds)) None) ≡ Some n → IsNumber ds n × (n < 2 ^ 64)
by_test ds n true e some h =
    let p = cond_some (ltb (read_on 0 ds) (2 ^ 64)) (read_on 0 ds) n h in
    let small : read_on 0 ds < 2 ^ 64 = ltb-true (read_on 0 ds) (2 ^ 64) p.0 in
    let same : read_on 0 ds ≡ n = p.1 in
    let all : AllDigits 10 ds = own.to ds e in
    (((some, all), sym (own.same ds all) ∙ same), omega (arith, small, same))
by_test ds n false e some h = absurd (none-some n h)

-- what is read as a number is in its digits
pub number_reads : (ds : List ℕ) (n : ℕ) → number_of ds ≡ Some n → IsNumber ds n × (n < 2 ^ 64)
unfolding number_of
number_reads [] n h = absurd (none-some n h)
number_reads (c ∷ cs) n h = by_test (c ∷ cs) n (are_digits (c ∷ cs)) refl (omega arith) (sym (ap if_it_fits (digits_on_is (c ∷ cs) 0)) ∙ h)

-- the digits of a number are read as it
pub number_again : (ds : List ℕ) (n : ℕ) → IsNumber ds n → n < 2 ^ 64 → number_of ds ≡ Some n
unfolding number_of
number_again [] n h small = absurd (omega (arith, h.0.0))
number_again (c ∷ cs) n h small =
    let all : are_digits (c ∷ cs) ≡ true = own.from (c ∷ cs) h.0.1 in
    let same : read_on 0 (c ∷ cs) ≡ n = own.same (c ∷ cs) h.0.1 ∙ h.1 in
    let test : ltb n (2 ^ 64) ≡ true = lt-ltb n (2 ^ 64) small in
    ap if_it_fits (digits_on_is (c ∷ cs) 0) ∙ by_value (are_digits (c ∷ cs)) (read_on 0 (c ∷ cs)) n all same test
  where
    by_value : (b : Bool) (m n : ℕ) → b ≡ true → m ≡ n → ltb n (2 ^ 64) ≡ true → if_it_fits (cond b (Some m) None) ≡ Some n
    by_value b m n all same test = rw (all, same, test) refl

within_some : (low high n : ℕ) (o : Option ℕ) → within low high o ≡ Some n → (o ≡ Some n) × (low ≤ n) × (n ≤ high)
within_some low high n None h = absurd (none-some n h)
within_some low high n (Some m) h =
    let p = cond_some (leb low m && leb m high) m n h in
    let q = and_parts (leb low m) (leb m high) p.0 in
    let least : low ≤ m = leb-true low m q.0 in
    let most : m ≤ high = leb-true m high q.1 in
    let same : m ≡ n = p.1 in
    (ap Some same, omega (arith, least, same), omega (arith, most, same))

-- what is read as a number within bounds is in its digits, and within them
pub within_reads : (low high : ℕ) (ds : List ℕ) (n : ℕ) → within low high (number_of ds) ≡ Some n → IsNumber ds n × (low ≤ n) × (n ≤ high)
within_reads low high ds n h = let w = within_some low high n (number_of ds) h in ((number_reads ds n w.0).0, w.1, w.2)

pub within_again : (low high : ℕ) (ds : List ℕ) (n : ℕ) → high < 2 ^ 64 → IsNumber ds n → low ≤ n → n ≤ high → within low high (number_of ds) ≡ Some n
within_again low high ds n fits h least most =
    let small : n < 2 ^ 64 = omega (arith, fits, most) in
    let test : leb low n && leb n high ≡ true = and_from (leb low n) (leb n high) (le-leb low n least) (le-leb n high most) in
    ap (within low high) (number_again ds n h small) ∙ ap (λ b. cond b (Some n) None) test

pub number32_reads : (ds : List ℕ) (n : ℕ) → number32_of ds ≡ Some n → IsNumber32 ds n
number32_reads ds n h = let w = within_reads 0 (2 ^ 32 - 1) ds n h in (w.0, omega (arith, w.2))

pub number32_again : (ds : List ℕ) (n : ℕ) → IsNumber32 ds n → number32_of ds ≡ Some n
number32_again ds n h = within_again 0 (2 ^ 32 - 1) ds n (omega arith) h.0 (omega arith) (omega (arith, h.1))

-- a byte that is printed, and no space
abbrev pub IsGraphic : ℕ → Type 0
IsGraphic c = (32 < c) × (c < 128)

-- a byte of a part of a parameter is no colon
abbrev pub IsPartByte : ℕ → Type 0
IsPartByte c = IsGraphic c × (eqb c 58 ≡ false)

in_range_part : (c : ℕ) → IsInRange 48 57 c → IsPartByte c
in_range_part c h = ((omega (arith, h.0), omega (arith, h.1)), ne_eqb c 58 (λ e. omega (arith, h.1)))

pub digits_part : (ds : List ℕ) → AllDigits 10 ds → AllByRecursion IsPartByte ds
digits_part [] h = tt
digits_part (c ∷ cs) h = (in_range_part c (digit_from_value c h.0), digits_part cs h.1)

-- a number's own digits write it
pub decimal_number : (n : ℕ) → n < 2 ^ 64 → IsNumber (decimal n) n
decimal_number n small = decimal_is_IsNumeral n small
