use Rattle.std.proofs.Common.{◌≡◌, ◌≤◌, ◌^◌, ◌*◌, ◌+◌, ◌-◌, ℕ, List, [], ◌∷◌, None, true, false, arith, cond, refl, sym, ◌∙◌, ap, ◌<◌, leb, length, drop, drop-cons, get_or, suc}
use Rattle.std.proofs.lemmas.Bool.{and_parts, leb-true}
use Rattle.std.proofs.lemmas.Bool.Decides.{nat_tests}
use Rattle.script.specs.Numbers.{if_it_fits, digits_on, is_digit}
use Rattle.script.proofs.number.value.Goals as goal

-- digits behind a number that is too large make a number that is too large
too_large : (ds : List ℕ) (n : ℕ) → 2 ^ 64 ≤ n → if_it_fits (digits_on n ds) ≡ None
too_large [] n large = grind (arith, nat_tests)
too_large (c ∷ cs) n large = elim (is_digit c) as (λ b. if_it_fits (cond b (digits_on (n * 10 + (c - 48)) cs) None) ≡ None) [
  | true ↦ too_large cs (n * 10 + (c - 48)) (omega arith)
  | false ↦ refl
]

-- digits from a place on, by the first of them
from_place : (ds : List ℕ) (i v : ℕ) → i < length ds → is_digit (get_or ds i 0) ≡ true → digits_on v (drop i ds) ≡ digits_on (v * 10 + (get_or ds i 0 - 48)) (drop (suc i) ds)
from_place ds i v within digit = ap (digits_on v) (drop-cons ds i 0 within) ∙ ap (λ b. cond b (digits_on (v * 10 + (get_or ds i 0 - 48)) (drop (suc i) ds)) None) digit

pub returns-then-value-unit : goal.returns-then-value-unit
returns-then-value-unit c =
    let digit : is_digit (get_or c.args.digits.now c.loop-digit.digit-index 0) ≡ true = sym c.if-not-is_ascii_digit.ensures.value in
    let high = leb-true (get_or c.args.digits.now c.loop-digit.digit-index 0) 57 (and_parts (leb 48 (get_or c.args.digits.now c.loop-digit.digit-index 0))
    (leb (get_or c.args.digits.now c.loop-digit.digit-index 0) 57) digit).1 in
    sym (ap if_it_fits (sym c.loop-digit.invariant.value ∙ from_place c.args.digits.now c.loop-digit.digit-index c.loop-digit.value (omega arith) digit)
    ∙ too_large (drop (suc c.loop-digit.digit-index) c.args.digits.now) (c.loop-digit.value * 10 + (get_or c.args.digits.now c.loop-digit.digit-index 0 - 48))
    (omega (arith, high, c.if-value-unit.true, c.from-unit.ensures)))
