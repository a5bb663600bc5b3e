use Rattle.std.proofs.Common.{◌≡◌, None, Some, sym, ◌∙◌, arith}
use Rattle.std.proofs.lemmas.Bool.{le-leb, leb-true}
use Rattle.reasons.proofs.grammar.is_within.Goals as goal

pub returns-then-low-value-clause-within : goal.returns-then-low-value-clause-within
returns-then-low-value-clause-within c = λ yes. (
  c.in-Some.value,
  ((c.read_number.ensures c.in-Some.value).0 c.in-Some.is).0,
  omega (arith, c.if-low-value.true),
  leb-true _ _ yes,
)

pub returns-then-low-value-clause-all : goal.returns-then-low-value-clause-all
returns-then-low-value-clause-all c = λ n is least most.
    let found : Some c.in-Some.value ≡ Some n =
    sym c.in-Some.is ∙ (c.read_number.ensures n).1 (is, omega arith) in
    let same : c.in-Some.value ≡ n = cc in
    le-leb _ _ (omega (arith, same, most))

pub returns-else-low-value-clause-all : goal.returns-else-low-value-clause-all
returns-else-low-value-clause-all c = λ n is least most.
    let found : Some c.in-Some.value ≡ Some n =
    sym c.in-Some.is ∙ (c.read_number.ensures n).1 (is, omega arith) in
    let same : c.in-Some.value ≡ n = cc in
    absurd (omega (arith, same, least, c.if-low-value.false))

pub returns-in-None-clause-all : goal.returns-in-None-clause-all
returns-in-None-clause-all c = λ n is least most.
    let found : None ≡ Some n = sym c.in-None.is ∙ (c.read_number.ensures n).1 (is, omega arith) in
    absurd (cc)
