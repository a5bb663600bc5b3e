-- What a call over files hands on of the answer that the files gave.
use Rattle.std.proofs.Common.{◌≡◌, ℕ, Option, None, Some, Result, Ok, Err, IfOk, IfSome, IfNone, IsErr, refl, subst, sym}
use Rattle.std.proofs.lemmas.Result.{IfOk-from_err}

-- what holds of an answer holds of the same answer of the call
pub handed : {A E F : Type 0} (answer : Result A E) (result : Result A F) (P : A → Type 0) → IfOk result (λ value. answer ≡ Ok value) → IfOk answer P → IfOk result P
handed {A} {E} answer (Ok value) P same has = subst (λ (r : Result A E). IfOk r P) same has
handed answer (Err e) P same has = tt

-- a number that is answered where one is known is that one
pub told_number : {E : Type 0} (number : Option ℕ) (answer : Result ℕ E) → IfSome number (λ n. answer ≡ Ok n) → IfNone number (IsErr answer) → IfOk answer (λ n. number ≡ Some n)
told_number {E} (Some n) answer some none = subst (λ (r : Result ℕ E). IfOk r (λ m. Some n ≡ Some m)) (sym some) refl
told_number None answer some none =
    let nothing : Option ℕ = None in
    IfOk-from_err answer (λ (n : ℕ). nothing ≡ Some n) none
