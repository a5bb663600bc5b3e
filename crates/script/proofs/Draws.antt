-- Lines that are drawn one after the other.
use Rattle.std.proofs.Common.{◌≡◌, ℕ, zero, suc, ◌+◌, List, [], ◌∷◌, ◌++◌, map, ap, sym, arith, ◌∙◌}
use Rattle.std.specs.List.{range_with_len}
use Rattle.std.proofs.lemmas.List.FromFn.{map-range_with_len_more}
use Rattle.script.specs.Workload.{next_state, state_after}

-- so many draws behind so many are all of them
pub state_more : (number before more : ℕ) → state_after (state_after number before) more ≡ state_after number (before + more)
state_more number before zero = ap (state_after number) (omega arith)
state_more number before (suc more) =
    let e : suc (before + more) ≡ before + suc more = omega arith in
    ap next_state (state_more number before more) ∙ ap (state_after number) e

-- one more is appended to those that a function gives
pub one_more : {X : Type 0} (f : ℕ → X) (n : ℕ) (xs ys : List X) (x : X) → xs ≡ map f (range_with_len 0 n) → x ≡ f n → ys ≡ xs ++ x ∷ []
    → ys ≡ map f (range_with_len 0 (n + 1))
one_more {X} f n xs ys x before here more =
    more ∙ ap (λ (zs : List X). zs ++ x ∷ []) before ∙ ap (λ (z : X). map f (range_with_len 0 n) ++ z ∷ []) here
    ∙ sym (map-range_with_len_more f 0 n n (omega arith))
