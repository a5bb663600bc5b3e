-- The numbers beside the replies of a log, and which replies needn't be looked at.
use Rattle.std.proofs.Common.{ℕ, zero, suc, ◌≡◌, ◌-◌, ◌≤◌, ◌<◌, ◌==◌, false, cond, List, [], ◌∷◌, ◌++◌, Option, Some, drop, find, get_or, length, max, refl, sym, subst, ap, ◌∙◌, arith}
use Rattle.std.specs.Prelude.{slice_get}
use Rattle.std.specs.Option.{unwrap_or}
use Rattle.alone.specs.declared.reply.Reply.{Reply}
use Rattle.alone.specs.KeptLogs.{highs_from, last_high}

-- those of one list of replies behind another
pub highs_behind : (high : ℕ) (xs ys : List Reply) → highs_from high (xs ++ ys) ≡ highs_from high xs ++ highs_from (last_high high (highs_from high xs)) ys
highs_behind high [] ys = refl
highs_behind high (x ∷ xs) ys = ap (λ (hs : List ℕ). max high x.op ∷ hs) (highs_behind (max high x.op) xs ys)

pub highs_count : (high : ℕ) (rs : List Reply) → length (highs_from high rs) ≡ length rs
highs_count high [] = refl
highs_count high (r ∷ rs) = ap suc (highs_count (max high r.op) rs)

-- none is less than the one before all of them
at_least : (high : ℕ) (rs : List Reply) (k : ℕ) → k ≤ length rs → high ≤ get_or (high ∷ highs_from high rs) k 0
at_least high rs zero le = omega arith
at_least high [] (suc k) le = absurd (omega (arith, le))
at_least high (r ∷ rs) (suc k) le = let more = at_least (max high r.op) rs k (omega (arith, le)) in omega (arith, more)

-- a reply to another operation isn't the one
other_first : (op : ℕ) (r : Reply) (rs : List Reply) → r.op < op → find (λ x. x.op == op) rs ≡ find (λ x. x.op == op) (r ∷ rs)
other_first op r rs less =
    let other : (r.op == op) ≡ false = (let lt : r.op < op = less in grind arith) in
    sym (ap (λ b. cond b (Some r) (find (λ (x : Reply). x.op == op) rs)) other)

-- where the number of the last of the first replies is less than that of an operation, none of these answers it
pub none_before : (high op n : ℕ) (rs : List Reply) → n ≤ length rs → (0 < n → get_or (highs_from high rs) (n - 1) 0 < op)
    → find (λ r. r.op == op) (drop n rs) ≡ find (λ r. r.op == op) rs
none_before high op zero rs le less = refl
none_before high op (suc n) [] le less = absurd (omega (arith, le))
none_before high op (suc zero) (r ∷ rs) le less =
    let place : suc zero - 1 ≡ zero = omega arith in
    let here : max high r.op < op = subst (λ k. get_or (highs_from high (r ∷ rs)) k 0 < op) place (less (omega arith)) in
    other_first op r rs (omega (arith, here))
none_before high op (suc (suc n)) (r ∷ rs) le less =
    let place : suc (suc n) - 1 ≡ suc n = omega arith in
    let last : suc n - 1 ≡ n = omega arith in
    let some : 0 < suc (suc n) = omega arith in
    let here : get_or (highs_from (max high r.op) rs) n 0 < op = subst (λ k. get_or (highs_from high (r ∷ rs)) k 0 < op) place (less some) in
    let low : max high r.op ≤ get_or (highs_from (max high r.op) rs) n 0 = at_least (max high r.op) rs (suc n) (omega (arith, le)) in
    none_before (max high r.op) op (suc n) rs (omega (arith, le)) (λ _. subst (λ k. get_or (highs_from (max high r.op) rs) k 0 < op) (sym last) here)
    ∙ other_first op r rs (omega (arith, here, low))

-- ---- the last of them

last_there : (high : ℕ) (highs : List ℕ) → slice_get (high ∷ highs) (length highs) ≡ Some (last_high high highs)
last_there high [] = refl
last_there high (next ∷ highs) = last_there next highs

-- it is what is read at the last place
pub last_read : (highs : List ℕ) → unwrap_or (slice_get highs (length highs - 1)) 0 ≡ last_high 0 highs
last_read [] = refl
last_read (high ∷ highs) =
    let place : length (high ∷ highs) - 1 ≡ length highs = omega arith in
    ap (λ (k : ℕ). unwrap_or (slice_get (high ∷ highs) k) 0) place ∙ ap (λ (o : Option ℕ). unwrap_or o 0) (last_there high highs)
