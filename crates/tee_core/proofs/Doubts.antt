-- The place of the first application whose change is in doubt.
use Rattle.std.proofs.Common.{◌≡◌, ◌<◌, ℕ, zero, suc, Bool, true, false, List, [], ◌∷◌, Option, None, Some, length, get_or, position, nat_lt, sym, ◌∙◌, ⊎_elim, arith}
use Rattle.std.specs.Prelude.{IfNone, slice_get}
use Rattle.std.specs.List.{position_or_len}
use Rattle.std.proofs.lemmas.Bool.{cases_Bool, cond-true, ltb-false}
use Rattle.std.proofs.lemmas.List.Quantifiers.{position-Some}
use Rattle.std.proofs.lemmas.List.Sums.{fails_before_first}
use Rattle.app_side.specs.Represents.{has_doubt}
use Rattle.app_side.specs.declared.side.AppSide.{AppSide}
use Rattle.tee_core.specs.Sides.{IsNoneInDoubt}
use Rattle.tee_core.proofs.SideLemmas.{get_there}

some_none : {X : Type 0} (x : X) → Some x ≡ None → ⊥
some_none x e = cc

all_fail : {X : Type 0} (q : X → Bool) (xs : List X) → position q xs ≡ None → (k : ℕ) (d : X) → k < length xs → q (get_or xs k d) ≡ false
all_fail q xs e k d lt =
    let at : ℕ = position_or_len q xs in
    fails_before_first q xs k d
    (⊎_elim
    (λ (yes : nat_lt at (length xs) ≡ true). let h : Some at ≡ None = sym (cond-true (nat_lt at (length xs)) (Some at) None yes) ∙ e in absurd (some_none at h))
    (λ (no : nat_lt at (length xs) ≡ false). omega (arith, ltb-false at (length xs) no))
    (cases_Bool (nat_lt at (length xs))))

none_by : {A : Type 0} (ss : List (AppSide A)) → ((k : ℕ) (d : AppSide A) → k < length ss → has_doubt (get_or ss k d) ≡ false) → IsNoneInDoubt ss
none_by [] fail = tt
none_by (s ∷ ss) fail = (fail zero s (omega arith), none_by ss (λ k d lt. fail (suc k) d (omega (arith, lt))))

-- it is at no place
pub doubts_none : {A : Type 0} (ss : List (AppSide A)) → None ≡ position (λ (s : AppSide A). has_doubt s) ss → IsNoneInDoubt ss
doubts_none {A} ss is = none_by ss (all_fail (λ (s : AppSide A). has_doubt s) ss (sym is))

first_there : {A : Type 0} (ss : List (AppSide A)) (i : ℕ) (s : AppSide A) → Some i ≡ position (λ (x : AppSide A). has_doubt x) ss →
    (side : AppSide A) × (slice_get ss i ≡ Some side) × (has_doubt side ≡ true)
first_there {A} ss i s is =
    let found = position-Some (λ (x : AppSide A). has_doubt x) ss i s (sym is) in
    (get_or ss i s, get_there ss i s found.0, found.1)

-- it is at this place
pub doubts_some : {A : Type 0} (ss : List (AppSide A)) (i : ℕ) → Some i ≡ position (λ (x : AppSide A). has_doubt x) ss → (side : AppSide A) × (slice_get ss i ≡ Some side) × (has_doubt side ≡ true)
doubts_some {A} [] i is = absurd (let e : Some i ≡ None = is in cc)
doubts_some {A} (s ∷ ss) i is = first_there (s ∷ ss) i s is

-- which is within them
pub place_below : {A : Type 0} (ss : List (AppSide A)) (i : ℕ) → Some i ≡ position (λ (x : AppSide A). has_doubt x) ss → i < length ss
place_below {A} [] i is = absurd (let e : Some i ≡ None = is in cc)
place_below {A} (s ∷ ss) i is = (position-Some (λ (x : AppSide A). has_doubt x) (s ∷ ss) i s (sym is)).0

pub if_none_known : {X : Type 0} (o : Option X) (P : Type 0) → P → IfNone o P
if_none_known None P p = p
if_none_known (Some x) P p = tt
