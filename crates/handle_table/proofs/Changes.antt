-- The first handle of a number: where it is found, and what a change of it leaves.
use Rattle.std.proofs.Common.{◌≡◌, ◌<◌, ◌+◌, ℕ, zero, suc, Bool, true, false, List, None, Some, [], ◌∷◌, length, get_or, set}
use Rattle.std.proofs.Common.{find, position, nat_lt, sum_by, option_map, refl, sym, ap, ◌∙◌, ⊎_elim, arith}
use Rattle.std.specs.List.{position_or_len}
use Rattle.std.specs.Option.{option_and_then}
use Rattle.std.proofs.lemmas.Bool.{cases_Bool, cond-true, ltb-false}
use Rattle.std.proofs.lemmas.List.Quantifiers.{position-Some}
use Rattle.std.proofs.lemmas.List.Sums.{sum_by-cons, fails_before_first}
use Rattle.share_rules.specs.declared.index.Share.{Share}
use Rattle.handle_table.specs.declared.handle.Handle.{Handle}
use Rattle.handle_table.specs.declared.handle.Handle.TheVariants.{Persistent, Transient}
use Rattle.handle_table.specs.declared.handle.Entry.{Entry}
use Rattle.handle_table.specs.Handles.{share_of, entry_share, change_first, entry_sought, with_position, entry_moved, with_identifier}
use Rattle.handle_table.proofs.Counts.{weight, weight_of}

first_changed : {X : Type 0} (q : X → Bool) (f : X → X) (xs : List X) (i : ℕ) (d : X) → i < length xs → q (get_or xs i d) ≡ true → ((k : ℕ) → k < i → q (get_or xs k d) ≡ false) →
    set xs i (f (get_or xs i d)) ≡ change_first q f xs
first_changed q f [] i d inside here before = absurd (omega (arith, inside))
first_changed q f (x ∷ xs) zero d inside here before = rw here refl
first_changed q f (x ∷ xs) (suc i) d inside here before =
    let fails : q x ≡ false = before zero (omega arith) in
    rw fails (ap (λ ys. x ∷ ys) (first_changed q f xs i d (omega (arith, inside)) here (λ k lt. before (suc k) (omega (arith, lt)))))

pub changed_here : {X : Type 0} (q : X → Bool) (f : X → X) (xs ys : List X) (i : ℕ) (x y : X) → Some i ≡ position q ys → ys ≡ xs → x ≡ get_or xs i x → y ≡ f x → set xs i y ≡ change_first q f xs
changed_here q f xs ys i x y at same read change =
    let found = position-Some q xs i x (ap (position q) (sym same) ∙ sym at) in
    ap (λ v. set xs i v) (change ∙ ap f read) ∙ first_changed q f xs i x found.0 found.1 found.2

none_changed : {X : Type 0} (q : X → Bool) (f : X → X) (xs : List X) → ((k : ℕ) (d : X) → k < length xs → q (get_or xs k d) ≡ false) → change_first q f xs ≡ xs
none_changed q f [] fails = refl
none_changed q f (x ∷ xs) fails =
    let here : q x ≡ false = fails zero x (omega arith) in
    rw here (ap (λ ys. x ∷ ys) (none_changed q f xs (λ k d lt. fails (suc k) d (omega (arith, lt)))))

some_none : {X : Type 0} (x : X) → Some x ≡ None → ⊥
some_none x e = cc

all_fail : {X : Type 0} (q : X → Bool) (xs : List X) → position q xs ≡ None → (k : ℕ) (d : X) → k < length xs → q (get_or xs k d) ≡ false
all_fail q xs e k d lt =
    let at : ℕ = position_or_len q xs in
    fails_before_first q xs k d
    (⊎_elim
    (λ (yes : nat_lt at (length xs) ≡ true). let h : Some at ≡ None = sym (cond-true (nat_lt at (length xs)) (Some at) None yes) ∙ e in absurd (some_none at h))
    (λ (no : nat_lt at (length xs) ≡ false). omega (arith, ltb-false at (length xs) no))
    (cases_Bool (nat_lt at (length xs))))

pub nowhere_changed : {X : Type 0} (q : X → Bool) (f : X → X) (xs ys : List X) → None ≡ position q ys → ys ≡ xs → xs ≡ change_first q f xs
nowhere_changed q f xs ys at same = sym (none_changed q f xs (all_fail q xs (ap (position q) (sym same) ∙ sym at)))

first_found : {X : Type 0} (q : X → Bool) (xs : List X) (i : ℕ) (d : X) → i < length xs → q (get_or xs i d) ≡ true → ((k : ℕ) → k < i → q (get_or xs k d) ≡ false) → find q xs ≡ Some (get_or xs i d)
first_found q [] i d inside here before = absurd (omega (arith, inside))
first_found q (x ∷ xs) zero d inside here before = rw here refl
first_found q (x ∷ xs) (suc i) d inside here before =
    let fails : q x ≡ false = before zero (omega arith) in
    rw fails (first_found q xs i d (omega (arith, inside)) here (λ k lt. before (suc k) (omega (arith, lt))))

pub found_here : {X : Type 0} (q : X → Bool) (xs ys : List X) (i : ℕ) (x : X) → Some i ≡ position q ys → ys ≡ xs → x ≡ get_or xs i x → find q xs ≡ Some x
found_here q xs ys i x at same read =
    let found = position-Some q xs i x (ap (position q) (sym same) ∙ sym at) in
    first_found q xs i x found.0 found.1 found.2 ∙ ap Some (sym read)

none_found : {X : Type 0} (q : X → Bool) (xs : List X) → ((k : ℕ) (d : X) → k < length xs → q (get_or xs k d) ≡ false) → find q xs ≡ None
none_found q [] fails = refl
none_found q (x ∷ xs) fails =
    let here : q x ≡ false = fails zero x (omega arith) in
    rw here (none_found q xs (λ k d lt. fails (suc k) d (omega (arith, lt))))

pub found_nowhere : {X : Type 0} (q : X → Bool) (xs ys : List X) → None ≡ position q ys → ys ≡ xs → find q xs ≡ None
found_nowhere q xs ys at same = none_found q xs (all_fail q xs (ap (position q) (sym same) ∙ sym at))

-- ---- sums over a list whose first such element is changed

pub sum_change : {X : Type 0} (q : X → Bool) (g : X → X) (f : X → ℕ) → ((x : X) → f (g x) ≡ f x) → (xs : List X) → sum_by f (change_first q g xs) ≡ sum_by f xs
sum_change q g f same [] = refl
sum_change q g f same (x ∷ xs) =
    ⊎_elim
    (λ (yes : q x ≡ true). rw yes (sum_by-cons f (g x) xs ∙ ap (λ n. n + sum_by f xs) (same x) ∙ sym (sum_by-cons f x xs)))
    (λ (no : q x ≡ false). rw no (sum_by-cons f x (change_first q g xs) ∙ ap (λ n. f x + n) (sum_change q g f same xs) ∙ sym (sum_by-cons f x xs)))
    (cases_Bool (q x))

sought_share : (to : ℕ) (h : Handle) → share_of (with_position to h) ≡ share_of h
sought_share to (Persistent id flags position) = refl
sought_share to Transient = refl

pub sought_weight : (p : Share → Bool) (to : ℕ) (e : Entry) → weight_of p (entry_sought to e) ≡ weight_of p e
sought_weight p to e = ap (weight p) (sought_share to e.handle)

-- the share on another identifier
abbrev pub on_other : List ℕ → Share → Share
on_other to s = record { id = to; flags = s.flags }

moved_share : (to : List ℕ) (h : Handle) → share_of (with_identifier to h) ≡ option_map (on_other to) (share_of h)
moved_share to (Persistent id flags position) = refl
moved_share to Transient = refl

pub sum_moved : (p : Share → Bool) (q : Entry → Bool) (to : List ℕ) (xs : List Entry) → sum_by (weight_of p) (change_first q (entry_moved to) xs) + weight p
    (option_and_then entry_share (find q xs)) ≡ sum_by (weight_of p) xs + weight p (option_map (on_other to) (option_and_then entry_share (find q xs)))
sum_moved p q to [] = refl
sum_moved p q to (x ∷ xs) =
    ⊎_elim
    (λ (yes : q x ≡ true). rw yes (omega (arith, sum_by-cons (weight_of p) (entry_moved to x) xs, sum_by-cons (weight_of p) x xs, ap (weight p) (moved_share to x.handle))))
    (λ (no : q x ≡ false). rw no (omega (arith, sum_by-cons (weight_of p) x (change_first q (entry_moved to) xs), sum_by-cons (weight_of p) x xs, sum_moved p q to xs)))
    (cases_Bool (q x))
