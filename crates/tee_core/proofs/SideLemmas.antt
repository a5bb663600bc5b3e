-- Lists of applications, and the worlds that they stand for.
use Rattle.std.proofs.Common.{◌≡◌, ◌≢◌, ◌++◌, ◌<◌, ◌+◌, ℕ, zero, suc, Bool, List, [], ◌∷◌, None, Some, length, map, get_or, set, refl, sym, subst, ◌∙◌, ap, append_assoc, arith}
use Rattle.std.specs.Prelude.{slice_get}
use Rattle.app_api.specs.declared.host.Host.{Host}
use Rattle.store_api.specs.Stores.{Store, empty_store}
use Rattle.alone.specs.Machine.{Machine, start}
use Rattle.app_side.specs.Represents.{Represents as Runs_as, boot_of, is_lost, machine_over, turns_of}
use Rattle.app_side.specs.declared.side.AppSide.{AppSide}
use Rattle.tee_core.specs.Sides.{AreBooted, AreLost, AreSides, turns_in}
use Rattle.tee_core.specs.World.{World, starts_from}

-- ---- lists

pub set_same : {X : Type 0} (xs : List X) (i : ℕ) (x : X) → slice_get xs i ≡ Some x → set xs i x ≡ xs
set_same [] i x e = refl
set_same (y ∷ xs) zero x e = ap (λ z. z ∷ xs) (let f : Some y ≡ Some x = e in cc)
set_same (y ∷ xs) (suc i) x e = ap (λ zs. y ∷ zs) (set_same xs i x e)

pub get_set : {X : Type 0} (xs : List X) (i : ℕ) (x y : X) → slice_get xs i ≡ Some x → slice_get (set xs i y) i ≡ Some y
get_set [] i x y e = absurd (let f : None ≡ Some x = e in cc)
get_set (z ∷ xs) zero x y e = refl
get_set (z ∷ xs) (suc i) x y e = get_set xs i x y e

pub get_other : {X : Type 0} (xs : List X) (i j : ℕ) (y : X) → j ≢ i → slice_get (set xs i y) j ≡ slice_get xs j
get_other [] i j y other = refl
get_other (x ∷ xs) zero zero y other = absurd (other refl)
get_other (x ∷ xs) zero (suc j) y other = refl
get_other (x ∷ xs) (suc i) zero y other = refl
get_other (x ∷ xs) (suc i) (suc j) y other = get_other xs i j y (λ same. other (ap (λ n. suc n) same))

pub set_set : {X : Type 0} (xs : List X) (i : ℕ) (x y : X) → set (set xs i x) i y ≡ set xs i y
set_set [] i x y = refl
set_set (z ∷ xs) zero x y = refl
set_set (z ∷ xs) (suc i) x y = ap (λ zs. z ∷ zs) (set_set xs i x y)

pub set_there : {X : Type 0} (xs : List X) (i : ℕ) (y : X) → i < length xs → slice_get (set xs i y) i ≡ Some y
set_there [] i y lt = absurd (omega (arith, lt))
set_there (x ∷ xs) zero y lt = refl
set_there (x ∷ xs) (suc i) y lt = set_there xs i y (omega (arith, lt))

pub get_there : {X : Type 0} (xs : List X) (i : ℕ) (d : X) → i < length xs → slice_get xs i ≡ Some (get_or xs i d)
get_there [] i d lt = absurd (omega (arith, lt))
get_there (x ∷ xs) zero d lt = refl
get_there (x ∷ xs) (suc i) d lt = get_there xs i d (omega (arith, lt))

pub map_set : {X Y : Type 0} (f : X → Y) (xs : List X) (i : ℕ) (x : X) → map f (set xs i x) ≡ set (map f xs) i (f x)
map_set f [] i x = refl
map_set f (y ∷ xs) zero x = refl
map_set f (y ∷ xs) (suc i) x = ap (λ zs. f y ∷ zs) (map_set f xs i x)

-- ---- applications and machines

-- one more of each
pub sides_more : {A : Type 0} (ss : List (AppSide A)) (world : World A) (s : AppSide A) (m : Machine A) → AreSides ss world → Runs_as s m → AreSides (ss ++ s ∷ []) (world ++ m ∷ [])
sides_more [] [] s m are is = (is, tt)
sides_more [] (n ∷ world) s m are is = absurd are
sides_more (k ∷ ss) [] s m are is = absurd are
sides_more (k ∷ ss) (n ∷ world) s m are is = (are.0, sides_more ss world s m are.1 is)

-- the machine at a place
pub side_at : {A : Type 0} (ss : List (AppSide A)) (world : World A) (i : ℕ) → AreSides ss world → i < length ss →
    (m : Machine A) × (slice_get world i ≡ Some m) × ((d : AppSide A) → Runs_as (get_or ss i d) m)
side_at [] world i are lt = absurd (omega (arith, lt))
side_at (s ∷ ss) [] i are lt = absurd are
side_at (s ∷ ss) (m ∷ world) zero are lt = (m, refl, λ d. are.0)
side_at (s ∷ ss) (m ∷ world) (suc i) are lt = side_at ss world i are.1 (omega (arith, lt))

-- what is stood for at a place is the machine there
pub side_here : {A : Type 0} (ss : List (AppSide A)) (world : World A) (i : ℕ) (old d : AppSide A) (m : Machine A) → AreSides ss world → i < length ss → old ≡ get_or ss i d →
    slice_get world i ≡ Some m → Runs_as old m
side_here {A} ss world i old d m are lt value here =
    let p = side_at ss world i are lt in
    let same : p.0 ≡ m = let e : Some p.0 ≡ Some m = sym p.1 ∙ here in cc in
    subst (λ (n : Machine A). Runs_as old n) same (subst (λ (s : AppSide A). Runs_as s p.0) (sym value) (p.2 d))

-- another one at a place
pub sides_set : {A : Type 0} (ss : List (AppSide A)) (world : World A) (i : ℕ) (s : AppSide A) (m : Machine A) → AreSides ss world → Runs_as s m → AreSides (set ss i s) (set world i m)
sides_set [] [] i s m are is = tt
sides_set [] (n ∷ world) i s m are is = absurd are
sides_set (k ∷ ss) [] i s m are is = absurd are
sides_set (k ∷ ss) (n ∷ world) zero s m are is = (is, are.1)
sides_set (k ∷ ss) (n ∷ world) (suc i) s m are is = (are.0, sides_set ss world i s m are.1 is)

-- an application at a place that still stands for what it stood for
pub sides_kept : {A : Type 0} (ss : List (AppSide A)) (world : World A) (i : ℕ) (old new d : AppSide A) → AreSides ss world → i < length ss → old ≡ get_or ss i d →
    ((m : Machine A) → Runs_as old m → Runs_as new m) → AreSides (set ss i new) world
sides_kept ss world i old new d are lt value keeps =
    let p = side_at ss world i are lt in
    subst (AreSides (set ss i new)) (set_same world i p.0 p.1) (sides_set ss world i new p.0 are (keeps p.0 (side_here ss world i old d p.0 are lt value p.1)))

-- a machine that a value stands for: each value has one
pub some_machine : {A : Type 0} (side : AppSide A) → Runs_as side (machine_over side empty_store empty_store)
some_machine side = record { doubt = empty_store; parts = refl }

-- ---- their losses and counts

pub lost_set : {A : Type 0} (lost : Bool) (ss : List (AppSide A)) (i : ℕ) (s : AppSide A) → AreLost lost ss → is_lost s ≡ lost → AreLost lost (set ss i s)
lost_set lost [] i s are is = tt
lost_set lost (k ∷ ss) zero s are is = (is, are.1)
lost_set lost (k ∷ ss) (suc i) s are is = (are.0, lost_set lost ss i s are.1 is)

pub lost_at : {A : Type 0} (lost : Bool) (ss : List (AppSide A)) (i : ℕ) (d : AppSide A) → AreLost lost ss → i < length ss → is_lost (get_or ss i d) ≡ lost
lost_at lost [] i d are lt = absurd (omega (arith, lt))
lost_at lost (s ∷ ss) zero d are lt = are.0
lost_at lost (s ∷ ss) (suc i) d are lt = lost_at lost ss i d are.1 (omega (arith, lt))

pub lost_more : {A : Type 0} (lost : Bool) (ss : List (AppSide A)) (s : AppSide A) → AreLost lost ss → is_lost s ≡ lost → AreLost lost (ss ++ s ∷ [])
lost_more lost [] s are is = (is, tt)
lost_more lost (k ∷ ss) s are is = (are.0, lost_more lost ss s are.1 is)

pub booted_set : {A : Type 0} (boots : ℕ) (ss : List (AppSide A)) (i : ℕ) (s : AppSide A) → AreBooted boots ss → boot_of s ≡ boots → AreBooted boots (set ss i s)
booted_set boots [] i s are is = tt
booted_set boots (k ∷ ss) zero s are is = (is, are.1)
booted_set boots (k ∷ ss) (suc i) s are is = (are.0, booted_set boots ss i s are.1 is)

pub booted_at : {A : Type 0} (boots : ℕ) (ss : List (AppSide A)) (i : ℕ) (d : AppSide A) → AreBooted boots ss → i < length ss → boot_of (get_or ss i d) ≡ boots
booted_at boots [] i d are lt = absurd (omega (arith, lt))
booted_at boots (s ∷ ss) zero d are lt = are.0
booted_at boots (s ∷ ss) (suc i) d are lt = booted_at boots ss i d are.1 (omega (arith, lt))

pub booted_more : {A : Type 0} (boots : ℕ) (ss : List (AppSide A)) (s : AppSide A) → AreBooted boots ss → boot_of s ≡ boots → AreBooted boots (ss ++ s ∷ [])
booted_more boots [] s are is = (is, tt)
booted_more boots (k ∷ ss) s are is = (are.0, booted_more boots ss s are.1 is)

-- the turns of the application at a place, before it is replaced and after
pub turns_here : {A : Type 0} (ss : List (AppSide A)) (i : ℕ) (old d : AppSide A) → i < length ss → old ≡ get_or ss i d → turns_in (slice_get ss i) ≡ turns_of old
turns_here {A} ss i old d lt value = ap turns_in (get_there ss i d lt) ∙ ap (λ (s : AppSide A). turns_of s) (sym value)

pub turns_then : {A : Type 0} (ss : List (AppSide A)) (i : ℕ) (new : AppSide A) → i < length ss → turns_in (slice_get (set ss i new) i) ≡ turns_of new
turns_then ss i new lt = ap turns_in (set_there ss i new lt)

pub turns_others : {A : Type 0} (ss : List (AppSide A)) (i j : ℕ) (new : AppSide A) → j ≢ i → turns_in (slice_get (set ss i new) j) ≡ turns_in (slice_get ss j)
turns_others ss i j new other = ap turns_in (get_other ss i j new other)

-- where the lists of turns are the same, so are the turns at each place
pub turns_mapped : {A : Type 0} (ss ts : List (AppSide A)) → map (λ s. turns_of s) ss ≡ map (λ s. turns_of s) ts → (i : ℕ) → turns_in (slice_get ss i) ≡ turns_in (slice_get ts i)
turns_mapped [] [] same i = refl
turns_mapped [] (t ∷ ts) same i = absurd (let e : [] ≡ turns_of t ∷ map (λ s. turns_of s) ts = same in cc)
turns_mapped (s ∷ ss) [] same i = absurd (let e : turns_of s ∷ map (λ s. turns_of s) ss ≡ [] = same in cc)
turns_mapped (s ∷ ss) (t ∷ ts) same zero = let e : turns_of s ∷ map (λ s. turns_of s) ss ≡ turns_of t ∷ map (λ s. turns_of s) ts = same in cc
turns_mapped (s ∷ ss) (t ∷ ts) same (suc i) = turns_mapped ss ts (let e : turns_of s ∷ map (λ s. turns_of s) ss ≡ turns_of t ∷ map (λ s. turns_of s) ts = same in cc) i

-- there are as many as there are machines, and as many machines as hosts
pub sides_length : {A : Type 0} (ss : List (AppSide A)) (world : World A) → AreSides ss world → length ss ≡ length world
sides_length [] [] are = refl
sides_length [] (m ∷ world) are = absurd are
sides_length (s ∷ ss) [] are = absurd are
sides_length (s ∷ ss) (m ∷ world) are = ap (λ n. suc n) (sides_length ss world are.1)

-- the first host's machine, and those of the others behind it
pub starts_one : {A : Type 0} (front : World A) (n : ℕ) (host : Host A) (hosts : List (Host A)) (seed : List ℕ) (stores : ℕ → Store) →
    (front ++ start host n seed (stores n) ∷ []) ++ starts_from (n + 1) hosts seed stores ≡ front ++ starts_from n (host ∷ hosts) seed stores
starts_one front n host hosts seed stores = append_assoc front (start host n seed (stores n) ∷ []) (starts_from (n + 1) hosts seed stores)

pub starts_length : {A : Type 0} (n : ℕ) (hosts : List (Host A)) (seed : List ℕ) (stores : ℕ → Store) → length (starts_from n hosts seed stores) ≡ length hosts
starts_length n [] seed stores = refl
starts_length n (host ∷ hosts) seed stores = ap (λ k. suc k) (starts_length (n + 1) hosts seed stores)
