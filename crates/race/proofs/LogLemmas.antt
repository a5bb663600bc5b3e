-- Logs that go on, and what a log keeps.
use Rattle.std.proofs.Common.{◌≡◌, ◌≤◌, ◌<◌, ◌+◌, ◌++◌, ◌∙◌, ◌⊎◌, ◌||◌, ℕ, zero, suc, Bool, true, false, List, [], ◌∷◌, None, Some, leb, ltb, length, map, refl, sym, subst, ap, inl, inr, ⊎_elim}
use Rattle.std.proofs.Common.{arith, length-append}
use Rattle.std.proofs.lemmas.Bool.{leb-true, le-leb, lt-ltb, ltb-true}
use Rattle.std.proofs.lemmas.Bool.Decides.{leb_tells}
use Rattle.std.proofs.lemmas.Option.{slice_get-map}
use Rattle.std.specs.Prelude.{option_map, slice_get}
use mathlib.Core.List.{IsPrefix}
use Rattle.tee_base.specs.declared.limits.TheConstants.{MAX_LOG_BYTES, MAX_LOG_ENTRIES}
use Rattle.alone.specs.Logs.{KeptLog, Logged, bytes_in, is_full}
use Rattle.race.specs.Races.{AllKeep, entries_of}

-- ---- lists

-- what is at a place of a list is mapped there
pub map_there : {X Y : Type 0} (f : X → Y) (xs : List X) (i : ℕ) (x : X) → slice_get xs i ≡ Some x → slice_get (map f xs) i ≡ Some (f x)
map_there f xs i x there = slice_get-map f xs i ∙ ap (option_map f) there

-- what is at a place of a mapped list is mapped from what is there
pub map_at : {X Y : Type 0} (f : X → Y) (xs : List X) (i : ℕ) (y : Y) → slice_get (map f xs) i ≡ Some y → (x : X) × (slice_get xs i ≡ Some x) × (f x ≡ y)
map_at f [] i y here = absurd (let e : None ≡ Some y = here in cc (e))
map_at f (x ∷ xs) zero y here = (x, refl, (let e : Some (f x) ≡ Some y = here in cc (e)))
map_at f (x ∷ xs) (suc i) y here = map_at f xs i y here

-- a place before the next is the last or before it
last_or_before : (app n : ℕ) → app < n + 1 → (app < n) ⊎ (app ≡ n)
last_or_before app n lt = ⊎_elim (λ t. inl (let h = t.1 in omega (arith, h))) (λ t. inr (let h = t.1 in omega (arith, h, lt))) (leb_tells (app + 1) n)

-- ---- logs that go on

bytes_append : (xs ys : List Logged) → bytes_in (xs ++ ys) ≡ bytes_in xs + bytes_in ys
bytes_append [] ys = omega arith
bytes_append (x ∷ xs) ys = let rest = bytes_append xs ys in omega (arith, rest)

or_either : (a b : Bool) → (a || b) ≡ true → (a ≡ true) ⊎ (b ≡ true)
or_either true b is = inl refl
or_either false b is = inr is

or_both : (a b c d : Bool) → (a ≡ true → c ≡ true) → (b ≡ true → d ≡ true) → (a || b) ≡ true → (c || d) ≡ true
or_both true b c d f g is = ap (λ (x : Bool). x || d) (f refl)
or_both false b true d f g is = refl
or_both false b false d f g is = g is

-- a log that goes on from a full one is full
pub fuller_later : (log more : List Logged) (bytes : ℕ) → IsPrefix log more → is_full log bytes ≡ true → is_full more bytes ≡ true
fuller_later log more bytes goes_on full =
    let longer : length more ≡ length log + length goes_on.0 = ap (λ (ls : List Logged). length ls) (sym goes_on.1) ∙ length-append log goes_on.0 in
    let heavier : bytes_in more ≡ bytes_in log + bytes_in goes_on.0 = ap (λ (ls : List Logged). bytes_in ls) (sym goes_on.1) ∙ bytes_append log goes_on.0 in
    or_both (leb MAX_LOG_ENTRIES (length log)) (ltb MAX_LOG_BYTES (bytes_in log + bytes)) (leb MAX_LOG_ENTRIES (length more)) (ltb MAX_LOG_BYTES (bytes_in more + bytes))
    (λ many. let le = leb-true MAX_LOG_ENTRIES (length log) many in le-leb MAX_LOG_ENTRIES (length more) (omega (arith, le, longer)))
    (λ over. let lt = ltb-true MAX_LOG_BYTES (bytes_in log + bytes) over in lt-ltb MAX_LOG_BYTES (bytes_in more + bytes) (omega (arith, lt, heavier)))
    full

-- a log that has no place for an entry without bytes has as many entries as one may have
pub many_entries : (log : List Logged) → bytes_in log ≤ MAX_LOG_BYTES → is_full log 0 ≡ true → MAX_LOG_ENTRIES ≤ length log
many_entries log kept full =
    ⊎_elim
    (λ many. leb-true MAX_LOG_ENTRIES (length log) many)
    (λ over. absurd (let lt = ltb-true MAX_LOG_BYTES (bytes_in log + 0) over in omega (arith, lt, kept)))
    (or_either (leb MAX_LOG_ENTRIES (length log)) (ltb MAX_LOG_BYTES (bytes_in log + 0)) full)

-- ---- what logs keep

-- one log more keeps it
pub kept_more : (logs : List KeptLog) (n : ℕ) (one : KeptLog) → slice_get logs n ≡ Some one
    → ((app : ℕ) (log : KeptLog) → app < n → slice_get logs app ≡ Some log → bytes_in log.entries ≤ MAX_LOG_BYTES) → bytes_in one.entries ≤ MAX_LOG_BYTES
    → (app : ℕ) (log : KeptLog) → app < n + 1 → slice_get logs app ≡ Some log → bytes_in log.entries ≤ MAX_LOG_BYTES
kept_more logs n one at before keeps app log lt here =
    ⊎_elim
    (λ (less : app < n). before app log less here)
    (λ (is : app ≡ n). let same : Some one ≡ Some log = sym at ∙ ap (λ k. slice_get logs k) (sym is) ∙ here in
    subst (λ l. bytes_in l.entries ≤ MAX_LOG_BYTES) (let e : one ≡ log = cc (same) in e) keeps)
    (last_or_before app n lt)

-- so do the logs by their entries
pub kept_there : (logs : List KeptLog) (app : ℕ) (log : List Logged) → AllKeep logs → slice_get (entries_of logs) app ≡ Some log → bytes_in log ≤ MAX_LOG_BYTES
kept_there logs app log all here =
    let t = map_at (λ (l : KeptLog). l.entries) logs app log here in
    subst (λ ls. bytes_in ls ≤ MAX_LOG_BYTES) t.2 (all app t.0 t.1)
