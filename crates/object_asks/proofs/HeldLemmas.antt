-- Keys and the handles on them belong together, and what keeps it.
use Rattle.std.proofs.Common.{ℕ, ◌≡◌, nat_le, length, ◌+◌, ◌<◌, ◌≤◌, Option, None, Some, find, option_map, sum_by, ◌==◌, ◌&&◌, ◌||◌, Bool, true, false, not, cond}
use Rattle.std.proofs.Common.{List, [], ◌∷◌, ◌++◌, map, filter, count_by, arith, refl, sym, ap, ◌∙◌, ⊎_elim, Result, Ok, Err, IfOk, OnErr, subst}
use Rattle.std.specs.List.{list_all, list_any}
use Rattle.std.proofs.lemmas.Bool.{cases_Bool, eqb-true}
use Rattle.std.proofs.lemmas.List.Filters.{sum_by-filter_both}
use Rattle.std.proofs.lemmas.List.Sums.{sum_by-cons, sum_by_push}
use Rattle.handle_table.proofs.Changes.{sum_change}
use Rattle.object_asks.specs.declared.numbered.Walk.{Walk}
use Rattle.object_asks.specs.declared.numbered.Walk.TheVariants.{Idle}
use Rattle.object_asks.specs.Lists.{with_walk}
use Rattle.tee_base.specs.declared.codes.Flags.{Flags}
use Rattle.handle_table.specs.declared.handle.Entry.{Entry}
use Rattle.handle_table.specs.declared.handle.Handle.{Handle}
use Rattle.handle_table.specs.declared.handle.Handle.TheVariants.{Persistent, Transient}
use Rattle.handle_table.specs.Handles.{change_first, entry_moved, entry_sought, free_number, handle_at, is_at, with_identifier, with_position}
use Rattle.object_asks.specs.Handles.{entry_has_identifier, has_identifier, without_rename}
use Rattle.transient_obj.specs.Keys.{Key}
use Rattle.object_asks.specs.Held.{BelongTogether, Held, NumberedKey, NumberedList, handle_added, handle_closed, is_in_memory, is_transient}
use Rattle.object_asks.specs.Held.{key_place, key_places, memory_places, place_of, is_list_at, is_list_of, with_key}
use Rattle.object_asks.proofs.HandleLemmas.{both, closed_again, first_true, free_absent, or_first, or_second, second_true}

-- the places of what stays, by a test of places
places_left : (f : ℕ × ℕ → Bool) (ks : List NumberedKey) → key_places (filter (λ k. f (key_place k)) ks) ≡ filter f (key_places ks)
places_left f [] = refl
places_left f (k ∷ ks) =
    ⊎_elim
    (λ (yes : f (key_place k) ≡ true). rw yes (ap (λ rest. key_place k ∷ rest) (places_left f ks)))
    (λ (no : f (key_place k) ≡ false). rw no (places_left f ks))
    (cases_Bool (f (key_place k)))

memory_left : (f : ℕ × ℕ → Bool) (hs : List Entry) → memory_places (filter (λ e. f (place_of e)) hs) ≡ filter f (memory_places hs)
memory_left f [] = refl
memory_left f (e ∷ hs) =
    ⊎_elim
    (λ (here : is_transient e.handle ≡ true).
    ⊎_elim
    (λ (yes : f (place_of e) ≡ true). rw (yes, here, yes) (ap (λ rest. place_of e ∷ rest) (memory_left f hs)))
    (λ (no : f (place_of e) ≡ false). rw (no, here, no) (memory_left f hs))
    (cases_Bool (f (place_of e))))
    (λ (elsewhere : is_transient e.handle ≡ false).
    ⊎_elim
    (λ (yes : f (place_of e) ≡ true). rw (yes, elsewhere) (memory_left f hs))
    (λ (no : f (place_of e) ≡ false). rw (no, elsewhere) (memory_left f hs))
    (cases_Bool (f (place_of e))))
    (cases_Bool (is_transient e.handle))

pub together_left : (f : ℕ × ℕ → Bool) (hs : List Entry) (ks : List NumberedKey) → BelongTogether hs ks → BelongTogether (filter (λ e. f (place_of e)) hs) (filter (λ k. f (key_place k)) ks)
together_left f hs ks together = places_left f ks ∙ ap (filter f) together ∙ sym (memory_left f hs)

-- a position makes no difference
sought_in_memory : (to : ℕ) (h : Handle) → is_transient (with_position to h) ≡ is_transient h
sought_in_memory to (Persistent id flags position) = refl
sought_in_memory to Transient = refl

same_place : (b : Bool) (to : ℕ) (e : Entry) (rest : List Entry) → map place_of (cond b (entry_sought to e ∷ rest) rest) ≡ map place_of (cond b (e ∷ rest) rest)
same_place true to e rest = refl
same_place false to e rest = refl

more_places : (b : Bool) (e : Entry) (xs ys : List Entry) → map place_of xs ≡ map place_of ys → map place_of (cond b (e ∷ xs) xs) ≡ map place_of (cond b (e ∷ ys) ys)
more_places true e xs ys same = ap (λ rest. place_of e ∷ rest) same
more_places false e xs ys same = same

memory_sought : (test : Entry → Bool) (to : ℕ) (hs : List Entry) → memory_places (change_first test (entry_sought to) hs) ≡ memory_places hs
memory_sought test to [] = refl
memory_sought test to (e ∷ hs) =
    ⊎_elim
    (λ (yes : test e ≡ true). rw yes (ap (λ b. map place_of (cond b (entry_sought to e ∷ filter is_in_memory hs) (filter is_in_memory hs))) (sought_in_memory to e.handle)
    ∙ same_place (is_transient e.handle) to e (filter is_in_memory hs)))
    (λ (no : test e ≡ false). rw no (more_places (is_transient e.handle) e _ _ (memory_sought test to hs)))
    (cases_Bool (test e))

pub together_sought : (test : Entry → Bool) (to : ℕ) (hs : List Entry) (ks : List NumberedKey) → BelongTogether hs ks → BelongTogether (change_first test (entry_sought to) hs) ks
together_sought test to hs ks together = together ∙ sym (memory_sought test to hs)

-- a handle that is added at the end
memory_added : (hs : List Entry) (e : Entry) → is_transient e.handle ≡ false → memory_places (hs ++ e ∷ []) ≡ memory_places hs
memory_added [] e none = rw none refl
memory_added (x ∷ hs) e none = more_places (is_transient x.handle) x _ _ (memory_added hs e none)

pub together_added : (hs : List Entry) (ks : List NumberedKey) (e : Entry) → is_transient e.handle ≡ false → BelongTogether hs ks → BelongTogether (hs ++ e ∷ []) ks
together_added hs ks e none together = together ∙ sym (memory_added hs e none)

-- no more are left than there were
pub few_left : (stays test : NumberedList → Bool) (ls : List NumberedList) → {n : ℕ} → count_by test ls ≤ n → count_by test (filter stays ls) ≤ n
few_left stays test ls few = omega (arith, few, sum_by-filter_both stays (λ l. not (stays l)) (λ l. refl) (λ l. cond (test l) 1 0) ls)

-- ---- a handle that is added and closed again

no_memory : (f : ℕ × ℕ → Bool) (hs : List Entry) → list_any (λ e. f (place_of e)) hs ≡ false → list_any f (memory_places hs) ≡ false
no_memory f [] none = refl
no_memory f (e ∷ hs) none =
    elim (is_transient e.handle) as (λ b. list_any f (map place_of (cond b (e ∷ filter is_in_memory hs) (filter is_in_memory hs))) ≡ false) [
      | true ↦ ap (λ b. b || list_any f (memory_places hs)) (or_first _ _ none) ∙ no_memory f hs (or_second _ _ none)
      | false ↦ no_memory f hs (or_second _ _ none)
    ]

keys_stay : (f : ℕ × ℕ → Bool) (ks : List NumberedKey) → list_any f (key_places ks) ≡ false → filter (λ k. not (f (key_place k))) ks ≡ ks
keys_stay f [] none = refl
keys_stay f (k ∷ ks) none =
    ap (λ b. cond (not b) (k ∷ filter (λ k. not (f (key_place k))) ks) (filter (λ k. not (f (key_place k))) ks)) (or_first _ _ none)
    ∙ ap (λ rest. k ∷ rest) (keys_stay f ks (or_second _ _ none))

pub closed_added : (h : Held) (i : ℕ) (id : List ℕ) (flags : Flags) → BelongTogether h.handles h.keys → handle_closed (handle_added h i id flags) i (free_number h.handles i) ≡ h
closed_added h i id flags together =
    let n = free_number h.handles i in
    let f : ℕ × ℕ → Bool = λ p. (p.0 == i) && (p.1 == n) in
    let none : list_any f (key_places h.keys) ≡ false = ap (list_any f) together ∙ no_memory f h.handles (free_absent h.handles i) in
    rw (closed_again h.handles i (Persistent id flags 0), keys_stay f h.keys none) refl

-- ---- the handle that is found

-- by whether it is the first
by_first : (b : Bool) (x : Entry) (rest : Option Entry) (e : Entry) (P : Type 0) → cond b (Some x) rest ≡ Some e → (b ≡ true → x ≡ e → P) → (b ≡ false → rest ≡ Some e → P) → P
by_first true x rest e P here first later = first refl (let same : x ≡ e = cc in same)
by_first false x rest e P here first later = later refl here

pub found_counts : (q t : Entry → Bool) (hs : List Entry) (e : Entry) → find q hs ≡ Some e → t e ≡ true → 0 < count_by t hs
found_counts q t [] e here passes = absurd (let f : None ≡ Some e = here in cc)
found_counts q t (x ∷ xs) e here passes =
    let w : Entry → ℕ = λ y. cond (t y) 1 0 in
    by_first (q x) x (find q xs) e (0 < count_by t (x ∷ xs)) here
    (λ _ same. let one : w x ≡ 1 = ap w same ∙ ap (λ b. cond b 1 0) passes in omega (arith, sum_by-cons w x xs, one))
    (λ _ later. omega (arith, sum_by-cons w x xs, found_counts q t xs e later passes))

pub found_goes : (q t : Entry → Bool) (hs : List Entry) (e : Entry) → find q hs ≡ Some e → t e ≡ true → count_by t (filter (λ x. not (q x)) hs) + 1 ≤ count_by t hs
found_goes q t [] e here passes = absurd (let f : None ≡ Some e = here in cc)
found_goes q t (x ∷ xs) e here passes =
    let w : Entry → ℕ = λ y. cond (t y) 1 0 in
    by_first (q x) x (find q xs) e (count_by t (filter (λ x. not (q x)) (x ∷ xs)) + 1 ≤ count_by t (x ∷ xs)) here
    (λ first same.
    let one : w x ≡ 1 = ap w same ∙ ap (λ b. cond b 1 0) passes in
    let rest : count_by t (filter (λ x. not (q x)) xs) ≤ count_by t xs = omega (arith, sum_by-filter_both (λ y. not (q y)) (λ y. not (not (q y))) (λ y. refl) w xs) in
    let gone : count_by t (filter (λ x. not (q x)) (x ∷ xs)) ≡ count_by t (filter (λ x. not (q x)) xs) =
    ap (λ b. sum_by w (cond (not b) (x ∷ filter (λ x. not (q x)) xs) (filter (λ x. not (q x)) xs))) first in
    omega (arith, sum_by-cons w x xs, one, rest, gone))
    (λ other later.
    let stays : count_by t (filter (λ x. not (q x)) (x ∷ xs)) ≡ w x + count_by t (filter (λ x. not (q x)) xs) =
    ap (λ b. sum_by w (cond (not b) (x ∷ filter (λ x. not (q x)) xs) (filter (λ x. not (q x)) xs))) other ∙ sum_by-cons w x (filter (λ x. not (q x)) xs) in
    omega (arith, sum_by-cons w x xs, stays, found_goes q t xs e later passes))

entry_found : (o : Option Entry) (h : Handle) → option_map (λ e. e.handle) o ≡ Some h → (e : Entry) × (o ≡ Some e) × (e.handle ≡ h)
entry_found None h here = absurd (let f : None ≡ Some h = here in cc)
entry_found (Some e) h here = (e, refl, (let same : e.handle ≡ h = cc in same))

pub handle_found : (hs : List Entry) (i n : ℕ) (h : Handle) → handle_at (without_rename hs) i n ≡ Some h → (e : Entry) × (find (is_at i n) hs ≡ Some e) × (e.handle ≡ h)
handle_found hs i n h here = entry_found (find (is_at i n) hs) h here

-- ---- a handle on another identifier

pub sum_first : (q : Entry → Bool) (g : Entry → Entry) (w : Entry → ℕ) (hs : List Entry) (e : Entry) → find q hs ≡ Some e → sum_by w (change_first q g hs) + w e ≡ sum_by w hs + w (g e)
sum_first q g w [] e here = absurd (let f : None ≡ Some e = here in cc)
sum_first q g w (x ∷ xs) e here =
    by_first (q x) x (find q xs) e (sum_by w (change_first q g (x ∷ xs)) + w e ≡ sum_by w (x ∷ xs) + w (g e)) here
    (λ first same.
    let moved : sum_by w (change_first q g (x ∷ xs)) ≡ w (g x) + sum_by w xs = ap (λ b. sum_by w (cond b (g x ∷ xs) (x ∷ change_first q g xs))) first ∙ sum_by-cons w (g x) xs in
    omega (arith, moved, sum_by-cons w x xs, ap w same, ap (λ (y : Entry). w (g y)) same))
    (λ other later.
    let stays : sum_by w (change_first q g (x ∷ xs)) ≡ w x + sum_by w (change_first q g xs) = ap (λ b. sum_by w (cond b (g x ∷ xs) (x ∷ change_first q g xs))) other
    ∙ sum_by-cons w x (change_first q g xs) in
    omega (arith, stays, sum_by-cons w x xs, sum_first q g w xs e later))

moved_in_memory : (to : List ℕ) (h : Handle) → is_transient (with_identifier to h) ≡ is_transient h
moved_in_memory to (Persistent id flags position) = refl
moved_in_memory to Transient = refl

moved_place : (b : Bool) (to : List ℕ) (e : Entry) (rest : List Entry) → map place_of (cond b (entry_moved to e ∷ rest) rest) ≡ map place_of (cond b (e ∷ rest) rest)
moved_place true to e rest = refl
moved_place false to e rest = refl

memory_moved : (test : Entry → Bool) (to : List ℕ) (hs : List Entry) → memory_places (change_first test (entry_moved to) hs) ≡ memory_places hs
memory_moved test to [] = refl
memory_moved test to (e ∷ hs) =
    ⊎_elim
    (λ (yes : test e ≡ true). rw yes (ap (λ b. map place_of (cond b (entry_moved to e ∷ filter is_in_memory hs) (filter is_in_memory hs))) (moved_in_memory to e.handle)
    ∙ moved_place (is_transient e.handle) to e (filter is_in_memory hs)))
    (λ (no : test e ≡ false). rw no (more_places (is_transient e.handle) e _ _ (memory_moved test to hs)))
    (cases_Bool (test e))

pub together_moved : (test : Entry → Bool) (to : List ℕ) (hs : List Entry) (ks : List NumberedKey) → BelongTogether hs ks → BelongTogether (change_first test (entry_moved to) hs) ks
together_moved test to hs ks together = together ∙ sym (memory_moved test to hs)

moved_has : (to : List ℕ) (h : Handle) → nat_le (length to) 64 ≡ true → has_identifier (with_identifier to h) ≡ true
moved_has to (Persistent id flags position) short = short
moved_has to Transient short = refl

pub all_moved : (test : Entry → Bool) (to : List ℕ) (hs : List Entry) → nat_le (length to) 64 ≡ true → list_all entry_has_identifier hs ≡ true →
    list_all entry_has_identifier (change_first test (entry_moved to) hs) ≡ true
all_moved test to [] short all = refl
all_moved test to (e ∷ hs) short all =
    elim (test e) as (λ b. list_all entry_has_identifier (cond b (entry_moved to e ∷ hs) (e ∷ change_first test (entry_moved to) hs)) ≡ true) [
      | true ↦ both _ _ (moved_has to e.handle short) (second_true _ _ all)
      | false ↦ both _ _ (first_true _ _ all) (all_moved test to hs short (second_true _ _ all))
    ]

-- ---- enumerators

walk_counts : (test : NumberedList → Bool) (walk : Walk) (t : NumberedList → Bool) (ls : List NumberedList) → ((l : NumberedList) → t (with_walk walk l) ≡ t l) →
    count_by t (change_first test (with_walk walk) ls) ≡ count_by t ls
walk_counts test walk t ls same = sum_change test (with_walk walk) (λ l. cond (t l) 1 0) (λ l. ap (λ b. cond b 1 0) (same l)) ls

pub few_walked : (instance number : ℕ) (walk : Walk) (ls : List NumberedList) (i : ℕ) → count_by (is_list_of i) ls ≤ 4 →
    count_by (is_list_of i) (change_first (is_list_at instance number) (with_walk walk) ls) ≤ 4
few_walked instance number walk ls i few = omega (arith, few, walk_counts (is_list_at instance number) walk (is_list_of i) ls (λ l. refl))

abbrev newcomer : ℕ → ℕ → NumberedList
newcomer instance n = record { instance = instance; number = n; walk = Idle }

few_pushed : (instance n : ℕ) (ls : List NumberedList) (i : ℕ) → count_by (is_list_of instance) ls < 4 → count_by (is_list_of i) ls ≤ 4 → count_by (is_list_of i) (ls ++ newcomer instance n ∷ []) ≤ 4
few_pushed instance n ls i room few =
    let w : NumberedList → ℕ = λ l. cond (is_list_of i l) 1 0 in
    let push = sum_by_push w ls (newcomer instance n) in
    ⊎_elim
    (λ (mine : (instance == i) ≡ true). let at : count_by (is_list_of instance) ls ≡ count_by (is_list_of i) ls = ap (λ k. count_by (is_list_of k) ls) (eqb-true instance i mine) in
    let one : w (newcomer instance n) ≡ 1 = ap (λ b. cond b 1 0) mine in omega (arith, push, one, room, at))
    (λ (other : (instance == i) ≡ false). let none : w (newcomer instance n) ≡ 0 = ap (λ b. cond b 1 0) other in omega (arith, push, none, few))
    (cases_Bool (instance == i))

pub few_added : {E : Type 0} (r : Result ℕ E) (instance : ℕ) (free : ℕ) (ls now : List NumberedList) →
    IfOk r (λ n. (n ≡ free) × (now ≡ ls ++ record { instance = instance; number = n; walk = Idle } ∷ [])) → OnErr r (now ≡ ls)
    → count_by (is_list_of instance) ls < 4 → ((i : ℕ) → count_by (is_list_of i) ls ≤ 4) → (i : ℕ) → count_by (is_list_of i) now ≤ 4
few_added (Ok n) instance free ls now made same room few i = subst (λ (xs : List NumberedList). count_by (is_list_of i) xs ≤ 4) (sym made.1) (few_pushed instance n ls i room (few i))
few_added (Err e) instance free ls now made same room few i = subst (λ (xs : List NumberedList). count_by (is_list_of i) xs ≤ 4) (sym same) (few i)

-- ---- keys

pub places_set : (test : NumberedKey → Bool) (key : Key) (ks : List NumberedKey) → key_places (change_first test (with_key key) ks) ≡ key_places ks
places_set test key [] = refl
places_set test key (k ∷ ks) =
    elim (test k) as (λ b. key_places (cond b (with_key key k ∷ ks) (k ∷ change_first test (with_key key) ks)) ≡ key_place k ∷ key_places ks) [
      | true ↦ refl
      | false ↦ ap (λ rest. key_place k ∷ rest) (places_set test key ks)
    ]

-- a key and its handle at the end of both
memory_more : (hs : List Entry) (e : Entry) → is_transient e.handle ≡ true → memory_places (hs ++ e ∷ []) ≡ memory_places hs ++ place_of e ∷ []
memory_more [] e here = rw here refl
memory_more (x ∷ hs) e here =
    elim (is_transient x.handle) as (λ b. map place_of (cond b (x ∷ filter is_in_memory (hs ++ e ∷ [])) (filter is_in_memory (hs ++ e ∷ []))) ≡ map place_of
    (cond b (x ∷ filter is_in_memory hs) (filter is_in_memory hs)) ++ place_of e ∷ []) [
      | true ↦ ap (λ rest. place_of x ∷ rest) (memory_more hs e here)
      | false ↦ memory_more hs e here
    ]

places_more : (ks : List NumberedKey) (k : NumberedKey) → key_places (ks ++ k ∷ []) ≡ key_places ks ++ key_place k ∷ []
places_more [] k = refl
places_more (x ∷ ks) k = ap (λ rest. key_place x ∷ rest) (places_more ks k)

pub together_more : (hs : List Entry) (ks : List NumberedKey) (i n : ℕ) (key : Key) → BelongTogether hs ks →
    BelongTogether (hs ++ record { instance = i; number = n; handle = Transient } ∷ []) (ks ++ record { instance = i; number = n; key = key } ∷ [])
together_more hs ks i n key together =
    places_more ks (record { instance = i; number = n; key = key }) ∙ ap (λ ps. ps ++ (i, n) ∷ []) together ∙ sym (memory_more hs (record { instance = i; number = n; handle = Transient }) refl)
