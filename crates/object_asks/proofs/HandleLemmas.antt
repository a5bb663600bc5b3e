-- Lists of handles: what holds of each, and what is found.
use Rattle.std.proofs.Common.{ℕ, ◌≡◌, ◌==◌, Bool, true, false, not, cond, ◌&&◌, ◌||◌, List, [], ◌∷◌, ◌++◌, Option, None, Some, IfSome}
use Rattle.std.proofs.Common.{nat_eq, length, map, filter, find, is_some, option_map, refl, sym, ap, subst, ◌∙◌}
use Rattle.std.specs.List.{list_all, list_any, cons_option}
use Rattle.std.proofs.lemmas.List.{append-nil}
use Rattle.std.proofs.lemmas.Bool.{both_ways, leb-true, eqb-true, eq-eqb}
use Rattle.std.proofs.lemmas.List.Folds.{list_all-append}
use Rattle.std.proofs.lemmas.List.Elements.{filter-append}
use Rattle.tee_base.proofs.LowestFree.{lowest_free-untaken}
use Rattle.tee_base.specs.declared.codes.Flags.{Flags}
use Rattle.share_rules.specs.declared.index.Share.{Share}
use Rattle.share_rules.specs.Sharing.{flags_on, conflicts, uses_of, is_on as shares_on}
use Rattle.handle_table.specs.declared.handle.Entry.{Entry}
use Rattle.handle_table.specs.declared.handle.Handle.{Handle}
use Rattle.handle_table.specs.declared.handle.Handle.TheVariants.{Persistent, Transient}
use Rattle.handle_table.specs.Handles.{with_handle, change_first, without_handle, entry_is_on, entry_sought, free_number, handle_at, is_at}
use Rattle.handle_table.specs.Handles.{is_of, is_on, is_open, is_there, may_open, share_of, shares_of, with_position}
use Rattle.object_asks.specs.Handles.{without_rename}
use Rattle.object_asks.specs.Handles.{HasIdentifier, entry_has_identifier, has_identifier}

-- ---- what holds of each handle

pub both : (a b : Bool) → a ≡ true → b ≡ true → (a && b) ≡ true
both a b ha hb = rw (ha, hb) refl

pub first_true : (a b : Bool) → (a && b) ≡ true → a ≡ true
first_true true b h = refl
first_true false b h = h

pub second_true : (a b : Bool) → (a && b) ≡ true → b ≡ true
second_true true b h = h
second_true false b h = absurd (both_ways _ refl h)

pub has_identifier_is : (h : Handle) → has_identifier h ≡ true → HasIdentifier h
has_identifier_is (Persistent id flags position) h = leb-true (length id) 64 h
has_identifier_is Transient h = tt

pub all_added : (hs : List Entry) (e : Entry) → list_all entry_has_identifier hs ≡ true → entry_has_identifier e ≡ true → list_all entry_has_identifier (hs ++ e ∷ []) ≡ true
all_added hs e old new = list_all-append entry_has_identifier hs (e ∷ []) ∙ both _ _ old (both _ _ new refl)

sought_keeps : (to : ℕ) (h : Handle) → has_identifier (with_position to h) ≡ has_identifier h
sought_keeps to (Persistent id flags position) = refl
sought_keeps to Transient = refl

pub all_sought : (test : Entry → Bool) (to : ℕ) (hs : List Entry) → list_all entry_has_identifier (change_first test (entry_sought to) hs) ≡ list_all entry_has_identifier hs
all_sought test to [] = refl
all_sought test to (e ∷ hs) =
    elim (test e) as (λ b. list_all entry_has_identifier (cond b (entry_sought to e ∷ hs) (e ∷ change_first test (entry_sought to) hs)) ≡
    (entry_has_identifier e && list_all entry_has_identifier hs)) [
      | true ↦ ap (λ b. b && list_all entry_has_identifier hs) (sought_keeps to e.handle)
      | false ↦ ap (λ b. entry_has_identifier e && b) (all_sought test to hs)
    ]

pub all_left : (p stays : Entry → Bool) (hs : List Entry) → list_all p hs ≡ true → list_all p (filter stays hs) ≡ true
all_left p stays [] h = refl
all_left p stays (e ∷ hs) h =
    elim (stays e) as (λ b. list_all p (cond b (e ∷ filter stays hs) (filter stays hs)) ≡ true) [
      | true ↦ both _ _ (first_true _ _ h) (all_left p stays hs (second_true _ _ h))
      | false ↦ all_left p stays hs (second_true _ _ h)
    ]

-- ---- what is found

found_has : (b : Bool) (e x : Entry) (rest : Option Entry) → entry_has_identifier e ≡ true → cond b (Some e) rest ≡ Some x → (rest ≡ Some x → HasIdentifier x.handle) → HasIdentifier x.handle
found_has true e x rest has here later = let same : e ≡ x = cc in subst (λ (y : Entry). HasIdentifier y.handle) same (has_identifier_is e.handle has)
found_has false e x rest has here later = later here

pub find_has : (test : Entry → Bool) (hs : List Entry) (x : Entry) → list_all entry_has_identifier hs ≡ true → find test hs ≡ Some x → HasIdentifier x.handle
find_has test [] x all here = absurd (let e : None ≡ Some x = here in cc)
find_has test (e ∷ hs) x all here = found_has (test e) e x (find test hs) (first_true _ _ all) here (λ later. find_has test hs x (second_true _ _ all) later)

handle_of : (o : Option Entry) (h : Handle) → option_map (λ e. e.handle) o ≡ Some h → ((x : Entry) → o ≡ Some x → HasIdentifier x.handle) → HasIdentifier h
handle_of None h here each = absurd (let e : None ≡ Some h = here in cc)
handle_of (Some x) h here each = let same : x.handle ≡ h = cc in subst (λ (y : Handle). HasIdentifier y) same (each x refl)

pub handle_has : (hs : List Entry) (i n : ℕ) (h : Handle) → list_all entry_has_identifier hs ≡ true → handle_at (without_rename hs) i n ≡ Some h → HasIdentifier h
handle_has hs i n h all here = handle_of (find (is_at i n) hs) h here (λ x found. find_has (is_at i n) hs x all found)

pub find_any : (test : Entry → Bool) (hs : List Entry) → is_some (find test hs) ≡ list_any test hs
find_any test [] = refl
find_any test (e ∷ hs) = elim (test e) as (λ b. is_some (cond b (Some e) (find test hs)) ≡ (b || list_any test hs)) [ true ↦ refl | false ↦ find_any test hs ]

mapped : (o : Option Entry) → is_some (option_map (λ e. e.handle) o) ≡ is_some o
mapped None = refl
mapped (Some e) = refl

pub handle_there : (hs : List Entry) (i n : ℕ) → is_some (handle_at (without_rename hs) i n) ≡ is_there (without_rename hs) i n
handle_there hs i n = mapped (find (is_at i n) hs) ∙ find_any (is_at i n) hs

-- what a look-up answers, by whatever it hands out
pub result_has : {B : Type 0} (f : B → Handle) (o : Option B) (hs : List Entry) (i n : ℕ) → list_all entry_has_identifier hs ≡ true → option_map f o ≡ handle_at (without_rename hs) i n →
    IfSome o (λ b. HasIdentifier (f b))
result_has f None hs i n all here = tt
result_has f (Some b) hs i n all here = handle_has hs i n (f b) all (sym here)

result_some : {B : Type 0} (f : B → Handle) (o : Option B) → is_some (option_map f o) ≡ is_some o
result_some f None = refl
result_some f (Some b) = refl

pub result_there : {B : Type 0} (f : B → Handle) (o : Option B) (hs : List Entry) (i n : ℕ) → option_map f o ≡ handle_at (without_rename hs) i n → is_some o ≡ is_there (without_rename hs) i n
result_there f o hs i n here = sym (result_some f o) ∙ ap is_some here ∙ handle_there hs i n

-- ---- a handle that is added and closed again

eqb_sym : (m n : ℕ) → (m == n) ≡ (n == m)
eqb_sym m n = elim (m == n) as (λ b. (m == n) ≡ b → b ≡ (n == m)) [
  | true ↦ λ e. sym (eq-eqb n m (sym (eqb-true m n e)))
  | false ↦ λ e. elim (n == m) as
      (λ b. (n == m) ≡ b → false ≡ b) [ true ↦ λ f. absurd (both_ways _ e (eq-eqb m n (sym (eqb-true n m f)))) | false ↦ λ f. refl ] refl
] refl

pub or_first : (a b : Bool) → (a || b) ≡ false → a ≡ false
or_first true b h = h
or_first false b h = refl

pub or_second : (a b : Bool) → (a || b) ≡ false → b ≡ false
or_second true b h = absurd (both_ways _ h refl)
or_second false b h = h

kept_one : (mine : Bool) (n k : ℕ) (e : Entry) (hs rest : List Entry) → (list_any (nat_eq n) (map (λ e. e.number) (cond mine (e ∷ hs) hs)) ≡ false) → k ≡ e.number →
    (list_any (nat_eq n) (map (λ e. e.number) hs) ≡ false → rest ≡ rest) → (mine && (k == n)) ≡ false
kept_one true n k e hs rest none same later = eqb_sym k n ∙ ap (λ m. n == m) same ∙ or_first _ _ none
kept_one false n k e hs rest none same later = refl

none_rest : (mine : Bool) (n : ℕ) (e : Entry) (hs : List Entry) → list_any (nat_eq n) (map (λ e. e.number) (cond mine (e ∷ hs) hs)) ≡ false → list_any (nat_eq n) (map (λ e. e.number) hs) ≡ false
none_rest true n e hs none = or_second _ _ none
none_rest false n e hs none = none

stays_all : (i n : ℕ) (hs : List Entry) → list_any (nat_eq n) (map (λ e. e.number) (filter (is_of i) hs)) ≡ false → filter (λ e. not (is_at i n e)) hs ≡ hs
stays_all i n [] none = refl
stays_all i n (e ∷ hs) none =
    ap (λ b. cond (not b) (e ∷ filter (λ e. not (is_at i n e)) hs) (filter (λ e. not (is_at i n e)) hs)) (kept_one (e.instance == i) n e.number e (filter (is_of i) hs) hs none refl (λ h. refl))
    ∙ ap (λ rest. e ∷ rest) (stays_all i n hs (none_rest (e.instance == i) n e (filter (is_of i) hs) none))

-- a number that isn't taken is that of no handle
absent : (i n : ℕ) (hs : List Entry) → list_any (nat_eq n) (map (λ e. e.number) (filter (is_of i) hs)) ≡ false → list_any (is_at i n) hs ≡ false
absent i n [] none = refl
absent i n (e ∷ hs) none =
    ap (λ b. b || list_any (is_at i n) hs) (kept_one (e.instance == i) n e.number e (filter (is_of i) hs) hs none refl (λ h. refl))
    ∙ absent i n hs (none_rest (e.instance == i) n e (filter (is_of i) hs) none)

pub free_absent : (hs : List Entry) (i : ℕ) → list_any (is_at i (free_number hs i)) hs ≡ false
free_absent hs i = absent i (free_number hs i) hs (lowest_free-untaken (map (λ e. e.number) (filter (is_of i) hs)))

pub closed_again : (hs : List Entry) (i : ℕ) (h : Handle) → (without_handle (with_handle (without_rename hs) i h) i (free_number hs i)).handles ≡ hs
closed_again hs i h =
    let n = free_number hs i in
    let new : Entry = record { instance = i; number = n; handle = h } in
    let goes : is_at i n new ≡ true = both _ _ (eq-eqb i i refl) (eq-eqb n n refl) in
    filter-append (λ e. not (is_at i n e)) hs (new ∷ [])
    ∙ ap (λ rest. filter (λ e. not (is_at i n e)) hs ++ rest) (ap (λ b. cond (not b) (new ∷ []) []) goes)
    ∙ ap (λ xs. xs ++ []) (stays_all i n hs (lowest_free-untaken (map (λ e. e.number) (filter (is_of i) hs))))
    ∙ append-nil hs

-- ---- a handle on an object on which there is none

on_more : (id : List ℕ) (h : Handle) (shares : List Share) → is_on id h ≡ false → flags_on shares id ≡ [] → flags_on (cons_option (share_of h) shares) id ≡ []
on_more id (Persistent own flags position) shares none rest =
    let s : Share = record { id = own; flags = flags } in
    ap (λ b. map (λ s. s.flags) (cond b (s ∷ filter (shares_on id) shares) (filter (shares_on id) shares))) none ∙ rest
on_more id Transient shares none rest = rest

on_none : (id : List ℕ) (hs : List Entry) → list_any (entry_is_on id) hs ≡ false → flags_on (shares_of hs) id ≡ []
on_none id [] none = refl
on_none id (e ∷ hs) none = on_more id e.handle (shares_of hs) (or_first _ _ none) (on_none id hs (or_second _ _ none))

pub closed_opens : (hs : List Entry) (id : List ℕ) (flags : Flags) → is_open (without_rename hs) id ≡ false → may_open (without_rename hs) id flags ≡ true
closed_opens hs id flags none = ap (λ fs. not (conflicts (uses_of (flags ∷ fs)))) (on_none id hs none)

-- a handle that was added is there
any_end : (test : Entry → Bool) (hs : List Entry) (e : Entry) → test e ≡ true → list_any test (hs ++ e ∷ []) ≡ true
any_end test [] e here = rw here refl
any_end test (x ∷ hs) e here = elim (test x) as (λ b. (b || list_any test (hs ++ e ∷ [])) ≡ true) [ true ↦ refl | false ↦ any_end test hs e here ]

pub added_there : (hs : List Entry) (i : ℕ) (h : Handle) → is_there (with_handle (without_rename hs) i h) i (free_number hs i) ≡ true
added_there hs i h = any_end (is_at i (free_number hs i)) hs (record { instance = i; number = free_number hs i; handle = h })
    (both _ _ (eq-eqb i i refl) (eq-eqb (free_number hs i) (free_number hs i) refl))
