-- The entries of the map, seen as the handles that are noted.
use Rattle.std.proofs.Common.{◌≡◌, ◌+◌, ◌||◌, ◌==◌, ℕ, refl, Bool, true, false, cond, List, Option, None, Some, [], ◌∷◌, ◌++◌, map}
use Rattle.std.proofs.Common.{filter, count_by, sum_by, unwrap_or, IsTrue, ap, sym, ◌∙◌, ⊎_elim, arith, rules, subst, not, Result, Ok, Err, OnOk, OnErr}
use Rattle.std.specs.List.{list_any, AllByRecursion}
use Rattle.std.specs.List.Sorted.{IsStrictlySortedBy}
use Rattle.std.specs.Option.{is_some}
use Rattle.std.specs.Ordering.{is_eq, nat_cmp, match_ordering}
use Rattle.std.specs.declared.cmp.Ordering.{Ordering}
use Rattle.std.specs.declared.cmp.Ordering.TheVariants.{Less, Equal, Greater}
use Rattle.std.specs.Cmp.Lexicographic.{slice_cmp}
use Rattle.std.specs.Map.{lookup, set_value, remove_entry, keys_of}
use Rattle.std.specs.BTreeMap.{BTreeMap, insert_entry, is_at}
use Rattle.std.specs.Global.{Vec}
use Rattle.std.specs.Str.{bytes_eq}
use Rattle.std.proofs.lemmas.Bool.{cases_Bool, both_ways}
use Rattle.std.proofs.lemmas.List.{map-append, append-nil}
use Rattle.std.proofs.lemmas.List.Elements.{filter-append}
use Rattle.std.proofs.lemmas.List.Sums.{sum_by-cons, sum_by-append}
use Rattle.std.proofs.lemmas.Map.Keys.{sorted_head, sorted_tail}
use Rattle.std.proofs.lemmas.Map.Steps.{set_value_same}
use Rattle.std.proofs.lemmas.Map.Text.{is_eq-slice_cmp}
use Rattle.std.proofs.lemmas.Slice.Eq.{bytes_eq-Decides}
use Rattle.tee_base.specs.declared.codes.Flags.{Flags}
use Rattle.share_rules.specs.declared.index.Share.{Share}
use Rattle.share_rules.specs.Groups.{AllHeld, AreGrouped, GainsFlags, has_some, is_same, share, shares_of}
use Rattle.share_rules.specs.Sharing.{Gains, conflict, conflicts, flags_on, is_noted, is_on, uses_of}
use Rattle.share_rules.specs.declared.uses.Uses.{Uses}

-- the key is this identifier
abbrev pub at : List ℕ → Vec ℕ → Bool
at id = is_at (λ k. slice_cmp nat_cmp id k.items)

abbrev Entries : Type 0
Entries = List (Vec ℕ × List Flags)

-- ---- identifiers

at_same : (id : List ℕ) (k : Vec ℕ) → at id k ≡ true → k.items ≡ id
at_same id k hit = sym ((bytes_eq-Decides id k.items).0 (sym (is_eq-slice_cmp id k.items) ∙ hit))

at_other : (id : List ℕ) (k : Vec ℕ) → at id k ≡ false → bytes_eq k.items id ≡ false
at_other id k other =
    ⊎_elim
    (λ (yes : bytes_eq k.items id ≡ true).
    let same : id ≡ k.items = sym ((bytes_eq-Decides k.items id).0 yes) in
    absurd (both_ways (bytes_eq id k.items) (sym (is_eq-slice_cmp id k.items) ∙ other) ((bytes_eq-Decides id k.items).1 same)))
    (λ (differs : bytes_eq k.items id ≡ false). differs)
    (cases_Bool (bytes_eq k.items id))

-- ---- what passes a test

abbrev count_of : (Share → Bool) → List ℕ → List Flags → ℕ
count_of p id fs = count_by (λ f. p (share id f)) fs

abbrev weigh : (Share → Bool) → Vec ℕ × List Flags → ℕ
weigh p e = count_of p e.0.items e.1

count-shared : (p : Share → Bool) (id : List ℕ) (fs : List Flags) → count_by p (map (share id) fs) ≡ count_of p id fs
count-shared p id [] = refl
count-shared p id (f ∷ fs) =
    sum_by-cons (λ (s : Share). cond (p s) 1 0) (share id f) (map (share id) fs) ∙ ap (λ n. cond (p (share id f)) 1 0 + n) (count-shared p id fs)
    ∙ sym (sum_by-cons (λ (f : Flags). cond (p (share id f)) 1 0) f fs)

count-shares : (p : Share → Bool) (es : Entries) → count_by p (shares_of es) ≡ sum_by (weigh p) es
count-shares p [] = refl
count-shares p (e ∷ es) =
    sum_by-append (λ (s : Share). cond (p s) 1 0) (map (share e.0.items) e.1) (shares_of es) ∙ ap (λ n. n + count_by p (shares_of es)) (count-shared p e.0.items e.1)
    ∙ ap (λ n. weigh p e + n) (count-shares p es) ∙ sym (sum_by-cons (weigh p) e es)

found_first : (id : List ℕ) (e : Vec ℕ × List Flags) (es : Entries) (v : List Flags) → at id e.0 ≡ true → lookup (at id) (e ∷ es) ≡ Some v → e.1 ≡ v
found_first id e es v hit is = ap (λ (o : Option (List Flags)). unwrap_or o []) (ap {B = Option (List Flags)} (λ b. cond b (Some e.1) (lookup (at id) es)) (sym hit) ∙ is)

found_later : (id : List ℕ) (e : Vec ℕ × List Flags) (es : Entries) (o : Option (List Flags)) → at id e.0 ≡ false → lookup (at id) (e ∷ es) ≡ o → lookup (at id) es ≡ o
found_later id e es o other is = ap {B = Option (List Flags)} (λ b. cond b (Some e.1) (lookup (at id) es)) (sym other) ∙ is

first_weight : (p : Share → Bool) (id : List ℕ) (k : Vec ℕ) (fs gs : List Flags) → at id k ≡ true → fs ≡ gs → weigh p (k, fs) ≡ count_of p id gs
first_weight p id k fs gs hit same = ap (λ i. count_of p i fs) (at_same id k hit) ∙ ap (count_of p id) same

sum_set : (p : Share → Bool) (id : List ℕ) (es : Entries) (v w : List Flags) → lookup (at id) es ≡ Some v →
    sum_by (weigh p) (set_value (at id) es w) + count_of p id v ≡ sum_by (weigh p) es + count_of p id w
sum_set p id [] v w is = absurd (both_ways true (sym (ap is_some is)) refl)
sum_set p id (e ∷ es) v w is =
    ⊎_elim
    (λ (yes : at id e.0 ≡ true).
    let changed : set_value (at id) (e ∷ es) w ≡ (e.0, w) ∷ es = ap {B = Entries} (λ b. cond b ((e.0, w) ∷ es) (e ∷ set_value (at id) es w)) yes in
    omega (
      arith,
      ap (sum_by (weigh p)) changed,
      sum_by-cons (weigh p) (e.0, w) es,
      sum_by-cons (weigh p) e es,
      first_weight p id e.0 w w yes refl,
      first_weight p id e.0 e.1 v yes (found_first id e es v yes is),
    ))
    (λ (other : at id e.0 ≡ false).
    let kept : set_value (at id) (e ∷ es) w ≡ e ∷ set_value (at id) es w = ap {B = Entries} (λ b. cond b ((e.0, w) ∷ es) (e ∷ set_value (at id) es w)) other in
    omega (
      arith,
      ap (sum_by (weigh p)) kept,
      sum_by-cons (weigh p) e (set_value (at id) es w),
      sum_by-cons (weigh p) e es,
      sum_set p id es v w (found_later id e es (Some v) other is),
    ))
    (cases_Bool (at id e.0))

sum_removed : (p : Share → Bool) (id : List ℕ) (es : Entries) (v : List Flags) → lookup (at id) es ≡ Some v →
    sum_by (weigh p) (remove_entry (at id) es) + count_of p id v ≡ sum_by (weigh p) es
sum_removed p id [] v is = absurd (both_ways true (sym (ap is_some is)) refl)
sum_removed p id (e ∷ es) v is =
    ⊎_elim
    (λ (yes : at id e.0 ≡ true).
    let changed : remove_entry (at id) (e ∷ es) ≡ es = ap {B = Entries} (λ b. cond b es (e ∷ remove_entry (at id) es)) yes in
    omega (arith, ap (sum_by (weigh p)) changed, sum_by-cons (weigh p) e es, first_weight p id e.0 e.1 v yes (found_first id e es v yes is)))
    (λ (other : at id e.0 ≡ false).
    let kept : remove_entry (at id) (e ∷ es) ≡ e ∷ remove_entry (at id) es = ap {B = Entries} (λ b. cond b es (e ∷ remove_entry (at id) es)) other in
    omega (
      arith,
      ap (sum_by (weigh p)) kept,
      sum_by-cons (weigh p) e (remove_entry (at id) es),
      sum_by-cons (weigh p) e es,
      sum_removed p id es v (found_later id e es (Some v) other is),
    ))
    (cases_Bool (at id e.0))

-- an entry that was changed is removed as the one before
removed_set : (id : List ℕ) (es : Entries) (w : List Flags) → remove_entry (at id) (set_value (at id) es w) ≡ remove_entry (at id) es
removed_set id [] w = refl
removed_set id (e ∷ es) w =
    ⊎_elim (λ (yes : at id e.0 ≡ true). rw yes (rw yes refl)) (λ (other : at id e.0 ≡ false). rw other (rw other (ap (λ fs. e ∷ fs) (removed_set id es w)))) (cases_Bool (at id e.0))

-- ---- more and fewer handles

pub set_gains : (id : List ℕ) (flags : Flags) (es : Entries) (v w : List Flags) → lookup (at id) es ≡ Some v → GainsFlags v flags w →
    Gains (shares_of es) (share id flags) (shares_of (set_value (at id) es w))
set_gains id flags es v w is gains p =
    omega (arith, count-shares p es, count-shares p (set_value (at id) es w), sum_set p id es v w is, gains (λ f. p (share id f)))

pub set_takes : (id : List ℕ) (flags : Flags) (es : Entries) (v w : List Flags) → lookup (at id) es ≡ Some v → GainsFlags w flags v →
    Gains (shares_of (set_value (at id) es w)) (share id flags) (shares_of es)
set_takes id flags es v w is gains p =
    omega (arith, count-shares p es, count-shares p (set_value (at id) es w), sum_set p id es v w is, gains (λ f. p (share id f)))

count-none : (q : Flags → Bool) (w : List Flags) → has_some w ≡ false → count_by q w ≡ 0
count-none q [] none = refl
count-none q (f ∷ fs) none = absurd (both_ways true none refl)

pub removed_takes : (id : List ℕ) (flags : Flags) (es : Entries) (v w : List Flags) → lookup (at id) es ≡ Some v → GainsFlags w flags v → has_some w ≡ false →
    Gains (shares_of (remove_entry (at id) (set_value (at id) es w))) (share id flags) (shares_of es)
removed_takes id flags es v w is gains none p =
    omega (
      arith,
      ap (λ fs. count_by p (shares_of fs)) (removed_set id es w),
      count-shares p es,
      count-shares p (remove_entry (at id) es),
      sum_removed p id es v is,
      gains (λ f. p (share id f)),
      count-none (λ f. p (share id f)) w none,
    )

abbrev pub id_cmp : Vec ℕ → Vec ℕ → Ordering
id_cmp x y = slice_cmp nat_cmp x.items y.items

insert_step : (f : Vec ℕ × List Flags → ℕ) (o : Ordering) (n : ℕ) (xs ys zs : Entries) → is_eq o ≡ false → sum_by f xs ≡ n → sum_by f zs ≡ n → sum_by f (match_ordering o xs ys zs) ≡ n
insert_step f Less n xs ys zs other first last = first
insert_step f Equal n xs ys zs other first last = absurd (both_ways true other refl)
insert_step f Greater n xs ys zs other first last = last

sum_insert : (f : Vec ℕ × List Flags → ℕ) (es : Entries) (key : Vec ℕ) (w : List Flags) → lookup (at key.items) es ≡ None → sum_by f (insert_entry id_cmp es key w) ≡ f (key, w) + sum_by f es
sum_insert f [] key w none = sum_by-cons f (key, w) []
sum_insert f (e ∷ es) key w none =
    ⊎_elim
    (λ (yes : at key.items e.0 ≡ true).
    let found : Some e.1 ≡ None = ap {B = Option (List Flags)} (λ b. cond b (Some e.1) (lookup (at key.items) es)) (sym yes) ∙ none in
    absurd (both_ways true (ap is_some found) refl))
    (λ (other : at key.items e.0 ≡ false).
    let rest = sum_insert f es key w (found_later key.items e es None other none) in
    insert_step f (id_cmp key e.0) (f (key, w) + sum_by f (e ∷ es)) ((key, w) ∷ e ∷ es) ((e.0, w) ∷ es) (e ∷ insert_entry id_cmp es key w) other
    (sum_by-cons f (key, w) (e ∷ es))
    (omega (arith, sum_by-cons f e (insert_entry id_cmp es key w), sum_by-cons f e es, rest)))
    (cases_Bool (at key.items e.0))

pub insert_gains : (id : List ℕ) (flags : Flags) (es : Entries) (key : Vec ℕ) (w : List Flags) → key.items ≡ id → w ≡ flags ∷ [] → lookup (at id) es ≡ None →
    Gains (shares_of es) (share id flags) (shares_of (insert_entry id_cmp es key w))
insert_gains id flags es key w same single none p =
    let none_of : lookup (at key.items) es ≡ None = ap (λ i. lookup (at i) es) same ∙ none in
    omega (
      arith,
      count-shares p es,
      count-shares p (insert_entry id_cmp es key w),
      sum_insert (weigh p) es key w none_of,
      ap (λ i. count_of p i w) same,
      ap (count_of p id) single,
      sum_by-cons (λ (f : Flags). cond (p (share id f)) 1 0) flags [],
    )

-- ---- no entry is empty

pub held_set : (id : List ℕ) (es : Entries) (w : List Flags) → has_some w ≡ true → AllHeld es → AllHeld (set_value (at id) es w)
held_set id [] w some held = tt
held_set id (e ∷ es) w some held =
    ⊎_elim
    (λ (yes : at id e.0 ≡ true). rw yes (search (rules, some), held.1))
    (λ (other : at id e.0 ≡ false). rw other (held.0, held_set id es w some held.1))
    (cases_Bool (at id e.0))

pub held_removed : (id : List ℕ) (es : Entries) → AllHeld es → AllHeld (remove_entry (at id) es)
held_removed id [] held = tt
held_removed id (e ∷ es) held =
    ⊎_elim (λ (yes : at id e.0 ≡ true). rw yes held.1) (λ (other : at id e.0 ≡ false). rw other (held.0, held_removed id es held.1)) (cases_Bool (at id e.0))

held_step : (o : Ordering) (xs ys zs : Entries) → AllHeld xs → AllHeld ys → AllHeld zs → AllHeld (match_ordering o xs ys zs)
held_step Less xs ys zs a b c = a
held_step Equal xs ys zs a b c = b
held_step Greater xs ys zs a b c = c

pub held_insert : (es : Entries) (key : Vec ℕ) (w : List Flags) → IsTrue (has_some w) → AllHeld es → AllHeld (insert_entry id_cmp es key w)
held_insert [] key w some held = (some, tt)
held_insert (e ∷ es) key w some held =
    held_step (id_cmp key e.0) ((key, w) ∷ e ∷ es) ((e.0, w) ∷ es) (e ∷ insert_entry id_cmp es key w) (some, held) (some, held.1) (held.0, held_insert es key w some held.1)

-- ---- the handles on one object

flags_append : (xs ys : List Share) (id : List ℕ) → flags_on (xs ++ ys) id ≡ flags_on xs id ++ flags_on ys id
flags_append xs ys id = ap (map (λ (s : Share). s.flags)) (filter-append (is_on id) xs ys) ∙ map-append (λ (s : Share). s.flags) (filter (is_on id) xs) (filter (is_on id) ys)

flags_same : (id : List ℕ) (own : List ℕ) (fs : List Flags) → bytes_eq own id ≡ true → flags_on (map (share own) fs) id ≡ fs
flags_same id own [] hit = refl
flags_same id own (f ∷ fs) hit = rw hit (ap (λ gs. f ∷ gs) (flags_same id own fs hit))

flags_other : (id : List ℕ) (own : List ℕ) (fs : List Flags) → bytes_eq own id ≡ false → flags_on (map (share own) fs) id ≡ []
flags_other id own [] miss = refl
flags_other id own (f ∷ fs) miss = rw miss (flags_other id own fs miss)

none_after : (id : List ℕ) (k : Vec ℕ) (es : Entries) → k.items ≡ id → AllByRecursion (λ (y : Vec ℕ). id_cmp k y ≡ Less) (keys_of es) → lookup (at id) es ≡ None
none_after id k [] same less = refl
none_after id k (e ∷ es) same less =
    let miss : at id e.0 ≡ false = ap (λ i. is_eq (slice_cmp nat_cmp i e.0.items)) (sym same) ∙ ap is_eq less.0 in
    ap {B = Option (List Flags)} (λ b. cond b (Some e.1) (lookup (at id) es)) miss ∙ none_after id k es same less.1

pub flags_found : (id : List ℕ) (es : Entries) → IsStrictlySortedBy id_cmp (keys_of es) → flags_on (shares_of es) id ≡ unwrap_or (lookup (at id) es) []
flags_found id [] sorted = refl
flags_found id (e ∷ es) sorted =
    let rest = flags_found id es (sorted_tail id_cmp e.0 (keys_of es) sorted) in
    let parts = flags_append (map (share e.0.items) e.1) (shares_of es) id in
    ⊎_elim
    (λ (yes : at id e.0 ≡ true).
    let same = at_same id e.0 yes in
    let none = none_after id e.0 es same (sorted_head id_cmp e.0 (keys_of es) sorted) in
    parts ∙ ap (λ fs. flags_on (map (share e.0.items) e.1) id ++ fs) (rest ∙ ap (λ o. unwrap_or o []) none) ∙ append-nil (flags_on (map (share e.0.items) e.1) id)
    ∙ flags_same id e.0.items e.1 ((bytes_eq-Decides e.0.items id).1 same)
    ∙ ap (λ o. unwrap_or o []) (ap {B = Option (List Flags)} (λ b. cond b (Some e.1) (lookup (at id) es)) (sym yes)))
    (λ (other : at id e.0 ≡ false).
    parts ∙ ap (λ fs. fs ++ flags_on (shares_of es) id) (flags_other id e.0.items e.1 (at_other id e.0 other)) ∙ rest
    ∙ ap (λ o. unwrap_or o []) (ap {B = Option (List Flags)} (λ b. cond b (Some e.1) (lookup (at id) es)) (sym other)))
    (cases_Bool (at id e.0))

noted_flags : (xs : List Share) (id : List ℕ) (flags : Flags) → is_noted xs id flags ≡ list_any (is_same flags) (flags_on xs id)
noted_flags [] id flags = refl
noted_flags (x ∷ xs) id flags =
    ⊎_elim
    (λ (yes : is_on id x ≡ true). rw yes (ap (λ b. (x.flags.0 == flags.0) || b) (noted_flags xs id flags)))
    (λ (other : is_on id x ≡ false). rw other (noted_flags xs id flags))
    (cases_Bool (is_on id x))

pub noted_found : (id : List ℕ) (flags : Flags) (es : Entries) (seen : List Share) → shares_of es ≡ seen → IsStrictlySortedBy id_cmp (keys_of es) →
    is_noted seen id flags ≡ list_any (is_same flags) (unwrap_or (lookup (at id) es) [])
noted_found id flags es seen view sorted =
    ap (λ xs. is_noted xs id flags) (sym view) ∙ noted_flags (shares_of es) id flags ∙ ap (list_any (is_same flags)) (flags_found id es sorted)

pub opened : (id : List ℕ) (flags : Flags) (es : Entries) (seen : List Share) → shares_of es ≡ seen → IsStrictlySortedBy id_cmp (keys_of es) → (o : Option (List Flags)) →
    o ≡ lookup (at id) es → (u : Uses) → u ≡ uses_of (flags ∷ unwrap_or o []) → conflicts u ≡ conflict seen id flags
opened id flags es seen view sorted o is u uses =
    ap conflicts uses ∙ ap (λ fs. conflicts (uses_of (flags ∷ fs))) (ap (λ o. unwrap_or o []) is ∙ sym (flags_found id es sorted)) ∙ ap (λ xs. conflict xs id flags) view

-- ---- what a change of one entry leaves

pub on_ok : {A B : Type 0} (r : Result A B) (P Q : Type 0) → (P → Q) → OnOk r P → OnOk r Q
on_ok (Ok a) P Q f x = f x
on_ok (Err b) P Q f x = tt

pub on_err : {A B : Type 0} (r : Result A B) (P Q : Type 0) → (P → Q) → OnErr r P → OnErr r Q
on_err (Ok a) P Q f x = tt
on_err (Err b) P Q f x = f x

gained_some : (v w : List Flags) (flags : Flags) → GainsFlags v flags w → has_some w ≡ true
gained_some v [] flags gains = absurd (omega (arith, gains (λ _. true)))
gained_some v (f ∷ fs) flags gains = refl

held_found : (id : List ℕ) (es : Entries) (v : List Flags) → AllHeld es → Some v ≡ lookup (at id) es → has_some v ≡ true
held_found id [] v held is = absurd (both_ways true (sym (ap is_some (sym is))) refl)
held_found id (e ∷ es) v held is =
    ⊎_elim
    (λ (yes : at id e.0 ≡ true). ap has_some (sym (found_first id e es v yes (sym is))) ∙ search (rules, held.0))
    (λ (other : at id e.0 ≡ false). held_found id es v held.1 (sym (found_later id e es (Some v) other (sym is))))
    (cases_Bool (at id e.0))

pub some_after : {B : Type 0} (r : Result (Unit {0}) B) (id : List ℕ) (es : Entries) (v w : List Flags) (flags : Flags) → AllHeld es → Some v ≡ lookup (at id) es →
    OnOk r (GainsFlags v flags w) → OnErr r (w ≡ v) → has_some w ≡ true
some_after (Ok a) id es v w flags held is gains same = gained_some v w flags gains
some_after (Err b) id es v w flags held is gains same = ap has_some same ∙ held_found id es v held is

pub grouped_set : (id : List ℕ) (es new : Entries) (w : List Flags) → new ≡ set_value (at id) es w → has_some w ≡ true → IsStrictlySortedBy id_cmp (keys_of new) → AllHeld es → AreGrouped new
grouped_set id es new w is some sorted held = record { sorted = sorted; held = subst AllHeld (sym is) (held_set id es w some held) }

pub noted_set : (id : List ℕ) (flags : Flags) (es new : Entries) (seen : List Share) (v w : List Flags) → shares_of es ≡ seen → new ≡ set_value (at id) es w → Some v ≡ lookup (at id) es →
    GainsFlags v flags w → Gains seen (share id flags) (shares_of new)
noted_set id flags es new seen v w view is stood gains =
    subst (λ xs. Gains xs (share id flags) (shares_of new)) view
    (subst (λ fs. Gains (shares_of es) (share id flags) (shares_of fs)) (sym is) (set_gains id flags es v w (sym stood) gains))

pub kept_set : (id : List ℕ) (es new : Entries) (seen : List Share) (v w : List Flags) → shares_of es ≡ seen → new ≡ set_value (at id) es w → Some v ≡ lookup (at id) es → w ≡ v → shares_of new ≡ seen
kept_set id es new seen v w view is stood same =
    ap shares_of (is ∙ set_value_same (at id) es w (sym stood ∙ ap {B = Option (List Flags)} (λ fs. Some fs) (sym same))) ∙ view

pub noted_insert : (id : List ℕ) (flags : Flags) (es new : Entries) (seen : List Share) (key : Vec ℕ) (w : List Flags) → shares_of es ≡ seen → new ≡ insert_entry id_cmp es key w →
    key.items ≡ id → w ≡ flags ∷ [] → None ≡ lookup (at id) es → Gains seen (share id flags) (shares_of new)
noted_insert id flags es new seen key w view is same single absent =
    subst (λ xs. Gains xs (share id flags) (shares_of new)) view
    (subst (λ fs. Gains (shares_of es) (share id flags) (shares_of fs)) (sym is) (insert_gains id flags es key w same single (sym absent)))

pub grouped_insert : (es new : Entries) (key : Vec ℕ) (w : List Flags) (flags : Flags) → new ≡ insert_entry id_cmp es key w → w ≡ flags ∷ [] →
    IsStrictlySortedBy id_cmp (keys_of new) → AllHeld es → AreGrouped new
grouped_insert es new key w flags is single sorted held =
    record { sorted = sorted; held = subst AllHeld (sym is) (held_insert es key w (subst (λ fs. IsTrue (has_some fs)) (sym single) refl) held) }

pub released_set : (id : List ℕ) (flags : Flags) (es new : Entries) (seen : List Share) (v w : List Flags) → shares_of es ≡ seen → new ≡ set_value (at id) es w → Some v ≡ lookup (at id) es →
    GainsFlags w flags v → Gains (shares_of new) (share id flags) seen
released_set id flags es new seen v w view is stood gains =
    subst (λ xs. Gains (shares_of new) (share id flags) xs) view
    (subst (λ fs. Gains (shares_of fs) (share id flags) (shares_of es)) (sym is) (set_takes id flags es v w (sym stood) gains))

pub released_last : (id : List ℕ) (flags : Flags) (es mid new : Entries) (seen : List Share) (v w : List Flags) → shares_of es ≡ seen → mid ≡ set_value (at id) es w →
    new ≡ remove_entry (at id) mid → Some v ≡ lookup (at id) es → GainsFlags w flags v → has_some w ≡ false → Gains (shares_of new) (share id flags) seen
released_last id flags es mid new seen v w view is gone stood gains none =
    subst (λ xs. Gains (shares_of new) (share id flags) xs) view
    (subst (λ fs. Gains (shares_of fs) (share id flags) (shares_of es)) (sym (gone ∙ ap (remove_entry (at id)) is)) (removed_takes id flags es v w (sym stood) gains none))

pub grouped_last : (id : List ℕ) (es mid new : Entries) (w : List Flags) → mid ≡ set_value (at id) es w → new ≡ remove_entry (at id) mid →
    IsStrictlySortedBy id_cmp (keys_of new) → AllHeld es → AreGrouped new
grouped_last id es mid new w is gone sorted held =
    record { sorted = sorted; held = subst AllHeld (sym (gone ∙ ap (remove_entry (at id)) is ∙ removed_set id es w)) (held_removed id es held) }

pub none_of : (b : Bool) → not b ≡ true → b ≡ false
none_of true h = absurd (both_ways true (sym h) refl)
none_of false h = refl

pub some_of : (b : Bool) → not b ≡ false → b ≡ true
some_of true h = refl
some_of false h = sym h

-- an insert into a map that a look-up left as it was
pub inserted_in : (old left : BTreeMap (Vec ℕ) (List Flags)) (new : Entries) (key : Vec ℕ) (w : List Flags) → left ≡ old → new ≡ insert_entry id_cmp left.entries key w →
    new ≡ insert_entry id_cmp old.entries key w
inserted_in old left new key w same is = is ∙ ap (λ (m : BTreeMap (Vec ℕ) (List Flags)). insert_entry id_cmp m.entries key w) same
