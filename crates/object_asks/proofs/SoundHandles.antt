-- Each handle's object is in the store, and a handle with ACCESS_WRITE_META is the only one on its object: by counts, and what keeps it.
use Rattle.std.proofs.Common.{ℕ, suc, ◌≡◌, ◌+◌, ◌<◌, ◌≤◌, ◌⊎◌, inl, inr, ⊎_elim, Bool, true, false, not, cond, ◌&&◌, ◌||◌, List}
use Rattle.std.proofs.Common.{[], ◌∷◌, ◌++◌, length, map, filter, count_by, refl, ap, subst, ◌∙◌, arith}
use Rattle.std.specs.List.{list_any, cons_option}
use Rattle.std.specs.Str.{bytes_eq}
use Rattle.std.proofs.lemmas.Bool.{both_ways, not-true, ltb-false, or_parts, and_cases}
use Rattle.std.proofs.lemmas.List.Sums.{sum_by-cons, sum_by_push}
use Rattle.std.proofs.lemmas.List.Filters.{sum_by-filter_both}
use Rattle.std.proofs.lemmas.Slice.Eq.{bytes_eq-Decides}
use Rattle.tee_base.specs.declared.codes.Flags.{Flags}
use Rattle.share_rules.specs.declared.index.Share.{Share}
use Rattle.share_rules.specs.Sharing.{access_write_meta, conflict, flags_on, has as has_bit, is_on as shares_on, uses_of}
use Rattle.store_api.specs.Stores.{Store, has}
use Rattle.handle_table.specs.declared.handle.Entry.{Entry}
use Rattle.handle_table.specs.declared.handle.Handle.{Handle}
use Rattle.handle_table.specs.declared.handle.Handle.TheVariants.{Persistent, Transient}
use Rattle.handle_table.specs.Handles.{change_first, entry_is_on, entry_sought, is_on, may_open, share_of, shares_of, with_position}
use Rattle.handle_table.proofs.Changes.{sum_change}
use Rattle.object_asks.specs.Handles.{without_rename}
use Rattle.object_asks.specs.Held.{AreSole, meta_writers, ones_on, writes_meta_on}

-- the facts of a valid machine, by counts
pub record IsSound (store : Store) (handles : List Entry) : Type 0 where
  pub stored : (id : List ℕ) → 0 < ones_on id handles → has store id ≡ true
  pub sole : AreSole handles

pub none_sound : (store : Store) → IsSound store []
none_sound store = record { stored = λ id some. absurd (omega arith); sole = λ id some. absurd (omega arith) }

-- ---- handles that go, and that move on

filtered : (test stays : Entry → Bool) (hs : List Entry) → count_by test (filter stays hs) ≤ count_by test hs
filtered test stays hs = omega (arith, sum_by-filter_both stays (λ e. not (stays e)) (λ e. refl) (λ e. cond (test e) 1 0) hs)

pub fewer_sole : (stays : Entry → Bool) (hs : List Entry) → AreSole hs → AreSole (filter stays hs)
fewer_sole stays hs sole = λ id some.
    let few = filtered (λ e. writes_meta_on id e.handle) stays hs in
    let one = sole id (omega arith) in
    let fewer = filtered (entry_is_on id) stays hs in
    omega arith

pub fewer_sound : (store : Store) (stays : Entry → Bool) (hs : List Entry) → IsSound store hs → IsSound store (filter stays hs)
fewer_sound store stays hs sound = record {
  stored = λ id some. let few = filtered (entry_is_on id) stays hs in sound.stored id (omega arith);
  sole = fewer_sole stays hs sound.sole;
}

sought_on : (id : List ℕ) (to : ℕ) (h : Handle) → is_on id (with_position to h) ≡ is_on id h
sought_on id to (Persistent own flags position) = refl
sought_on id to Transient = refl

sought_meta : (id : List ℕ) (to : ℕ) (h : Handle) → writes_meta_on id (with_position to h) ≡ writes_meta_on id h
sought_meta id to (Persistent own flags position) = refl
sought_meta id to Transient = refl

ons_sought : (test : Entry → Bool) (to : ℕ) (hs : List Entry) (id : List ℕ) → ones_on id (change_first test (entry_sought to) hs) ≡ ones_on id hs
ons_sought test to hs id = sum_change test (entry_sought to) (λ e. cond (entry_is_on id e) 1 0) (λ e. ap (λ b. cond b 1 0) (sought_on id to e.handle)) hs

metas_sought : (test : Entry → Bool) (to : ℕ) (hs : List Entry) (id : List ℕ) → meta_writers id (change_first test (entry_sought to) hs) ≡ meta_writers id hs
metas_sought test to hs id = sum_change test (entry_sought to) (λ e. cond (writes_meta_on id e.handle) 1 0) (λ e. ap (λ b. cond b 1 0) (sought_meta id to e.handle)) hs

pub moved_sole : (test : Entry → Bool) (to : ℕ) (hs : List Entry) → AreSole hs → AreSole (change_first test (entry_sought to) hs)
moved_sole test to hs sole = λ id some.
    let same = ons_sought test to hs id in
    let alike = metas_sought test to hs id in
    let one = sole id (omega arith) in
    omega arith

pub moved_sound : (store : Store) (test : Entry → Bool) (to : ℕ) (hs : List Entry) → IsSound store hs → IsSound store (change_first test (entry_sought to) hs)
moved_sound store test to hs sound = record {
  stored = λ id some. let same = ons_sought test to hs id in sound.stored id (omega arith);
  sole = moved_sole test to hs sound.sole;
}

-- ---- a store that has what another has

pub kept_sound : (store after : Store) (hs : List Entry) → ((q : List ℕ) → has store q ≡ true → has after q ≡ true) → IsSound store hs → IsSound after hs
kept_sound store after hs keeps sound = record { stored = λ id some. keeps id (sound.stored id some); sole = sound.sole }

-- ---- what a conflict says of counts

length_step : (id : List ℕ) (h : Handle) (ss : List Share) → length (flags_on (cons_option (share_of h) ss) id) ≡ cond (is_on id h) 1 0 + length (flags_on ss id)
length_step id (Persistent own flags position) ss =
    let s : Share = record { id = own; flags = flags } in
    elim (bytes_eq own id) as (λ b. length (map (λ s. s.flags) (cond b (s ∷ filter (shares_on id) ss) (filter (shares_on id) ss))) ≡ cond b 1 0 + length (flags_on ss id))
    [ true ↦ omega arith | false ↦ omega arith ]
length_step id Transient ss = omega arith

length_on : (id : List ℕ) (hs : List Entry) → length (flags_on (shares_of hs) id) ≡ ones_on id hs
length_on id [] = refl
length_on id (e ∷ hs) = omega (arith, length_step id e.handle (shares_of hs), length_on id hs, sum_by-cons (λ (e : Entry). cond (entry_is_on id e) 1 0) e hs)

metas_step : (id : List ℕ) (h : Handle) (ss : List Share) (n : ℕ) → (list_any (has_bit access_write_meta) (flags_on ss id) ≡ false → n ≡ 0) →
    list_any (has_bit access_write_meta) (flags_on (cons_option (share_of h) ss) id) ≡ false → cond (writes_meta_on id h) 1 0 + n ≡ 0
metas_step id (Persistent own flags position) ss n rest none =
    let s : Share = record { id = own; flags = flags } in
    elim (bytes_eq own id) as (λ b. list_any (has_bit access_write_meta) (map (λ s. s.flags) (cond b (s ∷ filter (shares_on id) ss) (filter (shares_on id) ss))) ≡ false →
    cond (b && has_bit access_write_meta flags) 1 0 + n ≡ 0) [
      | true ↦ λ nobody. let parts = or_parts (has_bit access_write_meta flags) (list_any (has_bit access_write_meta) (flags_on ss id)) nobody in ap (λ b. cond b 1 0 + n) parts.0
          ∙ (let z = rest parts.1 in omega arith)
      | false ↦ λ nobody. let z = rest nobody in omega arith
    ] none
metas_step id Transient ss n rest none = let z = rest none in omega arith

no_metas : (id : List ℕ) (hs : List Entry) → list_any (has_bit access_write_meta) (flags_on (shares_of hs) id) ≡ false → meta_writers id hs ≡ 0
no_metas id [] none = refl
no_metas id (e ∷ hs) none = sum_by-cons (λ (e : Entry). cond (writes_meta_on id e.handle) 1 0) e hs ∙ metas_step id e.handle (shares_of hs) (meta_writers id hs) (no_metas id hs) none

-- a handle may be opened where there is none on the object, or where neither it nor any of them has ACCESS_WRITE_META
opens : (id : List ℕ) (flags : Flags) (hs : List Entry) → may_open (without_rename hs) id flags ≡ true → (ones_on id hs ≡ 0) ⊎ ((has_bit access_write_meta flags ≡ false) × (meta_writers id hs ≡ 0))
opens id flags hs may =
    let fs = flags_on (shares_of hs) id in
    let u = uses_of (flags ∷ fs) in
    let rest = (u.reads && not u.share_read) || (u.writes && not u.share_write) in
    ⊎_elim
    (λ alone. let few = ltb-false 1 (suc (length fs)) alone in let same = length_on id hs in inl (omega arith))
    (λ calm. let either = or_parts u.writes_meta rest calm in let parts = or_parts (has_bit access_write_meta flags) (list_any (has_bit access_write_meta) fs) either.0 in
    inr (parts.0, no_metas id hs parts.1))
    (and_cases u.several (u.writes_meta || rest) (not-true (conflict (shares_of hs) id flags) may))

-- ---- a handle that is added

abbrev newcomer : ℕ → ℕ → List ℕ → Flags → ℕ → Entry
newcomer i n id flags at = record { instance = i; number = n; handle = Persistent id flags at }

-- by whether the identifier is that of the new handle
pub by_identifier : (id q : List ℕ) (P : Bool → Type 0) → (id ≡ q → P true) → P false → P (bytes_eq id q)
by_identifier id q P here there =
    elim (bytes_eq id q) as (λ b. bytes_eq id q ≡ b → P b) [ true ↦ λ e. here ((bytes_eq-Decides id q).0 e) | false ↦ λ e. there ] refl

weightless : (b : Bool) (n : ℕ) → b ≡ false → n ≡ 0 → ¬ (0 < n + cond b 1 0)
weightless true n none zero some = both_ways _ none refl
weightless false n none zero some = omega arith

-- where it writes meta, or another on its object does, it is the only one
alone_on : (id : List ℕ) (flags : Flags) (hs : List Entry) → may_open (without_rename hs) id flags ≡ true → 0 < meta_writers id hs + cond (has_bit access_write_meta flags) 1 0 → ones_on id hs + 1 ≤ 1
alone_on id flags hs may some =
    ⊎_elim (λ none. omega arith) (λ calm. absurd (weightless (has_bit access_write_meta flags) (meta_writers id hs) calm.0 calm.1 some)) (opens id flags hs may)

pub added_sole : (hs : List Entry) (i n : ℕ) (id : List ℕ) (flags : Flags) (at : ℕ) → may_open (without_rename hs) id flags ≡ true → AreSole hs → AreSole (hs ++ newcomer i n id flags at ∷ [])
added_sole hs i n id flags at may sole = λ q some.
    let e = newcomer i n id flags at in
    let more : ones_on q (hs ++ e ∷ []) ≡ ones_on q hs + cond (bytes_eq id q) 1 0 = sum_by_push (λ (x : Entry). cond (entry_is_on q x) 1 0) hs e in
    let metas : meta_writers q (hs ++ e ∷ []) ≡ meta_writers q hs + cond (bytes_eq id q && has_bit access_write_meta flags) 1 0 =
    sum_by_push (λ (x : Entry). cond (writes_meta_on q x.handle) 1 0) hs e in
    let bound : ones_on q hs + cond (bytes_eq id q) 1 0 ≤ 1 =
    by_identifier id q (λ b. 0 < meta_writers q hs + cond (b && has_bit access_write_meta flags) 1 0 → ones_on q hs + cond b 1 0 ≤ 1)
    (λ same any. subst (λ x. 0 < meta_writers x hs + cond (has_bit access_write_meta flags) 1 0 → ones_on x hs + 1 ≤ 1) same (alone_on id flags hs may) any)
    (λ any. let one = sole q (omega arith) in omega arith)
    (omega arith) in
    omega arith

pub added_sound : (store : Store) (hs : List Entry) (i n : ℕ) (id : List ℕ) (flags : Flags) (at : ℕ) → has store id ≡ true → may_open (without_rename hs) id flags ≡ true →
    IsSound store hs → IsSound store (hs ++ newcomer i n id flags at ∷ [])
added_sound store hs i n id flags at there may sound =
    let e = newcomer i n id flags at in
    record {
      stored = λ q some.
          let more : ones_on q (hs ++ e ∷ []) ≡ ones_on q hs + cond (bytes_eq id q) 1 0 = sum_by_push (λ (x : Entry). cond (entry_is_on q x) 1 0) hs e in
          by_identifier id q (λ b. 0 < ones_on q hs + cond b 1 0 → has store q ≡ true)
          (λ same any. subst (λ x. has store x ≡ true) same there)
          (λ any. sound.stored q (omega arith))
          (omega arith);
      sole = added_sole hs i n id flags at may sound.sole;
    }

-- ---- a handle on an object in memory

abbrev in_memory : ℕ → ℕ → Entry
in_memory i n = record { instance = i; number = n; handle = Transient }

pub memory_sole : (hs : List Entry) (i n : ℕ) → AreSole hs → AreSole (hs ++ in_memory i n ∷ [])
memory_sole hs i n sole = λ id some.
    let ones : ones_on id (hs ++ in_memory i n ∷ []) ≡ ones_on id hs + 0 = sum_by_push (λ (x : Entry). cond (entry_is_on id x) 1 0) hs (in_memory i n) in
    let metas : meta_writers id (hs ++ in_memory i n ∷ []) ≡ meta_writers id hs + 0 = sum_by_push (λ (x : Entry). cond (writes_meta_on id x.handle) 1 0) hs (in_memory i n) in
    let one = sole id (omega arith) in
    omega arith

pub memory_sound : (store : Store) (hs : List Entry) (i n : ℕ) → IsSound store hs → IsSound store (hs ++ in_memory i n ∷ [])
memory_sound store hs i n sound = record {
  stored = λ id some.
      let ones : ones_on id (hs ++ in_memory i n ∷ []) ≡ ones_on id hs + 0 = sum_by_push (λ (x : Entry). cond (entry_is_on id x) 1 0) hs (in_memory i n) in
      sound.stored id (omega arith);
  sole = memory_sole hs i n sound.sole;
}
