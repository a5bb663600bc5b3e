-- A rename: its handle is alone on its object before, and on the new identifier after it.
use Rattle.std.proofs.Common.{ℕ, ◌≡◌, ◌≤◌, ◌+◌, Bool, true, false, cond, ◌&&◌, List, [], ◌∷◌, Option, None, Some, find, count_by, refl, sym, ap, ◌∙◌, arith}
use Rattle.std.specs.List.{list_any}
use Rattle.std.specs.Option.{option_and_then}
use Rattle.std.specs.Str.{bytes_eq}
use Rattle.std.proofs.lemmas.Bool.{eq-eqb}
use Rattle.std.proofs.lemmas.List.Sums.{sum_by-cons}
use Rattle.std.proofs.lemmas.Slice.Eq.{bytes_eq-Decides}
use Rattle.tee_base.specs.declared.codes.Flags.{Flags}
use Rattle.share_rules.specs.Sharing.{access_write_meta, has as has_bit}
use Rattle.handle_table.specs.declared.handle.Entry.{Entry}
use Rattle.handle_table.specs.declared.handle.Handle.{Handle}
use Rattle.handle_table.specs.declared.handle.Handle.TheVariants.{Persistent, Transient}
use Rattle.handle_table.specs.Handles.{change_first, entry_is_on, entry_moved, entry_share, handle_at, is_alone, is_at, is_on, is_only, is_open, share_at}
use Rattle.object_asks.specs.Handles.{without_rename}
use Rattle.object_asks.specs.Held.{AreSole, is_meta_writer, meta_writers, ones_on, writes_meta_on}
use Rattle.object_asks.proofs.HandleLemmas.{both, first_true, or_first, or_second, second_true}
use Rattle.object_asks.proofs.HeldLemmas.{found_counts, handle_found, sum_first}
use Rattle.object_asks.proofs.SoundHandles.{by_identifier}

-- the handle of a number that writes meta on the object
pub record Writes (hs : List Entry) (i n : ℕ) (id : List ℕ) : Type 0 where
  pub entry : Entry
  pub flags : Flags
  pub position : ℕ
  pub found : find (is_at i n) hs ≡ Some entry
  pub is : entry.handle ≡ Persistent id flags position
  pub meta : has_bit access_write_meta flags ≡ true

writes_by : (hs : List Entry) (i n : ℕ) (id : List ℕ) (h : Handle) → handle_at (without_rename hs) i n ≡ Some h → writes_meta_on id h ≡ true → Writes hs i n id
writes_by hs i n id (Persistent own flags position) here may =
    let there = handle_found hs i n (Persistent own flags position) here in
    let same : own ≡ id = (bytes_eq-Decides own id).0 (first_true _ _ may) in
    record { entry = there.0; flags = flags; position = position; found = there.1; is = there.2 ∙ ap (λ own. Persistent own flags position) same; meta = second_true _ _ may }
writes_by hs i n id Transient here may = absurd (let e : false ≡ true = may in cc)

writes_in : (hs : List Entry) (i n : ℕ) (id : List ℕ) (o : Option Handle) → handle_at (without_rename hs) i n ≡ o → is_meta_writer id o ≡ true → Writes hs i n id
writes_in hs i n id None here may = absurd (let e : false ≡ true = may in cc)
writes_in hs i n id (Some h) here may = writes_by hs i n id h here may

pub writes_of : (hs : List Entry) (i n : ℕ) (id : List ℕ) → is_meta_writer id (handle_at (without_rename hs) i n) ≡ true → Writes hs i n id
writes_of hs i n id may = writes_in hs i n id (handle_at (without_rename hs) i n) refl may

same_bytes : (id : List ℕ) → bytes_eq id id ≡ true
same_bytes id = (bytes_eq-Decides id id).1 refl

pub on_it : (hs : List Entry) (i n : ℕ) (id : List ℕ) (w : Writes hs i n id) → entry_is_on id w.entry ≡ true
on_it hs i n id w = ap (is_on id) w.is ∙ same_bytes id

pub metas_it : (hs : List Entry) (i n : ℕ) (id : List ℕ) (w : Writes hs i n id) → writes_meta_on id w.entry.handle ≡ true
metas_it hs i n id w = ap (writes_meta_on id) w.is ∙ both _ _ (same_bytes id) w.meta

pub only_one : (hs : List Entry) (i n : ℕ) (id : List ℕ) → Writes hs i n id → AreSole hs → ones_on id hs ≡ 1
only_one hs i n id w sole =
    let some = found_counts (is_at i n) (entry_is_on id) hs w.entry w.found (on_it hs i n id w) in
    let one = sole id (found_counts (is_at i n) (λ e. writes_meta_on id e.handle) hs w.entry w.found (metas_it hs i n id w)) in
    omega arith

-- it is alone on its object
pub alone_meta : (hs : List Entry) (i n : ℕ) (id : List ℕ) → Writes hs i n id → AreSole hs → is_alone (without_rename hs) i n ≡ true
alone_meta hs i n id w sole =
    let share : share_at hs i n ≡ Some (record { id = id; flags = w.flags }) = ap (option_and_then entry_share) w.found ∙ ap (λ h. entry_share (record w.entry { handle = h })) w.is in
    ap (is_only hs) share ∙ eq-eqb (ones_on id hs) 1 (only_one hs i n id w sole)

-- where none is on the identifier
none_counts : (t : Entry → Bool) (hs : List Entry) → list_any t hs ≡ false → count_by t hs ≡ 0
none_counts t [] none = refl
none_counts t (e ∷ hs) none =
    let w : Entry → ℕ = λ y. cond (t y) 1 0 in
    let out : w e ≡ 0 = ap (λ b. cond b 1 0) (or_first _ _ none) in
    omega (arith, sum_by-cons w e hs, out, none_counts t hs (or_second _ _ none))

pub none_open : (hs : List Entry) (to : List ℕ) → is_open (without_rename hs) to ≡ false → ones_on to hs ≡ 0
none_open hs to none = none_counts (entry_is_on to) hs none

-- counts after the rename
pub ones_moved : (hs : List Entry) (i n : ℕ) (id to q : List ℕ) (w : Writes hs i n id) → ones_on q (change_first (is_at i n) (entry_moved to) hs) + cond (bytes_eq id q) 1
    0 ≡ ones_on q hs + cond (bytes_eq to q) 1 0
ones_moved hs i n id to q w =
    let weigh : Entry → ℕ = λ e. cond (entry_is_on q e) 1 0 in
    let before : weigh w.entry ≡ cond (bytes_eq id q) 1 0 = ap (λ h. cond (is_on q h) 1 0) w.is in
    let after : weigh (entry_moved to w.entry) ≡ cond (bytes_eq to q) 1 0 = ap (λ h. weigh (entry_moved to (record w.entry { handle = h }))) w.is in
    omega (arith, sum_first (is_at i n) (entry_moved to) weigh hs w.entry w.found, before, after)

metas_moved : (hs : List Entry) (i n : ℕ) (id to q : List ℕ) (w : Writes hs i n id) → meta_writers q (change_first (is_at i n) (entry_moved to) hs) + cond
    (bytes_eq id q && has_bit access_write_meta w.flags) 1 0 ≡ meta_writers q hs + cond (bytes_eq to q && has_bit access_write_meta w.flags) 1 0
metas_moved hs i n id to q w =
    let weigh : Entry → ℕ = λ e. cond (writes_meta_on q e.handle) 1 0 in
    let before : weigh w.entry ≡ cond (bytes_eq id q && has_bit access_write_meta w.flags) 1 0 = ap (λ h. cond (writes_meta_on q h) 1 0) w.is in
    let after : weigh (entry_moved to w.entry) ≡ cond (bytes_eq to q && has_bit access_write_meta w.flags) 1 0 = ap (λ h. weigh (entry_moved to (record w.entry { handle = h }))) w.is in
    omega (arith, sum_first (is_at i n) (entry_moved to) weigh hs w.entry w.found, before, after)

pub renamed_sole : (hs : List Entry) (i n : ℕ) (id to : List ℕ) → Writes hs i n id → is_open (without_rename hs) to ≡ false → AreSole hs → AreSole (change_first (is_at i n) (entry_moved to) hs)
renamed_sole hs i n id to w free sole = λ q some.
    let after = change_first (is_at i n) (entry_moved to) hs in
    let ones = ones_moved hs i n id to q w in
    let metas = metas_moved hs i n id to q w in
    by_identifier to q (λ b. ones_on q after + cond (bytes_eq id q) 1 0 ≡ ones_on q hs + cond b 1 0 →
    meta_writers q after + cond (bytes_eq id q && has_bit access_write_meta w.flags) 1 0 ≡ meta_writers q hs + cond (b && has_bit access_write_meta w.flags) 1 0 →
    ones_on q after ≤ 1)
    (λ same count _. let none : ones_on q hs ≡ 0 = ap (λ x. ones_on x hs) (sym same) ∙ none_open hs to free in omega arith)
    (λ count fewer. let one = sole q (omega arith) in omega arith)
    ones metas
