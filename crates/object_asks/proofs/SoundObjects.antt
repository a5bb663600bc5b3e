-- What asks about persistent objects leave is valid where it was before, and so it is for what the store's answers would give.
pub use Rattle.object_asks.specs.Valid.{Goes, Leaves}
use Rattle.std.proofs.Common.{ℕ, ◌≡◌, ◌<◌, ℤ, pos, ◌+ℤ◌, ◌+◌, ◌==◌, min, Bool, true, false, not, cond, nat_lt, nat_le, ◌&&◌, ◌||◌, List, length}
use Rattle.std.proofs.Common.{Option, None, Some, is_some, Result, Ok, Err, IfOk, refl, ap, subst, ◌∙◌, arith, ◌⊎◌, ⊎_elim, sym}
use Rattle.std.specs.Ordering.{eq_by_cmp}
use Rattle.std.specs.Cmp.{eq_by_cmp_equiv}
use Rattle.std.specs.Cmp.Lexicographic.{nat_list_cmp_total}
use Rattle.std.specs.FinMap as finite
use Rattle.std.specs.Str.{bytes_eq}
use Rattle.std.proofs.lemmas.Bool.{both_ways, cond_both, not-false}
use Rattle.std.proofs.lemmas.Slice.Eq.{bytes_eq-Decides}
use Rattle.tee_base.specs.declared.codes.Flags.{Flags}
use Rattle.share_rules.specs.Sharing.{has as has_bit, access_read, access_write, access_write_meta}
use Rattle.store_api.specs.declared.object.Object.{Object}
use Rattle.store_api.specs.declared.object.Facts.{Facts}
use Rattle.store_api.specs.declared.answer.StoreAnswer.{StoreAnswer}
use Rattle.store_api.specs.declared.answer.StoreAnswer.TheVariants.{Exists, NoSpace}
use Rattle.store_api.specs.declared.change.Change.TheVariants.{Delete, Rename, Truncate, Write}
use Rattle.store_api.specs.Stores.{Store, change, cost, facts_of, found, has, object_at, quota, read_at, resize, with_object, within_quota, write_at}
use Rattle.store_api.proofs.ChangeLaws.{leaves_others}
use Rattle.store_api.proofs.Costs.{by_bytes, equal, tied_same}
use Rattle.transient_obj.specs.Keys.{Key}
use Rattle.transient_obj.specs.declared.object_key.ObjectKey.{ObjectKey}
use Rattle.handle_table.specs.declared.handle.Handle.{Handle}
use Rattle.handle_table.specs.declared.handle.Handle.TheVariants.{Persistent, Transient}
use Rattle.handle_table.specs.Handles.{change_first, entry_is_on, entry_moved, free_number, handle_at, is_at, is_full, is_of, is_on, is_open, is_there, may_open}
use Rattle.object_asks.specs.Asks.{Resolution, Objects, close_resolution, create_resolution, create_outcome, created_by, created_with, delete_resolution, delete_on, deleted_by, has_unknown_bits}
use Rattle.object_asks.specs.Asks.{with_held, info_resolution, is_long_identifier, is_too_much, kept_flags, key_info, position_from, landed_on, moved_by, moved_from_end, moved_to}
use Rattle.object_asks.specs.Asks.{with_new_handle, open_resolution, opened_by, overwrites, private_storage, put_of, read_by, read_resolution, refusal_with, rename_resolution, rename_outcome}
use Rattle.object_asks.specs.Asks.{renamed_by, seek_resolution, told_of_object, truncate_resolution, truncated_by, write_resolution, written_by}
use Rattle.tee_base.specs.declared.codes.TheConstants.Code.{ACCESS_CONFLICT}
use Rattle.object_asks.specs.Handles.{without_rename}
use Rattle.object_asks.specs.Held.{BelongTogether, handle_added, handle_closed, instance_closed, is_meta_writer, key_at, nothing_held, ones_on, writes_meta_on}
use Rattle.object_asks.specs.Sources.{attr_source, is_no_key, key_given}
use Rattle.object_asks.specs.Valid.{IsValidObjects}
use Rattle.object_asks.proofs.HandleLemmas.{both, closed_opens, or_second}
use Rattle.object_asks.proofs.HeldLemmas.{found_counts, found_goes, handle_found, together_added, together_left, together_moved, together_sought}
use Rattle.object_asks.proofs.Renames.{Writes, ones_moved, only_one, renamed_sole, writes_of}
use Rattle.object_asks.proofs.SoundHandles.{IsSound, added_sound, fewer_sound, kept_sound, moved_sound}

-- ---- what a put and a write keep

some_either : (b : Bool) (v : Object) (o : Option Object) → is_some o ≡ true → is_some (cond b (Some v) o) ≡ true
some_either true v o there = refl
some_either false v o there = there

inserted_keeps : (m : Store) (k : List ℕ) (v : Object) (q : List ℕ) → has m q ≡ true → has (finite.insert m k v) q ≡ true
inserted_keeps m k v q there = ap is_some (finite.get-insert nat_list_cmp_total m k v q) ∙ some_either (eq_by_cmp by_bytes q k) v (object_at m q) there

inserted_there : (m : Store) (k : List ℕ) (v : Object) → has (finite.insert m k v) k ≡ true
inserted_there m k v =
    ap is_some (finite.get-insert nat_list_cmp_total m k v k) ∙ ap (λ b. is_some (cond b (Some v) (object_at m k))) ((eq_by_cmp_equiv nat_list_cmp_total).refl k)

-- the store has all that another has, and this identifier
record Gains (store : Store) (id : List ℕ) (after : Store) : Type 0 where
  there : has after id ≡ true
  keeps : (q : List ℕ) → has store q ≡ true → has after q ≡ true

inserted_gains : (m : Store) (k : List ℕ) (v : Object) → Gains m k (finite.insert m k v)
inserted_gains m k v = record { there = inserted_there m k v; keeps = inserted_keeps m k v }

within : (P : Store → Type 0) (s : Store) → P s → IfOk (within_quota (Ok s)) (λ after. P after)
within P s holds = cond_both {A = Result Store StoreAnswer} (nat_le (cost s) quota) (Ok s) (Err NoSpace) (λ r. IfOk r (λ after. P after)) (λ e. holds) (λ e. tt)

put_gains : (m : Store) (id : List ℕ) (key : ObjectKey) (content : List ℕ) (overwrite : Bool) → IfOk (change m (put_of id key content overwrite)) (λ after. Gains m id after)
unfolding change
put_gains m id key content overwrite =
    let o : Object = record { kind = key.kind; usage = key.usage; secret = key.secret; content = content } in
    cond_both {A = Result Store StoreAnswer} (has m id && not overwrite) (Err Exists) (Ok (finite.insert m id o)) (λ r. IfOk (within_quota r) (λ after. Gains m id after)) (λ e. tt)
    (λ e. within (Gains m id) (finite.insert m id o) (inserted_gains m id o))

of_found : (P : Store → Type 0) (r : Option Object) (f : Object → Result Store StoreAnswer) → ((o : Object) → IfOk (within_quota (f o)) (λ after. P after)) →
    IfOk (within_quota (with_object r f)) (λ after. P after)
of_found P None f each = tt
of_found P (Some o) f each = each o

write_gains : (m : Store) (id : List ℕ) (at : ℕ) (bytes : List ℕ) → IfOk (change m (Write id at bytes)) (λ after. Gains m id after)
unfolding change
write_gains m id at bytes =
    of_found (Gains m id) (object_at m id) (λ o. Ok (finite.insert m id (record o { content = write_at o.content at bytes })))
    (λ o. within (Gains m id) (finite.insert m id (record o { content = write_at o.content at bytes })) (inserted_gains m id (record o { content = write_at o.content at bytes })))

truncate_gains : (m : Store) (id : List ℕ) (n : ℕ) → IfOk (change m (Truncate id n)) (λ after. Gains m id after)
unfolding change
truncate_gains m id n =
    of_found (Gains m id) (object_at m id) (λ o. Ok (finite.insert m id (record o { content = resize n o.content })))
    (λ o. within (Gains m id) (finite.insert m id (record o { content = resize n o.content })) (inserted_gains m id (record o { content = resize n o.content })))

-- a delete leaves the others
each_other : (r : Result Store StoreAnswer) (m : Store) (id : List ℕ) → ((q : List ℕ) → ¬ (q ≡ id) → IfOk r (λ after. object_at after q ≡ object_at m q)) →
    IfOk r (λ after. (q : List ℕ) → ¬ (q ≡ id) → object_at after q ≡ object_at m q)
each_other (Ok after) m id each = each
each_other (Err answer) m id each = tt

gone_others : (m : Store) (id : List ℕ) → IfOk (change m (Delete id)) (λ after. (q : List ℕ) → ¬ (q ≡ id) → object_at after q ≡ object_at m q)
gone_others m id = each_other (change m (Delete id)) m id (leaves_others m (Delete id))

-- ---- outcomes and resolutions

abbrev pub AreSound : Objects → Type 0
AreSound o = IsValidObjects o

pub of_handles : (o : Objects) → AreSound o → IsSound o.store o.held.handles
of_handles o sound = record { stored = sound.stored; sole = sound.sole }

pub by_handles : (o : Objects) → IsSound o.store o.held.handles → BelongTogether o.held.handles o.held.keys → AreSound o
by_handles o sound together = record { stored = sound.stored; sole = sound.sole; together = together }

-- nothing held is valid over any store
pub nothing_sound : (store : Store) → AreSound (record { store = store; held = nothing_held })
nothing_sound store = record { stored = λ id some. absurd (omega arith); sole = λ id some. absurd (omega arith); together = refl }

-- all that an instance has goes
pub instance_closed_sound : (o : Objects) (i : ℕ) → AreSound o → AreSound (record o { held = instance_closed o.held i })
instance_closed_sound o i sound =
    by_handles (record o { held = instance_closed o.held i }) (fewer_sound o.store (λ e. not (is_of i e)) o.held.handles (of_handles o sound))
    (together_left (λ p. not (p.0 == i)) o.held.handles o.held.keys sound.together)

-- at each test the resolution goes well whichever way it turns out
pub turn : (b : Bool) (x y : Resolution Objects) → Goes AreSound x → (b ≡ false → Goes AreSound y) → Goes AreSound (cond b x y)
turn b x y here there = cond_both b x y (Goes AreSound) (λ e. here) there

numbered_sound : (o : Objects) (i : ℕ) (id : List ℕ) (flags : Flags) → has o.store id ≡ true → may_open (without_rename o.held.handles) id flags ≡ true → AreSound o
    → Leaves AreSound (with_new_handle o i id flags)
numbered_sound o i id flags there may sound =
    by_handles (record o { held = handle_added o.held i id flags }) (added_sound o.store o.held.handles i (free_number o.held.handles i) id flags 0 there may (of_handles o sound))
    (together_added o.held.handles o.held.keys (record { instance = i; number = free_number o.held.handles i; handle = Persistent id flags 0 }) refl sound.together)

-- over a store that has what another has
pub kept_valid : (o : Objects) (after : Store) → ((q : List ℕ) → has o.store q ≡ true → has after q ≡ true) → AreSound o → AreSound (record o { store = after })
kept_valid o after keeps sound = by_handles (record o { store = after }) (kept_sound o.store after o.held.handles keeps (of_handles o sound)) sound.together

found_there : (store : Store) (r : Option Object) (id : List ℕ) (P : Result Facts StoreAnswer → Type 0) → (is_some r ≡ true → (facts : Facts) → P (Ok facts)) →
    ((answer : StoreAnswer) → P (Err answer)) → P (with_object r (λ x. Ok (facts_of x)))
found_there store None id P there not_there = not_there _
found_there store (Some x) id P there not_there = there refl (facts_of x)

pub open_sound : (o : Objects) (i storage : ℕ) (id : List ℕ) (flags : ℕ) → AreSound o → Goes AreSound (open_resolution o i storage id flags)
open_sound o i storage id flags sound =
    turn (is_long_identifier id || has_unknown_bits flags) _ _ tt (λ _.
    turn (not (storage == private_storage)) _ _ sound (λ _.
    turn (is_full (without_rename o.held.handles) i) _ _ sound (λ _. (
      sound,
      found_there o.store (object_at o.store id) id (λ r. Leaves AreSound (opened_by o i id (kept_flags flags) r))
          (λ there facts. cond_both (may_open (without_rename o.held.handles) id (kept_flags flags)) (with_new_handle o i id (kept_flags flags)) (refusal_with o ACCESS_CONFLICT) (Leaves AreSound)
          (λ may. numbered_sound o i id (kept_flags flags) there may sound) (λ _. sound))
          (λ answer. sound),
    ))))

created_by_sound : (o : Objects) (i : ℕ) (id : List ℕ) (flags : Flags) (r : Result Store StoreAnswer) → IfOk r (λ after. Gains o.store id after) →
    may_open (without_rename o.held.handles) id flags ≡ true → AreSound o → Leaves AreSound (created_by o i id flags r)
created_by_sound o i id flags (Ok after) gains may sound = numbered_sound (record o { store = after }) i id flags gains.there may (kept_valid o after gains.keeps sound)
created_by_sound o i id flags (Err answer) gains may sound = sound

created_sound : (o : Objects) (i : ℕ) (id : List ℕ) (flags : ℕ) (content : List ℕ) (key : ObjectKey) → AreSound o → Leaves AreSound (create_outcome o i id flags content key)
created_sound o i id flags content key sound =
    cond_both (is_open (without_rename o.held.handles) id) (refusal_with o ACCESS_CONFLICT) (created_by o i id (kept_flags flags) (change o.store (put_of id key content (overwrites flags))))
    (Leaves AreSound) (λ _. sound)
    (λ none. created_by_sound o i id (kept_flags flags) (change o.store (put_of id key content (overwrites flags))) (put_gains o.store id key content (overwrites flags))
    (closed_opens o.held.handles id (kept_flags flags) none) sound)

created_with_sound : (o : Objects) (i : ℕ) (id : List ℕ) (flags : ℕ) (content : List ℕ) (r : Result ObjectKey StoreAnswer) → AreSound o → Leaves AreSound (created_with o i id flags content r)
created_with_sound o i id flags content (Ok key) sound = created_sound o i id flags content key sound
created_with_sound o i id flags content (Err answer) sound = sound

pub create_sound : (o : Objects) (i storage : ℕ) (id : List ℕ) (flags attr : ℕ) (content : List ℕ) → AreSound o → Goes AreSound (create_resolution o i storage id flags attr content)
create_sound o i storage id flags attr content sound =
    let source = attr_source o.held i attr in
    turn (is_long_identifier id || is_too_much (length content) || has_unknown_bits flags || is_no_key source) _ _ tt (λ _.
    turn (not (storage == private_storage)) _ _ sound (λ _.
    turn (is_full (without_rename o.held.handles) i) _ _ sound (λ _.
    (sound, created_with_sound o i id flags content (key_given o.store source) sound))))

pub closed_sound : (o : Objects) (i object : ℕ) → AreSound o → AreSound (record o { held = handle_closed o.held i object })
closed_sound o i object sound =
    by_handles (record o { held = handle_closed o.held i object }) (fewer_sound o.store (λ e. not (is_at i object e)) o.held.handles (of_handles o sound))
    (together_left (λ p. not ((p.0 == i) && (p.1 == object))) o.held.handles o.held.keys sound.together)

pub close_sound : (o : Objects) (i object : ℕ) → AreSound o → Goes AreSound (close_resolution o i object)
close_sound o i object sound =
    turn (object == 0) _ _ sound (λ _.
    turn (not (is_there (without_rename o.held.handles) i object)) _ _ tt (λ _.
    closed_sound o i object sound))

moved_to_sound : (o : Objects) (i object position : ℕ) → AreSound o → AreSound (moved_to o i object position)
moved_to_sound o i object position sound =
    by_handles (moved_to o i object position) (moved_sound o.store (is_at i object) (min position 4294967295) o.held.handles (of_handles o sound))
    (together_sought (is_at i object) (min position 4294967295) o.held.handles o.held.keys sound.together)

read_by_sound : (o : Objects) (i object position : ℕ) (r : Result (List ℕ) StoreAnswer) → AreSound o → Leaves AreSound (read_by o i object position r)
read_by_sound o i object position (Ok bytes) sound = moved_to_sound o i object (position + length bytes) sound
read_by_sound o i object position (Err answer) sound = sound

pub read_sound : (o : Objects) (i object count : ℕ) (h : Option Handle) → AreSound o → Goes AreSound (read_resolution o i object count h)
read_sound o i object count None sound = tt
read_sound o i object count (Some Transient) sound = tt
read_sound o i object count (Some (Persistent id flags position)) sound =
    turn (is_too_much count || not (has_bit access_read flags)) _ _ tt (λ _.
    turn (count == 0) _ _ sound (λ _.
    (sound, read_by_sound o i object position (read_at o.store id position count) sound)))

written_by_sound : (o : Objects) (i object to : ℕ) (id : List ℕ) (r : Result Store StoreAnswer) → IfOk r (λ after. Gains o.store id after) → AreSound o → Leaves AreSound (written_by o i object to r)
written_by_sound o i object to id (Ok after) gains sound = moved_to_sound (record o { store = after }) i object to (kept_valid o after gains.keeps sound)
written_by_sound o i object to id (Err answer) gains sound = sound

pub write_sound : (o : Objects) (i object : ℕ) (bytes : List ℕ) (h : Option Handle) → AreSound o → Goes AreSound (write_resolution o i object bytes h)
write_sound o i object bytes None sound = tt
write_sound o i object bytes (Some Transient) sound = tt
write_sound o i object bytes (Some (Persistent id flags position)) sound =
    turn (is_too_much (length bytes) || not (has_bit access_write flags)) _ _ tt (λ _.
    turn (length bytes == 0) _ _ sound (λ _.
    turn (nat_lt 4294967295 (position + length bytes)) _ _ sound (λ _.
    (sound, written_by_sound o i object (position + length bytes) id (change o.store (Write id position bytes)) (write_gains o.store id position bytes) sound))))

-- ---- what an object told, and where a handle goes

told_sound : (o : Objects) (flags : Flags) (position : ℕ) (r : Result Facts StoreAnswer) → AreSound o → Leaves AreSound (told_of_object o flags position r)
told_sound o flags position (Ok facts) sound = sound
told_sound o flags position (Err answer) sound = sound

key_told_sound : (o : Objects) (key : Option Key) → AreSound o → Leaves AreSound (key_info o key)
key_told_sound o None sound = tt
key_told_sound o (Some key) sound = sound

pub info_sound : (o : Objects) (i object : ℕ) (h : Option Handle) → AreSound o → Goes AreSound (info_resolution o i object h)
info_sound o i object None sound = tt
info_sound o i object (Some Transient) sound = key_told_sound o (key_at o.held i object) sound
info_sound o i object (Some (Persistent id flags position)) sound = (sound, told_sound o flags position (found o.store id) sound)

landed_sound : (o : Objects) (i object : ℕ) (to : Option ℕ) → AreSound o → Leaves AreSound (landed_on o i object to)
landed_sound o i object None sound = sound
landed_sound o i object (Some to) sound = moved_to_sound o i object to sound

moved_by_sound : (o : Objects) (i object base : ℕ) (offset : ℤ) → AreSound o → Leaves AreSound (moved_by o i object base offset)
moved_by_sound o i object base offset sound = landed_sound o i object (position_from (pos base +ℤ offset)) sound

from_end_sound : (o : Objects) (i object : ℕ) (offset : ℤ) (r : Result Facts StoreAnswer) → AreSound o → Leaves AreSound (moved_from_end o i object offset r)
from_end_sound o i object offset (Ok facts) sound = moved_by_sound o i object facts.length offset sound
from_end_sound o i object offset (Err answer) sound = sound

pub seek_sound : (o : Objects) (i object : ℕ) (offset : ℤ) (whence : ℕ) (h : Option Handle) → AreSound o → Goes AreSound (seek_resolution o i object offset whence h)
seek_sound o i object offset whence None sound = tt
seek_sound o i object offset whence (Some Transient) sound = tt
seek_sound o i object offset whence (Some (Persistent id flags position)) sound =
    turn (whence == 0) _ _ (moved_by_sound o i object 0 offset sound) (λ _.
    turn (whence == 1) _ _ (moved_by_sound o i object position offset sound) (λ _.
    turn (whence == 2) _ _ (sound, from_end_sound o i object offset (found o.store id) sound) (λ _. tt)))

truncated_by_sound : (o : Objects) (id : List ℕ) (r : Result Store StoreAnswer) → IfOk r (λ after. Gains o.store id after) → AreSound o → Leaves AreSound (truncated_by o r)
truncated_by_sound o id (Ok after) gains sound = kept_valid o after gains.keeps sound
truncated_by_sound o id (Err answer) gains sound = sound

pub truncate_sound : (o : Objects) (i object n : ℕ) (h : Option Handle) → AreSound o → Goes AreSound (truncate_resolution o i object n h)
truncate_sound o i object n None sound = tt
truncate_sound o i object n (Some Transient) sound = tt
truncate_sound o i object n (Some (Persistent id flags position)) sound =
    turn (not (has_bit access_write flags)) _ _ tt (λ _.
    (sound, truncated_by_sound o id (change o.store (Truncate id n)) (truncate_gains o.store id n) sound))

-- ---- an object that goes

-- the handle was the only one on its object
sole_gone : (o : Objects) (i object : ℕ) (id : List ℕ) (flags : Flags) (position : ℕ) → handle_at (without_rename o.held.handles) i object ≡ Some (Persistent id flags position) →
    has_bit access_write_meta flags ≡ true → AreSound o → ones_on id (handle_closed o.held i object).handles ≡ 0
sole_gone o i object id flags position here meta sound =
    let hs = o.held.handles in
    let there = handle_found hs i object (Persistent id flags position) here in
    let same : bytes_eq id id ≡ true = (bytes_eq-Decides id id).1 refl in
    let metas = found_counts (is_at i object) (λ e. writes_meta_on id e.handle) hs there.0 there.1 (ap (writes_meta_on id) there.2 ∙ both _ _ same meta) in
    let fewer = found_goes (is_at i object) (entry_is_on id) hs there.0 there.1 (ap (is_on id) there.2 ∙ same) in
    let one = sound.sole id metas in
    omega arith

deleted_sound : (o : Objects) (i object : ℕ) (id : List ℕ) (flags : Flags) (position : ℕ) (r : Result Store StoreAnswer) →
    handle_at (without_rename o.held.handles) i object ≡ Some (Persistent id flags position) → has_bit access_write_meta flags ≡ true
    → IfOk r (λ after. (q : List ℕ) → ¬ (q ≡ id) → object_at after q ≡ object_at o.store q) → AreSound o → Leaves AreSound (deleted_by (with_held o (handle_closed o.held i object)) r)
deleted_sound o i object id flags position (Ok after) here meta others sound =
    let left : AreSound (with_held o (handle_closed o.held i object)) = closed_sound o i object sound in
    record {
      stored = λ q some. ap is_some (others q (λ same. let none = sole_gone o i object id flags position here meta sound in
          let on : 0 < ones_on id (handle_closed o.held i object).handles = subst (λ x. 0 < ones_on x (handle_closed o.held i object).handles) same some in absurd (omega arith)))
          ∙ left.stored q some;
      sole = left.sole;
      together = left.together;
    }
deleted_sound o i object id flags position (Err answer) here meta others sound = closed_sound o i object sound

delete_on_sound : (o : Objects) (i object : ℕ) (h : Option Handle) → handle_at (without_rename o.held.handles) i object ≡ h → AreSound o → Goes AreSound (delete_on o i object h)
delete_on_sound o i object None here sound = tt
delete_on_sound o i object (Some Transient) here sound = tt
delete_on_sound o i object (Some (Persistent id flags position)) here sound =
    turn (not (has_bit access_write_meta flags)) _ _ tt (λ meta.
    (closed_sound o i object sound, deleted_sound o i object id flags position (change o.store (Delete id)) here (not-false _ meta) (gone_others o.store id) sound))

pub delete_sound : (o : Objects) (i object : ℕ) → AreSound o → Goes AreSound (delete_resolution o i object)
delete_sound o i object sound =
    turn (object == 0) _ _ sound (λ _. delete_on_sound o i object (handle_at (without_rename o.held.handles) i object) refl sound)

-- ---- an object that moves

-- after a rename the new identifier is there, and all but the two are as they were
record Moves (m : Store) (id to : List ℕ) (after : Store) : Type 0 where
  there : has after to ≡ true
  others : (q : List ℕ) → ¬ (q ≡ id) → ¬ (q ≡ to) → object_at after q ≡ object_at m q

unlike : (q k : List ℕ) → ¬ (q ≡ k) → eq_by_cmp by_bytes q k ≡ false
unlike q k differs =
    elim (eq_by_cmp by_bytes q k) as (λ b. eq_by_cmp by_bytes q k ≡ b → b ≡ false) [ true ↦ λ e. absurd (differs (tied_same q k (equal _ e))) | false ↦ λ e. refl ] refl

moved_there : (m : Store) (id to : List ℕ) (o : Object) → object_at m id ≡ Some o → has m to ≡ false → has (finite.remove (finite.insert m to o) id) to ≡ true
moved_there m id to o here free =
    ap is_some (finite.get-remove nat_list_cmp_total (finite.insert m to o) id to)
    ∙ ap (λ b. is_some (cond b None (object_at (finite.insert m to o) to))) (unlike to id (λ same. both_ways _ free (ap (λ x. has m x) same ∙ ap is_some here)))
    ∙ inserted_there m to o

of_object : (P : Store → Type 0) (r : Option Object) (f : Object → Result Store StoreAnswer) → ((o : Object) → r ≡ Some o → IfOk (within_quota (f o)) (λ after. P after)) →
    IfOk (within_quota (with_object r f)) (λ after. P after)
of_object P None f each = tt
of_object P (Some o) f each = each o refl

rename_there : (m : Store) (id to : List ℕ) → IfOk (change m (Rename id to)) (λ after. has after to ≡ true)
unfolding change
rename_there m id to =
    let P : Store → Type 0 = λ after. has after to ≡ true in
    of_object P (object_at m id) (λ o. cond (has m to) (Err Exists) (Ok (finite.remove (finite.insert m to o) id)))
    (λ o here. cond_both {A = Result Store StoreAnswer} (has m to) (Err Exists) (Ok (finite.remove (finite.insert m to o) id)) (λ r. IfOk (within_quota r) (λ after. P after)) (λ e. tt)
    (λ free. within P (finite.remove (finite.insert m to o) id) (moved_there m id to o here free)))

moves_by : (r : Result Store StoreAnswer) (m : Store) (id to : List ℕ) → IfOk r (λ after. has after to ≡ true) →
    ((q : List ℕ) → ¬ ((q ≡ id) ⊎ (q ≡ to)) → IfOk r (λ after. object_at after q ≡ object_at m q)) → IfOk r (λ after. Moves m id to after)
moves_by (Ok after) m id to there others = record { there = there; others = λ q no neither. others q (λ either. ⊎_elim no neither either) }
moves_by (Err answer) m id to there others = tt

renamed_by_sound : (o : Objects) (i object : ℕ) (id to : List ℕ) (r : Result Store StoreAnswer) → Writes o.held.handles i object id → is_open (without_rename o.held.handles) to ≡ false →
    IfOk r (λ after. Moves o.store id to after) → AreSound o → Leaves AreSound (renamed_by o i object to r)
renamed_by_sound o i object id to (Ok after) w free moves sound =
    let hs = o.held.handles in
    let now = change_first (is_at i object) (entry_moved to) hs in
    record {
      stored = λ q some.
          let count = ones_moved hs i object id to q w in
          elim (bytes_eq to q) as (λ b. bytes_eq to q ≡ b → has after q ≡ true) [
            | true ↦ λ here. subst (λ x. has after x ≡ true) ((bytes_eq-Decides to q).0 here) moves.there
            | false ↦ λ far. elim (bytes_eq id q) as (λ b. bytes_eq id q ≡ b → has after q ≡ true) [
              | true ↦ λ was.
                  let one : ones_on q hs ≡ 1 = ap (λ x. ones_on x hs) (sym ((bytes_eq-Decides id q).0 was)) ∙ only_one hs i object id w sound.sole in
                  let left : cond (bytes_eq id q) 1 0 ≡ (let k : ℕ = 1 in k) = ap (λ b. cond b 1 0) was in
                  let came : cond (bytes_eq to q) 1 0 ≡ (let k : ℕ = 0 in k) = ap (λ b. cond b 1 0) far in
                  absurd (omega (arith, some, count, one, left, came))
              | false ↦ λ other.
                  let left : cond (bytes_eq id q) 1 0 ≡ (let k : ℕ = 0 in k) = ap (λ b. cond b 1 0) other in
                  let came : cond (bytes_eq to q) 1 0 ≡ (let k : ℕ = 0 in k) = ap (λ b. cond b 1 0) far in
                  ap is_some (moves.others q (λ same. both_ways _ other ((bytes_eq-Decides id q).1 (sym same))) (λ same. both_ways _ far ((bytes_eq-Decides to q).1 (sym same))))
                  ∙ sound.stored q (omega (arith, some, count, left, came))
            ] refl
          ] refl;
      sole = renamed_sole hs i object id to w free sound.sole;
      together = together_moved (is_at i object) to hs o.held.keys sound.together;
    }
renamed_by_sound o i object id to (Err answer) w free moves sound = sound

renamed_sound : (o : Objects) (i object : ℕ) (id to : List ℕ) → Writes o.held.handles i object id → AreSound o → Leaves AreSound (rename_outcome o i object id to)
renamed_sound o i object id to w sound =
    cond_both (is_open (without_rename o.held.handles) to) (refusal_with o ACCESS_CONFLICT) (renamed_by o i object to (change o.store (Rename id to))) (Leaves AreSound) (λ _. sound)
    (λ free. renamed_by_sound o i object id to (change o.store (Rename id to)) w free (moves_by (change o.store (Rename id to)) o.store id to (rename_there o.store id to)
    (leaves_others o.store (Rename id to))) sound)

pub rename_sound : (o : Objects) (i object : ℕ) (to : List ℕ) (h : Option Handle) → handle_at (without_rename o.held.handles) i object ≡ h → AreSound o
    → Goes AreSound (rename_resolution o i object to h)
rename_sound o i object to None here sound = tt
rename_sound o i object to (Some Transient) here sound = tt
rename_sound o i object to (Some (Persistent id flags position)) here sound =
    turn (is_long_identifier to || not (has_bit access_write_meta flags)) _ _ tt (λ may.
    (sound, renamed_sound o i object id to (writes_of o.held.handles i object id (ap (is_meta_writer id) here ∙ both _ _ ((bytes_eq-Decides id id).1 refl) (not-false _ (or_second _ _ may)))) sound))
