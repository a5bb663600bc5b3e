-- What comes of an ask: one definition for each family of asks, in it one for each ask, with its misuse first, then its refusals
-- in their order, then its answer (TEE Internal Core API 1.3, chapter 5). Here are the asks about handles on objects.
pub use Rattle.object_asks.specs.Resolutions.{Outcome, Answered, Returned, Panicked, Resolution, Settled, ComesToStore, refusal_with, success, comes_to_store, outcome_in}
pub use Rattle.object_asks.specs.Resolutions.{resolution_in, Objects, with_held, over_store, without_store, Serving, Serves, Fails, Damaged, came_of, is_long_identifier}
pub use Rattle.object_asks.specs.Resolutions.{is_too_much, private_storage, has_unknown_bits, overwrites, kept_flags, code_of}
use Rattle.std.specs.Prelude.{ℕ, ◌+◌, ◌*◌, ◌==◌, ℤ, pos, negsuc, ◌+ℤ◌, min, nat_lt, Bool, true, false, not, ◌||◌, List, [], length, Option, None, Some, Result, Ok, Err, if◌then◌else◌}
use Rattle.tee_base.specs.declared.codes.Flags.{Flags}
use Rattle.tee_base.specs.declared.limits.TheConstants.{MAX_POSITION}
use Rattle.app_api.specs.declared.ask.Ask.{Ask}
use Rattle.app_api.specs.declared.ask.Ask.TheVariants as asked
use Rattle.app_api.specs.declared.ask.Answer.TheVariants as answers
use Rattle.share_rules.specs.Sharing.{has as has_bit, access_read, access_write, access_write_meta}
use Rattle.store_api.specs.declared.answer.StoreAnswer.{StoreAnswer}
use Rattle.store_api.specs.declared.change.Change.{Change}
use Rattle.store_api.specs.declared.change.Change.TheVariants.{Put, Delete, Rename, Write, Truncate}
use Rattle.store_api.specs.declared.object.Facts.{Facts}
use Rattle.store_api.specs.Stores.{Store, change, found, read_at}
use Rattle.transient_obj.specs.Keys.{Key}
use Rattle.transient_obj.specs.declared.object_key.ObjectKey.{ObjectKey}
use Rattle.handle_table.specs.declared.handle.Handle.{Handle}
use Rattle.handle_table.specs.declared.handle.Handle.TheVariants.{Persistent, Transient}
use Rattle.handle_table.specs.Handles.{free_number, handle_at, is_full, is_open, is_there, may_open}
use Rattle.object_asks.specs.declared.source.KeySource.{KeySource}
use Rattle.tee_base.specs.declared.codes.TheConstants.Code.{ITEM_NOT_FOUND, ACCESS_CONFLICT, BUSY, OVERFLOW}
use Rattle.object_asks.specs.Handles.{without_rename}
use Rattle.object_asks.specs.Held.{handle_added, handle_closed, handle_renamed, handle_sought, key_at, secret_bits, transient_at, walk_at}
use Rattle.object_asks.specs.Keys.{copy_resolution, new_key, populate_on, reset_key, restrict_on, secret_resolution}
use Rattle.object_asks.specs.Lists.{free_of, new_list, next_resolution, reset_on, start_resolution}
use Rattle.object_asks.specs.Sources.{attr_source, is_no_key, key_given}
use Rattle.tee_base.specs.Words.{HandleNumber, Identifier, InstanceNumber}

-- the five asks that change the store
abbrev pub changes_store : Ask → Bool
changes_store (asked.ObjCreate storage id flags attr content) = true
changes_store (asked.ObjDelete object) = true
changes_store (asked.ObjRename object id) = true
changes_store (asked.ObjWrite object bytes) = true
changes_store (asked.ObjTruncate object n) = true
changes_store ask = false

-- an ask whose bytes are handed on to the store
abbrev pub hands_on : Ask → Bool
hands_on (asked.ObjCreate storage id flags attr content) = true
hands_on (asked.ObjRename object id) = true
hands_on (asked.ObjWrite object bytes) = true
hands_on ask = false

-- an ask that may need the store
abbrev pub may_need_store : Ask → Bool
may_need_store (asked.ObjOpen storage id flags) = true
may_need_store (asked.ObjCreate storage id flags attr content) = true
may_need_store (asked.ObjDelete object) = true
may_need_store (asked.ObjRename object id) = true
may_need_store (asked.ObjInfo object) = true
may_need_store (asked.ObjRead object count) = true
may_need_store (asked.ObjWrite object bytes) = true
may_need_store (asked.ObjTruncate object n) = true
may_need_store (asked.ObjSeek object offset whence) = true
may_need_store (asked.EnumStart list storage) = true
may_need_store (asked.EnumNext list) = true
may_need_store (asked.KeySecret object room) = true
may_need_store (asked.KeyCopy to from) = true
may_need_store (asked.OpSetKey op object) = true
may_need_store ask = false

-- ---- the asks

-- a new handle at the object's first byte, under the lowest free number of the instance
abbrev pub with_new_handle : Objects → InstanceNumber → Identifier → Flags → Outcome Objects
with_new_handle o i id flags = Answered (with_held o (handle_added o.held i id flags)) (answers.Number (free_number o.held.handles i))

-- ObjOpen: there is such an object, and its handles, of whatever instance, leave room for one with these flags
abbrev pub opened_by : Objects → InstanceNumber → Identifier → Flags → Result Facts StoreAnswer → Outcome Objects
opened_by o i id flags (Err answer) = refusal_with o (code_of answer)
opened_by o i id flags (Ok facts) =
    if may_open (without_rename o.held.handles) id flags then with_new_handle o i id flags else refusal_with o ACCESS_CONFLICT

-- how ObjOpen goes: too long an identifier and unknown flags are misuse
abbrev pub open_resolution : Objects → InstanceNumber → ℕ → Identifier → ℕ → Resolution Objects
open_resolution o i storage id flags =
    if is_long_identifier id || has_unknown_bits flags then Settled Panicked
    else if not (storage == private_storage) then Settled (refusal_with o ITEM_NOT_FOUND)
    else if is_full (without_rename o.held.handles) i then Settled (refusal_with o BUSY)
    else ComesToStore o (opened_by o i id (kept_flags flags) (found o.store id))

-- a new object with what a key object gives
abbrev pub put_of : Identifier → ObjectKey → List ℕ → Bool → Change
put_of id key content overwrite = Put id key.kind key.usage key.secret content overwrite

-- ObjCreate: no handle, of whatever instance, is open on an object of that identifier, and there is none or OVERWRITE is set
abbrev pub created_by : Objects → InstanceNumber → Identifier → Flags → Result Store StoreAnswer → Outcome Objects
created_by o i id flags (Err answer) = refusal_with o (code_of answer)
created_by o i id flags (Ok store) = with_new_handle (over_store o store) i id flags

-- ObjCreate with this key object: no handle is open on the identifier
abbrev pub create_outcome : Objects → InstanceNumber → Identifier → ℕ → List ℕ → ObjectKey → Outcome Objects
create_outcome o i id flags content key =
    if is_open (without_rename o.held.handles) id then refusal_with o ACCESS_CONFLICT
    else created_by o i id (kept_flags flags) (change o.store (put_of id key content (overwrites flags)))

-- ObjCreate with the key object that its attributes gave, or with the refusal that they gave
abbrev pub created_with : Objects → InstanceNumber → Identifier → ℕ → List ℕ → Result ObjectKey StoreAnswer → Outcome Objects
created_with o i id flags content (Err answer) = refusal_with o (code_of answer)
created_with o i id flags content (Ok key) = create_outcome o i id flags content key

-- how ObjCreate goes with attributes of this source: too long a content and attributes without a key are misuse
abbrev pub create_by : Objects → InstanceNumber → ℕ → Identifier → ℕ → List ℕ → KeySource → Resolution Objects
create_by o i storage id flags content source =
    if is_long_identifier id || is_too_much (length content) || has_unknown_bits flags || is_no_key source then Settled Panicked
    else if not (storage == private_storage) then Settled (refusal_with o ITEM_NOT_FOUND)
    else if is_full (without_rename o.held.handles) i then Settled (refusal_with o BUSY)
    else ComesToStore o (created_with o i id flags content (key_given o.store source))

-- how ObjCreate goes, with the attributes of the instance's object of this number
abbrev pub create_resolution : Objects → InstanceNumber → ℕ → Identifier → ℕ → ℕ → List ℕ → Resolution Objects
create_resolution o i storage id flags attr content = create_by o i storage id flags content (attr_source o.held i attr)

-- ObjClose: of either sort of handle
abbrev pub close_resolution : Objects → InstanceNumber → HandleNumber → Resolution Objects
close_resolution o i object =
    if object == 0 then Settled (success o)
    else if not (is_there (without_rename o.held.handles) i object) then Settled Panicked
    else Settled (success (with_held o (handle_closed o.held i object)))

-- ObjDelete: the object and the handle go; the handle in the refused case too
abbrev pub deleted_by : Objects → Result Store StoreAnswer → Outcome Objects
deleted_by o (Err answer) = refusal_with o (code_of answer)
deleted_by o (Ok store) = success (over_store o store)

-- how ObjDelete goes on this handle: it is misuse without ACCESS_WRITE_META
abbrev pub delete_on : Objects → InstanceNumber → HandleNumber → Option Handle → Resolution Objects
delete_on o i object None = Settled Panicked
delete_on o i object (Some Transient) = Settled Panicked
delete_on o i object (Some (Persistent id flags position)) =
    if not (has_bit access_write_meta flags) then Settled Panicked
    else let left = with_held o (handle_closed o.held i object) in ComesToStore left (deleted_by left (change o.store (Delete id)))

-- how ObjDelete goes: number 0 is no handle, and nothing is done
abbrev pub delete_resolution : Objects → InstanceNumber → HandleNumber → Resolution Objects
delete_resolution o i object =
    if object == 0 then Settled (success o)
    else delete_on o i object (handle_at (without_rename o.held.handles) i object)

-- ObjRename: no object has that identifier, and none is open under it; its own is one that has it
abbrev pub renamed_by : Objects → InstanceNumber → HandleNumber → List ℕ → Result Store StoreAnswer → Outcome Objects
renamed_by o i object to (Err answer) = refusal_with o (code_of answer)
renamed_by o i object to (Ok store) = success (record { store = store; held = handle_renamed o.held i object to })

-- ObjRename: no handle is open on the new identifier
abbrev pub rename_outcome : Objects → InstanceNumber → HandleNumber → Identifier → List ℕ → Outcome Objects
rename_outcome o i object id to =
    if is_open (without_rename o.held.handles) to then refusal_with o ACCESS_CONFLICT
    else renamed_by o i object to (change o.store (Rename id to))

-- how ObjRename goes on this handle: it is misuse without ACCESS_WRITE_META
abbrev pub rename_resolution : Objects → InstanceNumber → HandleNumber → List ℕ → Option Handle → Resolution Objects
rename_resolution o i object to None = Settled Panicked
rename_resolution o i object to (Some Transient) = Settled Panicked
rename_resolution o i object to (Some (Persistent id flags position)) =
    if is_long_identifier to || not (has_bit access_write_meta flags) then Settled Panicked
    else ComesToStore o (rename_outcome o i object id to)

-- ObjInfo: of a key in memory what it is, of a persistent object what the store has of it and where its handle stands
abbrev pub key_info : Objects → Option Key → Outcome Objects
key_info o None = Panicked
key_info o (Some key) = Answered o (answers.Object key.kind (secret_bits key.secret) key.max_bits key.usage 0 0 0)

-- what ObjInfo answers of a persistent object
abbrev pub told_of_object : Objects → Flags → ℕ → Result Facts StoreAnswer → Outcome Objects
told_of_object o flags position (Err answer) = refusal_with o (code_of answer)
told_of_object o flags position (Ok facts) =
    Answered o (answers.Object facts.kind (8 * facts.secret) (8 * facts.secret) facts.usage facts.length position flags.0)

-- how ObjInfo goes on this handle
abbrev pub info_resolution : Objects → InstanceNumber → HandleNumber → Option Handle → Resolution Objects
info_resolution o i object None = Settled Panicked
info_resolution o i object (Some Transient) = Settled (key_info o (key_at o.held i object))
info_resolution o i object (Some (Persistent id flags position)) = ComesToStore o (told_of_object o flags position (found o.store id))

-- the handle goes on from here; a position stays within 32 bits, and no object reaches so far
abbrev pub moved_to : Objects → InstanceNumber → HandleNumber → ℕ → Objects
moved_to o i object position = with_held o (handle_sought o.held i object (min position MAX_POSITION))

-- ObjRead: the bytes from the position on, and the handle stands behind them
abbrev pub read_by : Objects → InstanceNumber → HandleNumber → ℕ → Result (List ℕ) StoreAnswer → Outcome Objects
read_by o i object position (Err answer) = refusal_with o (code_of answer)
read_by o i object position (Ok bytes) = Answered (moved_to o i object (position + length bytes)) (answers.Content bytes)

-- how ObjRead goes on this handle: it is misuse without ACCESS_READ, and a read of no bytes doesn't come to the store
abbrev pub read_resolution : Objects → InstanceNumber → HandleNumber → ℕ → Option Handle → Resolution Objects
read_resolution o i object count None = Settled Panicked
read_resolution o i object count (Some Transient) = Settled Panicked
read_resolution o i object count (Some (Persistent id flags position)) =
    if is_too_much count || not (has_bit access_read flags) then Settled Panicked
    else if count == 0 then Settled (Answered o (answers.Content []))
    else ComesToStore o (read_by o i object position (read_at o.store id position count))

-- ObjWrite: the bytes stand at the position, and the handle behind them
abbrev pub written_by : Objects → InstanceNumber → HandleNumber → ℕ → Result Store StoreAnswer → Outcome Objects
written_by o i object to (Err answer) = refusal_with o (code_of answer)
written_by o i object to (Ok store) = success (moved_to (over_store o store) i object to)

-- how ObjWrite goes on this handle: it is misuse without ACCESS_WRITE, and a write of no bytes doesn't come to the store
abbrev pub write_resolution : Objects → InstanceNumber → HandleNumber → List ℕ → Option Handle → Resolution Objects
write_resolution o i object bytes None = Settled Panicked
write_resolution o i object bytes (Some Transient) = Settled Panicked
write_resolution o i object bytes (Some (Persistent id flags position)) =
    if is_too_much (length bytes) || not (has_bit access_write flags) then Settled Panicked
    else if length bytes == 0 then Settled (success o)
    else if nat_lt MAX_POSITION (position + length bytes) then Settled (refusal_with o OVERFLOW)
    else ComesToStore o (written_by o i object (position + length bytes) (change o.store (Write id position bytes)))

-- ObjTruncate: extended by zeros; positions stay
abbrev pub truncated_by : Objects → Result Store StoreAnswer → Outcome Objects
truncated_by o (Err answer) = refusal_with o (code_of answer)
truncated_by o (Ok store) = success (over_store o store)

-- how ObjTruncate goes on this handle: it is misuse without ACCESS_WRITE
abbrev pub truncate_resolution : Objects → InstanceNumber → HandleNumber → ℕ → Option Handle → Resolution Objects
truncate_resolution o i object n None = Settled Panicked
truncate_resolution o i object n (Some Transient) = Settled Panicked
truncate_resolution o i object n (Some (Persistent id flags position)) =
    if not (has_bit access_write flags) then Settled Panicked
    else ComesToStore o (truncated_by o (change o.store (Truncate id n)))

-- ObjSeek: from the start, the position or the end; below 0 it is 0
abbrev pub position_from : ℤ → Option ℕ
position_from (pos n) = if nat_lt MAX_POSITION n then None else Some n
position_from (negsuc n) = Some 0

-- the handle stands where it landed; beyond the greatest position it stays, and the ask is refused
abbrev pub landed_on : Objects → InstanceNumber → HandleNumber → Option ℕ → Outcome Objects
landed_on o i object None = refusal_with o OVERFLOW
landed_on o i object (Some to) = success (moved_to o i object to)

-- the handle stands at this offset from a base
abbrev pub moved_by : Objects → InstanceNumber → HandleNumber → ℕ → ℤ → Outcome Objects
moved_by o i object base offset = landed_on o i object (position_from (pos base +ℤ offset))

-- the handle stands at this offset from the object's end, where the store has the object
abbrev pub moved_from_end : Objects → InstanceNumber → HandleNumber → ℤ → Result Facts StoreAnswer → Outcome Objects
moved_from_end o i object offset (Err answer) = refusal_with o (code_of answer)
moved_from_end o i object offset (Ok facts) = moved_by o i object facts.length offset

-- how ObjSeek goes on this handle: another base than start, position and end is misuse
abbrev pub seek_resolution : Objects → InstanceNumber → HandleNumber → ℤ → ℕ → Option Handle → Resolution Objects
seek_resolution o i object offset whence None = Settled Panicked
seek_resolution o i object offset whence (Some Transient) = Settled Panicked
seek_resolution o i object offset whence (Some (Persistent id flags position)) =
    if whence == 0 then Settled (moved_by o i object 0 offset)
    else if whence == 1 then Settled (moved_by o i object position offset)
    else if whence == 2 then ComesToStore o (moved_from_end o i object offset (found o.store id))
    else Settled Panicked

-- the asks about objects, enumerators and keys, but KeyGenerate, which rests on random bytes; an ask of another family doesn't come here
unfoldable pub object_resolution : Objects → InstanceNumber → Ask → Resolution Objects
object_resolution o i (asked.ObjOpen storage id flags) = open_resolution o i storage id flags
object_resolution o i (asked.ObjCreate storage id flags attr content) = create_resolution o i storage id flags attr content
object_resolution o i (asked.ObjClose object) = close_resolution o i object
object_resolution o i (asked.ObjDelete object) = delete_resolution o i object
object_resolution o i (asked.ObjRename object to) = rename_resolution o i object to (handle_at (without_rename o.held.handles) i object)
object_resolution o i (asked.ObjInfo object) = info_resolution o i object (handle_at (without_rename o.held.handles) i object)
object_resolution o i (asked.ObjRead object count) = read_resolution o i object count (handle_at (without_rename o.held.handles) i object)
object_resolution o i (asked.ObjWrite object bytes) = write_resolution o i object bytes (handle_at (without_rename o.held.handles) i object)
object_resolution o i (asked.ObjTruncate object n) = truncate_resolution o i object n (handle_at (without_rename o.held.handles) i object)
object_resolution o i (asked.ObjSeek object offset whence) = seek_resolution o i object offset whence (handle_at (without_rename o.held.handles) i object)
object_resolution o i asked.EnumNew = without_store o (new_list o.held i)
object_resolution o i (asked.EnumFree list) = without_store o (free_of o.held i list)
object_resolution o i (asked.EnumReset list) = without_store o (reset_on o.held i list (walk_at o.held i list))
object_resolution o i (asked.EnumStart list storage) = start_resolution o i list storage (walk_at o.held i list)
object_resolution o i (asked.EnumNext list) = next_resolution o i list (walk_at o.held i list)
object_resolution o i (asked.KeyNew kind max_bits) = without_store o (new_key o.held i kind max_bits)
object_resolution o i (asked.KeyPopulate object secret) = without_store o (populate_on o.held i object secret (transient_at o.held i object))
object_resolution o i (asked.KeyReset object) = without_store o (reset_key o.held i object (transient_at o.held i object))
object_resolution o i (asked.KeySecret object room) = secret_resolution o i object room
object_resolution o i (asked.KeyCopy to from) = copy_resolution o i to from
object_resolution o i (asked.KeyRestrict object usage) = without_store o (restrict_on o.held i object usage (handle_at (without_rename o.held.handles) i object))
object_resolution o i ask = Settled Panicked
