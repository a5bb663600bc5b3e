-- What asks about objects touch in memory: the object handles, the keys and the enumerators of all instances of an application.
use Rattle.std.specs.Prelude.{ℕ, ◌≡◌, ◌<◌, ◌≤◌, ◌*◌, ◌==◌, Bool, true, false, not, ◌&&◌, List, [], ◌∷◌, ◌++◌, Option, None, Some, option_map, find, filter, map, count_by, length}
use Rattle.std.specs.List.{list_all}
use Rattle.std.specs.Str.{bytes_eq}
use Rattle.tee_base.specs.declared.codes.Flags.{Flags}
use Rattle.tee_base.specs.declared.limits.TheConstants.{MAX_ENUMERATORS}
use Rattle.share_rules.specs.Sharing.{access_write_meta, has as has_bit}
use Rattle.handle_table.specs.declared.handle.Entry.{Entry}
use Rattle.handle_table.specs.declared.handle.Handle.{Handle}
use Rattle.handle_table.specs.declared.handle.Handle.TheVariants.{Persistent, Transient}
use Rattle.handle_table.specs.Handles.{Table, with_handle, all_closed, change_first, without_handle, entry_is_on, free_number, handle_at, after_rename, sought_at}
use Rattle.object_asks.specs.declared.numbered.NumberedKey.{NumberedKey as DeclaredKey}
use Rattle.object_asks.specs.declared.numbered.NumberedList.{NumberedList as DeclaredList}
use Rattle.object_asks.specs.declared.numbered.Walk.{Walk}
use Rattle.transient_obj.specs.Keys.{Key}
use Rattle.object_asks.specs.Handles.{entry_has_identifier, without_rename}
use Rattle.tee_base.specs.Words.{Identifier, InstanceNumber}

-- a key in memory with its instance and the number of its handle
abbrev pub NumberedKey : Type 0
NumberedKey = DeclaredKey

-- an enumerator with its instance and its number
abbrev pub NumberedList : Type 0
NumberedList = DeclaredList

-- the handles, the keys that those on objects in memory are on, and the enumerators
pub record Held : Type 0 where
  pub handles : List Entry
  pub keys : List NumberedKey
  pub lists : List NumberedList

-- no handles, no keys and no enumerators
abbrev pub nothing_held : Held
nothing_held = record { handles = []; keys = []; lists = [] }

-- ---- keys and enumerators by instance and number

-- the key is the instance's
abbrev pub is_key_of : InstanceNumber → NumberedKey → Bool
is_key_of instance k = k.instance == instance

-- the key is the instance's, under this number
abbrev pub is_key_at : InstanceNumber → ℕ → NumberedKey → Bool
is_key_at instance number k = (k.instance == instance) && (k.number == number)

-- the enumerator is the instance's
abbrev pub is_list_of : InstanceNumber → NumberedList → Bool
is_list_of instance l = l.instance == instance

-- the enumerator is the instance's, under this number
abbrev pub is_list_at : InstanceNumber → ℕ → NumberedList → Bool
is_list_at instance number l = (l.instance == instance) && (l.number == number)

-- the key that the instance has under this number, if there is one
abbrev pub key_at : Held → InstanceNumber → ℕ → Option Key
key_at h instance number = option_map (λ k. k.key) (find (is_key_at instance number) h.keys)

-- how far the instance's enumerator of this number has come, if there is one
abbrev pub walk_at : Held → InstanceNumber → ℕ → Option Walk
walk_at h instance number = option_map (λ l. l.walk) (find (is_list_at instance number) h.lists)

-- how long a secret is in bits, none being no bits
abbrev pub secret_bits : Option (List ℕ) → ℕ
secret_bits None = 0
secret_bits (Some secret) = 8 * length secret

-- the key that the instance's handle of this number is on, if it is on one
abbrev pub transient_on : Held → InstanceNumber → ℕ → Option Handle → Option Key
transient_on h instance number None = None
transient_on h instance number (Some (Persistent id flags position)) = None
transient_on h instance number (Some Transient) = key_at h instance number

-- the key that the instance's handle of this number is on, if there is such a handle and it is on a key
abbrev pub transient_at : Held → InstanceNumber → ℕ → Option Key
transient_at h instance number = transient_on h instance number (handle_at (without_rename h.handles) instance number)

-- ---- changes of keys

-- a new key, with a handle on it under the lowest free number of the instance
abbrev pub key_added : Held → InstanceNumber → Key → Held
key_added h instance key = record h {
  handles = (with_handle (without_rename h.handles) instance Transient).handles;
  keys = h.keys ++ record { instance = instance; number = free_number h.handles instance; key = key } ∷ [];
}

-- the same place with another key
abbrev pub with_key : Key → NumberedKey → NumberedKey
with_key key k = record k { key = key }

-- the instance's key of this number is this one now
abbrev pub key_set : Held → InstanceNumber → ℕ → Key → Held
key_set h instance number key = record h { keys = change_first (is_key_at instance number) (with_key key) h.keys }

-- ---- changes of handles

-- a new handle on a persistent object, at its first byte, under the lowest free number of the instance
abbrev pub handle_added : Held → InstanceNumber → Identifier → Flags → Held
handle_added h instance id flags = record h { handles = (with_handle (without_rename h.handles) instance (Persistent id flags 0)).handles }

-- the handle goes on from this position
abbrev pub handle_sought : Held → InstanceNumber → ℕ → ℕ → Held
handle_sought h instance number to = record h { handles = (sought_at (without_rename h.handles) instance number to).handles }

-- the handle is on this identifier now
abbrev pub handle_renamed : Held → InstanceNumber → ℕ → List ℕ → Held
handle_renamed h instance number to = record h { handles = after_rename (record { instance = instance; number = number; to = to }) h.handles }

-- the handle goes, and with it the object in memory that it is on
abbrev pub handle_closed : Held → InstanceNumber → ℕ → Held
handle_closed h instance number = record h {
  handles = (without_handle (without_rename h.handles) instance number).handles;
  keys = filter (λ k. not (is_key_at instance number k)) h.keys;
}

-- the instance's handles, keys and enumerators go; all others stay
abbrev pub instance_closed : Held → InstanceNumber → Held
instance_closed h instance = record {
  handles = (all_closed (without_rename h.handles) instance).handles;
  keys = filter (λ k. not (is_key_of instance k)) h.keys;
  lists = filter (λ l. not (is_list_of instance l)) h.lists;
}

-- ---- what holds between two events

-- the handle is on an object in memory
abbrev pub is_transient : Handle → Bool
is_transient (Persistent id flags position) = false
is_transient Transient = true

-- the entry's handle is on an object in memory
abbrev pub is_in_memory : Entry → Bool
is_in_memory e = is_transient e.handle

-- the place of a handle: its instance and its number
abbrev pub place_of : Entry → ℕ × ℕ
place_of e = (e.instance, e.number)

-- the instance and the number of a key
abbrev pub key_place : NumberedKey → ℕ × ℕ
key_place k = (k.instance, k.number)

-- the places of the handles on objects in memory, in order
abbrev pub memory_places : List Entry → List (ℕ × ℕ)
memory_places handles = map place_of (filter is_in_memory handles)

-- the places of the keys, in order
abbrev pub key_places : List NumberedKey → List (ℕ × ℕ)
key_places keys = map key_place keys

-- the handle is on the object, and its flags have ACCESS_WRITE_META
abbrev pub writes_meta_on : Identifier → Handle → Bool
writes_meta_on id (Persistent own flags position) = bytes_eq own id && has_bit access_write_meta flags
writes_meta_on id Transient = false

-- the same of a handle that may be there
abbrev pub is_meta_writer : Identifier → Option Handle → Bool
is_meta_writer id None = false
is_meta_writer id (Some handle) = writes_meta_on id handle

-- the instance's handle of this number is on the object, and has ACCESS_WRITE_META
abbrev pub may_rename : Held → InstanceNumber → ℕ → Identifier → Bool
may_rename h instance number id = is_meta_writer id (handle_at (without_rename h.handles) instance number)

-- how many handles are on the object
abbrev pub ones_on : Identifier → List Entry → ℕ
ones_on id handles = count_by (entry_is_on id) handles

-- how many handles on the object have ACCESS_WRITE_META
abbrev pub meta_writers : Identifier → List Entry → ℕ
meta_writers id handles = count_by (λ e. writes_meta_on id e.handle) handles

-- a handle with ACCESS_WRITE_META is the only one on its identifier
abbrev pub AreSole : List Entry → Type 0
AreSole handles = (id : Identifier) → 0 < meta_writers id handles → ones_on id handles ≤ 1

-- each key has its handle and each handle on an object in memory its key, in the same order
abbrev pub BelongTogether : List Entry → List NumberedKey → Type 0
BelongTogether handles keys = key_places keys ≡ memory_places handles

-- no rename is pending, identifiers have at most 64 bytes, those who write meta are alone, keys and handles belong together, and
-- an instance has at most four enumerators
pub record IsHeld (t : Table) (keys : List NumberedKey) (lists : List NumberedList) : Type 0 where
  pub no_rename : t.pending ≡ None
  pub identifiers : list_all entry_has_identifier t.handles ≡ true
  pub sole : AreSole t.handles
  pub together : BelongTogether t.handles keys
  pub few_lists : (instance : InstanceNumber) → count_by (is_list_of instance) lists ≤ MAX_ENUMERATORS
