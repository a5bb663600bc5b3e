-- Handles on one persistent object, and when they conflict (TEE Internal Core API 1.3, section 5.7.3).
use Rattle.std.specs.Prelude.{ℕ, ◌≡◌, ◌+◌, ◌==◌, nat_lt, Bool, true, not, ◌&&◌, ◌||◌, List, ◌∷◌, if◌then◌else◌, map, filter, length, count_by, bit_and}
use Rattle.std.specs.List.{list_any, list_all}
use Rattle.std.specs.Str.{bytes_eq}
use Rattle.tee_base.specs.declared.codes.Flags.{Flags}
use Rattle.share_rules.specs.declared.index.Share.{Share}
use Rattle.share_rules.specs.declared.uses.Uses.{Uses}
use Rattle.tee_base.specs.Words.{Identifier}

-- the bit of a flag is set
abbrev pub has : ℕ → Flags → Bool
has bit flags = not (bit_and flags.0 bit == 0)

-- the flag of reading
abbrev pub access_read : ℕ
access_read = 1

-- the flag of writing
abbrev pub access_write : ℕ
access_write = 2

-- the flag of renaming and deleting
abbrev pub access_write_meta : ℕ
access_write_meta = 4

-- the flag of sharing the object with handles that read
abbrev pub share_read : ℕ
share_read = 16

-- the flag of sharing the object with handles that write
abbrev pub share_write : ℕ
share_write = 32

-- what handles on one object do, and what all of them share
abbrev pub uses_of : List Flags → Uses
uses_of handles = record {
  several = nat_lt 1 (length handles);
  writes_meta = list_any (has access_write_meta) handles;
  reads = list_any (has access_read) handles;
  writes = list_any (has access_write) handles;
  share_read = list_all (has share_read) handles;
  share_write = list_all (has share_write) handles;
}

-- the same with one handle more
abbrev pub with_handle : Uses → Flags → Uses
with_handle u flags = record {
  several = true;
  writes_meta = u.writes_meta || has access_write_meta flags;
  reads = u.reads || has access_read flags;
  writes = u.writes || has access_write flags;
  share_read = u.share_read && has share_read flags;
  share_write = u.share_write && has share_write flags;
}

-- there are several, and one writes meta, or one reads and not all share reading, or one writes and not all share writing
abbrev pub conflicts : Uses → Bool
conflicts u = u.several && (u.writes_meta || ((u.reads && not u.share_read) || (u.writes && not u.share_write)))

-- the handle is on the object of this identifier
abbrev pub is_on : Identifier → Share → Bool
is_on id s = bytes_eq s.id id

-- the flags of the handles that are noted on the object
abbrev pub flags_on : List Share → Identifier → List Flags
flags_on shares id = map (λ s. s.flags) (filter (is_on id) shares)

-- a new handle with these flags conflicts with those on the object, or these do so themselves
abbrev pub conflict : List Share → Identifier → Flags → Bool
conflict shares id flags = conflicts (uses_of (flags ∷ flags_on shares id))

-- it is a handle on this object with these flags
abbrev pub is_share : Identifier → Flags → Share → Bool
is_share id flags s = is_on id s && (s.flags.0 == flags.0)

-- such a handle is noted
abbrev pub is_noted : List Share → Identifier → Flags → Bool
is_noted shares id flags = list_any (is_share id flags) shares

-- the new shares are the old ones and one more: each test passes on as many. What order they are in makes no difference
abbrev pub Gains : List Share → Share → List Share → Type 0
Gains old share new = (test : Share → Bool) → count_by test new ≡ count_by test old + (if test share then 1 else 0)
