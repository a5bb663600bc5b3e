-- What holds of an application's handles between two events.
use Rattle.std.specs.Prelude.{Bool, true, nat_le, List, None, length}
use Rattle.tee_base.specs.declared.limits.TheConstants.{MAX_IDENTIFIER_BYTES}
use Rattle.handle_table.specs.declared.handle.Entry.{Entry}
use Rattle.handle_table.specs.declared.handle.Handle.{Handle}
use Rattle.handle_table.specs.declared.handle.Handle.TheVariants.{Persistent, Transient}
use Rattle.handle_table.specs.Handles.{Table}
use Rattle.store_api.specs.Limits.{IsIdentifier}

-- the handles as a table in which no rename is pending: between two events none ever is
abbrev pub without_rename : List Entry → Table
without_rename handles = record { handles = handles; pending = None }

-- the identifier, where there is one, has at most 64 bytes
abbrev pub HasIdentifier : Handle → Type 0
HasIdentifier (Persistent id flags position) = IsIdentifier id
HasIdentifier Transient = Unit {0}

-- the same as a test
abbrev pub has_identifier : Handle → Bool
has_identifier (Persistent id flags position) = nat_le (length id) MAX_IDENTIFIER_BYTES
has_identifier Transient = true

-- the same of an entry's handle
abbrev pub entry_has_identifier : Entry → Bool
entry_has_identifier e = has_identifier e.handle
