-- The object handles of one application, of all its instances (TEE Internal Core API 1.3, sections 5.5 and 5.7).
use Rattle.std.specs.Prelude.{ℕ, ◌≡◌, ◌≤◌, ◌==◌, nat_le, Bool, true, false, not, ◌&&◌, List, [], ◌∷◌, ◌++◌, Option, None, Some}
use Rattle.std.specs.Prelude.{if◌then◌else◌, option_map, option_to_list, find, filter, filter_map, map, count_by}
use Rattle.std.specs.List.{list_any}
use Rattle.std.specs.Option.{option_and_then}
use Rattle.std.specs.Str.{bytes_eq}
use Rattle.tee_base.specs.Numbers.{lowest_free}
use Rattle.tee_base.specs.declared.codes.Flags.{Flags}
use Rattle.tee_base.specs.declared.limits.TheConstants.{MAX_HANDLES}
use Rattle.share_rules.specs.declared.index.Share.{Share}
use Rattle.share_rules.specs.Sharing.{Gains, conflict, is_noted}
use Rattle.handle_table.specs.declared.handle.Handle.{Handle}
use Rattle.handle_table.specs.declared.handle.Handle.TheVariants.{Persistent, Transient}
use Rattle.handle_table.specs.declared.handle.Entry.{Entry}
use Rattle.handle_table.specs.declared.handle.Rename.{Rename}
use Rattle.handle_table.specs.declared.handle.Closing.{Closing}
use Rattle.handle_table.specs.declared.handle.Closing.TheVariants.{One, All as Every}
use Rattle.tee_base.specs.Words.{Identifier, InstanceNumber}

-- the handles with their instances and numbers, in the order in which they came, and the rename that is pending
pub record Table : Type 0 where
  pub handles : List Entry
  pub pending : Option Rename

-- the table of an application that has no handles
abbrev pub no_handles : Table
no_handles = record { handles = []; pending = None }

-- ---- what a handle is on

-- what a handle on a persistent object shares
abbrev pub share_of : Handle → Option Share
share_of (Persistent id flags position) = Some (record { id = id; flags = flags })
share_of Transient = None

-- what a numbered handle shares
abbrev pub entry_share : Entry → Option Share
entry_share e = share_of e.handle

-- the identifiers and flags of all handles on persistent objects
abbrev pub shares_of : List Entry → List Share
shares_of handles = filter_map entry_share handles

-- the handle is on the persistent object of this identifier
abbrev pub is_on : Identifier → Handle → Bool
is_on id (Persistent own flags position) = bytes_eq own id
is_on id Transient = false

-- the numbered handle is on the persistent object of this identifier
abbrev pub entry_is_on : Identifier → Entry → Bool
entry_is_on id e = is_on id e.handle

-- a handle of any instance is on the object
abbrev pub is_open : Table → Identifier → Bool
is_open t id = list_any (entry_is_on id) t.handles

-- a handle with these flags doesn't conflict with the handles of all instances
abbrev pub may_open : Table → Identifier → Flags → Bool
may_open t id flags = not (conflict (shares_of t.handles) id flags)

-- ---- handles by instance and number

-- the handle is of this instance
abbrev pub is_of : InstanceNumber → Entry → Bool
is_of instance e = e.instance == instance

-- the handle is of this instance and has this number
abbrev pub is_at : InstanceNumber → ℕ → Entry → Bool
is_at instance number e = (e.instance == instance) && (e.number == number)

-- the instance has as many handles as it may have
abbrev pub is_full : Table → InstanceNumber → Bool
is_full t instance = nat_le MAX_HANDLES (count_by (is_of instance) t.handles)

-- the instance has a handle of this number
abbrev pub is_there : Table → InstanceNumber → ℕ → Bool
is_there t instance number = list_any (is_at instance number) t.handles

-- the instance's handle of this number, where it has one
abbrev pub handle_at : Table → InstanceNumber → ℕ → Option Handle
handle_at t instance number = option_map (λ e. e.handle) (find (is_at instance number) t.handles)

-- what the instance's handle of this number shares, where there is such a handle on a persistent object
abbrev pub share_at : List Entry → InstanceNumber → ℕ → Option Share
share_at handles instance number = option_and_then entry_share (find (is_at instance number) handles)

-- of the handles, the only one on the object
abbrev pub is_only : List Entry → Option Share → Bool
is_only handles None = false
is_only handles (Some s) = count_by (entry_is_on s.id) handles == 1

-- the handle is on a persistent object, and no other is
abbrev pub is_alone : Table → InstanceNumber → ℕ → Bool
is_alone t instance number = is_only t.handles (share_at t.handles instance number)

-- the lowest number of the instance that is free
abbrev pub free_number : List Entry → InstanceNumber → ℕ
free_number handles instance = lowest_free (map (λ e. e.number) (filter (is_of instance) handles))

-- ---- changes

-- the table with one handle more, at the lowest free number of its instance
abbrev pub with_handle : Table → InstanceNumber → Handle → Table
with_handle t instance handle = record t { handles = t.handles ++ record { instance = instance; number = free_number t.handles instance; handle = handle } ∷ [] }

-- the first element that passes the test is changed
abbrev pub change_first : {X : Type 0} → (X → Bool) → (X → X) → List X → List X
change_first test change [] = []
change_first test change (x ∷ xs) = if test x then change x ∷ xs else x ∷ change_first test change xs

-- the handle with this data position; a transient object has none
abbrev pub with_position : ℕ → Handle → Handle
with_position to (Persistent id flags position) = Persistent id flags to
with_position to Transient = Transient

-- the numbered handle with this data position
abbrev pub entry_sought : ℕ → Entry → Entry
entry_sought to e = record e { handle = with_position to e.handle }

-- the table with this data position at the instance's handle of this number
abbrev pub sought_at : Table → InstanceNumber → ℕ → ℕ → Table
sought_at t instance number to = record t { handles = change_first (is_at instance number) (entry_sought to) t.handles }

-- handles that are closed together
abbrev pub goes : Closing → Entry → Bool
goes (One instance number) e = is_at instance number e
goes (Every instance) e = is_of instance e

-- the table without the instance's handle of this number
abbrev pub without_handle : Table → InstanceNumber → ℕ → Table
without_handle t instance number = record t { handles = filter (λ e. not (is_at instance number e)) t.handles }

-- the handles of the instance go, the others stay
abbrev pub all_closed : Table → InstanceNumber → Table
all_closed t instance = record t { handles = filter (λ e. not (is_of instance e)) t.handles }

-- the table with this rename pending
abbrev pub rename_started : Table → InstanceNumber → ℕ → List ℕ → Table
rename_started t instance number to = record t { pending = Some (record { instance = instance; number = number; to = to }) }

-- the handle on the same object under its new identifier
abbrev pub with_identifier : List ℕ → Handle → Handle
with_identifier to (Persistent id flags position) = Persistent to flags position
with_identifier to Transient = Transient

-- the numbered handle on the same object under its new identifier
abbrev pub entry_moved : List ℕ → Entry → Entry
entry_moved to e = record e { handle = with_identifier to e.handle }

-- the handles once the rename took
abbrev pub after_rename : Rename → List Entry → List Entry
after_rename r handles = change_first (is_at r.instance r.number) (entry_moved r.to) handles

-- the handles after a pending rename took or didn't
abbrev pub ended_by : Option Rename → List Entry → Bool → List Entry
ended_by None handles took = handles
ended_by (Some r) handles took = if took then after_rename r handles else handles

-- the table once the pending rename took or didn't: no rename is pending
abbrev pub rename_ended : Table → Bool → Table
rename_ended t took = record { handles = ended_by t.pending t.handles took; pending = None }

-- ---- what is noted of the handles

-- what the handle will share once the rename took
abbrev pub pending_share : Option Rename → List Entry → Option Share
pending_share None handles = None
pending_share (Some r) handles = option_map (λ s. record { id = r.to; flags = s.flags }) (share_at handles r.instance r.number)

-- what all handles share, and what the rename will
abbrev pub all_shares : Table → List Share
all_shares t = shares_of t.handles ++ option_to_list (pending_share t.pending t.handles)

-- the same shares, each as often, in any order
abbrev pub HoldsFor : List Share → List Share → Type 0
HoldsFor shares wanted = (test : Share → Bool) → count_by test shares ≡ count_by test wanted

-- what the handle shares is noted
abbrev pub is_held : List Share → Handle → Bool
is_held shares (Persistent id flags position) = is_noted shares id flags
is_held shares Transient = true

-- what the handle shares is noted once less
abbrev pub Forgets : List Share → List Share → Handle → Type 0
Forgets old new (Persistent id flags position) = Gains new (record { id = id; flags = flags }) old
Forgets old new Transient = new ≡ old

-- what each table keeps: at most sixteen handles of an instance, and exactly their shares are noted
pub record IsTable (shares : List Share) (t : Table) : Type 0 where
  pub few : (instance : InstanceNumber) → count_by (is_of instance) t.handles ≤ MAX_HANDLES
  pub noted : HoldsFor shares (all_shares t)
