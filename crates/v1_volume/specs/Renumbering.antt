-- The leaves of the second form that a region of the first one becomes.
use Rattle.std.specs.Prelude.{ℕ, ◌+◌, ◌-◌, ◌*◌, ◌/◌, ◌%◌, nat_lt, nat_le, Bool, ◌&&◌, List, map, replicate, if◌then◌else◌}
use Rattle.std.specs.Int.{w32, to_le_bytes}
use Rattle.std.specs.List.{range_with_len, slice_index}
use Rattle.tee_base.specs.declared.limits.TheConstants.{BLOCK_BYTES}
use Rattle.region_plan.specs.Layout.{layout}
use Rattle.region_plan.specs.Entries.{entry_at, is_used}
use Rattle.region_plan.specs.Places.{free_entry}
use Rattle.region_plan.specs.declared.entry.Entry.{Entry}
use Rattle.region_plan.specs.declared.form.Form.TheVariants.{One}
use Rattle.tee_base.specs.Words.{RegionLeaves}

-- the number that a leaf of the first form gets: those that stand where the map comes to stand go behind all others
abbrev pub new_number : ℕ → ℕ
new_number i = if nat_lt i 4 then 255 + i else i

-- the number that a leaf of the second form had
abbrev pub old_number : ℕ → ℕ
old_number i = if nat_lt i 256 then i else i - 255

-- an entry with the new number of its inode
abbrev pub with_new_number : Entry → Entry
with_new_number e = record { kind = e.kind; inode = new_number e.inode; index = e.index }

-- an entry as a number of the second form
abbrev pub number_of : Entry → ℕ
number_of e = e.kind + 4 * e.inode + 4096 * e.index

module _ (leaves : RegionLeaves) where
  -- a leaf of the second form was one of the first that is in use
  abbrev pub is_taken : ℕ → Bool
  is_taken i = nat_le 4 i && (nat_lt i 259 && is_used (layout One) leaves (old_number i))

  -- the entry of a leaf of the second form
  abbrev pub entry_after : ℕ → Entry
  entry_after i = if is_taken i then with_new_number (entry_at (layout One) leaves (old_number i)) else free_entry

  -- the byte of a leaf of the map at a place
  abbrev pub map_byte : ℕ → ℕ → ℕ
  map_byte leaf k = slice_index (to_le_bytes w32 (number_of (entry_after (256 * leaf + k / 4)))) (k % 4)

  -- a leaf of the second form: the map, then the leaves in use as they were, each under its new number, and zeros
  unfoldable pub converted_leaf : ℕ → List ℕ
  converted_leaf i =
      if nat_lt i 4 then map (λ k. map_byte i k) (range_with_len 0 BLOCK_BYTES) else
      if is_taken i then leaves (old_number i) else replicate BLOCK_BYTES 0
