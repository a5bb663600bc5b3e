-- How a content becomes another one, byte by byte and leaf by leaf.
use Rattle.std.specs.Prelude.{ℕ, ◌≡◌, ◌+◌, ◌-◌, ◌*◌, ◌<◌, nat_lt, nat_le, min, max, Bool, true, false, not, ◌&&◌, ◌||◌, List, map, cond, if◌then◌else◌, length as length_of}
use Rattle.std.specs.List.{range_with_len, slice_index}
use Rattle.region_plan.specs.Regions.{data_leaves}
use Rattle.region_plan.specs.declared.edit.Edit.{Edit}

-- the byte at a place of the content, where it was this one
abbrev pub byte_after : Edit → ℕ → ℕ → ℕ
byte_after edit place old =
    if nat_le edit.length place then 0 else
    if nat_le edit.at place && nat_lt (place - edit.at) (length_of edit.bytes.now) then slice_index edit.bytes.now (place - edit.at) else
    old

-- the content after an edit of what was kept of it
unfoldable pub content_after : Edit → List ℕ → List ℕ
content_after edit old = map (λ place. byte_after edit place (slice_index old place)) (range_with_len 0 edit.length)

-- a leaf of the content that was there changes: it is cut, or written to
abbrev pub is_touched : Edit → ℕ → Bool
is_touched edit index =
    (nat_lt edit.length edit.kept && nat_lt edit.length (1024 * index + 1024))
    || nat_lt (max edit.at (1024 * index)) (min (1024 * index + 1024) (edit.at + length_of edit.bytes.now))

-- a leaf of the content was there, and doesn't change
abbrev pub is_left : Edit → ℕ → Bool
is_left edit index = nat_lt index (data_leaves edit.kept) && not (is_touched edit index)

-- a leaf of the content, at an index, before and after an edit
pub record IsEditedLeaf (edit : Edit) (index : ℕ) (old new : List ℕ) : Type 0 where
  pub left : is_left edit index ≡ true → new ≡ old
  pub changed : is_left edit index ≡ false → (k : ℕ) → k < 1024
      → slice_index new k ≡ byte_after edit (1024 * index + k) (cond (nat_lt index (data_leaves edit.kept)) (slice_index old k) 0)
