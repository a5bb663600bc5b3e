-- The inodes of a region in the order of their identifiers.
use Rattle.std.specs.Prelude.{ℕ, ◌≡◌, ◌+◌, ◌-◌, ◌<◌, ◌≤◌, ◌==◌, nat_lt, nat_le, ◌&&◌, if◌then◌else◌, true, false, List, [], map, Option, length, slice_index_or}
use Rattle.std.specs.declared.cmp.Ordering.TheVariants.{Less}
use Rattle.std.specs.Ordering.{nat_cmp}
use Rattle.std.specs.Cmp.Lexicographic.{slice_cmp}
use Rattle.store_api.specs.Stores.{is_after}
use Rattle.region_plan.specs.declared.inode.Inode.{Inode}
use Rattle.tee_base.specs.Words.{Identifier}

-- the identifier of the inode at a place of a list
abbrev pub id_at : List Inode → ℕ → List ℕ
id_at inodes place = slice_index_or (map (λ inode. inode.id) inodes) place []

-- the leaf of the inode at a place of a list
abbrev pub leaf_at : List Inode → ℕ → ℕ
leaf_at inodes place = slice_index_or (map (λ inode. inode.number) inodes) place 0

-- the place at a number of an order
abbrev pub place_at : List ℕ → ℕ → ℕ
place_at order n = slice_index_or order n 0

-- the identifier at a number of an order
abbrev pub ordered_id : List Inode → List ℕ → ℕ → List ℕ
ordered_id inodes order n = id_at inodes (place_at order n)

-- an identifier is less than another one, byte by byte
abbrev pub IsLess : Identifier → List ℕ → Type 0
IsLess id other = slice_cmp nat_cmp id other ≡ Less

-- an order has the place of each inode, and no other, and identifiers ascend along it
pub record IsOrder (inodes : List Inode) (order : List ℕ) : Type 0 where
  pub inside : (n : ℕ) → n < length order → place_at order n < length inodes
  pub each : (place : ℕ) → place < length inodes → (n : ℕ) × (n < length order) × (place_at order n ≡ place)
  pub ascending : (m n : ℕ) → m < n → n < length order → IsLess (ordered_id inodes order m) (ordered_id inodes order n)

-- an identifier stands at a number of an order
pub record StandsAt (inodes : List Inode) (order id : List ℕ) (n : ℕ) : Type 0 where
  pub inside : n < length order
  pub is : ordered_id inodes order n ≡ id

-- an identifier that no inode has would stand at a number of an order
pub record WouldStandAt (inodes : List Inode) (order id : List ℕ) (n : ℕ) : Type 0 where
  pub inside : n ≤ length order
  pub before : (m : ℕ) → m < n → IsLess (ordered_id inodes order m) id
  pub behind : (m : ℕ) → n ≤ m → m < length order → IsLess id (ordered_id inodes order m)

-- the identifiers greater than the last one begin at a number of an order
pub record IsNext (inodes : List Inode) (order : List ℕ) (last : Option (List ℕ)) (n : ℕ) : Type 0 where
  pub before : (m : ℕ) → m < n → m < length order → is_after last (ordered_id inodes order m) ≡ false
  pub behind : (m : ℕ) → n ≤ m → m < length order → is_after last (ordered_id inodes order m) ≡ true

-- the place of an inode where the last one is moved in at another place
abbrev pub place_in : ℕ → ℕ → ℕ → ℕ
place_in last to place = if place == last then to else if nat_le to place && nat_lt place last then place + 1 else place

-- the place of an inode where one is moved out, to be the last
abbrev pub place_out : ℕ → ℕ → ℕ → ℕ
place_out from last place = if place == from then last else if nat_lt from place && nat_le place last then place - 1 else place
