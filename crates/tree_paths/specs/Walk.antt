-- A walk over all places from a root down, each node before what is under it.
use Rattle.std.specs.Prelude.{◌≡◌, ◌≤◌, ◌<◌, ℕ, zero, suc, ◌+◌, ◌-◌, ◌*◌, ◌==◌, nat_lt, if◌then◌else◌, List, [], ◌∷◌, ◌++◌, Option, Some, None}
use Rattle.tee_base.specs.declared.limits.TheConstants.{MAX_HOSTS}
use Rattle.store_api.specs.declared.answer.Mismatch.{Mismatch}
use Rattle.epoch.specs.Header.{entry_at}
use Rattle.epoch.specs.declared.header.TreeEntry.{TreeEntry}
use Rattle.tree_paths.specs.declared.places.TheConstants as now
use Rattle.tree_paths.specs.Shape.{Shape}
use Rattle.tree_paths.specs.Tree.{Look, damage_at}

-- a place that a walk comes to, with the entry that names it
pub record Visit : Type 0 where
  pub place : ℕ
  pub entry : TreeEntry

-- a place whose tag isn't the one that its entry has, and both tags
pub record Wrong : Type 0 where
  pub place : ℕ
  pub tags : Mismatch

-- how many entries of a node name places, and which
pub record Children : Type 0 where
  pub fan : ℕ → ℕ
  pub child : ℕ → ℕ → ℕ

-- they name the places of a shape whose leaves lie so far below the root
pub record AreChildren (s : Shape) (c : Children) (depth : ℕ) : Type 0 where
  -- each place below the root is named
  pub among : (p : ℕ) → 0 < p → p < s.places → (s.slot p < c.fan (s.parent p)) × (c.child (s.parent p) (s.slot p) ≡ p)
  -- what a node names is a place, as the entry that it is
  pub named : (p i : ℕ) → p < s.places → s.level p < depth → i < c.fan p
      → (0 < c.child p i) × (c.child p i < s.places) × (s.parent (c.child p i) ≡ p) × (s.slot (c.child p i) ≡ i)
  -- each node names one at least, and no more than its entries
  pub some : (p : ℕ) → 0 < c.fan p
  pub fits : (p : ℕ) → c.fan p ≤ now.FAN
  -- no place lies deeper than the leaves, and what lies as deep is one
  pub deepest : (p : ℕ) → p < s.places → s.level p ≤ depth
  pub leaf : (p : ℕ) → p < s.places → s.level p ≡ depth
      → (r l : ℕ) × (r < MAX_HOSTS) × (l < s.leaves) × (s.leaf_place r l ≡ p)

-- so many lists, one after another
abbrev pub one_by_one : ℕ → (ℕ → List Visit) → List Visit
one_by_one zero each = []
one_by_one (suc n) each = one_by_one n each ++ each n

-- what a walk comes to from one place down over so many levels, in its order: a node, and then all that its entries name, entry by
-- entry; an entry of sequence 0 is skipped
unfoldable pub visits : Children → Look → ℕ → ℕ → TreeEntry → List Visit
visits c look zero place entry =
    if entry.sequence == 0 then [] else record { place = place; entry = entry } ∷ []
visits c look (suc levels) place entry =
    if entry.sequence == 0 then [] else
    record { place = place; entry = entry }
    ∷ one_by_one (c.fan place) (λ i. visits c look levels (c.child place i) (entry_at (now.ENTRY_BYTES * i) (look place entry).text))

-- a damage, and where it is
abbrev pub wrong_at : ℕ → Option Mismatch → Option Wrong
wrong_at place (Some tags) = Some (record { place = place; tags = tags })
wrong_at place None = None

-- the first of two
abbrev pub first_of : Option Wrong → Option Wrong → Option Wrong
first_of (Some wrong) rest = Some wrong
first_of None rest = rest

-- the first place among those that a walk comes to whose tag isn't its entry's
abbrev pub first_wrong : Look → List Visit → Option Wrong
first_wrong look [] = None
first_wrong look (visit ∷ rest) =
    first_of (wrong_at visit.place (damage_at look visit.place visit.entry)) (first_wrong look rest)

-- how many places a walk over so many levels comes to at most
abbrev pub most_visits : ℕ → ℕ
most_visits zero = 1
most_visits (suc levels) = 1 + now.FAN * most_visits levels

-- the children of the shape that is written
abbrev pub children : Children
children = record {
  fan = λ p.
      if p == 0 then now.FAN else
      if nat_lt p now.FIRST_BAND then now.BANDS else now.FAN;
  child = λ p i.
      if p == 0 then now.FIRST_REGION + i else
      if nat_lt p now.FIRST_BAND then now.FIRST_BAND + now.BANDS * (p - now.FIRST_REGION) + i else
      now.FIRST_GROUP + now.FAN * (p - now.FIRST_BAND) + i;
}

-- and those of the first version's
abbrev pub first_children : Children
first_children = record {
  fan = λ p. now.FAN;
  child = λ p i. now.FAN * p + 1 + i;
}
