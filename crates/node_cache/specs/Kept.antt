-- Which nodes a cache keeps: a list of places, and what is kept at each.
use Rattle.std.specs.Prelude.{◌≡◌, ℕ, List, Option, Some, None, option_and_then, bytes_eq, nat_eq, if◌then◌else◌}
use Rattle.std.specs.Map.{lookup}
use Rattle.node_cache.specs.declared.cache.Kept.{Kept}

-- the node, where it is kept under this tag
abbrev pub under_tag : List ℕ → Kept → Option (List ℕ)
under_tag tag kept = if bytes_eq kept.tag tag then Some kept.node else None

-- the node that is kept at a place under a tag
unfoldable pub kept_at : List (ℕ × Kept) → ℕ → List ℕ → Option (List ℕ)
kept_at pairs place tag = option_and_then (under_tag tag) (lookup (nat_eq place) pairs)

-- no node is kept
pub record HoldsNothing (pairs : List (ℕ × Kept)) : Type 0 where
  pub nowhere : (place : ℕ) (tag : List ℕ) → kept_at pairs place tag ≡ None
