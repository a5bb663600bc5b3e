-- What a keeper of objects or of leaves stands on.
use Rattle.std.specs.Prelude.{ℕ, List, []}
use Rattle.tee_base.specs.Moments.{Order}

-- what a keeper stands on: its place there (numbers that tell it from every other place: the name of a reference, a part of what is
-- behind it), how many orders were made to it, as far as their count goes, and those orders, the last of them first
pub record Foundation : Type 0 where
  pub place : List ℕ
  pub orders : ℕ
  pub ordered : List Order

-- memory alone, which takes no orders
abbrev pub no_foundation : Foundation
no_foundation = record { place = []; orders = 0; ordered = [] }
