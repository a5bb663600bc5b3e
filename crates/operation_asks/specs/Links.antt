-- What was done, from the chain that records it.
use Rattle.std.specs.Prelude.{List, [], ◌∷◌}
use Rattle.operation_asks.specs.declared.past.Did.{Did}
use Rattle.operation_asks.specs.declared.past.Link.{Link}
use Rattle.operation_asks.specs.declared.past.Link.TheVariants.{Nothing, Then}

-- all of it, the last first
abbrev pub done_in : Link → List Did
done_in Nothing = []
done_in (Then did before) = did.value ∷ before.value
