-- The offers that were made, the last of them first.
use Rattle.std.specs.Prelude.{List, [], ◌∷◌}
use Rattle.boards.specs.Offer.{Offer}
use Rattle.boards.specs.declared.offer_log.Link.{Link}
use Rattle.boards.specs.declared.offer_log.Link.TheVariants.{Start, Then}

-- the offers in a chain, the last of them first
abbrev pub offers : Link → List Offer
offers Start = []
offers (Then block bytes before) = record { block = block.value; bytes = bytes.value } ∷ before.value
