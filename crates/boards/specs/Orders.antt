-- The orders that were made to a board, as their contracts see them.
use Rattle.std.specs.Prelude.{List, [], ◌∷◌}
use Rattle.boards.specs.Device.{Device, Made, OfDisk, OfFiles}
use Rattle.boards.specs.declared.orders.Kind.{Kind}
use Rattle.boards.specs.declared.orders.Kind.TheVariants.{Disk, Files}
use Rattle.boards.specs.declared.orders.Link.{Link}
use Rattle.boards.specs.declared.orders.Link.TheVariants.{Start, Then}

-- what was seen of a board
abbrev pub device : Kind → Device
device (Disk disk) = OfDisk disk.value
device (Files faults orders) = OfFiles faults.value orders.value

-- the orders in a chain, the last of them first
abbrev pub made : Link → List Made
made Start = []
made (Then number before after earlier) = record { number = number.value; before = before.value; after = after.value } ∷ earlier.value
