-- The disks that were, the last of them first.
use Rattle.std.specs.Prelude.{List, [], ◌∷◌}
use Rattle.boards.specs.declared.disk.Disk.{Disk}
use Rattle.boards.specs.declared.past.Link.{Link}
use Rattle.boards.specs.declared.past.Link.TheVariants.{Start, Then}

-- the disks in a chain, the last of them first
abbrev pub disks : Link → List Disk
disks Start = []
disks (Then disk before) = disk.value ∷ before.value
