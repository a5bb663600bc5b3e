-- What the contracts of the board in memory see of it.
use Rattle.std.specs.Prelude.{map}
use Rattle.board.specs.Moment.{View}
use Rattle.boards.specs.Device.{order_of}
use Rattle.boards.specs.Disk.{size_of, state_of, offered_of}
use Rattle.boards.specs.Memory.{Memory}
use Rattle.boards.specs.declared.memory.MemBoard.{MemBoard}

-- what contracts of every board see of a board in memory
abbrev pub view_of : MemBoard → View
view_of b = record {
  size = size_of b.disk;
  key = b.key;
  writes = b.writes;
  ordered = map order_of b.ordered;
  fuse = b.schedule.fuse;
  state = state_of b.disk;
  past = map state_of b.past;
}

-- a board in memory as its own contracts see it
abbrev pub memory_of : MemBoard → Memory
memory_of b = record {
  view = view_of b;
  offered = offered_of b.disk;
  unsettled = b.disk.unsettled;
  calls = b.schedule.calls;
  failing = b.schedule.failing.items;
}

-- it follows the rules of the disk model at every moment
abbrev pub IsHonest : MemBoard → Type 0
IsHonest _ = Unit {0}
