use Rattle.std.proofs.Common.{◌≡◌, ◌/◌, ◌^◌, take}
use Rattle.boards.proofs.Places.{smaller}
use Rattle.boards.proofs.block_list.BlockList.digit.Given as goal

abbrev pub invariant-loop-listed : goal.invariant-loop-listed
invariant-loop-listed l = l.rest ≡ l.digits / 4 ^ smaller (take l.listed-index l.listed-items) l.block
