use Rattle.std.proofs.Common.{◌≡◌, ◌+◌, ◌++◌, length}
use Rattle.std.specs.Prelude.{vec_capacity}
use Rattle.alone.proofs.reply.move_all.Given as goal

-- those so far are at the end of the list, in order
abbrev pub invariant-loop-place : goal.invariant-loop-place
invariant-loop-place l = record {
  all : l.into.items ++ l.items.items ≡ l.initial.into.items ++ l.initial.items.items;
  left : length l.items.items + l.place ≡ length l.initial.items.items;
  room : vec_capacity l.into ≡ vec_capacity l.initial.into;
}
