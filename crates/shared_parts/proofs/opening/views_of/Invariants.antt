use Rattle.std.proofs.Common.{◌≡◌, ◌≤◌, map, replicate}
use Rattle.std.specs.Prelude.{vec_capacity, vec_len}
use Rattle.shared_parts.proofs.opening.views_of.Given as goal

-- the views so far, with room for the others
abbrev pub invariant-loop-place : goal.invariant-loop-place
invariant-loop-place g l = record {
  values : map (λ s. s.value) l.seen.items ≡ replicate l.place l.volume;
  long : vec_len l.seen ≡ l.place;
  room : l.count ≤ vec_capacity l.seen;
}
