use Rattle.std.proofs.Common.{◌≡◌, ◌∷◌, take}
use Rattle.share_rules.specs.Groups.{flags_of}
use Rattle.share_rules.specs.Sharing.{uses_of}
use Rattle.share_rules.proofs.group.Group.uses_with.Given as goal

abbrev pub invariant-loop-count : goal.invariant-loop-count
invariant-loop-count l = l.uses ≡ uses_of (l.fn.flags ∷ flags_of (take l.count-index l.count-items))
