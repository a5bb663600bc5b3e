use Rattle.tee_base.proofs.LowestFree.{lowest_free-free, lowest_free-least, lowest_free-positive, lowest_free-near}
use Rattle.tee_base.proofs.numbers.lowest_free_is_least.Goals as goal

pub returns : goal.returns
returns g c = record { free = lowest_free-free g.taken; least = lowest_free-least g.taken; positive = lowest_free-positive g.taken; near = lowest_free-near g.taken }
