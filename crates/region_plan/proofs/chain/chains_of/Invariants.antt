use Rattle.region_plan.specs.Chains.{AreChains}
use Rattle.region_plan.specs.Places.{entries_in}
use Rattle.region_plan.proofs.chain.chains_of.Given as goal

-- the chains of the leaves below
abbrev pub invariant-loop-leaf : goal.invariant-loop-leaf
invariant-loop-leaf l = AreChains (entries_in l.map) l.leaf l.chains.last l.chains.next
