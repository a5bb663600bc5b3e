use Rattle.std.proofs.Common.{◌≡◌, ◌∙◌, ◌+◌, ℕ, refl, sym, subst, arith}
use Rattle.region_plan.specs.Chains.{AreChains}
use Rattle.region_plan.specs.Layout.{layout}
use Rattle.region_plan.specs.Places.{entries_in}
use Rattle.region_plan.specs.declared.chain.Chains.{Chains}
use Rattle.region_plan.proofs.ChainLemmas.{chains_more, chains_none, chains_stay}
use Rattle.region_plan.proofs.chain.chains_of.Goals as goal
use Rattle.region_plan.proofs.chain.chains_of.Goals.{then-is_owned, else-is_owned}

pub loop-leaf-init : goal.loop-leaf-init
loop-leaf-init c = chains_none (entries_in c.args.map.now)

pub loop-leaf-preserved : goal.loop-leaf-preserved
loop-leaf-preserved c =
    elim c.if-is_owned.branch [
      | then-is_owned w ↦ subst (λ (x : Chains). AreChains (entries_in c.args.map.now) (c.loop-leaf.leaf + 1) x.last x.next) (sym w.chains-is)
          (chains_more (entries_in c.args.map.now) c.loop-leaf.leaf (c.loop-leaf.leaf + 1) c.entry_in-entry.result.inode c.entry_in-entry.result c.loop-leaf.chains.last c.loop-leaf.chains.next _ _
          refl c.entry_in-entry.ensures (sym c.is_owned.ensures ∙ w.if-is_owned.true) refl w.add.ensures.last w.add.ensures.next c.loop-leaf.invariant)
      | else-is_owned w ↦ subst (λ (x : Chains). AreChains (entries_in c.args.map.now) (c.loop-leaf.leaf + 1) x.last x.next) (sym w.chains-is)
          (chains_stay (entries_in c.args.map.now) c.loop-leaf.leaf (c.loop-leaf.leaf + 1) c.entry_in-entry.result c.loop-leaf.chains.last c.loop-leaf.chains.next
          refl c.entry_in-entry.ensures (sym c.is_owned.ensures ∙ w.if-is_owned.false) c.loop-leaf.invariant)
    ]

pub returns : goal.returns
returns c =
    let all : c.loop-leaf.leaf ≡ (layout c.args.form).leaves = omega (arith, c.leaves-leaf-end.ensures.is, c.loop-leaf-test.false, c.loop-leaf.auto.leaf-end) in
    subst (λ (n : ℕ). AreChains (entries_in c.args.map.now) n c.loop-leaf.chains.last c.loop-leaf.chains.next) all c.loop-leaf.invariant
