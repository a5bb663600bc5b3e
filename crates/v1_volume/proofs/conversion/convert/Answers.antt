use Rattle.std.proofs.Common.{◌≡◌, ◌<◌, ◌+◌, ◌++◌, ◌∙◌, ℕ, true, [], ◌∷◌, List, inl, inr, replicate, refl, sym, ap, subst, arith}
use Rattle.std.proofs.lemmas.Bool.{cases_lt}
use Rattle.store_api.specs.Ascending.{is_above_all}
use Rattle.store_api.specs.declared.leaves.Leaf.{Leaf}
use Rattle.region_plan.specs.Plans.{with_leaves}
use Rattle.region_plan.proofs.NamedLemmas.{above_more, above_pushed, after_above, named_more, unnamed_more}
use Rattle.v1_volume.specs.Checking.{leaf_in}
use Rattle.v1_volume.specs.Renumbering.{converted_leaf}
use Rattle.v1_volume.proofs.OldRegionLemmas.{converted_past, zeros_are}
use Rattle.v1_volume.proofs.conversion.convert.Goals as goal
use Rattle.v1_volume.proofs.conversion.convert.Goals.{then-not-all_zero+in_ok-push, else-not-all_zero}

pub loop-leaf-preserved : goal.loop-leaf-preserved
loop-leaf-preserved c =
    let kept = c.loop-leaf.invariant in
    let leaves : ℕ → List ℕ = leaf_in c.as_slice-leaves.result.now in
    elim c.if-not-all_zero.branch [
      | then-not-all_zero+in_ok-push w ↦
          let last : Leaf = record { number = c.loop-leaf.leaf; bytes = c.leaf_after-bytes.result } in
          let named : c.if-not-all_zero.named ≡ c.loop-leaf.named ++ last ∷ [] = w.named-is ∙ w.in_ok-push.ensures.ok in
          record {
            above = subst (λ (l : List Leaf). is_above_all l (c.loop-leaf.leaf + 1) ≡ true) (sym named) (above_pushed c.loop-leaf.named last c.loop-leaf.leaf kept.above refl);
            done = subst (λ (l : List Leaf). (i : ℕ) → i < c.loop-leaf.leaf + 1 → with_leaves l (λ number. replicate 1024 0) i ≡ converted_leaf leaves i) (sym named)
                (named_more (λ i bytes. bytes ≡ converted_leaf leaves i)
                (λ number. replicate 1024 0) c.loop-leaf.named c.loop-leaf.leaf kept.above kept.done last refl c.leaf_after-bytes.ensures.leaf);
          }
      | else-not-all_zero w ↦
          let zero' : replicate 1024 0 ≡ converted_leaf leaves c.loop-leaf.leaf =
          sym (zeros_are c.leaf_after-bytes.result c.leaf_after-bytes.ensures.long (sym c.all_zero.ensures ∙ w.if-not-all_zero.false)) ∙ c.leaf_after-bytes.ensures.leaf in
          record {
            above = subst (λ (l : List Leaf). is_above_all l (c.loop-leaf.leaf + 1) ≡ true) (sym w.named-is) (above_more c.loop-leaf.named c.loop-leaf.leaf kept.above);
            done = subst (λ (l : List Leaf). (i : ℕ) → i < c.loop-leaf.leaf + 1 → with_leaves l (λ number. replicate 1024 0) i ≡ converted_leaf leaves i) (sym w.named-is)
                (unnamed_more (λ i bytes. bytes ≡ converted_leaf leaves i) (λ number. replicate 1024 0) c.loop-leaf.named c.loop-leaf.leaf kept.above kept.done zero');
          }
    ]

pub returns-clause-named : goal.returns-clause-named
returns-clause-named c =
    let all : c.loop-leaf.leaf ≡ 259 = omega (arith, c.loop-leaf-test.false, c.loop-leaf.auto.leaf-end) in
    subst (λ (n : ℕ). is_above_all c.loop-leaf.named n ≡ true) all c.loop-leaf.invariant.above

pub returns-clause-converted : goal.returns-clause-converted
returns-clause-converted c i =
    let all : c.loop-leaf.leaf ≡ 259 = omega (arith, c.loop-leaf-test.false, c.loop-leaf.auto.leaf-end) in
    elim (cases_lt i 259) as (λ p. with_leaves c.loop-leaf.named (λ number. replicate 1024 0) i ≡ converted_leaf (leaf_in c.as_slice-leaves.result.now) i) [
      | inl low ↦ c.loop-leaf.invariant.done i (omega (arith, low, all))
      | inr past ↦ after_above c.loop-leaf.named 259 i (replicate 1024 0) (subst (λ (n : ℕ). is_above_all c.loop-leaf.named n ≡ true) all c.loop-leaf.invariant.above) past
          ∙ sym (converted_past (leaf_in c.as_slice-leaves.result.now) i past)
    ] ∙ ap (λ (l : List (List ℕ)). converted_leaf (leaf_in l) i) c.as_slice-leaves.ensures.leaves
