use Rattle.std.proofs.Common.{◌≡◌, ◌≤◌, ◌<◌, ◌+◌, ◌++◌, ◌∙◌, ℕ, true, [], ◌∷◌, List, length, length-append, refl, sym, subst, arith}
use Rattle.std.proofs.lemmas.List.Elements.{All-nil, All-push}
use Rattle.store_api.specs.Ascending.{is_above_all}
use Rattle.store_api.specs.declared.leaves.Leaf.{Leaf}
use Rattle.region_plan.specs.Layout.{layout}
use Rattle.region_plan.specs.Plans.{ChangeMap, ChangesMap, IsMapLeaf, with_leaves}
use Rattle.region_plan.proofs.FormLemmas.{laid_by}
use Rattle.region_plan.proofs.MapLemmas.{differs_too, same_too}
use Rattle.region_plan.proofs.NamedLemmas.{above_more, above_pushed, named_more, unnamed_more}
use Rattle.region_plan.proofs.planning.changed_map.Goals as goal
use Rattle.region_plan.proofs.planning.changed_map.Goals.{then-not-is_unchanged+in_ok-push, else-not-is_unchanged}
use Rattle.region_plan.specs.declared.form.Form.TheVariants.{Two}

pub loop-leaf-init : goal.loop-leaf-init
loop-leaf-init c = record {
  above = subst (λ (l : List Leaf). is_above_all l 0 ≡ true) (sym c.none-leaves.ensures) refl;
  done = λ leaves is i low. absurd (omega (arith, low));
  changed = λ leaves is. subst (λ (l : List Leaf). ChangeMap (layout Two) leaves l) (sym c.none-leaves.ensures) (All-nil (λ leaf. ChangesMap (layout Two) leaves leaf));
  few = subst (λ (l : List Leaf). length l ≤ 0) (sym c.none-leaves.ensures) (omega arith);
}

pub loop-leaf-preserved : goal.loop-leaf-preserved
loop-leaf-preserved c =
    let L = layout Two in
    let kept = c.loop-leaf.invariant in
    let below : c.loop-leaf.leaf < (layout Two).map_leaves = subst (λ (n : ℕ). c.loop-leaf.leaf < n) c.map_leaves-leaf-end.ensures.is c.loop-leaf-test.true in
    elim c.if-not-is_unchanged.branch [
      | then-not-is_unchanged+in_ok-push w ↦
          let last : Leaf = record { number = c.loop-leaf.leaf; bytes = w.map_leaf-bytes.result } in
          let named : c.if-not-is_unchanged.leaves ≡ c.loop-leaf.leaves ++ last ∷ [] = w.leaves-is ∙ w.in_ok-push.ensures.ok in
          record {
            above = subst (λ (l : List Leaf). is_above_all l (c.loop-leaf.leaf + 1) ≡ true) (sym named) (above_pushed c.loop-leaf.leaves last c.loop-leaf.leaf kept.above refl);
            done = λ leaves is.
                subst (λ (l : List Leaf). (i : ℕ) → i < c.loop-leaf.leaf + 1 → IsMapLeaf (layout Two) c.args.map.now i (with_leaves l leaves i)) (sym named)
                (named_more (λ i bytes. IsMapLeaf (layout Two) c.args.map.now i bytes) leaves c.loop-leaf.leaves c.loop-leaf.leaf kept.above (kept.done leaves is) last refl
                w.map_leaf-bytes.ensures);
            changed = λ leaves is.
                subst (λ (l : List Leaf). ChangeMap (layout Two) leaves l) (sym named)
                (All-push (λ leaf. ChangesMap (layout Two) leaves leaf) c.loop-leaf.leaves last (kept.changed leaves is)
                (λ low. differs_too (layout Two) (laid_by Two) leaves c.args.old.now c.args.map.now c.loop-leaf.leaf w.map_leaf-bytes.result is below w.map_leaf-bytes.ensures
                (c.is_unchanged.ensures.other w.if-not-is_unchanged.true)));
            few = subst (λ (l : List Leaf). length l ≤ c.loop-leaf.leaf + 1) (sym named)
                (let long = length-append c.loop-leaf.leaves (last ∷ []) in let few' = kept.few in omega (arith, long, few'));
          }
      | else-not-is_unchanged w ↦ record {
        above = subst (λ (l : List Leaf). is_above_all l (c.loop-leaf.leaf + 1) ≡ true) (sym w.leaves-is) (above_more c.loop-leaf.leaves c.loop-leaf.leaf kept.above);
        done = λ leaves is.
            subst (λ (l : List Leaf). (i : ℕ) → i < c.loop-leaf.leaf + 1 → IsMapLeaf (layout Two) c.args.map.now i (with_leaves l leaves i)) (sym w.leaves-is)
            (unnamed_more (λ i bytes. IsMapLeaf (layout Two) c.args.map.now i bytes) leaves c.loop-leaf.leaves c.loop-leaf.leaf kept.above (kept.done leaves is)
            (same_too (layout Two) (laid_by Two) leaves c.args.old.now c.args.map.now c.loop-leaf.leaf is below (c.is_unchanged.ensures.same w.if-not-is_unchanged.false)));
        changed = λ leaves is. subst (λ (l : List Leaf). ChangeMap (layout Two) leaves l) (sym w.leaves-is) (kept.changed leaves is);
        few = subst (λ (l : List Leaf). length l ≤ c.loop-leaf.leaf + 1) (sym w.leaves-is) (let few' = kept.few in omega (arith, few'));
      }
    ]

pub returns-clause-each : goal.returns-clause-each
returns-clause-each c leaves is i low = c.loop-leaf.invariant.done leaves is i (omega (arith, low, c.map_leaves-leaf-end.ensures.is, c.loop-leaf-test.false))

pub returns-clause-few : goal.returns-clause-few
returns-clause-few c = (let few' = c.loop-leaf.invariant.few in omega (arith, few', c.map_leaves-leaf-end.ensures.is, c.loop-leaf.auto.leaf-end))

pub returns-clause-named : goal.returns-clause-named
returns-clause-named c = subst (λ (n : ℕ). is_above_all c.loop-leaf.leaves n ≡ true)
    (let e : c.loop-leaf.leaf ≡ (layout Two).map_leaves = omega (arith, c.map_leaves-leaf-end.ensures.is, c.loop-leaf-test.false, c.loop-leaf.auto.leaf-end) in e) c.loop-leaf.invariant.above
