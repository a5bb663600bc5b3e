use Rattle.std.specs.Prelude.{IsTrue}
use Rattle.std.proofs.Common.{◌≡◌, ◌≤◌, ◌<◌, ◌+◌, ◌++◌, ◌∙◌, ℕ, true, [], ◌∷◌, None, Option, List, length, is_some, refl, sym, ap, subst, arith}
use Rattle.std.proofs.lemmas.List.Elements.{All-push}
use Rattle.store_api.specs.Ascending.{is_above_all}
use Rattle.store_api.specs.declared.leaves.Leaf.{Leaf}
use Rattle.region_plan.specs.Plans.{ChangeMap, ChangesMap, IsChangedLeaf, bytes_or, is_named, leaves_to_change, with_leaves}
use Rattle.region_plan.specs.Reading.{ReadsOnly, leaves_of}
use Rattle.region_plan.proofs.NamedLemmas.{own_named, own_unnamed, named_more, unnamed_more, above_more, above_pushed, few_named, few_unnamed, changing_first, map_done}
use Rattle.region_plan.proofs.ReadLemmas.{reads_joined, reads_started, leaves_stay}
use Rattle.region_plan.proofs.planning.changed_leaves.Goals as goal
use Rattle.region_plan.proofs.planning.changed_leaves.Goals.{in-Some+in_ok-push, in_default}
use Rattle.region_plan.specs.Layout.{layout}
use Rattle.region_plan.proofs.FormLemmas.{laid_by}
use Rattle.region_plan.specs.declared.form.Form.TheVariants.{Two}

pub loop-leaf-init : goal.loop-leaf-init
loop-leaf-init g c =
    let start : c.map_leaves-leaf.result ≡ (layout Two).map_leaves = c.map_leaves-leaf.ensures.is in
    record {
      reads = reads_started g.L.LeafSource.keeper g.L.LeafSource.region c.args.from.now c.requires.works (g.met.L.LeafSource.rests c.args.from.now);
      above = subst (λ (n : ℕ). is_above_all c.in_ok-leaves.leaves n ≡ true) (sym start) c.in_ok-leaves.ensures.named;
      later = omega (arith, start);
      most = (let more = (laid_by Two).more in omega (arith, start, more));
      done = λ h first i low.
          map_done (layout Two) (laid_by Two) (leaves_of g.L.LeafSource.keeper g.L.LeafSource.region c.args.from.now) c.args.map.now c.args.inode c.args.head.now c.args.edit
          c.in_ok-leaves.leaves (c.in_ok-leaves.ensures.each (leaves_of g.L.LeafSource.keeper g.L.LeafSource.region c.args.from.now) first) i (omega (arith, low, start));
      changed = λ h first. c.in_ok-leaves.ensures.changed (leaves_of g.L.LeafSource.keeper g.L.LeafSource.region c.args.from.now) first;
      own = λ some' high low. absurd (omega (arith, high, low, start));
      few = subst (λ (n : ℕ). length c.in_ok-leaves.leaves ≤ leaves_to_change (layout Two) c.args.map.now c.args.inode c.args.edit n) (sym start)
          (let all = changing_first (layout Two) (laid_by Two) c.args.map.now c.args.inode c.args.edit in let some' = c.in_ok-leaves.ensures.few in omega (arith, all, some'));
    }

pub loop-leaf-preserved : goal.loop-leaf-preserved
loop-leaf-preserved g c =
    let K = g.L.LeafSource.keeper in
    let R = g.L.LeafSource.region in
    let kept = c.loop-leaf.invariant in
    let reads : ReadsOnly K R None c.args.from.now c.changed_leaf.new.from = reads_joined K R None c.args.from.now c.loop-leaf.from c.changed_leaf.new.from kept.reads c.in_ok-bytes.ensures.reads in
    let changed = λ (h : IsTrue K.tells_reads).
    subst (λ (l : ℕ → List ℕ). IsChangedLeaf (layout Two) l c.args.map.now c.args.inode c.args.head.now c.args.edit c.loop-leaf.leaf (bytes_or c.in_ok-bytes.field-0 (l c.loop-leaf.leaf)))
    (leaves_stay K R c.args.from.now c.loop-leaf.from kept.reads h)
    (c.in_ok-bytes.ensures.changed h) in
    elim c.match-branch-3.branch [
      | in-Some+in_ok-push w ↦
          let last : Leaf = record { number = c.loop-leaf.leaf; bytes = w.in-Some.bytes } in
          let named : c.match-branch-3.leaves ≡ c.loop-leaf.leaves ++ last ∷ [] = w.leaves-is ∙ w.in_ok-push.ensures.ok in
          record {
            reads = reads;
            above = subst (λ (l : List Leaf). is_above_all l (c.loop-leaf.leaf + 1) ≡ true) (sym named) (above_pushed c.loop-leaf.leaves last c.loop-leaf.leaf kept.above refl);
            done = λ h first.
                subst (λ (l : List Leaf). (i : ℕ) → i < c.loop-leaf.leaf + 1 → IsChangedLeaf (layout Two) (leaves_of K R c.args.from.now) c.args.map.now c.args.inode c.args.head.now
                c.args.edit
                i (with_leaves l (leaves_of K R c.args.from.now) i)) (sym named)
                (named_more (λ i bytes. IsChangedLeaf (layout Two) (leaves_of K R c.args.from.now) c.args.map.now c.args.inode c.args.head.now c.args.edit i bytes)
                (leaves_of K R c.args.from.now) c.loop-leaf.leaves c.loop-leaf.leaf kept.above (kept.done h first) last refl
                (subst (λ (o : Option (List ℕ)). IsChangedLeaf (layout Two) (leaves_of K R c.args.from.now) c.args.map.now c.args.inode c.args.head.now c.args.edit c.loop-leaf.leaf
                (bytes_or o (leaves_of K R c.args.from.now c.loop-leaf.leaf))) w.in-Some.is (changed h)));
            later = (let past = kept.later in omega (arith, past));
            most = omega (arith, c.loop-leaf-test.true, c.leaves-leaf-end.ensures.is);
            changed = λ h first.
                subst (λ (l : List Leaf). ChangeMap (layout Two) (leaves_of K R c.args.from.now) l) (sym named)
                (All-push (λ leaf. ChangesMap (layout Two) (leaves_of K R c.args.from.now) leaf) c.loop-leaf.leaves last (kept.changed h first)
                (λ low. absurd (let past = kept.later in omega (arith, past, low))));
            own = λ some' high low. subst (λ (l : List Leaf). is_named l c.args.inode ≡ true) (sym named)
                (own_named c.loop-leaf.leaves last c.args.inode c.loop-leaf.leaf refl (λ early. kept.own some' high early) low);
            few = subst (λ (l : List Leaf). length l ≤ leaves_to_change (layout Two) c.args.map.now c.args.inode c.args.edit (c.loop-leaf.leaf + 1)) (sym named)
                (few_named (layout Two) (laid_by Two) c.args.map.now c.args.inode c.args.edit c.loop-leaf.leaves last c.loop-leaf.leaf kept.few
                (c.in_ok-bytes.ensures.few (ap is_some w.in-Some.is)));
          }
      | in_default w ↦ record {
        reads = reads;
        above = subst (λ (l : List Leaf). is_above_all l (c.loop-leaf.leaf + 1) ≡ true) (sym w.leaves-is) (above_more c.loop-leaf.leaves c.loop-leaf.leaf kept.above);
        done = λ h first.
            subst (λ (l : List Leaf). (i : ℕ) → i < c.loop-leaf.leaf + 1 → IsChangedLeaf (layout Two) (leaves_of K R c.args.from.now) c.args.map.now c.args.inode c.args.head.now c.args.edit i
            (with_leaves l (leaves_of K R c.args.from.now) i)) (sym w.leaves-is)
            (unnamed_more (λ i bytes. IsChangedLeaf (layout Two) (leaves_of K R c.args.from.now) c.args.map.now c.args.inode c.args.head.now c.args.edit i bytes)
            (leaves_of K R c.args.from.now)
            c.loop-leaf.leaves c.loop-leaf.leaf kept.above (kept.done h first)
            (subst (λ (o : Option (List ℕ)). IsChangedLeaf (layout Two) (leaves_of K R c.args.from.now) c.args.map.now c.args.inode c.args.head.now c.args.edit c.loop-leaf.leaf
            (bytes_or o (leaves_of K R c.args.from.now c.loop-leaf.leaf))) w.in_default.is (changed h)));
        later = (let past = kept.later in omega (arith, past));
        most = omega (arith, c.loop-leaf-test.true, c.leaves-leaf-end.ensures.is);
        changed = λ h first. subst (λ (l : List Leaf). ChangeMap (layout Two) (leaves_of K R c.args.from.now) l) (sym w.leaves-is) (kept.changed h first);
        own = λ some' high low. subst (λ (l : List Leaf). is_named l c.args.inode ≡ true) (sym w.leaves-is)
            (own_unnamed c.loop-leaf.leaves c.args.inode c.loop-leaf.leaf c.args.head.now c.in_ok-bytes.field-0 some' w.in_default.is (λ same. c.in_ok-bytes.ensures.own same)
            (λ early. kept.own some' high early) low);
        few = subst (λ (l : List Leaf). length l ≤ leaves_to_change (layout Two) c.args.map.now c.args.inode c.args.edit (c.loop-leaf.leaf + 1)) (sym w.leaves-is)
            (few_unnamed (layout Two) (laid_by Two) c.args.map.now c.args.inode c.args.edit c.loop-leaf.leaves c.loop-leaf.leaf kept.few);
      }
    ]

pub returns-clause-few : goal.returns-clause-few
returns-clause-few g c =
    let kept = c.loop-leaf.invariant in
    let high = kept.most in
    subst (λ (n : ℕ). length c.loop-leaf.leaves ≤ leaves_to_change (layout Two) c.args.map.now c.args.inode c.args.edit n)
    (let all : c.loop-leaf.leaf ≡ (layout Two).leaves = omega (arith, high, c.loop-leaf-test.false, c.leaves-leaf-end.ensures.is) in all) kept.few

pub returns-clause-named : goal.returns-clause-named
returns-clause-named g c =
    let kept = c.loop-leaf.invariant in
    let high = kept.most in
    subst (λ (n : ℕ). is_above_all c.loop-leaf.leaves n ≡ true)
    (let all : c.loop-leaf.leaf ≡ (layout Two).leaves = omega (arith, high, c.loop-leaf-test.false, c.leaves-leaf-end.ensures.is) in all) kept.above

pub returns-clause-own : goal.returns-clause-own
returns-clause-own g c some' high low =
    let most = c.loop-leaf.invariant.most in
    c.loop-leaf.invariant.own some' high (omega (arith, low, c.loop-leaf-test.false, c.leaves-leaf-end.ensures.is))
