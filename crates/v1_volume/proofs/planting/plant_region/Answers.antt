use Rattle.std.proofs.Common.{◌≡◌, ◌≢◌, ◌<◌, ◌+◌, ◌∷◌, ◌∙◌, ℕ, true, nat_lt, List, [], IsSome, drop, get_or, refl, ap, subst}
use Rattle.std.specs.List.{list_all}
use Rattle.std.proofs.lemmas.List.{drop_more}
use Rattle.std.proofs.lemmas.List.Elements.{All-get_or}
use Rattle.store_api.specs.Ascending.{is_ascending}
use Rattle.store_api.specs.declared.leaves.Leaf.{Leaf}
use Rattle.tree_commits.specs.Gather.{leaf_among}
use Rattle.tree_commits.specs.Touched.{fresh_of}
use Rattle.tree_commits.proofs.GatherLemmas.{below_step, first_bytes, leaf_level, named_step, new_number, none_left, rest_ascends}
use Rattle.tree_paths.specs.Shape.{shape}
use Rattle.tree_paths.specs.Shapes.{is_shape}
use Rattle.v1_volume.proofs.PlantLemmas.{none_yet, not_yet}
use Rattle.v1_volume.proofs.planting.plant_region.Goals as goal

pub loop-leaf-init : goal.loop-leaf-init
loop-leaf-init c = record {
  ordered = c.requires.ordered;
  blank = c.requires.blank;
  ascending = c.requires.ascending;
  here = λ n below. none_yet (fresh_of c.args.touched.now (shape.leaf_place c.args.region n)) (leaf_among c.args.leaves.now n) (c.requires.new n below);
  below = λ n below has. not_yet (fresh_of c.args.touched.now (shape.leaf_place c.args.region n)) (c.requires.new n below) has;
  elsewhere = λ r n ne below. refl;
}

pub loop-leaf-preserved : goal.loop-leaf-preserved
loop-leaf-preserved c =
    let inv = c.loop-leaf.invariant in
    let xs : List Leaf = c.args.leaves.now in
    let i : ℕ = c.loop-leaf.leaf-index in
    let none : Leaf = record { number = 0; bytes = [] } in
    let leaf : Leaf = get_or xs i none in
    let rest : List Leaf = drop (i + 1) xs in
    let e : drop i xs ≡ leaf ∷ rest = drop_more xs i none c.loop-leaf-test.true in
    let ascending : is_ascending (leaf ∷ rest) ≡ true = subst (λ (l : List Leaf). is_ascending l ≡ true) e inv.ascending in
    let small : leaf.number < 1024 = All-get_or (λ (l : Leaf). l.number < 1024) xs i none c.loop-leaf-test.true c.requires.numbers in
    let add = c.in_ok-plant.ensures in
    let other : (n : ℕ) → n < 1024 → n ≢ leaf.number → fresh_of c.plant.new.touched (shape.leaf_place c.args.region n) ≡ fresh_of c.loop-leaf.touched (shape.leaf_place c.args.region n)
    = (λ n below ne. add.others (shape.leaf_place c.args.region n) (leaf_level c.args.region n)
    (λ same. ne (is_shape.leaf_apart c.args.region n c.args.region leaf.number below small same).1)) in
    let was : (n : ℕ) → n < 1024 → IsSome (fresh_of c.loop-leaf.touched (shape.leaf_place c.args.region n)) → list_all (λ (later : Leaf). nat_lt n later.number) (leaf ∷ rest) ≡ true
    = (λ n below has. subst (λ (l : List Leaf). list_all (λ (later : Leaf). nat_lt n later.number) l ≡ true) e (inv.below n below has)) in
    record {
      ordered = add.ordered;
      blank = add.blank;
      ascending = rest_ascends leaf rest ascending;
      here = λ n below.
          named_step leaf rest n (fresh_of c.loop-leaf.touched (shape.leaf_place c.args.region n)) (fresh_of c.plant.new.touched (shape.leaf_place c.args.region n)) (leaf_among xs n)
          (λ same. (
            new_number leaf rest (fresh_of c.loop-leaf.touched (shape.leaf_place c.args.region n))
                (subst (λ (k : ℕ). IsSome (fresh_of c.loop-leaf.touched (shape.leaf_place c.args.region n)) → list_all (λ (later : Leaf). nat_lt k later.number) (leaf ∷ rest) ≡ true) same
                (was n below)),
            ap (λ (k : ℕ). fresh_of c.plant.new.touched (shape.leaf_place c.args.region k)) same ∙ add.here,
          ))
          (other n below)
          (subst (λ (l : List Leaf). first_bytes (fresh_of c.loop-leaf.touched (shape.leaf_place c.args.region n)) (leaf_among l n) ≡ leaf_among xs n) e (inv.here n below));
      below = λ n below has.
          below_step leaf rest n (fresh_of c.loop-leaf.touched (shape.leaf_place c.args.region n)) (fresh_of c.plant.new.touched (shape.leaf_place c.args.region n)) ascending (other n below)
          (was n below) has;
      elsewhere = λ r n ne below.
          add.others (shape.leaf_place r n) (leaf_level r n) (λ same. ne (is_shape.leaf_apart r n c.args.region leaf.number below small same).0) ∙ inv.elsewhere r n ne below;
    }

pub returns-clause-here : goal.returns-clause-here
returns-clause-here c n below =
    none_left c.args.leaves.now c.loop-leaf.leaf-index n (fresh_of c.loop-leaf.touched (shape.leaf_place c.args.region n)) (leaf_among c.args.leaves.now n) c.loop-leaf-test.false
    (c.loop-leaf.invariant.here n below)
