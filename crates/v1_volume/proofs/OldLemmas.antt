-- The leaves of a region of the first version as they are read, and what the regions become.
use Rattle.std.proofs.Common.{◌≡◌, ◌≤◌, ◌<◌, ◌∙◌, ℕ, zero, suc, true, nat_lt, List, [], ◌∷◌, length, replicate, refl, sym, ap, subst, ⊎_elim, arith}
use Rattle.std.proofs.lemmas.Bool.{cases_lt}
use Rattle.std.proofs.lemmas.Bool.Decides.{nat_tests}
use Rattle.store_api.specs.Ascending.{is_above_all}
use Rattle.store_api.specs.declared.leaves.Leaf.{Leaf}
use Rattle.epoch.specs.Forms.{is_leaf, leaves_of}
use Rattle.epoch.specs.declared.header.TreeEntry.{TreeEntry}
use Rattle.epoch.proofs.CommitLemmas.{first_true, second_true}
use Rattle.epoch.proofs.KeepLemmas.{leaf_is}
use Rattle.region_plan.specs.Laws.{AgreeInUse}
use Rattle.region_plan.specs.Layout.{layout}
use Rattle.region_plan.specs.Plans.{with_leaves}
use Rattle.region_plan.specs.declared.form.Form.TheVariants.{Two}
use Rattle.region_plan.proofs.AgreeLemmas.{region_same}
use Rattle.region_plan.proofs.FormLemmas.{laid_by}
use Rattle.v1_volume.specs.Checking.{Stand, leaf_in}
use Rattle.v1_volume.specs.Renumbering.{converted_leaf}
use Rattle.v1_volume.proofs.ConvertedLemmas.{converted_stands}
use Rattle.tree_paths.specs.Shape.{first_shape}
use Rattle.tree_paths.specs.Tree.{Look, on_image, text_of}
use Rattle.v1_volume.specs.Laws.{KeepsStores}
use Rattle.v1_volume.specs.Old.{IsConverted, old_leaves}
use Rattle.v1_volume.specs.Versions.{old_root, volume_form}
use Rattle.v1_volume.specs.Ways.{no_leaf, old_leaf}

-- behind the last of a list there is nothing
leaf_past : (xs : List (List ℕ)) (i : ℕ) → length xs ≤ i → leaf_in xs i ≡ []
leaf_past [] i past = refl
leaf_past (x ∷ xs) zero past = absurd (omega (arith, past))
leaf_past (x ∷ xs) (suc i) past = leaf_past xs i (omega (arith, past))

-- leaves that were read one after another are those of the region
pub leaves_read : (look : Look) (root : TreeEntry) (region : ℕ) (xs : List (List ℕ)) → length xs ≡ 256
    → ((i : ℕ) → i < 256 → leaf_in xs i ≡ text_of first_shape look root (first_shape.leaf_place region i)) → leaf_in xs ≡ old_leaves look root region
leaves_read look root region xs long each = λ j i. one i j
  where
    one : (i : ℕ) → leaf_in xs i ≡ old_leaves look root region i
    one i =
        ⊎_elim
        (λ (low : i < 256). each i low ∙ sym (old_leaf look root region i low))
        (λ (past : 256 ≤ i). leaf_past xs i (omega (arith, long, past)) ∙ sym (no_leaf look root region i past))
        (cases_lt i 256)

-- what a region that was checked becomes
pub region_converted : (leaves : ℕ → List ℕ) (checked items : List (List ℕ)) (named : List Leaf) → checked ≡ items → leaf_in items ≡ leaves → Stand (leaf_in checked)
    → ((i : ℕ) → with_leaves named (λ number. replicate 1024 0) i ≡ converted_leaf (leaf_in checked) i) → IsConverted leaves named
region_converted leaves checked items named same is stand converted =
    let e : leaf_in checked ≡ leaves = ap leaf_in same ∙ is in
    record {
      stand = subst (λ (l : ℕ → List ℕ). Stand l) e stand;
      converted = λ i. converted i ∙ ap (λ (l : ℕ → List ℕ). converted_leaf l i) e;
    }

-- numbers below one are below a greater one
pub above_more : (named : List Leaf) (n m : ℕ) → n ≤ m → is_above_all named n ≡ true → is_above_all named m ≡ true
above_more [] n m le is = refl
above_more (leaf ∷ named) n m le is =
    let one : nat_lt leaf.number n ≡ true = first_true (nat_lt leaf.number n) (is_above_all named n) is in
    let less : leaf.number < m = grind (arith, nat_tests, one) in
    let here : nat_lt leaf.number m ≡ true = grind (arith, nat_tests) in
    rw here (above_more named n m le (second_true (nat_lt leaf.number n) (is_above_all named n) is))

two_leaves : (layout Two).leaves ≡ 1024
unfolding layout
two_leaves = refl

two_map : (layout Two).map_leaves ≡ 4
unfolding layout
two_map = refl

-- what an image of the first version holds stands for the stores of its regions
pub keeps_stores : KeepsStores
unfolding leaves_of
keeps_stores key image root region store low is =
    let old : ℕ → List ℕ = old_leaves (on_image first_shape key image) root region in
    let held : ℕ → List ℕ = leaves_of volume_form key image (old_root root) region in
    let same : (i : ℕ) → i < 1024 → held i ≡ converted_leaf old i
    = (λ i inside. let there : is_leaf 1024 region i ≡ true = leaf_is 1024 region i low inside in rw there refl) in
    let agree : AgreeInUse (layout Two) (converted_leaf old) held
    = record {
      map = λ i inside. same i (omega (arith, inside, two_map));
      used = λ i inside used. same i (omega (arith, inside, two_leaves));
    } in
    region_same (layout Two) (converted_leaf old) held agree (laid_by Two) ∙ converted_stands old store is
