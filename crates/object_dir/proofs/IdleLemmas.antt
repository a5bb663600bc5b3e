-- Leaves that a region has already.
use Rattle.std.proofs.Common.{◌≡◌, ◌∙◌, ◌<◌, ℕ, true, false, List, [], ◌∷◌, nat_lt, refl, sym, ap, subst, arith}
use Rattle.std.specs.Prelude.{◌==◌, bytes_eq, if◌then◌else◌}
use Rattle.std.specs.List.{list_all}
use Rattle.std.proofs.lemmas.Bool.{eqb-true, eq-eqb, ltb-true, ne_eqb, and_from}
use Rattle.std.proofs.lemmas.Slice.Eq.{bytes_eq-Decides}
use Rattle.store_api.specs.Ascending.{is_ascending}
use Rattle.store_api.specs.declared.leaves.Leaf.{Leaf}
use Rattle.store_api.specs.Volumes.{leaf_after}
use Rattle.region_plan.specs.Plans.{with_leaves}
use Rattle.region_plan.proofs.SoundLemmas.{and_both}
use Rattle.object_dir.specs.Changing.{are_there}

-- leaves that a region has change none of it
there_stays : (named : List Leaf) (leaves : ℕ → List ℕ) → are_there leaves named ≡ true → (i : ℕ) → leaf_after named i (leaves i) ≡ leaves i
there_stays [] leaves there i = refl
there_stays (leaf ∷ named) leaves there i =
    let parts = and_both (bytes_eq (leaves leaf.number) leaf.bytes) (are_there leaves named) there in
    elim (leaf.number == i) as (λ b. (leaf.number == i) ≡ b → (if b then leaf.bytes else leaf_after named i (leaves i)) ≡ leaves i) [
      | true ↦ λ e. sym ((bytes_eq-Decides (leaves leaf.number) leaf.bytes).0 parts.0) ∙ ap leaves (eqb-true leaf.number i e)
      | false ↦ λ e. there_stays named leaves parts.1 i
    ] refl

pub there_same : (named : List Leaf) (leaves : ℕ → List ℕ) → are_there leaves named ≡ true → with_leaves named leaves ≡ leaves
there_same named leaves there = λ i l. there_stays named leaves there l i

-- a leaf below all of them isn't among them
not_above : (named : List Leaf) (n : ℕ) (old : List ℕ) → list_all (λ later. nat_lt n later.number) named ≡ true → leaf_after named n old ≡ old
not_above [] n old above = refl
not_above (leaf ∷ named) n old above =
    let parts = and_both (nat_lt n leaf.number) (list_all (λ later. nat_lt n later.number) named) above in
    let less : n < leaf.number = ltb-true n leaf.number parts.0 in
    ap (λ b. if b then leaf.bytes else leaf_after named n old) (ne_eqb leaf.number n (λ same. omega (arith, same, less))) ∙ not_above named n old parts.1

-- the leaves behind the first change none where all change none
later_stays : (leaf : Leaf) (named : List Leaf) (leaves : ℕ → List ℕ) → list_all (λ later. nat_lt leaf.number later.number) named ≡ true
    → ((i : ℕ) → leaf_after (leaf ∷ named) i (leaves i) ≡ leaves i) → (i : ℕ) → leaf_after named i (leaves i) ≡ leaves i
later_stays leaf named leaves above stays i =
    elim (leaf.number == i) as (λ b. (leaf.number == i) ≡ b → leaf_after named i (leaves i) ≡ leaves i) [
      | true ↦ λ e. subst (λ (k : ℕ). leaf_after named k (leaves k) ≡ leaves k) (eqb-true leaf.number i e) (not_above named leaf.number (leaves leaf.number) above)
      | false ↦ λ e. ap (λ b. if b then leaf.bytes else leaf_after named i (leaves i)) (sym e) ∙ stays i
    ] refl

-- leaves that change none of a region are there
stays_there : (named : List Leaf) (leaves : ℕ → List ℕ) → is_ascending named ≡ true → ((i : ℕ) → leaf_after named i (leaves i) ≡ leaves i) → are_there leaves named ≡ true
stays_there [] leaves ascends stays = refl
stays_there (leaf ∷ named) leaves ascends stays =
    let parts = and_both (list_all (λ later. nat_lt leaf.number later.number) named) (is_ascending named) ascends in
    let own : leaf.bytes ≡ leaves leaf.number =
    ap (λ b. if b then leaf.bytes else leaf_after named leaf.number (leaves leaf.number)) (sym (eq-eqb leaf.number leaf.number refl)) ∙ stays leaf.number in
    and_from (bytes_eq (leaves leaf.number) leaf.bytes) (are_there leaves named) ((bytes_eq-Decides (leaves leaf.number) leaf.bytes).1 (sym own))
    (stays_there named leaves parts.1 (later_stays leaf named leaves parts.0 stays))

-- leaves of which one isn't there change a region
pub not_there : {A : Type 0} (named : List Leaf) (leaves : ℕ → List ℕ) → is_ascending named ≡ true → are_there leaves named ≡ false → with_leaves named leaves ≡ leaves → A
not_there named leaves ascends fails same =
    absurd (let there : are_there leaves named ≡ true = stays_there named leaves ascends (λ i. ap (λ (l : ℕ → List ℕ). l i) same) in
    let wrong : true ≡ false = sym there ∙ fails in cc)
