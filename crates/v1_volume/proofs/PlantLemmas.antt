-- Nodes without entries, and the leaves that are put under them.
use Rattle.std.proofs.Common.{◌≡◌, ◌≢◌, ◌<◌, ◌+◌, ◌==◌, ◌∙◌, if◌then◌else◌, ℕ, zero, suc, true, false}
use Rattle.std.proofs.Common.{nat_lt, List, [], ◌∷◌, Option, None, Some, All, IsSome, length, replicate, refl, sym, ap, subst, ⊎_elim, arith}
use Rattle.std.specs.List.{list_all}
use Rattle.std.proofs.lemmas.Bool.{cases_eq, false≢true}
use Rattle.std.proofs.lemmas.List.{length-replicate}
use Rattle.std.proofs.lemmas.Bool.Decides.{nat_tests}
use Rattle.store_api.specs.Ascending.{is_above_all}
use Rattle.store_api.specs.Volumes.{leaf_after}
use Rattle.store_api.specs.declared.leaves.Leaf.{Leaf}
use Rattle.epoch.proofs.CommitLemmas.{first_true, second_true}
use Rattle.tree_commits.specs.Gather.{IsPushed, leaf_among}
use Rattle.tree_commits.specs.Touched.{fresh_of}
use Rattle.tree_commits.specs.declared.touched.Node.{Node}
use Rattle.tree_commits.proofs.GatherLemmas.{first_bytes, leaf_level}
use Rattle.tree_commits.proofs.TouchedLemmas.{fresh_head, fresh_tail}
use Rattle.tree_paths.specs.Shape.{shape}
use Rattle.v1_volume.specs.Old.{AreConverted, named_of}
use Rattle.v1_volume.specs.Planting.{AreBlank, ArePlanted, or_zeros}

-- a node without entries that comes in
pub pushed_as : (place : ℕ) (node : Node) (old new : List Node) → node.place ≡ place → length node.bytes ≡ 1024 → new ≡ node ∷ old → IsPushed place node.copy old new
pushed_as place node old new at long is = record {
  bytes = node.bytes;
  long = long;
  is = is ∙ ap (λ (p : ℕ). record { place = p; copy = node.copy; bytes = node.bytes } ∷ old) at;
}

zeros_long : (bytes : List ℕ) → bytes ≡ replicate 1024 0 → length bytes ≡ 1024
zeros_long bytes zeros = ap length zeros ∙ length-replicate {A = ℕ} 1024 0

pub blank_as : (place : ℕ) (node : Node) (old new : List Node) → node.place ≡ place → node.bytes ≡ replicate 1024 0 → new ≡ node ∷ old → IsPushed place node.copy old new
blank_as place node old new at zeros is = pushed_as place node old new at (zeros_long node.bytes zeros) is

-- a node that comes in: one above the leaves has no entries
pub blank_pushed : (node : Node) (old new : List Node) → new ≡ node ∷ old → (shape.level node.place < 4 → node.bytes ≡ replicate 1024 0) → AreBlank old → AreBlank new
blank_pushed node old new is here are = record {
  zeros = λ p t low has.
      (let whole : fresh_of (node ∷ old) p ≡ Some t = sym (ap (λ (l : List Node). fresh_of l p) is) ∙ has in
      ⊎_elim
      (λ (same : node.place ≡ p).
      let both : Some node.bytes ≡ Some t = sym (fresh_head node old p same) ∙ whole in
      let bytes : node.bytes ≡ t = cc in
      sym bytes ∙ here (subst (λ (q : ℕ). shape.level q < 4) (sym same) low))
      (λ (ne : node.place ≢ p). are.zeros p t low (sym (fresh_tail node old p ne) ∙ whole))
      (cases_eq node.place p));
}

-- of no node all is so
pub nothing_blank : (nodes : List Node) → nodes ≡ [] → AreBlank nodes
nothing_blank nodes none = record {
  zeros = λ p t low has. absurd (let both : None ≡ Some t = sym (ap (λ (l : List Node). fresh_of l p) none) ∙ has in cc);
}

-- where a place isn't there yet
pub none_yet : (o whole : Option (List ℕ)) → o ≡ None → first_bytes o whole ≡ whole
none_yet None whole none = refl
none_yet (Some t) whole none = absurd (cc)

pub not_yet : {A : Type 0} (o : Option (List ℕ)) → o ≡ None → IsSome o → A
not_yet None none has = absurd (false≢true has)
not_yet (Some t) none has = absurd (cc)

-- what leaves of a region give a number, or zeros
pub among_after : (leaves : List Leaf) (l : ℕ) → or_zeros (leaf_among leaves l) ≡ leaf_after leaves l (replicate 1024 0)
among_after [] l = refl
among_after (leaf ∷ leaves) l =
    elim (leaf.number == l) as (λ b. or_zeros (if b then Some leaf.bytes else leaf_among leaves l) ≡ (if b then leaf.bytes else leaf_after leaves l (replicate 1024 0))) [
      | true ↦ refl
      | false ↦ among_after leaves l
    ]

-- leaves whose numbers are below one
pub all_numbers : (leaves : List Leaf) (n : ℕ) → is_above_all leaves n ≡ true → All (λ leaf. leaf.number < n) leaves
all_numbers [] n inside k d below = absurd (omega arith)
all_numbers (leaf ∷ leaves) n inside zero d below =
    let one : nat_lt leaf.number n ≡ true = first_true (nat_lt leaf.number n) (list_all (λ (other : Leaf). nat_lt other.number n) leaves) inside in
    let less : leaf.number < n = grind (arith, nat_tests, one) in
    omega arith
all_numbers (leaf ∷ leaves) n inside (suc k) d below =
    all_numbers leaves n (second_true (nat_lt leaf.number n) (list_all (λ (other : Leaf). nat_lt other.number n) leaves) inside) k d (omega (arith, below))

-- where there is no node yet but the root's no leaf is there
pub no_leaves : (nodes : List Node) → ((p : ℕ) → 0 < shape.level p → fresh_of nodes p ≡ None) → (r l : ℕ) → fresh_of nodes (shape.leaf_place r l) ≡ None
no_leaves nodes none r l = none (shape.leaf_place r l) (omega (arith, leaf_level r l))

-- the leaves of one region more
pub regions_more : (old new : List Node) (named : List (List Leaf)) (region : ℕ)
    → ((r l : ℕ) → r < region → l < 1024 → fresh_of old (shape.leaf_place r l) ≡ leaf_among (named_of named r) l)
    → ((l : ℕ) → l < 1024 → fresh_of new (shape.leaf_place region l) ≡ leaf_among (named_of named region) l)
    → ((r l : ℕ) → r ≢ region → l < 1024 → fresh_of new (shape.leaf_place r l) ≡ fresh_of old (shape.leaf_place r l))
    → (r l : ℕ) → r < region + 1 → l < 1024 → fresh_of new (shape.leaf_place r l) ≡ leaf_among (named_of named r) l
regions_more old new named region before here elsewhere r l low inside =
    ⊎_elim
    (λ (same : r ≡ region). subst (λ (q : ℕ). fresh_of new (shape.leaf_place q l) ≡ leaf_among (named_of named q) l) (sym same) (here l inside))
    (λ (ne : r ≢ region). elsewhere r l ne inside ∙ before r l (omega (arith, low, ne)) inside)
    (cases_eq r region)

-- nodes that have the leaves which regions become
pub are_planted : (nodes : List Node) (regions : ℕ → ℕ → List ℕ) (named : List (List Leaf)) → AreBlank nodes → AreConverted regions named
    → ((r l : ℕ) → r < 16 → l < 1024 → fresh_of nodes (shape.leaf_place r l) ≡ leaf_among (named_of named r) l) → ArePlanted nodes regions
are_planted nodes regions named blank converted fresh = record {
  blank = blank;
  leaves = λ r l hr hl. ap or_zeros (fresh r l hr hl) ∙ among_after (named_of named r) l ∙ (converted r hr).converted l;
}
