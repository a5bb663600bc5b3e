-- The store of a region, by what its volume holds.
use Rattle.std.proofs.Common.{◌≡◌, ◌<◌, ◌+◌, ℕ, Bool, true, false, List, [], Some, Result, Ok, refl, sym, ap, ◌∙◌, subst, inr, arith}
use Rattle.std.specs.Prelude.{◌==◌, if◌then◌else◌, IsTrue}
use Rattle.std.proofs.lemmas.Bool.{eq-eqb}
use Rattle.store_api.specs.declared.change.Change.{Change}
use Rattle.store_api.specs.declared.leaves.Leaf.{Leaf}
use Rattle.store_api.specs.Keeping.{IsBeforeOrAfter, Remains, Rest}
use Rattle.store_api.specs.Limits.{IsWithinLimits}
use Rattle.store_api.specs.Stores.{Store, change}
use Rattle.store_api.specs.Volumes.{Held, VolumeKeeper, leaf_after, with_named_leaves, after_commit}
use Rattle.region_plan.specs.Planning.{IsPlanOf}
use Rattle.region_plan.specs.Plans.{with_leaves}
use Rattle.region_plan.specs.Regions.{breaks, region_of}
use Rattle.region_plan.proofs.LimitLemmas.{within_limits}
use Rattle.region_plan.proofs.SoundLemmas.{region_sound, unbroken_of}
use Rattle.object_dir.specs.Regions.{in_use, HasStore, contents_in, kept_in, others, region_in, remains_in, rest_of, store_in, store_or_empty}
use Rattle.object_dir.specs.Laws.{reads_back}
use Rattle.object_dir.proofs.UseLemmas.{change_same, laid, limits_same}
use Rattle.object_dir.specs.declared.region.Region.{Region}

-- equal numbers and equal contents of the volume
pub same_contents : (m n : ℕ) (g h : Held) → m ≡ n → g ≡ h → contents_in m g ≡ contents_in n h
same_contents m n g h number held = ap (λ (k : ℕ). contents_in k g) number ∙ ap (λ (x : Held). contents_in n x) held

pub still_stands : (m n : ℕ) (g h : Held) → m ≡ n → g ≡ h → region_in n h ≡ Ok (store_in n h) → region_in m g ≡ Ok (store_in m g)
still_stands m n g h number held is =
    subst (λ (k : ℕ). region_in k g ≡ Ok (store_in k g)) (sym number) (subst (λ (x : Held). region_in n x ≡ Ok (store_in n x)) (sym held) is)

-- a region stands for its own store
pub own_store : (n : ℕ) (h : Held) (store : Store) → region_in n h ≡ Ok store → store_in n h ≡ store
own_store n h store is = ap (λ (r : Result Store ℕ). store_or_empty r) is

pub stands_by : (n : ℕ) (h : Held) (store : Store) → region_in n h ≡ Ok store → region_in n h ≡ Ok (store_in n h)
stands_by n h store is = is ∙ ap (λ (s : Store). Ok s) (sym (own_store n h store is))

-- no leaf of it breaks a rule
pub never_breaks : (leaves : ℕ → List ℕ) (store : Store) → region_of in_use leaves ≡ Ok store → (leaf : ℕ) → leaf < in_use.leaves → IsTrue (breaks in_use leaves leaf) → ⊥
never_breaks leaves store is leaf below broken =
    let fine : breaks in_use leaves leaf ≡ false = unbroken_of in_use leaves laid (region_sound in_use leaves laid store is) leaf below in
    let wrong : true ≡ false = sym broken ∙ fine in
    cc

-- the leaves of a region after a commit of some, and of the others
pub own_leaves : (n : ℕ) (named : List Leaf) (leaves : ℕ → ℕ → List ℕ) → with_named_leaves n named leaves n ≡ with_leaves named (leaves n)
own_leaves n named leaves = ap (λ (b : Bool). (λ (l : ℕ). if b then leaf_after named l (leaves n l) else leaves n l)) (eq-eqb n n refl)

twice : {A : Type 0} (b : Bool) (x y z : A) → (if b then x else (if b then y else z)) ≡ (if b then x else z)
twice true x y z = refl
twice false x y z = refl

pub others_same : (n : ℕ) (named : List Leaf) (leaves : ℕ → ℕ → List ℕ) → others n (with_named_leaves n named leaves) ≡ others n leaves
others_same n named leaves = λ i r l. twice (r == n) [] (leaf_after named l (leaves r l)) (leaves r l) i

module _ {V : Type 0} (K : VolumeKeeper V) (r : Region V) where
  pub kept_limits : HasStore K r → IsWithinLimits (kept_in K r).store
  kept_limits has = limits_same (kept_in K r).store (within_limits in_use laid ((K.held r.volume.now).leaves r.number) (store_in r.number (K.held r.volume.now)) has.stands)

-- a store, a rest and a number, as a crash leaves them
abbrev left_with : Store → ℕ → Rest → Remains
left_with store number rest = Some (record { store = store; rest = rest; number = number })

-- a commit of planned leaves
module _ (c : Change) (named : List Leaf) (n : ℕ) (h : Held) (is : region_in n h ≡ Ok (store_in n h)) (plan : IsPlanOf in_use (h.leaves n) (store_in n h) c named) where
  after_region : region_in n (after_commit n named h) ≡ Ok plan.after
  after_region = ap (λ (l : ℕ → List ℕ). region_of in_use l) (own_leaves n named h.leaves) ∙ plan.stands

  after_store : store_in n (after_commit n named h) ≡ plan.after
  after_store = own_store n (after_commit n named h) plan.after after_region

  pub after_stands : region_in n (after_commit n named h) ≡ Ok (store_in n (after_commit n named h))
  after_stands = stands_by n (after_commit n named h) plan.after after_region

  pub after_rest : rest_of n (after_commit n named h) ≡ rest_of n h
  after_rest = λ i. record { leaves = others_same n named h.leaves i }

  pub after_changes : change (store_in n h) c ≡ Ok (store_in n (after_commit n named h))
  after_changes = sym (change_same (store_in n h) c) ∙ plan.changes ∙ ap (λ (s : Store). Ok s) (sym after_store)

  -- what a crash leaves then is the store after the change, and the rest as it was
  pub after_remains : IsBeforeOrAfter (contents_in n h) (change (store_in n h) c) (remains_in n (Some (after_commit n named h)))
  after_remains =
      let store : Store = store_in n (after_commit n named h) in
      inr (store, h.sequence + 1, after_changes, omega arith, reads_back n (after_commit n named h) after_stands ∙ ap (λ (rest : Rest). left_with store (h.sequence + 1) rest) after_rest)
