-- What a commit of planned leaves makes of a region, by what the volume answers.
use Rattle.std.proofs.Common.{◌≡◌, ◌≢◌, Bool, ◌+◌, ◌⊎◌, ℕ, List, Option, Some, Result, Ok, Err, sym, ap, ◌∙◌, subst, inl, ⊎_elim, arith}
use Rattle.store_api.specs.declared.change.Change.{Change}
use Rattle.store_api.specs.declared.leaves.Leaf.{Leaf}
use Rattle.store_api.specs.declared.leaves.LeafAnswer.{LeafAnswer}
use Rattle.store_api.specs.declared.leaves.LeafAnswer.TheVariants as leaf_answers
use Rattle.store_api.specs.Keeping.{Applied, IsBeforeOrAfter, LeftByChange}
use Rattle.store_api.specs.Stores.{change}
use Rattle.std.specs.Prelude.{if◌then◌else◌}
use Rattle.std.proofs.lemmas.Bool.{ne_eqb}
use Rattle.store_api.specs.Volumes.{Commits, Held, LeftByCommit, after_commit, leaf_after}
use Rattle.region_plan.specs.Planning.{IsPlanOf}
use Rattle.region_plan.specs.Plans.{with_leaves}
use Rattle.object_dir.specs.Changing.{IfKept, done_of}
use Rattle.object_dir.specs.Regions.{in_use, contents_in, region_in, remains_in, rest_of, store_in}
use Rattle.object_dir.specs.Laws.{reads_back}
use Rattle.object_dir.proofs.HeldLemmas.{after_changes, after_remains, after_rest, after_stands, own_leaves}

-- an acknowledged commit of leaves that change a region changes it
pub commit_idle : (named : List Leaf) (n : ℕ) (h : Held) (answer : Result ℕ LeafAnswer) (g : Held) → Commits answer n named h g → (with_leaves named (h.leaves n) ≡ h.leaves n → ⊥)
    → g.leaves n ≡ h.leaves n → g.sequence ≡ h.sequence
commit_idle named n h (Ok sequence) g made changes same = absurd (changes (sym (own_leaves n named h.leaves) ∙ (sym (ap (λ (x : Held). x.leaves n) made.0) ∙ same)))
commit_idle named n h (Err answer) g made changes same = ap (λ (x : Held). x.sequence) made

-- a commit that isn't acknowledged leaves what was held
pub commit_kept : (named : List Leaf) (n : ℕ) (h : Held) (answer : Result ℕ LeafAnswer) (g : Held) → Commits answer n named h g → IfKept (done_of answer) (g ≡ h)
commit_kept named n h (Ok sequence) g made = tt
commit_kept named n h (Err leaf_answers.Lost) g made = made
commit_kept named n h (Err leaf_answers.Failed) g made = tt
commit_kept named n h (Err (leaf_answers.Mismatch tags)) g made = made
commit_kept named n h (Err leaf_answers.NoMemory) g made = made

-- and any commit leaves other regions
pub commit_others : (named : List Leaf) (n : ℕ) (h : Held) (answer : Result ℕ LeafAnswer) (g : Held) → Commits answer n named h g → (r : ℕ) → r ≢ n → g.leaves r ≡ h.leaves r
commit_others named n h (Ok sequence) g made r other =
    ap (λ (x : Held). x.leaves r) made.0 ∙ ap (λ (b : Bool). (λ (l : ℕ). if b then leaf_after named l (h.leaves r l) else h.leaves r l)) (ne_eqb r n other)
commit_others named n h (Err answer) g made r other = ap (λ (x : Held). x.leaves r) made

module _ (c : Change) (named : List Leaf) (n : ℕ) (h : Held) (is : region_in n h ≡ Ok (store_in n h)) (plan : IsPlanOf in_use (h.leaves n) (store_in n h) c named) where
  pub commit_stands : (answer : Result ℕ LeafAnswer) (g : Held) → Commits answer n named h g → region_in n g ≡ Ok (store_in n g)
  commit_stands (Ok sequence) g made = subst (λ (x : Held). region_in n x ≡ Ok (store_in n x)) (sym made.0) (after_stands c named n h is plan)
  commit_stands (Err answer) g made = subst (λ (x : Held). region_in n x ≡ Ok (store_in n x)) (sym made) is

  pub commit_applied : (answer : Result ℕ LeafAnswer) (g : Held) → Commits answer n named h g → Applied (done_of answer) (change (store_in n h) c) (contents_in n h) (contents_in n g)
  commit_applied (Ok sequence) g made = (
    after_changes c named n h is plan ∙ ap (λ (x : Held). Ok (store_in n x)) (sym made.0),
    ap (λ (x : Held). rest_of n x) made.0 ∙ after_rest c named n h is plan,
    let e : g.sequence ≡ h.sequence + 1 = ap (λ (x : Held). x.sequence) made.0 in omega arith,
  )
  commit_applied (Err leaf_answers.Lost) g made = (tt, ap (λ (x : Held). contents_in n x) made)
  commit_applied (Err leaf_answers.Failed) g made = (tt, ap (λ (x : Held). contents_in n x) made)
  commit_applied (Err (leaf_answers.Mismatch tags)) g made = (tt, ap (λ (x : Held). contents_in n x) made)
  commit_applied (Err leaf_answers.NoMemory) g made = (tt, ap (λ (x : Held). contents_in n x) made)

  -- what was held before is what was kept before
  before_remains : (o : Option Held) → o ≡ Some h → remains_in n o ≡ Some (contents_in n h)
  before_remains o same = ap (λ (x : Option Held). remains_in n x) same ∙ reads_back n h is

  either_remains : (o : Option Held) → (o ≡ Some h) ⊎ (o ≡ Some (after_commit n named h)) → IsBeforeOrAfter (contents_in n h) (change (store_in n h) c) (remains_in n o)
  either_remains o left =
      ⊎_elim (λ (e : o ≡ Some h). inl (before_remains o e))
      (λ (e : o ≡ Some (after_commit n named h)). subst (λ (x : Option Held). IsBeforeOrAfter (contents_in n h) (change (store_in n h) c) (remains_in n x)) (sym e)
      (after_remains c named n h is plan)) left

  pub commit_left : (answer : Result ℕ LeafAnswer) (o : Option Held) → LeftByCommit answer h (after_commit n named h) o → LeftByChange (done_of answer) (contents_in n h) (change (store_in n h) c)
      (remains_in n o)
  commit_left (Ok sequence) o left = either_remains o left
  commit_left (Err leaf_answers.Lost) o left = before_remains o left
  commit_left (Err leaf_answers.Failed) o left = either_remains o left
  commit_left (Err (leaf_answers.Mismatch tags)) o left = before_remains o left
  commit_left (Err leaf_answers.NoMemory) o left = before_remains o left
