-- The directories that are kept of regions.
use Rattle.std.proofs.Common.{◌≡◌, ◌≢◌, ◌==◌, ℕ, true, false, List, Option, None, refl, sym, subst}
use Rattle.std.proofs.lemmas.Bool.{eqb-false, eqb-true}
use Rattle.object_dir.specs.Kept.{IsHeld}
use Rattle.region_plan.specs.declared.directory.Directory.{Directory}
use Rattle.tee_base.specs.Words.{Leaves, RegionLeaves}
use Rattle.tee_core.specs.Directories.{AreHeld, kept_at}

-- none is kept
pub held_none : (leaves : Leaves) (xs : List (Option Directory)) → ((region : ℕ) → kept_at xs region ≡ None) → AreHeld leaves xs
held_none leaves xs none = λ region. subst (λ (o : Option Directory). IsHeld (leaves region) o) (sym (none region)) tt

-- one is that of its region's leaves as they are now, and the leaves of the other regions stay
pub held_put : (old new : Leaves) (xs ys : List (Option Directory)) (app : ℕ) (kept : Option Directory) → ((other : ℕ) → other ≢ app → new other ≡ old other) → IsHeld (new app) kept
    → kept_at ys app ≡ kept → ((other : ℕ) → other ≢ app → kept_at ys other ≡ kept_at xs other) → AreHeld old xs → AreHeld new ys
held_put old new xs ys app kept same right own others are = λ region.
    elim (region == app) as (λ b. (region == app) ≡ b → IsHeld (new region) (kept_at ys region)) [
      | true ↦ λ e.
          subst (λ k. IsHeld (new k) (kept_at ys k)) (sym (eqb-true region app e)) (subst (λ (o : Option Directory). IsHeld (new app) o) (sym own) right)
      | false ↦ λ e.
          let apart = eqb-false region app e in
          subst (λ (o : Option Directory). IsHeld (new region) o) (sym (others region apart))
          (subst (λ (ls : RegionLeaves). IsHeld ls (kept_at xs region)) (sym (same region apart)) (are region))
    ] refl
