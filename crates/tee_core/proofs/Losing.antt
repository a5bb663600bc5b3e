-- Applications that lose their storage one after the other.
use Rattle.std.proofs.Common.{◌≡◌, ◌<◌, ◌≤◌, ◌+◌, ℕ, zero, suc, true, List, [], ◌∷◌, get_or, length, map, set, refl, sym, subst, ◌∙◌, ap, arith}
use Rattle.alone.specs.Machine.{Machine}
use Rattle.app_side.specs.Represents.{Represents as Runs_as, boot_of, is_lost, turns_of}
use Rattle.app_side.specs.declared.side.AppSide.{AppSide}
use Rattle.tee_core.specs.Powers.{all_lost}
use Rattle.tee_core.specs.Sides.{AreBooted, AreLost, AreSides}
use Rattle.tee_core.specs.World.{World}
use Rattle.tee_core.proofs.SideLemmas.{some_machine}

-- the machine whose storage is lost
abbrev pub lost_machine : {A : Type 0} → Machine A → Machine A
lost_machine {A} m = record m { lost = true }

-- one value lost its storage, and is otherwise as another
pub record HasLost {A : Type 0} (old new : AppSide A) : Type 0 where
  pub step : (m : Machine A) → Runs_as old m → Runs_as new (lost_machine m)
  pub lost : is_lost new ≡ true

pub lost_turns : {A : Type 0} (old new : AppSide A) → HasLost old new → turns_of new ≡ turns_of old
lost_turns {A} old new has = sym (ap (λ (x : Machine A). x.turns) (has.step _ (some_machine old)).parts)

pub lost_boot : {A : Type 0} (old new : AppSide A) → HasLost old new → boot_of new ≡ boot_of old
lost_boot {A} old new has = sym (ap (λ (x : Machine A). x.boot) (has.step _ (some_machine old)).parts)

-- the first of them, so many, lost it, and the others are as before
abbrev pub LostTo : {A : Type 0} → ℕ → List (AppSide A) → List (AppSide A) → Type 0
LostTo n [] [] = Unit {0}
LostTo n [] (t ∷ ts) = ⊥
LostTo n (s ∷ ss) [] = ⊥
LostTo zero (s ∷ ss) (t ∷ ts) = (t ≡ s) × LostTo zero ss ts
LostTo (suc n) (s ∷ ss) (t ∷ ts) = HasLost s t × LostTo n ss ts

module _ {A : Type 0} where
  pub lost_none : (ss : List (AppSide A)) → LostTo zero ss ss
  lost_none [] = tt
  lost_none (s ∷ ss) = (refl, lost_none ss)

  -- one more, with another in its place
  lost_here : (n : ℕ) (ss ts : List (AppSide A)) (t d : AppSide A) → LostTo n ss ts → n < length ts → HasLost (get_or ts n d) t → LostTo (suc n) ss (set ts n t)
  lost_here n [] [] t d to lt has = absurd (omega (arith, lt))
  lost_here n [] (u ∷ ts) t d to lt has = absurd to
  lost_here n (s ∷ ss) [] t d to lt has = absurd to
  lost_here zero (s ∷ ss) (u ∷ ts) t d to lt has = (subst (λ (x : AppSide A). HasLost x t) to.0 has, to.1)
  lost_here (suc n) (s ∷ ss) (u ∷ ts) t d to lt has = (to.0, lost_here n ss ts t d to.1 (omega (arith, lt)) has)

  pub lost_next : (n : ℕ) (ss ts : List (AppSide A)) (t d : AppSide A) → LostTo n ss ts → n < length ts → HasLost (get_or ts n d) t → LostTo (n + 1) ss (set ts n t)
  lost_next n ss ts t d to lt has = subst (λ k. LostTo k ss (set ts n t)) (omega arith) (lost_here n ss ts t d to lt has)

  pub lost_length : (n : ℕ) (ss ts : List (AppSide A)) → LostTo n ss ts → length ts ≡ length ss
  lost_length n [] [] to = refl
  lost_length n [] (u ∷ ts) to = absurd to
  lost_length n (s ∷ ss) [] to = absurd to
  lost_length zero (s ∷ ss) (u ∷ ts) to = ap (λ k. suc k) (lost_length zero ss ts to.1)
  lost_length (suc n) (s ∷ ss) (u ∷ ts) to = ap (λ k. suc k) (lost_length n ss ts to.1)

  -- ---- all of them

  pub all_sides : (n : ℕ) (ss ts : List (AppSide A)) (world : World A) → LostTo n ss ts → length ss ≤ n → AreSides ss world → AreSides ts (all_lost world)
  all_sides n [] [] [] to le are = tt
  all_sides n [] [] (m ∷ world) to le are = absurd are
  all_sides n [] (u ∷ ts) world to le are = absurd to
  all_sides n (s ∷ ss) [] world to le are = absurd to
  all_sides n (s ∷ ss) (u ∷ ts) [] to le are = absurd are
  all_sides zero (s ∷ ss) (u ∷ ts) (m ∷ world) to le are = absurd (omega (arith, le))
  all_sides (suc n) (s ∷ ss) (u ∷ ts) (m ∷ world) to le are = (to.0.step m are.0, all_sides n ss ts world to.1 (omega (arith, le)) are.1)

  pub all_are_lost : (n : ℕ) (ss ts : List (AppSide A)) → LostTo n ss ts → length ss ≤ n → AreLost true ts
  all_are_lost n [] [] to le = tt
  all_are_lost n [] (u ∷ ts) to le = absurd to
  all_are_lost n (s ∷ ss) [] to le = absurd to
  all_are_lost zero (s ∷ ss) (u ∷ ts) to le = absurd (omega (arith, le))
  all_are_lost (suc n) (s ∷ ss) (u ∷ ts) to le = (to.0.lost, all_are_lost n ss ts to.1 (omega (arith, le)))

  pub all_turns : (n : ℕ) (ss ts : List (AppSide A)) → LostTo n ss ts → length ss ≤ n → map (λ s. turns_of s) ts ≡ map (λ s. turns_of s) ss
  all_turns n [] [] to le = refl
  all_turns n [] (u ∷ ts) to le = absurd to
  all_turns n (s ∷ ss) [] to le = absurd to
  all_turns zero (s ∷ ss) (u ∷ ts) to le = absurd (omega (arith, le))
  all_turns (suc n) (s ∷ ss) (u ∷ ts) to le =
      ap (λ k. k ∷ map (λ (x : AppSide A). turns_of x) ts) (lost_turns s u to.0)
      ∙ ap (λ ks. turns_of s ∷ ks) (all_turns n ss ts to.1 (omega (arith, le)))

  pub all_booted : (n boots : ℕ) (ss ts : List (AppSide A)) → LostTo n ss ts → length ss ≤ n → AreBooted boots ss → AreBooted boots ts
  all_booted n boots [] [] to le are = tt
  all_booted n boots [] (u ∷ ts) to le are = absurd to
  all_booted n boots (s ∷ ss) [] to le are = absurd to
  all_booted zero boots (s ∷ ss) (u ∷ ts) to le are = absurd (omega (arith, le))
  all_booted (suc n) boots (s ∷ ss) (u ∷ ts) to le are = (lost_boot s u to.0 ∙ are.0, all_booted n boots ss ts to.1 (omega (arith, le)) are.1)
