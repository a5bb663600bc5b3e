-- The restarts of the first machines, one after the other, and the place of a change in doubt.
use Rattle.app_api.specs.Behaviours.{Behaviour}
use Rattle.std.proofs.Common.{◌≡◌, ◌<◌, ◌≤◌, ◌+◌, ℕ, zero, suc, Bool, false, List, [], ◌∷◌, None, Some, length, map, get_or, set, refl, sym, subst, ◌∙◌, ap, arith}
use Rattle.std.specs.Prelude.{slice_get}
use Rattle.store_api.specs.Stores.{empty_store}
use Rattle.alone.specs.Machine.{Machine}
use Rattle.alone.specs.Step.{Restarted, step}
use Rattle.app_side.specs.Represents.{Represents as Runs_as, boot_of, is_lost, machine_over, turns_of}
use Rattle.app_side.specs.declared.side.AppSide.{AppSide}
use Rattle.tee_core.specs.Powers.{restarts_from}
use Rattle.tee_core.specs.Sides.{AreBooted, AreLost, AreSides}
use Rattle.tee_core.specs.World.{World}
use Rattle.tee_core.proofs.SideLemmas.{side_at, sides_set, some_machine}

-- ---- machines

module _ {A : Type 0} (behaviour : Behaviour A) (kept : ℕ → Bool) where
  -- so many machines from this index on after the power came back, and the others before it
  abbrev pub first_restarts : ℕ → ℕ → World A → World A
  first_restarts r zero world = world
  first_restarts r (suc n) [] = []
  first_restarts r (suc n) (m ∷ world) = (step behaviour m (Restarted (kept r))).machine ∷ first_restarts (r + 1) n world

  -- the next is still as it was
  pub firsts_at : (r n : ℕ) (world : World A) → slice_get (first_restarts r n world) n ≡ slice_get world n
  firsts_at r zero world = refl
  firsts_at r (suc n) [] = refl
  firsts_at r (suc n) (m ∷ world) = firsts_at (r + 1) n world

  -- one more
  pub firsts_more : (r n : ℕ) (world : World A) (m : Machine A) → slice_get world n ≡ Some m → set (first_restarts r n world) n
      (step behaviour m (Restarted (kept (r + n)))).machine ≡ first_restarts r (suc n) world
  firsts_more r n [] m here = absurd (let e : None ≡ Some m = here in cc)
  firsts_more r zero (k ∷ world) m here =
      let same : k ≡ m = let e : Some k ≡ Some m = here in cc in
      let at : r + 0 ≡ r = omega arith in
      ap (λ i. (step behaviour m (Restarted (kept i))).machine ∷ world) at ∙ ap (λ (x : Machine A). (step behaviour x (Restarted (kept r))).machine ∷ world) (sym same)
  firsts_more r (suc n) (k ∷ world) m here =
      let at : r + suc n ≡ r + 1 + n = omega arith in
      ap (λ (ms : World A). (step behaviour k (Restarted (kept r))).machine ∷ ms)
      (ap (λ i. set (first_restarts (r + 1) n world) n (step behaviour m (Restarted (kept i))).machine) at ∙ firsts_more (r + 1) n world m here)

  -- all of them
  pub firsts_all : (r n : ℕ) (world : World A) → length world ≤ n → first_restarts r n world ≡ restarts_from behaviour kept r world
  firsts_all r zero [] few = refl
  firsts_all r zero (m ∷ world) few = absurd (omega (arith, few))
  firsts_all r (suc n) [] few = refl
  firsts_all r (suc n) (m ∷ world) few = ap (λ (ms : World A). (step behaviour m (Restarted (kept r))).machine ∷ ms) (firsts_all (r + 1) n world (omega (arith, few)))

-- ---- applications

module _ {A : Type 0} (behaviour : Behaviour A) (took : Bool) (old new : AppSide A) (steps : (m : Machine A) → Runs_as old m → Runs_as new (step behaviour m (Restarted took)).machine) where
  pub restart_turns : turns_of new ≡ turns_of old
  restart_turns = sym (ap (λ (x : Machine A). x.turns) (steps (machine_over old empty_store empty_store) (some_machine old)).parts)

  pub restart_boot : boot_of new ≡ boot_of old + 1
  restart_boot = sym (ap (λ (x : Machine A). x.boot) (steps (machine_over old empty_store empty_store) (some_machine old)).parts)

  -- one more of them is restarted
  pub sides_restarted : (kept : ℕ → Bool) (ss : List (AppSide A)) (world : World A) (n : ℕ) (d : AppSide A) → AreSides ss (first_restarts behaviour kept 0 n world) →
      n < length ss → old ≡ get_or ss n d → took ≡ kept n
      → AreSides (set ss n new) (first_restarts behaviour kept 0 (suc n) world)
  sides_restarted kept ss world n d are lt value same =
      let p = side_at ss (first_restarts behaviour kept 0 n world) n are lt in
      let stands = steps p.0 (subst (λ (s : AppSide A). Runs_as s p.0) (sym value) (p.2 d)) in
      let at : took ≡ kept (0 + n) = same ∙ ap kept (omega arith) in
      subst (λ (ms : World A). AreSides (set ss n new) ms) (firsts_more behaviour kept 0 n world p.0 (sym (firsts_at behaviour kept 0 n world) ∙ p.1))
      (sides_set ss (first_restarts behaviour kept 0 n world) n new (step behaviour p.0 (Restarted (kept (0 + n)))).machine are
      (subst (λ (b : Bool). Runs_as new (step behaviour p.0 (Restarted b)).machine) at stands))

-- the turns stay where one that has the same is set
pub turns_set : {A : Type 0} (ss : List (AppSide A)) (n : ℕ) (old new d : AppSide A) → n < length ss → old ≡ get_or ss n d → turns_of new ≡ turns_of old →
    map (λ s. turns_of s) (set ss n new) ≡ map (λ s. turns_of s) ss
turns_set {A} [] n old new d lt value same = refl
turns_set {A} (s ∷ ss) zero old new d lt value same = ap (λ k. k ∷ map (λ (x : AppSide A). turns_of x) ss) (same ∙ ap (λ (x : AppSide A). turns_of x) value)
turns_set {A} (s ∷ ss) (suc n) old new d lt value same = ap (λ ks. turns_of s ∷ ks) (turns_set ss n old new d (omega (arith, lt)) value same)

-- the first so many have counted one more loss of the power, and serve; the others have counted these
abbrev pub AreBack : {A : Type 0} → ℕ → ℕ → List (AppSide A) → Type 0
AreBack boots zero ss = AreBooted boots ss
AreBack boots (suc n) [] = Unit {0}
AreBack boots (suc n) (s ∷ ss) = (is_lost s ≡ false) × (boot_of s ≡ boots + 1) × AreBack boots n ss

pub back_more : {A : Type 0} (boots n : ℕ) (ss : List (AppSide A)) (s : AppSide A) → AreBack boots n ss → is_lost s ≡ false → boot_of s ≡ boots + 1 → AreBack boots (suc n) (set ss n s)
back_more boots n [] s are works booted = tt
back_more boots zero (k ∷ ss) s are works booted = (works, booted, are.1)
back_more boots (suc n) (k ∷ ss) s are works booted = (are.0, are.1, back_more boots n ss s are.2 works booted)

pub back_next : {A : Type 0} (boots n : ℕ) (ss : List (AppSide A)) (d : AppSide A) → AreBack boots n ss → n < length ss → boot_of (get_or ss n d) ≡ boots
back_next boots n [] d are lt = absurd (omega (arith, lt))
back_next boots zero (k ∷ ss) d are lt = are.0
back_next boots (suc n) (k ∷ ss) d are lt = back_next boots n ss d are.2 (omega (arith, lt))

pub back_lost : {A : Type 0} (boots n : ℕ) (ss : List (AppSide A)) → AreBack boots n ss → length ss ≤ n → AreLost false ss
back_lost boots n [] are few = tt
back_lost boots zero (k ∷ ss) are few = absurd (omega (arith, few))
back_lost boots (suc n) (k ∷ ss) are few = (are.0, back_lost boots n ss are.2 (omega (arith, few)))

pub back_booted : {A : Type 0} (boots n : ℕ) (ss : List (AppSide A)) → AreBack boots n ss → length ss ≤ n → AreBooted (boots + 1) ss
back_booted boots n [] are few = tt
back_booted boots zero (k ∷ ss) are few = absurd (omega (arith, few))
back_booted boots (suc n) (k ∷ ss) are few = (are.1, back_booted boots n ss are.2 (omega (arith, few)))

pub set_length : {X : Type 0} (xs : List X) (n : ℕ) (x : X) → length (set xs n x) ≡ length xs
set_length [] n x = refl
set_length (y ∷ xs) zero x = refl
set_length (y ∷ xs) (suc n) x = ap (λ k. suc k) (set_length xs n x)
