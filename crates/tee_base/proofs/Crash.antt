-- How what a crash leaves is carried on: over one call after another, and up a layer.
use Rattle.std.proofs.Common.{◌≡◌, ℕ, ◌⊎◌, sym, ◌∙◌, subst, inl, inr, ⊎_elim, arith}
use Rattle.tee_base.specs.Crash.{LeavesOnly, read_as}

-- before the first call: what it may leave now has P
pub started : {D C : Type 0} (moment : D → ℕ) (left_since : D → ℕ → C → Type 0) (old : D) (P : C → Type 0) → ((c : C) → left_since old (moment old) c → P c) → LeavesOnly moment left_since old old P
started moment left_since old P now = record { later = omega arith; each = now; before = λ t c le left. inl left }

-- one run after another
pub joined : {D C : Type 0} (moment : D → ℕ) (left_since : D → ℕ → C → Type 0) (old mid new : D) (P : C → Type 0) → LeavesOnly moment left_since old mid P →
    LeavesOnly moment left_since mid new P → LeavesOnly moment left_since old new P
joined moment left_since old mid new P one two = record {
  later = omega (arith, one.later, two.later);
  each = λ c left. ⊎_elim (one.each c) (λ (p : P c). p) (two.before (moment old) c one.later left);
  before = λ t c le left. ⊎_elim (one.before t c le) (λ (p : P c). inr p) (two.before t c (omega (arith, le, one.later)) left);
}

-- what has P has Q
pub weaker : {D C : Type 0} (moment : D → ℕ) (left_since : D → ℕ → C → Type 0) (old new : D) (P Q : C → Type 0) → ((c : C) → P c → Q c) → LeavesOnly moment left_since old new P →
    LeavesOnly moment left_since old new Q
weaker moment left_since old new P Q implies run = record {
  later = run.later;
  each = λ c left. implies c (run.each c left);
  before = λ t c le left. ⊎_elim (λ (l : left_since old t c). inl l) (λ (p : P c). inr (implies c p)) (run.before t c le left);
}

-- a run that leaves what has P, and then one that leaves what has Q
pub either : {D C : Type 0} (moment : D → ℕ) (left_since : D → ℕ → C → Type 0) (old mid new : D) (P Q : C → Type 0) → LeavesOnly moment left_since old mid P →
    LeavesOnly moment left_since mid new Q → LeavesOnly moment left_since old new (λ c. P c ⊎ Q c)
either moment left_since old mid new P Q one two =
    joined moment left_since old mid new (λ c. P c ⊎ Q c)
    (weaker moment left_since old mid P (λ c. P c ⊎ Q c) (λ c p. inl p) one)
    (weaker moment left_since mid new Q (λ c. P c ⊎ Q c) (λ c q. inr q) two)

-- up a layer: below is the thing that the value stands on, and outcome how the value reads what a crash leaves of it
pub mapped : {D C E O : Type 0} (moment : D → ℕ) (left_since : D → ℕ → C → Type 0) (below : E → D) (outcome : E → C → O) (old new : E) (P : O → Type 0) →
    ((c : C) → outcome new c ≡ outcome old c) → LeavesOnly moment left_since (below old) (below new) (λ c. P (outcome new c)) →
    LeavesOnly (λ e. moment (below e)) (λ e. read_as (outcome e) (left_since (below e))) old new P
mapped moment left_since below outcome old new P same run = record {
  later = run.later;
  each = λ o left. subst P (sym left.2) (run.each left.0 left.1);
  before = λ t o le left. ⊎_elim (λ (l : left_since (below old) t left.0). inl (left.0, l, left.2 ∙ same left.0)) (λ (p : P (outcome new left.0)). inr (subst P (sym left.2) p))
      (run.before t left.0 le left.1);
}
