-- One call after another forgets nothing of what a crash might have left.
use Rattle.std.proofs.Common.{◌≡◌, ◌+◌, ◌∷◌, ◌++◌, ◌∙◌, List, [], length, refl, sym, ap, subst, inl, inr, ⊎_elim, arith, append_assoc}
use Rattle.board.specs.Moment.{IsBehind, Moment, View, IsLeft, WasLeft, moment}
use Rattle.board.specs.Steps.{Answered, Passes}
use Rattle.epoch.specs.Past.{KeepsPast}

pub passed : (old new : View) → Passes old new → KeepsPast old new
passed old new time =
    let count : moment new ≡ moment old + 1 = (let longer = ap length time.past in omega arith) in
    record {
      later = omega arith;
      past = λ t c le left. inr (subst (λ (past : List Moment). WasLeft past t c) (sym time.past)
          (⊎_elim (λ (now : IsLeft old.state c). inl (le, now)) (λ (was : WasLeft old.past t c). inr was) left));
      behind = inr ([], time.past);
    }

pub once : (old new : View) → Answered old new → KeepsPast old new
once old new answered = passed old new answered.time

-- what is behind something that is behind a third is behind the third
pub behind_more : (old mid new : View) → IsBehind old mid → IsBehind mid new → IsBehind old new
behind_more old mid new one two =
    ⊎_elim
    (λ (same : (mid.state ≡ old.state) × (mid.past ≡ old.past)). ⊎_elim
    (λ (still : (new.state ≡ mid.state) × (new.past ≡ mid.past)). inl (still.0 ∙ same.0, still.1 ∙ same.1))
    (λ (later : (more : List Moment) × (new.past ≡ more ++ mid.state ∷ mid.past)). inr (later.0, later.1 ∙ (rw (same.0, same.1) refl)))
    two)
    (λ (later : (more : List Moment) × (mid.past ≡ more ++ old.state ∷ old.past)). ⊎_elim
    (λ (still : (new.state ≡ mid.state) × (new.past ≡ mid.past)). inr (later.0, still.1 ∙ later.1))
    (λ (last : (more : List Moment) × (new.past ≡ more ++ mid.state ∷ mid.past)).
    inr (last.0 ++ mid.state ∷ later.0, last.1 ∙ ap (λ (p : List Moment). last.0 ++ mid.state ∷ p) later.1 ∙ sym (append_assoc last.0 (mid.state ∷ later.0) (old.state ∷ old.past))))
    two)
    one

pub followed : (old mid new : View) → KeepsPast old mid → KeepsPast mid new → KeepsPast old new
followed old mid new one two = record {
  later = omega (arith, one.later, two.later);
  past = λ t c le left. two.past t c (omega (arith, le, one.later)) (one.past t c le left);
  behind = behind_more old mid new one.behind two.behind;
}

pub itself : (v : View) → KeepsPast v v
itself v = record { later = omega arith; past = λ t c le left. left; behind = inl (refl, refl) }
