-- What a walk over places answers.
use Rattle.std.specs.Prelude.{◌≡◌, ℕ, Bool, true, false, List, length, Option, Some, None, Result, Ok, Err}
use Rattle.store_api.specs.declared.answer.Mismatch.{Mismatch}
use Rattle.tree_paths.specs.Tree.{Look}
use Rattle.tree_paths.specs.Walk.{Visit, first_wrong}
use Rattle.tree_paths.specs.declared.walk.VerifyAnswer.{VerifyAnswer}
use Rattle.tree_paths.specs.declared.walk.VerifyAnswer.TheVariants as answers

-- the answer is that a call of the board failed
abbrev pub has_failed : {A : Type 0} → Result A VerifyAnswer → Bool
has_failed (Err answers.Failed) = true
has_failed _ = false

-- what is answered of one place with this damage
abbrev pub ShowsPlace : {A : Type 0} → Result A VerifyAnswer → ℕ → Option Mismatch → Type 0
ShowsPlace (Ok done) place damage = damage ≡ None
ShowsPlace (Err (answers.Wrong found tags)) place damage = (found ≡ place) × (damage ≡ Some tags)
ShowsPlace (Err _) place damage = Unit {0}

-- what is answered of the places that a walk comes to: that all are right, and how many they are; or the first that is wrong
abbrev pub AnswersWalk : Look → List Visit → Result ℕ VerifyAnswer → Type 0
AnswersWalk look visits (Ok count) = (first_wrong look visits ≡ None) × (count ≡ length visits)
AnswersWalk look visits (Err (answers.Wrong place tags)) = first_wrong look visits ≡ Some (record { place = place; tags = tags })
AnswersWalk look visits (Err _) = Unit {0}
