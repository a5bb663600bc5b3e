-- What is answered of a volume of the first version.
use Rattle.std.specs.Prelude.{◌≡◌, ◌<◌, ℕ, Bool, true, false, not, List, None, Some, Result, Ok, Err}
use Rattle.tee_base.specs.Words.{RegionLeaves}
use Rattle.tee_base.specs.declared.limits.TheConstants.{MAX_HOSTS}
use Rattle.store_api.specs.declared.answer.Mismatch.{Mismatch}
use Rattle.store_api.specs.declared.leaves.Leaf.{Leaf}
use Rattle.store_api.specs.declared.leaves.LeafAnswer.{LeafAnswer}
use Rattle.store_api.specs.declared.leaves.LeafAnswer.TheVariants as leaf
use Rattle.epoch.specs.declared.answer.OpenAnswer.{OpenAnswer}
use Rattle.epoch.specs.declared.answer.OpenAnswer.TheVariants as refusals
use Rattle.region_plan.specs.Layout.{layout}
use Rattle.region_plan.specs.Regions.{region_of}
use Rattle.region_plan.specs.declared.form.Form.TheVariants.{One}
use Rattle.v1_volume.specs.Checking.{Stand}
use Rattle.tree_paths.specs.Tree.{Look}
use Rattle.tree_paths.specs.Walk.{Visit, first_wrong}
use Rattle.v1_volume.specs.Old.{IsConverted, IsFirstBroken}
use Rattle.v1_volume.specs.declared.answer.OldAnswer.{OldAnswer}
use Rattle.v1_volume.specs.declared.answer.OldAnswer.TheVariants as answers

-- what a read of a leaf answers, told of the volume
abbrev pub old_answer : LeafAnswer → OldAnswer
old_answer (leaf.Mismatch tags) = answers.Mismatch tags
old_answer leaf.NoMemory = answers.NoMemory
old_answer leaf.Lost = answers.Failed
old_answer leaf.Failed = answers.Failed

-- what is answered of a volume of the first version, told of the opening
abbrev pub open_answer : OldAnswer → OpenAnswer
open_answer answers.Failed = refusals.Failed
open_answer answers.NoMemory = refusals.NoMemory
open_answer (answers.Mismatch tags) = refusals.OldMismatch tags
open_answer (answers.Garbled region leaf) = refusals.OldGarbled region leaf

-- the answer is of what was read: two tags that differ, or a broken rule
abbrev pub is_of_image : OldAnswer → Bool
is_of_image answers.Failed = false
is_of_image answers.NoMemory = false
is_of_image _ = true

-- the answer is that a call of the board failed
abbrev pub has_failed : OldAnswer → Bool
has_failed answers.Failed = true
has_failed _ = false

-- no call of the board failed
abbrev pub no_fault : {A : Type 0} → Result A OldAnswer → Bool
no_fault (Ok done) = true
no_fault (Err answer) = not (has_failed answer)

-- an answer of damage, if it is one, is of tags that meet this
abbrev pub IfMismatch : {A : Type 0} → Result A OldAnswer → (Mismatch → Type 0) → Type 0
IfMismatch (Err (answers.Mismatch tags)) fact = fact tags
IfMismatch _ fact = Unit {0}

-- what is answered of the places that a walk comes to: the first two tags that differ, or there are none
abbrev pub AnswersWalk : {A : Type 0} → Look → List Visit → Result A OldAnswer → Type 0
AnswersWalk look visits (Ok done) = first_wrong look visits ≡ None
AnswersWalk look visits (Err (answers.Garbled region leaf)) = first_wrong look visits ≡ None
AnswersWalk look visits (Err (answers.Mismatch tags)) =
    (place : ℕ) × (first_wrong look visits ≡ Some (record { place = place; tags = tags }))
AnswersWalk look visits (Err _) = Unit {0}

-- what is answered of one region of the first form: what it becomes, or the least leaf that breaks a rule
abbrev pub AnswersRegion : ℕ → RegionLeaves → Result (List Leaf) OldAnswer → Type 0
AnswersRegion region leaves (Ok named) = IsConverted leaves named
AnswersRegion region leaves (Err (answers.Garbled number leaf)) =
    (number ≡ region) × (region_of (layout One) leaves ≡ Err leaf)
AnswersRegion region leaves (Err _) = Unit {0}

-- what is answered of the rules of all regions: that each stands for a store, or the first that breaks a rule
abbrev pub AnswersRules : {A : Type 0} → (ℕ → RegionLeaves) → Result A OldAnswer → Type 0
AnswersRules regions (Ok done) = (region : ℕ) → region < MAX_HOSTS → Stand (regions region)
AnswersRules regions (Err (answers.Garbled region leaf)) = IsFirstBroken regions region leaf
AnswersRules regions (Err _) = Unit {0}
