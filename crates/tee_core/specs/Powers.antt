-- What a loss of power is for the world, and what a refused one leaves.
use Rattle.app_api.specs.Behaviours.{Behaviour}
use Rattle.std.specs.Prelude.{ℕ, ◌<◌, ◌≤◌, ◌+◌, Bool, true, false, [], ◌∷◌, Option, None, Some, Result, Ok, Err, map}
use Rattle.alone.specs.declared.power.Power.{Power}
use Rattle.alone.specs.declared.power.Power.TheVariants.{Clean, Kept, Absent}
use Rattle.alone.specs.Machine.{Machine}
use Rattle.alone.specs.Step.{Restarted, step}
use Rattle.epoch.specs.Opening.{is_no_failure}
use Rattle.epoch.specs.declared.answer.OpenAnswer.{OpenAnswer}
use Rattle.tee_core.specs.Represents.{HasDoubt, kept_of, none_kept}
use Rattle.tee_core.specs.World.{World}

-- the application of which the change in doubt is kept, if it is that of one
abbrev pub kept_one : Option ℕ → ℕ → Bool
kept_one None = none_kept
kept_one (Some owner) = kept_of owner

-- what is told of a power where this application has a change in doubt, if one has, and the greater sequence was opened
abbrev pub told_of : Option ℕ → Bool → Power
told_of None kept = Clean
told_of (Some owner) true = Kept owner
told_of (Some owner) false = Absent owner

-- of which application the change in doubt is kept
abbrev pub kept_by : Power → ℕ → Bool
kept_by Clean = none_kept
kept_by (Kept owner) = kept_of owner
kept_by (Absent owner) = none_kept

-- what is told of a power: the change in doubt is kept exactly where the sequence that was opened is greater than the last
-- acknowledged one, and there is none where the power was clean
abbrev pub IsTold : {A : Type 0} → Power → World A → ℕ → ℕ → Type 0
IsTold Clean world acknowledged opened = (owner : ℕ) → HasDoubt owner world → ⊥
IsTold (Kept owner) world acknowledged opened = HasDoubt owner world × (acknowledged < opened)
IsTold (Absent owner) world acknowledged opened = HasDoubt owner world × (opened ≤ acknowledged)

-- the answer shows that no block was written: it is a refusal, and no call failed
abbrev pub shows_unwritten : {X : Type 0} → Result X OpenAnswer → Bool
shows_unwritten (Ok told) = false
shows_unwritten (Err why) = is_no_failure why

-- the storage of every machine is lost
abbrev pub all_lost : {A : Type 0} → World A → World A
all_lost {A} world = map (λ (m : Machine A). record m { lost = true }) world

module _ {A : Type 0} (behaviour : Behaviour A) where
  -- the machines from this index on after the power came back
  abbrev pub restarts_from : (ℕ → Bool) → ℕ → World A → World A
  restarts_from kept index [] = []
  restarts_from kept index (m ∷ world) = (step behaviour m (Restarted (kept index))).machine ∷ restarts_from kept (index + 1) world

  -- the world after the power came back, of which this was told
  abbrev pub after_power : World A → Power → World A
  after_power world told = restarts_from (kept_by told) 0 world
