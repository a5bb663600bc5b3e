-- What is so of the passes of a race, and of its workers.
use Rattle.app_api.specs.Behaviours.{Behaviour}
use Rattle.std.specs.Prelude.{ℕ, ◌≡◌, List, [], Some, slice_get}
use Rattle.store_api.specs.Volumes.{VolumeKeeper}
use Rattle.shared_tee.specs.Passes.{PassView, log_of}
use Rattle.script.specs.declared.line.Line.{Line}
use Rattle.race.specs.declared.client.Stopped.{Stopped}
use Rattle.race.specs.declared.client.Stopped.TheVariants as stops
use Rattle.race.specs.Wishes.{wishes_of}
use Rattle.race.specs.Following.{Follows}
use Rattle.race.specs.Clients.{FindsFull, FollowsTill, WhereMarked}

module _ {V A : Type 0} where
  -- none of these passes knows of an entry
  abbrev pub KnowNone : List (PassView V A) → Type 0
  KnowNone passes = (i : ℕ) (p : PassView V A) → slice_get passes i ≡ Some p → log_of p ≡ []

-- behaviour has the applications' two stated functions
module _ {V A : Type 0} (K : VolumeKeeper V) (behaviour : Behaviour A) where
  -- what each client made of each application are the entries of its lines for it
  abbrev pub AllFollow : List Line → List (PassView V A) → Type 0
  AllFollow lines passes = (i : ℕ) (p : PassView V A) → slice_get passes i ≡ Some p
      → WhereMarked K p (λ m. Follows behaviour m p.client (log_of p) (wishes_of p.app p.client lines))

  -- the same of a race that was stopped
  abbrev pub AllFollowTill : Stopped → List Line → List (PassView V A) → Type 0
  AllFollowTill why lines passes = (i : ℕ) (p : PassView V A) → slice_get passes i ≡ Some p
      → WhereMarked K p (λ m. FollowsTill behaviour why m p.client (log_of p) (wishes_of p.app p.client lines))

  -- a line of a client for this application found its log full
  pub record FilledBy (app : ℕ) (lines : List Line) (passes : List (PassView V A)) : Type 0 where
    pub place : ℕ
    pub pass : PassView V A
    pub here : slice_get passes place ≡ Some pass
    pub app_is : pass.app ≡ app
    pub finds : FindsFull K behaviour pass.client (wishes_of app pass.client lines) pass

  -- where a full log stopped the race, a line found it so
  abbrev pub IsFilled : Stopped → List Line → List (PassView V A) → Type 0
  IsFilled (stops.LogFull full) lines passes = FilledBy full lines passes
  IsFilled stops.NoMemory lines passes = Unit {0}
