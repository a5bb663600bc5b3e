-- What is so of the workers of a race.
use Rattle.app_api.specs.Behaviours.{Behaviour}
use Rattle.std.specs.Prelude.{ℕ, ◌≡◌, List, [], ◌∷◌, Result, Ok, Err, Some, length, slice_get}
use Rattle.std.specs.List.{AllByRecursion}
use Rattle.store_api.specs.Volumes.{VolumeKeeper}
use Rattle.shared_tee.specs.Passes.{PassView, Places}
use Rattle.script.specs.declared.line.Line.{Line}
use Rattle.race.specs.declared.client.Stopped.{Stopped}
use Rattle.race.specs.Wishes.{NameApps}
use Rattle.race.specs.Clients.{AllKnowMore, AllServe, AllServeTill, FindsItFull}
use Rattle.race.specs.declared.worker.Worker.{Worker}

module _ {V A : Type 0} where
  -- there is a worker for each of eight clients, in their order, and each has a pass of each of so many applications
  pub record HaveAll (count : ℕ) (workers : List (Worker V A)) : Type 0 where
    pub eight : length workers ≡ 8
    pub client : (client : ℕ) (w : Worker V A) → slice_get workers client ≡ Some w → w.client ≡ client
    pub size : (client : ℕ) (w : Worker V A) → slice_get workers client ≡ Some w → length w.passes.items ≡ count

-- behaviour has the applications' two stated functions
module _ {V A : Type 0} (K : VolumeKeeper V) (behaviour : Behaviour A) (places : Places) where
  -- a worker may begin: it has its client's passes of all applications that the lines name, and they made nothing so far
  pub record MayRun (lines : List Line) (w : Worker V A) : Type 0 where
    pub named : NameApps (length w.passes.items) lines
    pub begins : AllServe K behaviour places w.client [] w.passes.items

  -- so may all of these
  abbrev pub AllMayRun : List Line → List (Worker V A) → Type 0
  AllMayRun lines workers = AllByRecursion (λ (w : Worker V A). MayRun lines w) workers

  -- how the lines of a client ended tells what its passes made
  abbrev pub HasEnded : List Line → ℕ → Result (Unit {0}) Stopped → List (PassView V A) → Type 0
  HasEnded lines client (Ok done) passes = AllServe K behaviour places client lines passes
  HasEnded lines client (Err why) passes =
      AllServeTill K behaviour why places client lines passes × FindsItFull K behaviour why client lines passes

  -- a worker ended: it has its passes still, and each knows no less than before
  pub record HasRun (lines : List Line) (old new : Worker V A) : Type 0 where
    pub client : new.client ≡ old.client
    pub known : AllKnowMore old.passes.items new.passes.items
    pub ended : HasEnded lines new.client new.ended new.passes.items

  -- so did all of these, each where it stood
  abbrev pub AllHaveRun : List Line → List (Worker V A) → List (Worker V A) → Type 0
  AllHaveRun lines [] [] = Unit {0}
  AllHaveRun lines [] (w ∷ new) = ⊥
  AllHaveRun lines (v ∷ old) [] = ⊥
  AllHaveRun lines (v ∷ old) (w ∷ new) = HasRun lines v w × AllHaveRun lines old new
