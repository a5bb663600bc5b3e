-- How a race ends, by how its workers did.
use Rattle.std.specs.Prelude.{ℕ, ◌≡◌, ◌≢◌, ◌<◌, List, Result, Ok, Err, Some, slice_get}
use Rattle.race.specs.declared.client.Stopped.{Stopped}
use Rattle.race.specs.declared.client.Stopped.TheVariants as stops
use Rattle.race.specs.declared.worker.Worker.{Worker}

-- how two workers ended, the second behind the first: want of memory counts most, and the first of two full logs
abbrev pub worse_of : Result (Unit {0}) Stopped → Result (Unit {0}) Stopped → Result (Unit {0}) Stopped
worse_of (Ok done) other = other
worse_of (Err stops.NoMemory) other = Err stops.NoMemory
worse_of (Err (stops.LogFull full)) (Ok done) = Err (stops.LogFull full)
worse_of (Err (stops.LogFull full)) (Err stops.NoMemory) = Err stops.NoMemory
worse_of (Err (stops.LogFull full)) (Err (stops.LogFull other)) = Err (stops.LogFull full)

module _ {V A : Type 0} where
  -- one of the first workers, so many, had no memory
  pub record HasStarved (count : ℕ) (workers : List (Worker V A)) : Type 0 where
    pub place : ℕ
    pub one : Worker V A
    pub within : place < count
    pub here : slice_get workers place ≡ Some one
    pub ended : one.ended ≡ Err stops.NoMemory

  -- none of them had no memory. One of them found the log of this application full, and all before it made all of their lines
  pub record HasFilled (count full : ℕ) (workers : List (Worker V A)) : Type 0 where
    pub place : ℕ
    pub one : Worker V A
    pub within : place < count
    pub here : slice_get workers place ≡ Some one
    pub ended : one.ended ≡ Err (stops.LogFull full)
    pub before : (i : ℕ) (w : Worker V A) → i < place → slice_get workers i ≡ Some w → w.ended ≡ Ok tt
    pub served : (i : ℕ) (w : Worker V A) → i < count → slice_get workers i ≡ Some w → w.ended ≢ Err stops.NoMemory

  -- how a race ends whose first workers, so many, ended so
  abbrev pub IsOutcome : ℕ → List (Worker V A) → Result (Unit {0}) Stopped → Type 0
  IsOutcome count workers (Ok done) = (i : ℕ) (w : Worker V A) → i < count → slice_get workers i ≡ Some w → w.ended ≡ Ok done
  IsOutcome count workers (Err (stops.LogFull full)) = HasFilled count full workers
  IsOutcome count workers (Err stops.NoMemory) = HasStarved count workers
