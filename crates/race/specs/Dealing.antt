-- How the passes of all applications are dealt to the clients.
use Rattle.std.specs.Prelude.{ℕ, ◌≡◌, ◌<◌, ◌≤◌, ◌+◌, ◌*◌, List, [], Some, length, slice_get, vec_capacity}
use Rattle.shared_tee.specs.Passes.{PassView}
use Rattle.race.specs.declared.worker.Worker.{Worker}

module _ {V A : Type 0} where
  -- the worker is this client's. It has no pass so far, and room for so many
  pub record IsIdle (count client : ℕ) (w : Worker V A) : Type 0 where
    pub client_is : w.client ≡ client
    pub none : w.passes.items ≡ []
    pub room : count ≤ vec_capacity w.passes

  -- there is one such worker for each of eight clients, in their order
  pub record AreIdle (count : ℕ) (workers : List (Worker V A)) : Type 0 where
    pub eight : length workers ≡ 8
    pub each : (client : ℕ) (w : Worker V A) → slice_get workers client ≡ Some w → IsIdle count client w

  -- the worker is this client's, and has the client's pass of each of so many applications, in their order. All passes stand by
  -- application and then by client
  pub record HasOwn (count : ℕ) (all : List (PassView V A)) (client : ℕ) (w : Worker V A) : Type 0 where
    pub client_is : w.client ≡ client
    pub size : length w.passes.items ≡ count
    pub each : (app : ℕ) → app < count → slice_get w.passes.items app ≡ slice_get all (8 * app + client)

  -- so has each of eight workers
  pub record AreDealt (count : ℕ) (all : List (PassView V A)) (workers : List (Worker V A)) : Type 0 where
    pub size : length all ≡ 8 * count
    pub eight : length workers ≡ 8
    pub each : (client : ℕ) (w : Worker V A) → slice_get workers client ≡ Some w → HasOwn count all client w

  -- each of these passes is the one of its application and its client
  abbrev pub StandInOrder : List (PassView V A) → Type 0
  StandInOrder all = (i : ℕ) (p : PassView V A) → slice_get all i ≡ Some p → (p.client < 8) × (i ≡ 8 * p.app + p.client)
