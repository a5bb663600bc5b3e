-- Hosts that can be run side by side.
use Rattle.std.specs.Prelude.{ℕ, ◌≢◌, ◌<◌, ◌≤◌, ◌⊎◌, List, All, AllPairs, codes, length, slice_index}
use Rattle.app_api.specs.declared.host.Host.{Host}

-- the character is a lower-case letter
abbrev pub IsLowercase : ℕ → Type 0
IsLowercase c = (97 ≤ c) × (c ≤ 122)

-- the character is a digit
abbrev pub IsDigit : ℕ → Type 0
IsDigit c = (48 ≤ c) × (c ≤ 57)

-- what may name a host: a lower-case letter, then lower-case letters or digits, and no word that begins another line of a script
pub record IsName (name : List ℕ) : Type 0 where
  pub some : 0 < length name
  pub short : length name ≤ 16
  pub first : IsLowercase (slice_index name 0)
  pub each : All (λ c. IsLowercase c ⊎ IsDigit c) name
  pub not_board : name ≢ codes "board"
  pub not_client : name ≢ codes "client"

-- two hosts that differ in name and in identifier
pub record IsApart {A : Type 0} (one other : Host A) : Type 0 where
  pub names : one.name ≢ other.name
  pub ids : one.id ≢ other.id

-- 1 to 16 hosts, each with a name, no two alike
pub record HostsFit {A : Type 0} (hosts : List (Host A)) : Type 0 where
  pub some : 0 < length hosts
  pub few : length hosts ≤ 16
  pub named : All (λ host. IsName host.name) hosts
  pub apart : AllPairs IsApart hosts
