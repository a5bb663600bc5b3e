-- What holds of a machine before and after each event (TEE Internal Core API 1.3, section 5.7.3).
use Rattle.std.specs.Prelude.{ℕ, ◌≡◌, ◌<◌, ◌^◌, map}
use Rattle.crypto_ops.specs.Random.{stream_at}
use Rattle.instances.specs.Instances.{instance_numbers}
use Rattle.object_asks.specs.Valid.{IsValidObjects}
use Rattle.alone.specs.Asks.{objects_of}
use Rattle.alone.specs.Machine.{Machine}

-- the random bytes are those of the application's stream in this boot, from some word on
pub record IsOwnStream {A : Type 0} (m : Machine A) : Type 0 where
  pub place : ℕ
  pub within : place < 2 ^ 68
  pub stream : m.crypto.random ≡ stream_at m.seed m.index m.boot place

-- what is held in memory fits the store; the instances are those of the table; and the random bytes are the application's own
pub record IsValid {A : Type 0} (m : Machine A) : Type 0 where
  pub objects : IsValidObjects (objects_of m)
  pub instances : map (λ inst. inst.number) m.instances ≡ instance_numbers m.table
  pub random : IsOwnStream m
