-- What a crash may leave: of a device, a volume, a store. Each has a clock, which goes on with its calls.
use Rattle.std.specs.Prelude.{◌≡◌, ◌⊎◌, ◌≤◌, ℕ}

-- A crash at any moment since old left what has P. moment is the clock, and left_since value t c says that a crash at
-- some moment of the value's past, from t on, or now, may have left c.
pub record LeavesOnly {D : Type 0} {C : Type 0} (moment : D → ℕ) (left_since : D → ℕ → C → Type 0) (old new : D) (P : C → Type 0) : Type 0 where
  pub later : moment old ≤ moment new
  pub each : (c : C) → left_since new (moment old) c → P c
  -- for a run that began earlier: nothing else is new
  pub before : (t : ℕ) (c : C) → t ≤ moment old → left_since new t c → left_since old t c ⊎ P c

-- what a crash left below, as the layer above reads it
abbrev pub read_as : {C O : Type 0} → (C → O) → (ℕ → C → Type 0) → ℕ → O → Type 0
read_as {C} {O} outcome left_since t o = (c : C) × left_since t c × (o ≡ outcome c)
