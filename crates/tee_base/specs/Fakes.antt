-- Sources and sinks in memory: which of their calls fail.
use Rattle.std.specs.Prelude.{◌≡◌, ℕ, [], List, Bool, Contains, if◌then◌else◌}
use Rattle.tee_base.specs.Faults.{one_more}

-- the numbers of the calls that are to fail, how many calls there were, how many failed; the counts stop at their type's end
pub record Plan : Type 0 where
  pub failing : List ℕ
  pub calls : ℕ
  pub faults : ℕ

-- the plan before the first call: these calls are to fail
abbrev pub opening_plan : List ℕ → Plan
opening_plan failing = record { failing = failing; calls = 0; faults = 0 }

-- after one more call, which failed or not
abbrev pub plan_after_call : Bool → Plan → Plan
plan_after_call fails plan = record {
  failing = plan.failing;
  calls = one_more plan.calls;
  faults = if fails then one_more plan.faults else plan.faults;
}

-- the last call that the plan counted was to fail
abbrev pub HasJustFailed : Plan → Type 0
HasJustFailed plan = (n : ℕ) × (plan.calls ≡ one_more n) × Contains plan.failing n

-- a source in memory: the bytes left
pub record Feed : Type 0 where
  pub left : List ℕ
  pub plan : Plan

-- the source of these bytes before the first call, of which these calls are to fail
abbrev pub opening_feed : List ℕ → List ℕ → Feed
opening_feed bytes failing = record { left = bytes; plan = opening_plan failing }

-- a sink in memory: the bytes written
pub record Tray : Type 0 where
  pub written : List ℕ
  pub plan : Plan

-- the empty sink before the first call, of which these calls are to fail
abbrev pub opening_tray : List ℕ → Tray
opening_tray failing = record { written = []; plan = opening_plan failing }
