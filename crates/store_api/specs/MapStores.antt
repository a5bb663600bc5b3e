-- A store in memory: which of its calls fail, and what a crash may leave of it.
use Rattle.std.specs.Prelude.{ℕ, ◌≡◌, ◌≤◌, ◌⊎◌, ◌↔◌, Bool, true, false, List, [], ◌∷◌, Some, Result, Ok, Err, IsErrOf, Contains, refl, length}
use Rattle.std.specs.Coded.{Coded, code_by, coded×, coded_ℕ, coded_list, coded_bool}
use Rattle.tee_base.specs.Fakes.{Plan, opening_plan, plan_after_call}
use Rattle.store_api.specs.declared.answer.StoreAnswer.{StoreAnswer}
use Rattle.store_api.specs.declared.answer.StoreAnswer.TheVariants.{Lost, Failed, Corrupt, Garbled}
use Rattle.store_api.specs.Foundations.{no_foundation}
use Rattle.store_api.specs.Stores.{Store, empty_store, coded_store}
use Rattle.store_api.specs.Keeping.{Status, Rest, Contents, Remains, Keeper}

-- the store, the stores before it with the last of them first, which calls fail, whether one did, and how many changes were tried
pub record MapState : Type 0 where
  pub store : Store
  pub past : List Store
  pub plan : Plan
  pub lost : Bool
  pub change_attempts : ℕ

-- a plan as numbers and lists
abbrev pub coded_plan : Coded Plan
coded_plan =
    code_by (List ℕ × (ℕ × ℕ)) (coded× (coded_list coded_ℕ) (coded× coded_ℕ coded_ℕ))
    (λ p. (p.failing, (p.calls, p.faults))) (λ p. record { failing = p.0; calls = p.1.0; faults = p.1.1 }) (λ _. refl)

-- the state as numbers and lists
abbrev pub coded_state : Coded MapState
coded_state =
    code_by ((Store × List Store) × (Plan × (Bool × ℕ))) (coded× (coded× coded_store (coded_list coded_store)) (coded× coded_plan (coded× coded_bool coded_ℕ)))
    (λ s. ((s.store, s.past), (s.plan, (s.lost, s.change_attempts))))
    (λ p. record { store = p.0.0; past = p.0.1; plan = p.1.0; lost = p.1.1.0; change_attempts = p.1.1.1 }) (λ _. refl)

-- how a store in memory begins
abbrev pub opening_state : List ℕ → MapState
opening_state failing = record { store = empty_store; past = []; plan = opening_plan failing; lost = false; change_attempts = 0 }

-- memory takes no orders and has no damage
abbrev pub status_of : MapState → Status
status_of s = record { lost = s.lost; faults = s.plan.faults; foundation = no_foundation; damage_reports = 0; change_attempts = s.change_attempts }

-- memory keeps nothing beside the store
abbrev pub nothing_else : Rest
nothing_else = record { leaves = λ region leaf. [] }

-- the changes are counted
abbrev pub contents_after : List Store → Store → Contents
contents_after past store = record { store = store; rest = nothing_else; number = length past }

-- what is kept now
abbrev pub contents_of : MapState → Contents
contents_of s = contents_after s.past s.store

-- a crash at a moment of the past, from t on, leaves what was kept then
abbrev pub LeftBefore : List Store → ℕ → Remains → Type 0
LeftBefore [] t o = ⊥
LeftBefore (store ∷ past) t o = ((t ≤ length past) × (o ≡ Some (contents_after past store))) ⊎ LeftBefore past t o

-- the clock: how many changes were made
abbrev pub moment_of : MapState → ℕ
moment_of s = length s.past

-- what a crash since a moment may have left
abbrev pub left_of : MapState → ℕ → Remains → Type 0
left_of s t o = (o ≡ Some (contents_of s)) ⊎ LeftBefore s.past t o

-- a store in memory as a keeper: it is honest, and has a store to answer from
abbrev pub map_keeper : Keeper MapState
map_keeper = record {
  has_model = λ s. Unit {0};
  contents = contents_of;
  status = status_of;
  honest_below = λ s. Unit {0};
  honest = λ s. Unit {0};
  damage = λ s answer. ⊥;
  moment = moment_of;
  left_since = left_of;
}

-- the plan after a call: a call that is made is counted, and one that failed counts as a fault; a lost store makes none
abbrev pub plan_after : {A : Type 0} → Result A StoreAnswer → Plan → Plan
plan_after (Err Lost) plan = plan
plan_after (Err Failed) plan = plan_after_call true plan
plan_after _ plan = plan_after_call false plan

-- a call fails exactly where its number is among those that are to fail
abbrev pub FailsAsPlanned : {A : Type 0} → Result A StoreAnswer → MapState → Type 0
FailsAsPlanned result s = s.lost ≡ false → IsErrOf result Failed ↔ Contains s.plan.failing s.plan.calls

-- an answer of a store that is neither lost nor failing nor damaged
abbrev pub IsOwn : {A : Type 0} → Result A StoreAnswer → Type 0
IsOwn (Err Lost) = ⊥
IsOwn (Err Failed) = ⊥
IsOwn (Err (Corrupt tags)) = ⊥
IsOwn (Err (Garbled leaf)) = ⊥
IsOwn _ = Unit {0}

-- how a call begins: it is made, or it is one that is to fail, or the store is lost
abbrev pub Begins : {A : Type 0} → Result A StoreAnswer → MapState → MapState → Type 0
Begins (Ok done) old new = (old.lost ≡ false) × ¬ (Contains old.plan.failing old.plan.calls) × (new ≡ record old { plan = plan_after_call false old.plan })
Begins (Err Failed) old new = (old.lost ≡ false) × Contains old.plan.failing old.plan.calls × (new ≡ record old { plan = plan_after_call true old.plan; lost = true })
Begins (Err Lost) old new = (old.lost ≡ true) × (new ≡ old)
Begins (Err _) old new = ⊥
