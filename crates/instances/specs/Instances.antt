-- Instances and sessions of one application (TEE Internal Core API 1.3, sections 2.1.3 and 4.5; TEE Client API 1.0, section 4.5.5).
use Rattle.std.specs.Prelude.{ℕ, ◌≡◌, ◌≢◌, ◌≤◌, ◌==◌, nat_le, Bool, true, false, not, ◌&&◌, ◌||◌, List, [], ◌∷◌, ◌++◌, Option, None, Some}
use Rattle.std.specs.Prelude.{is_some, option_map, Result, Ok, Err, if◌then◌else◌, find, filter, map, length, All, AllPairs}
use Rattle.std.specs.List.{list_any}
use Rattle.tee_base.specs.Numbers.{lowest_free}
use Rattle.tee_base.specs.declared.codes.Origin.TheVariants.{Api, Tee}
use Rattle.tee_base.specs.declared.codes.TheConstants.Code.{BUSY, BAD_STATE}
use Rattle.tee_base.specs.declared.limits.TheConstants.{MAX_INSTANCES, MAX_SESSIONS}
use Rattle.app_api.specs.declared.host.Properties.{Properties}
use Rattle.app_api.specs.declared.login.Login.{Login}
use Rattle.instances.specs.declared.session.Session.{Session}
use Rattle.instances.specs.declared.session.Slot.{Slot}
use Rattle.instances.specs.declared.session.SessionFacts.{SessionFacts}
use Rattle.instances.specs.declared.session.SessionState.{SessionState}
use Rattle.instances.specs.declared.session.SessionState.TheVariants.{Opening, Open, Closing, Dead}
use Rattle.instances.specs.declared.instances.Admission.{Admission}
use Rattle.instances.specs.declared.instances.Refusal.{Refusal}
use Rattle.tee_base.specs.Words.{InstanceNumber}

-- the instances that exist, and the sessions, both in the order in which they came
pub record Table : Type 0 where
  pub properties : Properties
  pub slots : List Slot
  pub sessions : List Session

-- the table of an application that has no instance and no session yet
abbrev pub no_instances : Properties → Table
no_instances properties = record { properties = properties; slots = []; sessions = [] }

-- the client knows the session by this label
abbrev pub is_known_as : ℕ → ℕ → Session → Bool
is_known_as client label s = (s.client == client) && (s.label == label)

-- the session that the client knows by this label, where there is one
abbrev pub session_of : Table → ℕ → ℕ → Option Session
session_of t client label = find (is_known_as client label) t.sessions

-- the login with which the session of this number was opened, where there is one
abbrev pub login_in : Table → ℕ → Option Login
login_in t number = option_map (λ s. s.login) (find (λ s. s.number == number) t.sessions)

-- what is told of a session
abbrev pub facts_of : Session → SessionFacts
facts_of s = record { session = s.number; instance = s.instance; state = s.state }

-- the session is dead: its instance ended while it was open
abbrev pub is_dead : SessionState → Bool
is_dead Opening = false
is_dead Open = false
is_dead Closing = false
is_dead Dead = true

-- a session that is opening, open or closing counts as a session of its instance
abbrev pub counts_for : InstanceNumber → Session → Bool
counts_for instance s = (s.instance == instance) && not (is_dead s.state)

-- the instance has a session that counts
abbrev pub has_session : Table → InstanceNumber → Bool
has_session t instance = list_any (counts_for instance) t.sessions

-- an application of one instance that stays without a session
abbrev pub is_kept_alive : Properties → Bool
is_kept_alive properties = properties.single && properties.keep

-- the instance has no session and isn't kept alive
abbrev pub is_left : Table → InstanceNumber → Bool
is_left t instance = not (has_session t instance) && not (is_kept_alive t.properties)

-- there is an instance of this number
abbrev pub slot_exists : Table → InstanceNumber → Bool
slot_exists t instance = list_any (λ slot. slot.number == instance) t.slots

-- the numbers of all sessions
abbrev pub session_numbers : Table → List ℕ
session_numbers t = map (λ s. s.number) t.sessions

-- the numbers of all instances
abbrev pub instance_numbers : Table → List ℕ
instance_numbers t = map (λ slot. slot.number) t.slots

-- the refusal of a label that is in use, from the client's own library
abbrev pub bad_state : Refusal
bad_state = record { code = BAD_STATE; origin = Api }

-- the refusal where there is no room, from the runtime
abbrev pub busy : Refusal
busy = record { code = BUSY; origin = Tee }

-- an instance of its own: the lowest free number of four
abbrev pub own_instance : Table → Result Admission Refusal
own_instance t =
    if nat_le MAX_INSTANCES (length t.slots) then Err busy
    else Ok (record { session = lowest_free (session_numbers t); instance = lowest_free (instance_numbers t); new_instance = true })

-- the one instance: it takes no second session unless it is multi, and none once its destroy entry has begun
abbrev pub shared_instance : Table → List Slot → Result Admission Refusal
shared_instance t [] = own_instance t
shared_instance t (slot ∷ slots) =
    if (has_session t slot.number && not t.properties.multi) || slot.ending then Err busy
    else Ok (record { session = lowest_free (session_numbers t); instance = slot.number; new_instance = false })

-- what a client's open is admitted to, or the first refusal: a label in use, eight sessions, no room in the one instance, four instances
abbrev pub admission_of : Table → ℕ → ℕ → Result Admission Refusal
admission_of t client label =
    if is_some (session_of t client label) then Err bad_state
    else if nat_le MAX_SESSIONS (length t.sessions) then Err busy
    else if t.properties.single then shared_instance t t.slots
    else own_instance t

-- the table with one session more, which is opening and keeps its client's login, and with its instance where that is new
abbrev pub with_session : Table → ℕ → ℕ → Login → Admission → Table
with_session t client label login a = record {
  properties = t.properties;
  slots = if a.new_instance then t.slots ++ record { number = a.instance; ending = false } ∷ [] else t.slots;
  sessions = t.sessions ++ record { client = client; label = label; number = a.session; instance = a.instance; state = Opening; login = login } ∷ [];
}

-- the session, in this state if it has this number
abbrev pub with_state : ℕ → SessionState → Session → Session
with_state number state s = if s.number == number then record s { state = state } else s

-- the table with this state at the session of this number
abbrev pub state_set : Table → ℕ → SessionState → Table
state_set t number state = record t { sessions = map (with_state number state) t.sessions }

-- the table without the session of this number
abbrev pub session_removed : Table → ℕ → Table
session_removed t number = record t { sessions = filter (λ s. not (s.number == number)) t.sessions }

-- the instance, with its end begun if it has this number
abbrev pub with_ending : InstanceNumber → Slot → Slot
with_ending instance slot = if slot.number == instance then record slot { ending = true } else slot

-- the table once the destroy entry of this instance has begun
abbrev pub destroy_begun : Table → InstanceNumber → Table
destroy_begun t instance = record t { slots = map (with_ending instance) t.slots }

-- an open session of the instance is dead, a dead one stays, and an opening or closing one goes
abbrev pub state_after_end : SessionState → Option SessionState
state_after_end Opening = None
state_after_end Open = Some Dead
state_after_end Closing = None
state_after_end Dead = Some Dead

-- the session is still there once the instance has ended
abbrev pub stays_after_end : InstanceNumber → Session → Bool
stays_after_end instance s = not (s.instance == instance) || is_some (state_after_end s.state)

-- the session, dead if it is of this instance
abbrev pub dead_if_of : InstanceNumber → Session → Session
dead_if_of instance s = if s.instance == instance then record s { state = Dead } else s

-- the table without the instance
abbrev pub without_instance : Table → InstanceNumber → Table
without_instance t instance = record {
  properties = t.properties;
  slots = filter (λ slot. not (slot.number == instance)) t.slots;
  sessions = map (dead_if_of instance) (filter (stays_after_end instance) t.sessions);
}

-- the session is there
abbrev pub has_number : Table → ℕ → Bool
has_number t number = list_any (λ s. s.number == number) t.sessions

-- two sessions that differ in number
abbrev pub AreApart : Session → Session → Type 0
AreApart s other = s.number ≢ other.number

-- two instances that differ in number
abbrev pub SlotsApart : Slot → Slot → Type 0
SlotsApart slot other = slot.number ≢ other.number

-- what each table keeps: at most four instances, numbered from 1 to 4, and one of an application that is single;
-- at most eight sessions, numbered from 1 to 8; and no number twice
pub record IsTable (t : Table) : Type 0 where
  pub few_slots : length t.slots ≤ MAX_INSTANCES
  pub few_sessions : length t.sessions ≤ MAX_SESSIONS
  pub instance_numbers : All (λ slot. (1 ≤ slot.number) × (slot.number ≤ MAX_INSTANCES)) t.slots
  pub session_numbers : All (λ s. (1 ≤ s.number) × (s.number ≤ MAX_SESSIONS)) t.sessions
  pub slots_apart : AllPairs SlotsApart t.slots
  pub sessions_apart : AllPairs AreApart t.sessions
  pub one_instance : t.properties.single ≡ true → length t.slots ≤ 1
