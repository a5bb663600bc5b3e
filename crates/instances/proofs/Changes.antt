-- What an admission says, and that each change keeps what a table keeps.
use Rattle.std.proofs.Common.{◌≡◌, ◌<◌, ◌≤◌, ◌==◌, ℕ, Bool, true, false, cond, not, ◌&&◌, ◌||◌, nat_le, List, [], ◌∷◌, ◌++◌}
use Rattle.std.proofs.Common.{Result, Ok, Err, is_some, length, map, filter, IfOk, refl, ap, subst, arith}
use Rattle.std.proofs.lemmas.Bool.{cond_both, leb-false, both_ways}
use Rattle.std.proofs.lemmas.List.{length_push, length-map}
use Rattle.std.proofs.lemmas.List.Sums.{length-filter, count_by-le-length}
use Rattle.tee_base.specs.Numbers.{lowest_free}
use Rattle.tee_base.specs.declared.limits.TheConstants.{MAX_INSTANCES, MAX_SESSIONS}
use Rattle.app_api.specs.declared.login.Login.{Login}
use Rattle.instances.specs.declared.session.Session.{Session}
use Rattle.instances.specs.declared.session.Slot.{Slot}
use Rattle.instances.specs.declared.session.SessionState.{SessionState}
use Rattle.instances.specs.declared.session.SessionState.TheVariants.{Opening, Dead}
use Rattle.instances.specs.declared.instances.Admission.{Admission}
use Rattle.instances.specs.declared.instances.Refusal.{Refusal}
use Rattle.instances.specs.Instances.{Table, IsTable, session_of, session_numbers, instance_numbers, admission_of, own_instance, shared_instance, has_session, busy}
use Rattle.instances.specs.Instances.{bad_state, with_session, with_state, state_set, session_removed, with_ending, destroy_begun, stays_after_end, dead_if_of, without_instance}
use Rattle.instances.proofs.Fitting.{Fits, Fits-push, Fits-filter, Fits-map, number_of, number_of_slot, slots_Fits, sessions_Fits, IsTable-from_Fits}

-- an admission's numbers are free, and there is room for them
pub record IsAdmitted (t : Table) (a : Admission) : Type 0 where
  pub room : length t.sessions < MAX_SESSIONS
  pub session : a.session ≡ lowest_free (session_numbers t)
  pub slots : a.new_instance ≡ true → length t.slots < MAX_INSTANCES
  pub instance : a.new_instance ≡ true → a.instance ≡ lowest_free (instance_numbers t)
  pub one : a.new_instance ≡ true → t.properties.single ≡ true → length t.slots ≤ 0

own_IsAdmitted : (t : Table) → length t.sessions < MAX_SESSIONS → (t.properties.single ≡ true → length t.slots ≤ 0) → IfOk (own_instance t) (IsAdmitted t)
own_IsAdmitted t room none =
    cond_both (nat_le MAX_INSTANCES (length t.slots)) (Err busy) (Ok (record {
      session = lowest_free (session_numbers t);
      instance = lowest_free (instance_numbers t);
      new_instance =
          true;
    })) (λ (r : Result Admission Refusal). IfOk r (IsAdmitted t))
    (λ _. tt)
    (λ free. record { room = room; session = refl; slots = λ _. leb-false _ _ free; instance = λ _. refl; one = λ _. none })

shared_IsAdmitted : (t : Table) (slots : List Slot) → t.slots ≡ slots → length t.sessions < MAX_SESSIONS → IfOk (shared_instance t slots) (IsAdmitted t)
shared_IsAdmitted t [] e room = own_IsAdmitted t room (λ _. omega (arith, ap length e))
shared_IsAdmitted t (slot ∷ slots) e room =
    cond_both ((has_session t slot.number && not t.properties.multi) || slot.ending) (Err busy) (Ok (record {
      session = lowest_free (session_numbers t);
      instance =
          slot.number;
      new_instance = false;
    })) (λ (r : Result Admission Refusal). IfOk r (IsAdmitted t))
    (λ _. tt)
    (λ _. record { room = room; session = refl; slots = λ h. absurd (both_ways _ refl h); instance = λ h. absurd (both_ways _ refl h); one = λ h. absurd (both_ways _ refl h) })

some_IsAdmitted : (t : Table) (client label : ℕ) → IfOk (admission_of t client label) (IsAdmitted t)
some_IsAdmitted t client label =
    let P : Result Admission Refusal → Type 0 = λ r. IfOk r (IsAdmitted t) in
    let inner : Result Admission Refusal = cond t.properties.single (shared_instance t t.slots) (own_instance t) in
    let middle : Result Admission Refusal = cond (nat_le MAX_SESSIONS (length t.sessions)) (Err busy) inner in
    cond_both (is_some (session_of t client label)) (Err bad_state) middle P (λ _. tt)
    (λ _. cond_both (nat_le MAX_SESSIONS (length t.sessions)) (Err busy) inner P (λ _. tt)
    (λ few. cond_both t.properties.single (shared_instance t t.slots) (own_instance t) P
    (λ _. shared_IsAdmitted t t.slots refl (leb-false _ _ few))
    (λ many. own_IsAdmitted t (leb-false _ _ few) (λ single. absurd (both_ways _ many single)))))

pub admission_IsAdmitted : (t : Table) (client label : ℕ) (a : Admission) → admission_of t client label ≡ Ok a → IsAdmitted t a
admission_IsAdmitted t client label a e = subst (λ (r : Result Admission Refusal). IfOk r (IsAdmitted t)) e (some_IsAdmitted t client label)

-- what a table keeps of its instances
record SlotsFit (single : Bool) (slots : List Slot) : Type 0 where
  numbers : Fits number_of_slot MAX_INSTANCES slots
  one : single ≡ true → length slots ≤ 1

pub entered_IsTable : (t : Table) (client label : ℕ) (login : Login) (a : Admission) → IsTable t → IsAdmitted t a → IsTable (with_session t client label login a)
entered_IsTable t client label login a old fits =
    let session : Session = record { client = client; label = label; number = a.session; instance = a.instance; state = Opening; login = login } in
    let slot : Slot = record { number = a.instance; ending = false } in
    let slots : SlotsFit t.properties.single (cond a.new_instance (t.slots ++ slot ∷ []) t.slots) =
    cond_both a.new_instance (t.slots ++ slot ∷ []) t.slots (SlotsFit t.properties.single)
    (λ new. record {
      numbers = Fits-push number_of_slot MAX_INSTANCES t.slots slot (slots_Fits t old) (fits.instance new) (fits.slots new);
      one =
          λ single. omega (arith, length_push t.slots slot, fits.one new single);
    })
    (λ _. record { numbers = slots_Fits t old; one = old.one_instance }) in
    IsTable-from_Fits (with_session t client label login a) slots.numbers (Fits-push number_of MAX_SESSIONS t.sessions session (sessions_Fits t old) fits.session fits.room) slots.one

-- with other instances, of which there aren't more
pub with_slots : (t : Table) (slots : List Slot) → IsTable t → Fits number_of_slot MAX_INSTANCES slots → length slots ≤ length t.slots → IsTable (record t { slots = slots })
with_slots t slots old fits fewer = IsTable-from_Fits (record t { slots = slots }) fits (sessions_Fits t old) (λ single. omega (arith, old.one_instance single))

pub with_sessions : (t : Table) (sessions : List Session) → IsTable t → Fits number_of MAX_SESSIONS sessions → IsTable (record t { sessions = sessions })
with_sessions t sessions old fits = IsTable-from_Fits (record t { sessions = sessions }) (slots_Fits t old) fits old.one_instance

keeps_number : (b : Bool) (one other : Session) → one.number ≡ other.number → (cond b one other).number ≡ other.number
keeps_number true one other e = e
keeps_number false one other e = refl

keeps_slot_number : (b : Bool) (one other : Slot) → one.number ≡ other.number → (cond b one other).number ≡ other.number
keeps_slot_number true one other e = e
keeps_slot_number false one other e = refl

pub state_set_IsTable : (t : Table) (number : ℕ) (state : SessionState) → IsTable t → IsTable (state_set t number state)
state_set_IsTable t number state old =
    with_sessions t (map (with_state number state) t.sessions) old (Fits-map number_of MAX_SESSIONS (with_state number state) t.sessions
    (λ s. keeps_number (s.number == number) (record s { state = state }) s refl) (sessions_Fits t old))

pub removed_IsTable : (t : Table) (number : ℕ) → IsTable t → IsTable (session_removed t number)
removed_IsTable t number old =
    with_sessions t (filter (λ s. not (s.number == number)) t.sessions) old (Fits-filter number_of MAX_SESSIONS (λ s. not (s.number == number)) t.sessions (sessions_Fits t old))

pub destroy_begun_IsTable : (t : Table) (instance : ℕ) → IsTable t → IsTable (destroy_begun t instance)
destroy_begun_IsTable t instance old =
    with_slots t (map (with_ending instance) t.slots) old (Fits-map number_of_slot MAX_INSTANCES (with_ending instance) t.slots
    (λ slot. keeps_slot_number (slot.number == instance) (record slot { ending = true }) slot refl) (slots_Fits t old))
    (omega (arith, length-map t.slots (with_ending instance)))

pub ended_IsTable : (t : Table) (instance : ℕ) → IsTable t → IsTable (without_instance t instance)
ended_IsTable t instance old =
    let p : Slot → Bool = λ slot. not (slot.number == instance) in
    let fewer : IsTable (record t { slots = filter p t.slots }) = with_slots t (filter p t.slots) old (Fits-filter number_of_slot MAX_INSTANCES p t.slots (slots_Fits t old))
    (omega (arith, length-filter p t.slots, count_by-le-length p t.slots)) in
    let kept : List Session = filter (stays_after_end instance) t.sessions in
    with_sessions (record t { slots = filter p t.slots }) (map (dead_if_of instance) kept) fewer (Fits-map number_of MAX_SESSIONS (dead_if_of instance) kept
    (λ s. keeps_number (s.instance == instance) (record s { state = Dead }) s refl) (Fits-filter number_of MAX_SESSIONS (stays_after_end instance) t.sessions
    (sessions_Fits t old)))
