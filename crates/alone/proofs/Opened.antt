-- A call that waits leaves what holds of every machine.
use Rattle.std.proofs.Common.{ℕ, ◌≡◌, ◌+◌, ◌≤◌, ◌<◌, ◌==◌, ◌&&◌, ◌||◌, ◌⊎◌, nat_eq, nat_le, Bool, true, false, not, cond, List, [], ◌∷◌, ◌++◌, find, map, length}
use Rattle.std.proofs.Common.{count_by, Some, Result, Ok, Err, IfOk, is_some, refl, sym, ap, subst, ◌∙◌, ⊎_elim, inl, inr, eq-eqb, arith}
use Rattle.std.specs.List.{AllByRecursion, list_any}
use Rattle.std.proofs.lemmas.Bool.{cases_Bool, cond_both, both_ways, eqb-true, and_parts, not-true}
use Rattle.std.proofs.lemmas.Map.Views.{Contains-from_any}
use Rattle.app_api.specs.declared.call.Call.{Call}
use Rattle.app_api.specs.Calls.{call_references}
use Rattle.app_api.specs.declared.call.Call.TheVariants as calls
use Rattle.app_api.specs.declared.login.Login.{Login}
use Rattle.app_api.specs.declared.param.Params.{Params}
use Rattle.tee_base.specs.Numbers.{lowest_free}
use Rattle.tee_base.specs.declared.limits.TheConstants.{MAX_INSTANCES, MAX_SESSIONS}
use Rattle.tee_base.proofs.LowestFree.{lowest_free-free}
use Rattle.instances.specs.declared.session.Session.{Session}
use Rattle.instances.specs.declared.session.Slot.{Slot}
use Rattle.instances.specs.declared.session.SessionFacts.{SessionFacts}
use Rattle.instances.specs.declared.session.SessionState.{SessionState}
use Rattle.instances.specs.declared.session.SessionState.TheVariants.{Opening, Open, Closing, Dead}
use Rattle.instances.specs.declared.instances.Admission.{Admission}
use Rattle.instances.specs.declared.instances.Refusal.{Refusal}
use Rattle.instances.specs.Instances.{Table, IsTable, instance_numbers, session_numbers, session_of, is_dead, facts_of, admission_of, own_instance}
use Rattle.instances.specs.Instances.{shared_instance, has_session, busy, bad_state, with_session, with_state, state_set, session_removed}
use Rattle.instances.proofs.Changes.{admission_IsAdmitted, entered_IsTable, state_set_IsTable, removed_IsTable}
use Rattle.op_queue.specs.declared.operation.Operation.{Operation}
use Rattle.op_queue.specs.declared.operation.Progress.TheVariants.{Waiting}
use Rattle.op_queue.specs.Queue.{Queue, is_close, is_full, is_close_call, with_operation, with_number_used}
use Rattle.op_queue.proofs.Keeps.{submitted_IsQueue, skipped_IsQueue}
use Rattle.alone.specs.declared.active_entry.Instance.{Instance}
use Rattle.alone.specs.Step.{new_instance}
use Rattle.alone.proofs.Totals.{bit, total, total_push, alike, found_has}
use Rattle.alone.proofs.Each.{each_filter, each_map, each_both, each_weaker, each_more, numbers_push, or_later, still_there, now_there}
use Rattle.alone.proofs.Calm.{IsCalm, calm_entered, calm_le, counting, counts_in, endings, sessions_of}
use Rattle.alone.proofs.Closes.{closes_few}
use Rattle.alone.proofs.Sound.{IsSound, HasSlot, claim_of, claim_of_call, claim_in, run_of, Run, weigh, weigh_in, held_by, held_in, runs_in}
use Rattle.alone.proofs.Sessions.{both, held, session_number, held_by_held, held_in_held, closing_held, counting_removed, counting_set, dead_gone, sessions_once}

never_full : (b : Bool) → (b && false) ≡ false
never_full true = refl
never_full false = refl

-- what is needed of a session whose state is set
abbrev pub IsHome : Table → ℕ → Session → Type 0
IsHome t n s = (is_dead s.state ≡ false → HasSlot t s.instance) × (s.number ≡ n → HasSlot t s.instance)

pub home_set : (t : Table) (n : ℕ) (state : SessionState) → AllByRecursion (IsHome t n) t.sessions
    → AllByRecursion (λ s. is_dead s.state ≡ false → HasSlot t s.instance) (map (with_state n state) t.sessions)
home_set t n state h =
    each_map (IsHome t n) (λ s. is_dead s.state ≡ false → HasSlot t s.instance) (with_state n state) t.sessions
    (λ s here. cond_both (s.number == n) (record s { state = state }) s (λ (o : Session). is_dead o.state ≡ false → HasSlot t o.instance) (λ yes _. here.1 (eqb-true s.number n yes)) (λ _. here.0)) h

module _ {A : Type 0} where
  -- a number is used up
  pub sound_skipped : (q : Queue) (t : Table) (xs : List (Instance A)) → IsSound q t xs → IsSound (with_number_used q) t xs
  sound_skipped q t xs h = record {
    queue = skipped_IsQueue q h.queue;
    table = h.table;
    numbers = h.numbers;
    sessions = h.sessions;
    operations = h.operations;
    held = h.held;
    runs = h.runs;
    calm = h.calm;
  }

  -- a dead session goes
  pub sound_dead : (q : Queue) (t : Table) (xs : List (Instance A)) (p : Session → Bool) (s : Session) → IsSound q t xs → find p t.sessions ≡ Some s
      → s.state ≡ Dead → IsSound q (session_removed t s.number) xs
  sound_dead q t xs p s h e dead = record {
    queue = h.queue;
    table = removed_IsTable t s.number h.table;
    numbers = h.numbers;
    sessions = each_filter (λ x. is_dead x.state ≡ false → HasSlot t x.instance) (λ x. not (x.number == s.number)) t.sessions h.sessions;
    operations = h.operations;
    held = λ r. omega (arith, held_by_held r q.operations, held_in_held r xs, h.held (both held r), dead_gone r p t.sessions s (sessions_once t h.table s.number) e dead);
    runs = h.runs;
    calm = calm_le t (session_removed t s.number) xs xs h.calm refl (counting_removed s.number t.sessions) (λ i. omega arith) (λ i. omega arith);
  }

  -- one more operation waits, with these sessions and instances
  pub sound_queued : (q : Queue) (t after : Table) (xs ys : List (Instance A)) (client i session : ℕ) (call : Call) → IsSound q t xs
      → (is_full q && not (is_close_call call)) ≡ false → (is_close_call call ≡ true → count_by (λ o. is_close o.progress) q.operations < 8)
      → IsTable after → map (λ y. y.number) ys ≡ instance_numbers after → AllByRecursion (λ s. is_dead s.state ≡ false → HasSlot after s.instance) after.sessions
      → ((k : ℕ) → HasSlot t k → HasSlot after k) → HasSlot after i
      → ((p : SessionFacts → Bool) → held_by p q.operations + held_in p ys + weigh p (claim_of_call session i call) ≤ sessions_of p after.sessions) → ((p : Run → Bool) → runs_in p xs ≤ runs_in p ys)
      → IsCalm after ys
      → IsSound (with_operation q client i session call) after ys
  sound_queued q t after xs ys client i session call h free few table numbers sessions stay there held_after runs_after calm =
      let o : Operation = record { number = q.next; client = client; session = session; instance = i; references = call_references call; progress = Waiting call } in
      record {
        queue = submitted_IsQueue q client i session call free few h.queue;
        table = table;
        numbers = numbers;
        sessions = sessions;
        operations = each_more (λ x. HasSlot after x.instance) q.operations o
            (each_weaker (λ x. HasSlot t x.instance) (λ x. HasSlot after x.instance) q.operations (λ x. stay x.instance) h.operations) there;
        held = λ p. omega (arith, total_push (λ x. weigh p (claim_of x)) q.operations o, held_after p);
        runs = λ p. omega (arith, total_push (λ x. weigh p (run_of x)) q.operations o, h.runs p, runs_after p);
        calm = calm;
      }

  -- an invoke waits
  pub sound_invoke : (q : Queue) (t : Table) (xs : List (Instance A)) (client i session label command : ℕ) (ps : Params) → IsSound q t xs → is_full q ≡ false
      → HasSlot t i → IsSound (with_operation q client i session (calls.Invoke label command ps)) t xs
  sound_invoke q t xs client i session label command ps h free there =
      sound_queued q t t xs xs client i session (calls.Invoke label command ps) h (ap (λ b. b && true) free)
      (λ never. absurd (both_ways _ refl never)) h.table h.numbers h.sessions (λ k here. here) there
      (λ p. omega (arith, h.held p)) (λ p. omega arith) h.calm

  -- a close waits, and its session is closing
  pub sound_close : (q : Queue) (t : Table) (xs : List (Instance A)) (p : Session → Bool) (s : Session) (client label : ℕ) → IsSound q t xs
      → find p t.sessions ≡ Some s → s.state ≡ Open → IsSound (with_operation q client s.instance s.number (calls.Close label)) (state_set t s.number Closing) xs
  sound_close q t xs p s client label h e was =
      let there : HasSlot t s.instance = found_has (λ x. is_dead x.state ≡ false → HasSlot t x.instance) p t.sessions s h.sessions e (ap is_dead was) in
      sound_queued q t (state_set t s.number Closing) xs xs client s.instance s.number (calls.Close label) h (never_full (is_full q)) (λ _. closes_few q t xs p s h e was)
      (state_set_IsTable t s.number Closing h.table) h.numbers
      (home_set t s.number Closing
      (each_both (λ x. is_dead x.state ≡ false → HasSlot t x.instance) (λ x. x.number ≡ s.number → x ≡ s) (IsHome t s.number) t.sessions
      (λ x alive same. (alive, λ number. subst (λ (o : Session). HasSlot t o.instance) (sym (same number)) there)) h.sessions
      (alike session_number s.number p t.sessions s (sessions_once t h.table s.number) e refl)))
      (λ k here. here) there
      (λ r. omega (arith, held_by_held r q.operations, held_in_held r xs, h.held (both held r), closing_held r p t.sessions s (sessions_once t h.table s.number) e was))
      (λ r. omega arith)
      (calm_le t (state_set t s.number Closing) xs xs h.calm refl
      (counting_set s.number Closing t.sessions
      (each_weaker (λ x. x.number ≡ s.number → x ≡ s) (λ x. x.number ≡ s.number → is_dead x.state ≡ false) t.sessions
      (λ x same number. ap (λ (o : Session). is_dead o.state) (same number) ∙ ap is_dead was) (alike session_number s.number p t.sessions s (sessions_once t h.table s.number) e refl)))
      (λ i. omega arith) (λ i. omega arith))

-- ---- an open

-- an admission is to an instance of its own, or to one that is there; that isn't ending; and is new where the application isn't single
record IsTo (t : Table) (a : Admission) : Type 0 where
  place : (a.new_instance ≡ true) ⊎ ((a.new_instance ≡ false) × HasSlot t a.instance)
  free : endings a.instance t.slots ≡ 0
  lone : t.properties.single ≡ false → HasSlot t a.instance → ⊥

-- the lowest free number isn't taken
not_there : (ns : List ℕ) → list_any (nat_eq (lowest_free ns)) ns ≡ true → ⊥
not_there ns there = lowest_free-free ns (Contains-from_any eqb-true (lowest_free ns) ns there)

none_ends : (n : ℕ) (slots : List Slot) → (list_any (nat_eq n) (map (λ s. s.number) slots) ≡ true → ⊥) → endings n slots ≡ 0
none_ends n [] no_place = refl
none_ends n (slot ∷ slots) no_place = ⊎_elim
    (λ (yes : (slot.number == n) ≡ true).
    absurd (no_place (ap (λ b. b || list_any (nat_eq n) (map (λ (s : Slot). s.number) slots)) (eq-eqb n slot.number (sym (eqb-true slot.number n yes))))))
    (λ (other : (slot.number == n) ≡ false).
    omega (arith, ap (λ b. bit (b && slot.ending)) other, none_ends n slots (λ there. no_place (or_later (nat_eq n slot.number) (list_any (nat_eq n) (map (λ (s : Slot). s.number) slots)) there))))
    (cases_Bool (slot.number == n))

own_IsTo : (t : Table) → IfOk (own_instance t) (IsTo t)
own_IsTo t =
    cond_both (nat_le MAX_INSTANCES (length t.slots)) (Err busy)
    (Ok (record { session = lowest_free (session_numbers t); instance = lowest_free (instance_numbers t); new_instance = true })) (λ (r : Result Admission Refusal). IfOk r (IsTo t))
    (λ _. tt)
    (λ _. record { place = inl refl; free = none_ends (lowest_free (instance_numbers t)) t.slots (not_there (instance_numbers t)); lone = λ _. not_there (instance_numbers t) })

-- of the one place that there is
one_free : (slot : Slot) (slots : List Slot) (b : Bool) → (b || slot.ending) ≡ false → length (slot ∷ slots) ≤ 1 → endings slot.number (slot ∷ slots) ≡ 0
one_free slot [] true e one = absurd (both_ways _ e refl)
one_free slot [] false e one = none (slot.number == slot.number) slot.ending e
  where
    none : (a b : Bool) → b ≡ false → bit (a && b) + 0 ≡ 0
    none true b e = omega (arith, ap bit e)
    none false b e = refl
one_free slot (other ∷ slots) b e one = absurd (omega (arith, one))

shared_IsTo : (t : Table) (slots : List Slot) → t.slots ≡ slots → length t.slots ≤ 1 → t.properties.single ≡ true → IfOk (shared_instance t slots) (IsTo t)
shared_IsTo t [] e one single = own_IsTo t
shared_IsTo t (slot ∷ slots) e one single =
    let numbers : instance_numbers t ≡ slot.number ∷ map (λ (s : Slot). s.number) slots = ap (map (λ (s : Slot). s.number)) e in
    let there : HasSlot t slot.number = ap (list_any (nat_eq slot.number)) numbers ∙ ap
    (λ b. b || list_any (nat_eq slot.number) (map (λ (s : Slot). s.number) slots)) (eq-eqb slot.number slot.number refl) in
    cond_both ((has_session t slot.number && not t.properties.multi) || slot.ending) (Err busy)
    (Ok (record { session = lowest_free (session_numbers t); instance = slot.number; new_instance = false })) (λ (r : Result Admission Refusal). IfOk r (IsTo t))
    (λ _. tt)
    (λ here. record {
      place = inr (refl, there);
      free = ap (endings slot.number) e ∙ one_free slot slots (has_session t slot.number && not t.properties.multi) here (omega (arith, one, ap length e));
      lone = λ many _. both_ways _ many single;
    })

some_IsTo : (t : Table) (client label : ℕ) → IsTable t → IfOk (admission_of t client label) (IsTo t)
some_IsTo t client label table =
    let P : Result Admission Refusal → Type 0 = λ r. IfOk r (IsTo t) in
    let inner : Result Admission Refusal = cond t.properties.single (shared_instance t t.slots) (own_instance t) in
    let middle : Result Admission Refusal = cond (nat_le MAX_SESSIONS (length t.sessions)) (Err busy) inner in
    cond_both (is_some (session_of t client label)) (Err bad_state) middle P (λ _. tt)
    (λ _. cond_both (nat_le MAX_SESSIONS (length t.sessions)) (Err busy) inner P (λ _. tt)
    (λ _. cond_both t.properties.single (shared_instance t t.slots) (own_instance t) P
    (λ single. shared_IsTo t t.slots refl (table.one_instance single) single)
    (λ _. own_IsTo t)))

-- where there is no such instance, no session of it counts
none_counts : (t : Table) (i : ℕ) (ss : List Session) → AllByRecursion (λ s. is_dead s.state ≡ false → HasSlot t s.instance) ss → (HasSlot t i → ⊥) → counting i ss ≡ 0
none_counts t i [] h none = refl
none_counts t i (s ∷ ss) h none = ⊎_elim
    (λ (yes : counts_in i (facts_of s) ≡ true).
    let parts = and_parts (s.instance == i) (not (is_dead s.state)) yes in
    absurd (none (subst (HasSlot t) (eqb-true s.instance i parts.0) (h.0 (not-true (is_dead s.state) parts.1)))))
    (λ (other : counts_in i (facts_of s) ≡ false). omega (arith, ap bit other, none_counts t i ss h.1 none))
    (cases_Bool (counts_in i (facts_of s)))

module _ {A : Type 0} where
  pub numbers_entered : (b : Bool) (xs : List (Instance A)) (slots : List Slot) (new : Instance A) (slot : Slot)
      → map (λ x. x.number) xs ≡ map (λ s. s.number) slots → new.number ≡ slot.number → map (λ x. x.number) (cond b (xs ++ new ∷ []) xs) ≡ map (λ s. s.number) (cond b (slots ++ slot ∷ []) slots)
  numbers_entered true xs slots new slot h same = numbers_push (λ x. x.number) xs new ∙ ap (λ ns. ns ++ new.number ∷ []) h ∙ ap
      (λ n. map (λ (s : Slot). s.number) slots ++ n ∷ []) same ∙ sym (numbers_push (λ s. s.number) slots slot)
  numbers_entered false xs slots new slot h same = h

  total_entered : (f : Instance A → ℕ) (b : Bool) (xs : List (Instance A)) (new : Instance A) → f new ≡ 0 → total f (cond b (xs ++ new ∷ []) xs) ≡ total f xs
  total_entered f true xs new none = omega (arith, total_push f xs new, none)
  total_entered f false xs new none = refl

slots_entered : (b : Bool) (k : ℕ) (slots : List Slot) (slot : Slot) → list_any (nat_eq k) (map (λ s. s.number) slots) ≡ true
    → list_any (nat_eq k) (map (λ s. s.number) (cond b (slots ++ slot ∷ []) slots)) ≡ true
slots_entered true k slots slot h = ap (list_any (nat_eq k)) (numbers_push (λ (s : Slot). s.number) slots slot) ∙ still_there k slot.number (map (λ s. s.number) slots) h
slots_entered false k slots slot h = h

slot_entered : (b : Bool) (slots : List Slot) (slot : Slot) → (b ≡ true) ⊎ ((b ≡ false) × (list_any (nat_eq slot.number) (map (λ s. s.number) slots) ≡ true))
    → list_any (nat_eq slot.number) (map (λ s. s.number) (cond b (slots ++ slot ∷ []) slots)) ≡ true
slot_entered true slots slot h = ap (list_any (nat_eq slot.number)) (numbers_push (λ (s : Slot). s.number) slots slot) ∙ now_there slot.number
    (map (λ s. s.number) slots) (eq-eqb slot.number slot.number refl)
slot_entered false slots slot h = ⊎_elim (λ (never : false ≡ true). absurd (both_ways _ refl never))
    (λ (there : (false ≡ false) × (list_any (nat_eq slot.number) (map (λ s. s.number) slots) ≡ true)). there.1) h

-- an open waits, where it was admitted
pub sound_open : {A : Type 0} (template : A) (q : Queue) (t : Table) (xs : List (Instance A)) (client label : ℕ) (login : Login) (ps : Params) (a : Admission) → IsSound q t xs
    → is_full q ≡ false → admission_of t client label ≡ Ok a
    → IsSound (with_operation q client a.instance a.session (calls.Open label login ps)) (with_session t client label login a) (cond a.new_instance (xs ++ new_instance template a.instance ∷ []) xs)
sound_open {A} template q t xs client label login ps a h free e =
    let to : IsTo t a = subst (λ (r : Result Admission Refusal). IfOk r (IsTo t)) e (some_IsTo t client label h.table) in
    let slot : Slot = record { number = a.instance; ending = false } in
    let new : Instance A = new_instance template a.instance in
    let session : Session = record { client = client; label = label; number = a.session; instance = a.instance; state = Opening; login = login } in
    let ys : List (Instance A) = cond a.new_instance (xs ++ new ∷ []) xs in
    let after : Table = with_session t client label login a in
    let stay : (k : ℕ) → HasSlot t k → HasSlot after k = λ k here. slots_entered a.new_instance k t.slots slot here in
    let there : HasSlot after a.instance = slot_entered a.new_instance t.slots slot to.place in
    let admitted = admission_IsAdmitted t client label a e in
    sound_queued q t after xs ys client a.instance a.session (calls.Open label login ps) h (ap (λ b. b && true) free) (λ never. absurd (both_ways _ refl never))
    (entered_IsTable t client label login a h.table admitted)
    (numbers_entered a.new_instance xs t.slots new slot h.numbers refl)
    (each_more (λ s. is_dead s.state ≡ false → HasSlot after s.instance) t.sessions session
    (each_weaker (λ s. is_dead s.state ≡ false → HasSlot t s.instance) (λ s. is_dead s.state ≡ false → HasSlot after s.instance) t.sessions (λ s here alive. stay s.instance (here alive)) h.sessions)
    (λ _. there))
    stay there
    (λ p. omega (arith, h.held p, total_entered (λ x. weigh p (claim_in x)) a.new_instance xs new refl, total_push (λ s. bit (p (facts_of s))) t.sessions session))
    (λ p. omega (arith, total_entered (λ x. weigh_in p x) a.new_instance xs new refl))
    (calm_entered template t xs client label login a h.calm admitted.room to.free (λ many. none_counts t a.instance t.sessions h.sessions (to.lone many)))
