-- What a client's call leads to: it is answered, or it waits for its instance.
use Rattle.std.proofs.Common.{ℕ, ◌≡◌, ◌<◌, false, cond, List, Option, None, Some, Result, Ok, Err, is_some, option_map, refl, ap, arith}
use Rattle.std.specs.List.{AllByRecursion}
use Rattle.std.proofs.lemmas.Bool.{cond_both}
use Rattle.tee_base.specs.declared.codes.Code.{Code}
use Rattle.tee_base.specs.declared.codes.Origin.{Origin}
use Rattle.tee_base.specs.declared.codes.Origin.TheVariants.{Api, Tee}
use Rattle.app_api.specs.declared.call.Call.{Call}
use Rattle.app_api.specs.Calls.{call_references}
use Rattle.app_api.specs.declared.call.Call.TheVariants as calls
use Rattle.app_api.specs.declared.login.Login.{Login}
use Rattle.app_api.specs.declared.param.Params.{Params}
use Rattle.app_api.specs.Params.{first_oversized, references_of}
use Rattle.instances.specs.declared.instances.Admission.{Admission}
use Rattle.instances.specs.declared.instances.Refusal.{Refusal}
use Rattle.instances.specs.declared.session.Session.{Session}
use Rattle.instances.specs.declared.session.SessionState.{SessionState}
use Rattle.instances.specs.declared.session.SessionState.TheVariants.{Opening, Open, Closing, Dead}
use Rattle.instances.specs.Instances.{Table, session_of, facts_of, is_dead, is_known_as, admission_of, state_set, session_removed}
use Rattle.op_queue.specs.declared.operation.Operation.{Operation}
use Rattle.op_queue.specs.declared.operation.Progress.TheVariants.{Waiting}
use Rattle.op_queue.specs.Queue.{Queue, IsQueue, is_full, is_named, with_operation}
use Rattle.shared_mem.specs.declared.block.Block.{Block}
use Rattle.shared_mem.specs.Blocks.{fill_of, share_of, show_of, unshare_of}
use Rattle.alone.specs.declared.active_entry.Instance.{Instance}
use Rattle.alone.specs.Blocks.{references_refusal}
use Rattle.alone.specs.Machine.{Machine}
use Rattle.alone.specs.Step.{Stepped, after_call, block_shown, called_open, opened_as, opened_with, invoked_in, invoked_at, invoked_with, closed_in, closed_at, facts_of_label}
use Rattle.alone.specs.Step.{after_admission, after_queueing, answered_at_once, memory_done}
use Rattle.tee_base.specs.declared.codes.TheConstants.Code.{SUCCESS, BAD_PARAMETERS, BAD_STATE, BUSY, TARGET_DEAD}
use Rattle.alone.proofs.Totals.{each_from_index, found_has}
use Rattle.alone.proofs.Each.{each_more}
use Rattle.alone.proofs.Sound.{IsSound, IsSoundMachine, HasSlot}
use Rattle.alone.proofs.Opened.{sound_skipped, sound_dead, sound_invoke, sound_close, sound_open}

-- operations of this number are of this instance
abbrev pub IsOf : ℕ → ℕ → Operation → Type 0
IsOf op i o = o.number ≡ op → o.instance ≡ i

-- after a call, its number is used, and its operation, if it waits, is of the instance that is told
pub record IsCalled {A : Type 0} (op : ℕ) (s : Stepped A) : Type 0 where
  pub sound : IsSoundMachine s.machine
  pub below : op < s.machine.queue.next
  pub owner : AllByRecursion (IsOf op s.instance) s.machine.queue.operations

-- no operation has the next number
none_next : (q : Queue) (i : ℕ) → IsQueue q → AllByRecursion (IsOf q.next i) q.operations
none_next q i h = each_from_index (IsOf q.next i) q.operations (λ k d lt same. let within = h.numbers k d lt in absurd (omega (arith, same, within.1)))

module _ {A : Type 0} where
  at_once : (m : Machine A) (t : Table) (code : Code) (origin : Origin) → IsSound m.queue t m.instances → IsCalled m.queue.next (answered_at_once (record m { table = t }) code origin)
  at_once m t code origin h = record {
    sound = sound_skipped m.queue t m.instances h;
    below = omega arith;
    owner = none_next m.queue 0 h.queue;
  }

  -- a call about shared memory leaves its number used
  memory : (m : Machine A) (r : Result (List Block) Code) → IsSoundMachine m → IsCalled m.queue.next (memory_done m r)
  memory m (Ok blocks) h = at_once (record m { blocks = blocks }) m.table SUCCESS Api h
  memory m (Err code) h = at_once m m.table code Api h

  shows : (m : Machine A) (r : Result (List ℕ) Code) → IsSoundMachine m → IsCalled m.queue.next (block_shown m r)
  shows m (Ok bytes) h = record { sound = sound_skipped m.queue m.table m.instances h; below = omega arith; owner = none_next m.queue 0 h.queue }
  shows m (Err code) h = at_once m m.table code Api h

  -- a call waits
  waits : (m : Machine A) (t : Table) (xs : List (Instance A)) (client i session : ℕ) (call : Call) → IsQueue m.queue
      → IsSound (with_operation m.queue client i session call) t xs → IsCalled m.queue.next (after_queueing (record m { table = t; instances = xs }) client i session call)
  waits m t xs client i session call old h =
      let o : Operation = record { number = m.queue.next; client = client; session = session; instance = i; references = call_references call; progress = Waiting call } in
      record {
        sound = h;
        below = omega arith;
        owner = each_more (IsOf m.queue.next i) m.queue.operations o (none_next m.queue i old) (λ _. refl);
      }

  opens : (m : Machine A) (client label : ℕ) (login : Login) (ps : Params) → IsSoundMachine m → is_full m.queue ≡ false → (r : Result Admission Refusal)
      → admission_of m.table client label ≡ r → IsCalled m.queue.next (opened_as m client label login ps r)
  opens m client label login ps h free (Err refusal) e = at_once m m.table refusal.code refusal.origin h
  opens m client label login ps h free (Ok a) e =
      let after = after_admission m client label login a in
      waits m after.table after.instances client a.instance a.session (calls.Open label login ps) h.queue (sound_open m.template m.queue m.table m.instances client label login ps a h free e)

  opens_with : (m : Machine A) (client label : ℕ) (login : Login) (ps : Params) → IsSoundMachine m → (refusal : Option Code)
      → IsCalled m.queue.next (opened_with m client label login ps refusal)
  opens_with m client label login ps h (Some code) = at_once m m.table code Api h
  opens_with m client label login ps h None =
      let P : Stepped A → Type 0 = IsCalled m.queue.next in
      let last = opened_as m client label login ps (admission_of m.table client label) in
      cond_both (is_some (facts_of_label m client label)) (answered_at_once m BAD_STATE Api) (cond (is_full m.queue) (answered_at_once m BUSY Tee) last) P
      (λ _. at_once m m.table BAD_STATE Api h)
      (λ _. cond_both (is_full m.queue) (answered_at_once m BUSY Tee) last P
      (λ _. at_once m m.table BUSY Tee h)
      (λ free. opens m client label login ps h free (admission_of m.table client label) refl))

  takes_open : (m : Machine A) (client label : ℕ) (login : Login) (ps : Params) → IsSoundMachine m → IsCalled m.queue.next (called_open m client label login ps)
  takes_open m client label login ps h =
      let refusal = references_refusal m.blocks client (references_of ps) in
      cond_both (is_some (first_oversized ps)) (answered_at_once m BAD_PARAMETERS Api) (opened_with m client label login ps refusal) (IsCalled m.queue.next)
      (λ _. at_once m m.table BAD_PARAMETERS Api h)
      (λ _. opens_with m client label login ps h refusal)

  invokes : (m : Machine A) (client label command : ℕ) (ps : Params) (s : Session) → IsSoundMachine m → session_of m.table client label ≡ Some s
      → (state : SessionState) → s.state ≡ state → IsCalled m.queue.next (invoked_at m client (calls.Invoke label command ps) (facts_of s) state)
  invokes m client label command ps s h e Opening same = at_once m m.table BAD_STATE Api h
  invokes m client label command ps s h e Closing same = at_once m m.table BAD_STATE Api h
  invokes m client label command ps s h e Dead same = at_once m m.table TARGET_DEAD Tee h
  invokes m client label command ps s h e Open same =
      let there : HasSlot m.table s.instance = found_has (λ x. is_dead x.state ≡ false → HasSlot m.table x.instance) (is_known_as client label) m.table.sessions s h.sessions e (ap is_dead same) in
      cond_both (is_full m.queue) (answered_at_once m BUSY Tee) (after_queueing m client s.instance s.number (calls.Invoke label command ps)) (IsCalled m.queue.next)
      (λ _. at_once m m.table BUSY Tee h)
      (λ free. waits m m.table m.instances client s.instance s.number (calls.Invoke label command ps) h.queue
      (sound_invoke m.queue m.table m.instances client s.instance s.number label command ps h free there))

  invokes_in : (m : Machine A) (client label command : ℕ) (ps : Params) → IsSoundMachine m → (o : Option Session) → session_of m.table client label ≡ o
      → IsCalled m.queue.next (invoked_in m client (calls.Invoke label command ps) (option_map facts_of o))
  invokes_in m client label command ps h None e = at_once m m.table BAD_STATE Api h
  invokes_in m client label command ps h (Some s) e = invokes m client label command ps s h e s.state refl

  invokes_with : (m : Machine A) (client label command : ℕ) (ps : Params) → IsSoundMachine m → (refusal : Option Code)
      → IsCalled m.queue.next (invoked_with m client label command ps refusal)
  invokes_with m client label command ps h (Some code) = at_once m m.table code Api h
  invokes_with m client label command ps h None = invokes_in m client label command ps h (session_of m.table client label) refl

  closes : (m : Machine A) (client label : ℕ) (s : Session) → IsSoundMachine m → session_of m.table client label ≡ Some s → (state : SessionState)
      → s.state ≡ state → IsCalled m.queue.next (closed_at m client label (facts_of s) state)
  closes m client label s h e Opening same = at_once m m.table BAD_STATE Api h
  closes m client label s h e Closing same = at_once m m.table BAD_STATE Api h
  closes m client label s h e Dead same = at_once m (session_removed m.table s.number) SUCCESS Tee (sound_dead m.queue m.table m.instances (is_known_as client label) s h e same)
  closes m client label s h e Open same =
      waits m (state_set m.table s.number Closing) m.instances client s.instance s.number (calls.Close label) h.queue
      (sound_close m.queue m.table m.instances (is_known_as client label) s client label h e same)

  closes_in : (m : Machine A) (client label : ℕ) → IsSoundMachine m → (o : Option Session) → session_of m.table client label ≡ o
      → IsCalled m.queue.next (closed_in m client label (option_map facts_of o))
  closes_in m client label h None e = at_once m m.table BAD_STATE Api h
  closes_in m client label h (Some s) e = closes m client label s h e s.state refl

  pub takes : (m : Machine A) (client : ℕ) (call : Call) → IsSoundMachine m → IsCalled m.queue.next (after_call m client call)
  unfolding after_call
  takes m client (calls.Open label login ps) h = takes_open m client label login ps h
  takes m client (calls.Invoke label command ps) h =
      let refusal = references_refusal m.blocks client (references_of ps) in
      cond_both (is_some (first_oversized ps)) (answered_at_once m BAD_PARAMETERS Api) (invoked_with m client label command ps refusal) (IsCalled m.queue.next)
      (λ _. at_once m m.table BAD_PARAMETERS Api h)
      (λ _. invokes_with m client label command ps h refusal)
  takes m client (calls.Close label) h = closes_in m client label h (session_of m.table client label) refl
  takes m client (calls.Share block flags size) h = memory m (share_of m.blocks client block flags size) h
  takes m client (calls.Fill block at bytes) h = memory m (fill_of m.blocks client block at bytes) h
  takes m client (calls.Show block) h = shows m (show_of m.blocks client block) h
  takes m client (calls.Unshare block) h = memory m (unshare_of m.blocks client block (is_named m.queue client block)) h
