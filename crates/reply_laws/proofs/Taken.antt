-- A client's call is taken: its operation waits, or it is answered at once.
use Rattle.app_api.specs.Behaviours.{Behaviour}
use Rattle.std.proofs.Common.{ℕ, ◌≡◌, ◌==◌, ◌⊎◌, ◌||◌, Bool, true, false, List, [], ◌∷◌, ◌++◌, Option, None, Some, Result, Ok, Err, ap, cond, find, inl, inr, is_some, refl}
use Rattle.std.proofs.lemmas.Bool.{eq-eqb}
use Rattle.app_api.specs.Params.{first_oversized, references_of}
use Rattle.app_api.specs.declared.call.Call.{Call}
use Rattle.app_api.specs.declared.call.Call.TheVariants as calls
use Rattle.app_api.specs.declared.login.Login.{Login}
use Rattle.app_api.specs.declared.param.Params.{Params}
use Rattle.instances.specs.declared.instances.Admission.{Admission}
use Rattle.instances.specs.declared.instances.Refusal.{Refusal}
use Rattle.instances.specs.declared.session.SessionState.{SessionState}
use Rattle.instances.specs.declared.session.SessionState.TheVariants.{Opening, Open, Closing, Dead}
use Rattle.instances.specs.declared.session.SessionFacts.{SessionFacts}
use Rattle.instances.specs.Instances.{admission_of, session_removed, state_set}
use Rattle.op_queue.specs.Queue.{is_full, is_named}
use Rattle.shared_mem.specs.declared.block.Block.{Block}
use Rattle.shared_mem.specs.Blocks.{fill_of, share_of, show_of, unshare_of}
use Rattle.op_queue.specs.declared.operation.Operation.{Operation}
use Rattle.tee_base.specs.declared.codes.Code.{Code}
use Rattle.tee_base.specs.declared.codes.Origin.{Origin}
use Rattle.tee_base.specs.declared.codes.Origin.TheVariants.{Api, Tee}
use Rattle.tee_base.specs.declared.codes.TheConstants.Code.{SUCCESS, BAD_PARAMETERS, BAD_STATE, BUSY, TARGET_DEAD}
use Rattle.alone.specs.Blocks.{references_refusal}
use Rattle.alone.specs.Machine.{Machine}
use Rattle.alone.specs.Step.{Stepped, after_admission, after_call, after_queueing, answered_at_once, block_shown, closed_at, closed_in, facts_of_label}
use Rattle.alone.specs.Step.{invoked_at, invoked_in, invoked_with, memory_done, opened_as, opened_with}
use Rattle.reply_laws.specs.Replied.{RepliesOrWaits, has_reply, is_unanswered}

-- the last of operations is found, if none before it is
found_or : (b : Bool) (x : Operation) (rest : Option Operation) → is_some rest ≡ true → is_some (cond b (Some x) rest) ≡ true
found_or true x rest h = refl
found_or false x rest h = h

found_last : (op : ℕ) (os : List Operation) (o : Operation) → (o.number == op) ≡ true → is_some (find (λ (x : Operation). x.number == op) (os ++ o ∷ [])) ≡ true
found_last op [] o is = ap (λ b. is_some (cond b (Some o) None)) is
found_last op (x ∷ os) o is = found_or (x.number == op) x _ (found_last op os o is)

module _ {A : Type 0} where
  -- the call with this number is unanswered, or it has its reply
  abbrev IsTaken : ℕ → Stepped A → Type 0
  IsTaken op s = (is_unanswered s.machine op ≡ true) ⊎ (has_reply op s.replies ≡ true)

  at_once : (m : Machine A) (code : Code) (origin : Origin) → IsTaken m.queue.next (answered_at_once m code origin)
  at_once m code origin = inr (ap (λ b. b || false) (eq-eqb m.queue.next m.queue.next refl))

  waits : (m : Machine A) (client i session : ℕ) (call : Call) → IsTaken m.queue.next (after_queueing m client i session call)
  waits m client i session call = inl (found_last m.queue.next m.queue.operations _ (eq-eqb m.queue.next m.queue.next refl))

  either : (op : ℕ) (b : Bool) (s t : Stepped A) → IsTaken op s → IsTaken op t → IsTaken op (cond b s t)
  either op true s t h k = h
  either op false s t h k = k

  open_taken : (m : Machine A) (client label : ℕ) (login : Login) (ps : Params) (admitted : Result Admission Refusal) → IsTaken m.queue.next (opened_as m client label login ps admitted)
  open_taken m client label login ps (Err refusal) = at_once m refusal.code refusal.origin
  open_taken m client label login ps (Ok a) = waits (after_admission m client label login a) client a.instance a.session (calls.Open label login ps)

  invoke_at : (m : Machine A) (client : ℕ) (call : Call) (s : SessionFacts) (state : SessionState) → IsTaken m.queue.next (invoked_at m client call s state)
  invoke_at m client call s Opening = at_once m BAD_STATE Api
  invoke_at m client call s Closing = at_once m BAD_STATE Api
  invoke_at m client call s Dead = at_once m TARGET_DEAD Tee
  invoke_at m client call s Open = either m.queue.next (is_full m.queue) _ _ (at_once m BUSY Tee) (waits m client s.instance s.session call)

  invoke_taken : (m : Machine A) (client : ℕ) (call : Call) (o : Option SessionFacts) → IsTaken m.queue.next (invoked_in m client call o)
  invoke_taken m client call None = at_once m BAD_STATE Api
  invoke_taken m client call (Some s) = invoke_at m client call s s.state

  close_at : (m : Machine A) (client label : ℕ) (s : SessionFacts) (state : SessionState) → IsTaken m.queue.next (closed_at m client label s state)
  close_at m client label s Opening = at_once m BAD_STATE Api
  close_at m client label s Closing = at_once m BAD_STATE Api
  close_at m client label s Dead = at_once (record m { table = session_removed m.table s.session }) SUCCESS Tee
  close_at m client label s Open = waits (record m { table = state_set m.table s.session Closing }) client s.instance s.session (calls.Close label)

  close_taken : (m : Machine A) (client label : ℕ) (o : Option SessionFacts) → IsTaken m.queue.next (closed_in m client label o)
  close_taken m client label None = at_once m BAD_STATE Api
  close_taken m client label (Some s) = close_at m client label s s.state

  open_with : (m : Machine A) (client label : ℕ) (login : Login) (ps : Params) (refused : Option Code) → IsTaken m.queue.next (opened_with m client label login ps refused)
  open_with m client label login ps (Some code) = at_once m code Api
  open_with m client label login ps None =
      either m.queue.next (is_some (facts_of_label m client label)) _ _ (at_once m BAD_STATE Api)
      (either m.queue.next (is_full m.queue) _ _ (at_once m BUSY Tee) (open_taken m client label login ps (admission_of m.table client label)))

  invoke_with : (m : Machine A) (client label command : ℕ) (ps : Params) (refused : Option Code) → IsTaken m.queue.next (invoked_with m client label command ps refused)
  invoke_with m client label command ps (Some code) = at_once m code Api
  invoke_with m client label command ps None = invoke_taken m client (calls.Invoke label command ps) (facts_of_label m client label)

  memory_taken : (m : Machine A) (r : Result (List Block) Code) → IsTaken m.queue.next (memory_done m r)
  memory_taken m (Ok blocks) = at_once (record m { blocks = blocks }) SUCCESS Api
  memory_taken m (Err code) = at_once m code Api

  shown_taken : (m : Machine A) (r : Result (List ℕ) Code) → IsTaken m.queue.next (block_shown m r)
  shown_taken m (Ok bytes) = at_once m SUCCESS Api
  shown_taken m (Err code) = at_once m code Api

  call_taken : (m : Machine A) (client : ℕ) (call : Call) → IsTaken m.queue.next (after_call m client call)
  unfolding after_call
  call_taken m client (calls.Open label login ps) =
      either m.queue.next (is_some (first_oversized ps)) _ _ (at_once m BAD_PARAMETERS Api)
      (open_with m client label login ps (references_refusal m.blocks client (references_of ps)))
  call_taken m client (calls.Invoke label command ps) =
      either m.queue.next (is_some (first_oversized ps)) _ _ (at_once m BAD_PARAMETERS Api)
      (invoke_with m client label command ps (references_refusal m.blocks client (references_of ps)))
  call_taken m client (calls.Close label) = close_taken m client label (facts_of_label m client label)
  call_taken m client (calls.Share block flags size) = memory_taken m (share_of m.blocks client block flags size)
  call_taken m client (calls.Fill block at bytes) = memory_taken m (fill_of m.blocks client block at bytes)
  call_taken m client (calls.Show block) = shown_taken m (show_of m.blocks client block)
  call_taken m client (calls.Unshare block) = memory_taken m (unshare_of m.blocks client block (is_named m.queue client block))

pub taken : {A : Type 0} (behaviour : Behaviour A) (m : Machine A) (client : ℕ) (call : Call) → RepliesOrWaits behaviour m client call
taken behaviour m client call = call_taken m client call
