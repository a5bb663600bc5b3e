-- What all changes keep that a client's call may make, each call keeps.
use Rattle.std.proofs.Common.{ℕ, ◌≡◌, ◌⊎◌, inl, inr, Bool, cond, List, Option, None, Some, is_some, Result, Ok, Err, refl}
use Rattle.std.proofs.lemmas.Bool.{cond_both}
use Rattle.tee_base.specs.declared.codes.Code.{Code}
use Rattle.app_api.specs.declared.call.Call.{Call}
use Rattle.app_api.specs.declared.call.Call.TheVariants as calls
use Rattle.app_api.specs.declared.login.Login.{Login}
use Rattle.app_api.specs.declared.param.Params.{Params}
use Rattle.app_api.specs.Calls.{call_references}
use Rattle.app_api.specs.Params.{first_oversized, references_of}
use Rattle.instances.specs.declared.instances.Admission.{Admission}
use Rattle.instances.specs.declared.instances.Refusal.{Refusal}
use Rattle.instances.specs.declared.session.SessionFacts.{SessionFacts}
use Rattle.instances.specs.declared.session.SessionState.{SessionState}
use Rattle.instances.specs.declared.session.SessionState.TheVariants.{Opening, Open, Closing, Dead}
use Rattle.instances.specs.Instances.{admission_of, session_removed, state_set}
use Rattle.op_queue.specs.Queue.{is_full, is_named, with_number_used, with_operation}
use Rattle.shared_mem.specs.declared.block.Block.{Block}
use Rattle.shared_mem.specs.Blocks.{fill_of, share_of, show_of, unshare_of}
use Rattle.alone.specs.Blocks.{references_refusal}
use Rattle.alone.specs.Machine.{Machine}
use Rattle.alone.specs.Step.{Stepped, after_admission, after_call, block_shown, closed_at, closed_in, invoked_at, invoked_in, invoked_with, facts_of_label, memory_done, opened_as, opened_with}

-- the client may refer to what the call refers to
abbrev pub MayRefer : {A : Type 0} → Machine A → ℕ → Call → Type 0
MayRefer m client call = references_refusal m.blocks client (call_references call) ≡ None

-- a client shared a block, filled one, or gave one up that no operation of it names
abbrev pub AreShared : {A : Type 0} → Machine A → List Block → Type 0
AreShared m after =
    ((client block flags size : ℕ) × (share_of m.blocks client block flags size ≡ Ok after))
    ⊎ ((client block at : ℕ) × (bytes : List ℕ) × (fill_of m.blocks client block at bytes ≡ Ok after))
    ⊎ ((client block : ℕ) × (unshare_of m.blocks client block (is_named m.queue client block) ≡ Ok after))

-- where this holds before a call, each change that it may make leaves that; sessions are changed alone, and so are blocks
pub record IsKeptByCalls {A : Type 0} (P Q : Machine A → Type 0) : Type 0 where
  pub at_once : (m : Machine A) → P m → Q (record m { queue = with_number_used m.queue })
  pub dead_gone : (m : Machine A) (session : ℕ) → P m → Q (record m { queue = with_number_used m.queue; table = session_removed m.table session })
  pub waits : (m : Machine A) (client i session : ℕ) (call : Call) → MayRefer m client call → P m → Q (record m { queue = with_operation m.queue client i session call })
  pub closes : (m : Machine A) (client i session : ℕ) (call : Call) → MayRefer m client call → P m
      → Q (record m { queue = with_operation m.queue client i session call; table = state_set m.table session Closing })
  pub opens : (m : Machine A) (client label : ℕ) (login : Login) (a : Admission) (call : Call) → MayRefer m client call → P m
      → Q (record (after_admission m client label login a) { queue = with_operation m.queue client a.instance a.session call })
  pub shared : (m : Machine A) (blocks : List Block) → AreShared m blocks → P m → Q (record m { queue = with_number_used m.queue; blocks = blocks })

module _ {A : Type 0} (P Q : Machine A → Type 0) (k : IsKeptByCalls P Q) where
  abbrev Ends : Stepped A → Type 0
  Ends s = Q s.machine

  either : (b : Bool) (x y : Stepped A) → Ends x → Ends y → Ends (cond b x y)
  either b x y here there = cond_both b x y Ends (λ _. here) (λ _. there)

  opened_kept : (m : Machine A) (client label : ℕ) (login : Login) (ps : Params) (r : Result Admission Refusal) → MayRefer m client (calls.Open label login ps) → P m
      → Ends (opened_as m client label login ps r)
  opened_kept m client label login ps (Ok a) usable h = k.opens m client label login a (calls.Open label login ps) usable h
  opened_kept m client label login ps (Err refusal) usable h = k.at_once m h

  opened_with_kept : (m : Machine A) (client label : ℕ) (login : Login) (ps : Params) (refusal : Option Code) → references_refusal m.blocks client (references_of ps) ≡ refusal → P m
      → Ends (opened_with m client label login ps refusal)
  opened_with_kept m client label login ps (Some code) e h = k.at_once m h
  opened_with_kept m client label login ps None e h =
      either (is_some (facts_of_label m client label)) _ _ (k.at_once m h)
      (either (is_full m.queue) _ _ (k.at_once m h) (opened_kept m client label login ps (admission_of m.table client label) e h))

  invoked_at_kept : (m : Machine A) (client : ℕ) (call : Call) (s : SessionFacts) (state : SessionState) → MayRefer m client call → P m → Ends (invoked_at m client call s state)
  invoked_at_kept m client call s Opening usable h = k.at_once m h
  invoked_at_kept m client call s Closing usable h = k.at_once m h
  invoked_at_kept m client call s Dead usable h = k.at_once m h
  invoked_at_kept m client call s Open usable h = either (is_full m.queue) _ _ (k.at_once m h) (k.waits m client s.instance s.session call usable h)

  invoked_kept : (m : Machine A) (client : ℕ) (call : Call) (s : Option SessionFacts) → MayRefer m client call → P m → Ends (invoked_in m client call s)
  invoked_kept m client call None usable h = k.at_once m h
  invoked_kept m client call (Some s) usable h = invoked_at_kept m client call s s.state usable h

  invoked_with_kept : (m : Machine A) (client label command : ℕ) (ps : Params) (refusal : Option Code) → references_refusal m.blocks client (references_of ps) ≡ refusal → P m
      → Ends (invoked_with m client label command ps refusal)
  invoked_with_kept m client label command ps (Some code) e h = k.at_once m h
  invoked_with_kept m client label command ps None e h = invoked_kept m client (calls.Invoke label command ps) (facts_of_label m client label) e h

  closed_at_kept : (m : Machine A) (client label : ℕ) (s : SessionFacts) (state : SessionState) → P m → Ends (closed_at m client label s state)
  closed_at_kept m client label s Opening h = k.at_once m h
  closed_at_kept m client label s Closing h = k.at_once m h
  closed_at_kept m client label s Dead h = k.dead_gone m s.session h
  closed_at_kept m client label s Open h = k.closes m client s.instance s.session (calls.Close label) refl h

  closed_kept : (m : Machine A) (client label : ℕ) (s : Option SessionFacts) → P m → Ends (closed_in m client label s)
  closed_kept m client label None h = k.at_once m h
  closed_kept m client label (Some s) h = closed_at_kept m client label s s.state h

  memory_kept : (m : Machine A) (r : Result (List Block) Code) → ((blocks : List Block) → r ≡ Ok blocks → AreShared m blocks) → P m → Ends (memory_done m r)
  memory_kept m (Ok blocks) change h = k.shared m blocks (change blocks refl) h
  memory_kept m (Err code) change h = k.at_once m h

  shown_kept : (m : Machine A) (r : Result (List ℕ) Code) → P m → Ends (block_shown m r)
  shown_kept m (Ok bytes) h = k.at_once m h
  shown_kept m (Err code) h = k.at_once m h

  pub called_kept : (m : Machine A) (client : ℕ) (call : Call) → P m → Ends (after_call m client call)
  unfolding after_call
  called_kept m client (calls.Open label login ps) h =
      either (is_some (first_oversized ps)) _ _ (k.at_once m h) (opened_with_kept m client label login ps (references_refusal m.blocks client (references_of ps)) refl h)
  called_kept m client (calls.Invoke label command ps) h =
      either (is_some (first_oversized ps)) _ _ (k.at_once m h) (invoked_with_kept m client label command ps (references_refusal m.blocks client (references_of ps)) refl h)
  called_kept m client (calls.Close label) h = closed_kept m client label (facts_of_label m client label) h
  called_kept m client (calls.Share block flags size) h = memory_kept m (share_of m.blocks client block flags size) (λ blocks e. inl (client, block, flags, size, e)) h
  called_kept m client (calls.Fill block at bytes) h = memory_kept m (fill_of m.blocks client block at bytes) (λ blocks e. inr (inl (client, block, at, bytes, e))) h
  called_kept m client (calls.Show block) h = shown_kept m (show_of m.blocks client block) h
  called_kept m client (calls.Unshare block) h =
      memory_kept m (unshare_of m.blocks client block (is_named m.queue client block)) (λ blocks e. inr (inr (client, block, e))) h
