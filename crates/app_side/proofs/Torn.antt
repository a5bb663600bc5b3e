-- Whatever tears an instance down doesn't look at its own entry, nor at how far its operations are.
use Rattle.std.proofs.Common.{ℕ, ◌≡◌, ◌==◌, List, [], ◌∷◌, Option, None, Some, Result, Ok, Err, OnErr, map, filter, set, refl, sym, ap, ◌∙◌}
use Rattle.tee_base.specs.declared.codes.Code.{Code}
use Rattle.tee_base.specs.declared.codes.Origin.{Origin}
use Rattle.op_queue.specs.declared.operation.Operation.{Operation}
use Rattle.op_queue.specs.Queue.{Queue, IsQueue, after_begin, without_operations_of, first_waiting}
use Rattle.op_queue.proofs.Started.{started_numbers, started_of_instance}
use Rattle.alone.specs.declared.reply.Reply.{Reply}
use Rattle.alone.specs.declared.active_entry.Instance.{Instance}
use Rattle.alone.specs.InList.{IsPlace}
use Rattle.alone.specs.Machine.{Machine}
use Rattle.alone.specs.Replies.{no_outputs}
use Rattle.alone.specs.Step.{Stepped, belongs_to, reply_of, torn_down}
use Rattle.alone.proofs.Lists.{filter_put}

-- a fact that holds anyway
pub on_err_any : {T E : Type 0} {P : Type 0} (r : Result T E) → P → OnErr r P
on_err_any (Ok x) holds = tt
on_err_any (Err e) holds = holds

-- the numbers of the instance's operations
abbrev numbers : ℕ → Queue → List ℕ
numbers i q = map (λ o. o.number) (filter (λ o. o.instance == i) q.operations)

replies_by : (code : Code) (origin : Origin) (os : List Operation) → map (λ o. reply_of o.number code origin no_outputs) os ≡ map (λ n. reply_of n code origin no_outputs) (map (λ o. o.number) os)
replies_by code origin [] = refl
replies_by code origin (o ∷ os) = ap (λ (rs : List Reply). reply_of o.number code origin no_outputs ∷ rs) (replies_by code origin os)

-- an operation of the instance that has begun
begun_cleared : (q : Queue) (i : ℕ) (o : Option Operation) → IsQueue q → first_waiting q i ≡ o → without_operations_of (after_begin q o) i ≡ without_operations_of q i
begun_cleared q i None h e = refl
begun_cleared q i (Some o) h e = started_of_instance q i o h e

begun_numbers : (q : Queue) (i : ℕ) (o : Option Operation) → numbers i (after_begin q o) ≡ numbers i q
begun_numbers q i None = refl
begun_numbers q i (Some o) = started_numbers q i o

-- what a teardown leaves, with this queue and these replies
abbrev left_with : {A : Type 0} → Machine A → ℕ → Code → Origin → Queue → List Reply → Stepped A
left_with m i code origin q replies = let s = torn_down m i code origin in record s { machine = record s.machine { queue = q }; replies = replies }

pub begun_torn : {A : Type 0} (m : Machine A) (i : ℕ) (code : Code) (origin : Origin) → IsQueue m.queue →
    torn_down (record m { queue = after_begin m.queue (first_waiting m.queue i) }) i code origin ≡ torn_down m i code origin
begun_torn m i code origin h =
    let q = m.queue in
    let o = first_waiting q i in
    let mine : Queue → List Operation = λ q. filter (belongs_to i) q.operations in
    ap (λ (x : Queue). left_with m i code origin x (map (λ o. reply_of o.number code origin no_outputs) (mine (after_begin q o)))) (begun_cleared q i o h refl)
    ∙ ap (left_with m i code origin (without_operations_of q i))
    (replies_by code origin (mine (after_begin q o))
    ∙ ap (map (λ n. reply_of n code origin no_outputs)) (begun_numbers q i o)
    ∙ sym (replies_by code origin (mine q)))

-- an instance that has changed in its place
pub set_torn : {A : Type 0} (m : Machine A) (i place : ℕ) (new : Instance A) (code : Code) (origin : Origin) → IsPlace i m.instances place → new.number ≡ i →
    torn_down (record m { instances = set m.instances place new }) i code origin ≡ torn_down m i code origin
set_torn {A} m i place new code origin at same =
    ap (λ (xs : List (Instance A)). torn_down (record m { instances = xs }) i code origin) (sym (at.put new same))
    ∙ ap (λ (xs : List (Instance A)). let s = torn_down m i code origin in record s { machine = record s.machine { instances = xs } }) (filter_put i new m.instances same)
