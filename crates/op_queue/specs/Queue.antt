-- Client operations of one application, and their cancellation (TEE Client API 1.0, sections 4.5.5 to 4.5.8; TEE Internal Core API 1.3, section 4.10).
use Rattle.std.specs.Prelude.{ℕ, ◌+◌, ◌≤◌, ◌<◌, ◌==◌, nat_le, nat_lt, Bool, true, false, not, ◌&&◌, List, [], ◌∷◌, ◌++◌, Option}
use Rattle.std.specs.Prelude.{None, Some, option_map, if◌then◌else◌, find, filter, map, count_by, All, AllPairs}
use Rattle.std.specs.List.{list_any}
use Rattle.tee_base.specs.declared.limits.TheConstants.{MAX_SESSIONS, MAX_OPERATIONS}
use Rattle.app_api.specs.declared.call.Call.{Call}
use Rattle.app_api.specs.declared.call.Call.TheVariants.{Open, Invoke, Close, Share, Fill, Show, Unshare}
use Rattle.app_api.specs.Calls.{call_references}
use Rattle.app_api.specs.References.{name_block}
use Rattle.op_queue.specs.declared.operation.Operation.{Operation}
use Rattle.op_queue.specs.declared.operation.OpFacts.{OpFacts}
use Rattle.op_queue.specs.declared.operation.Begun.{Begun}
use Rattle.op_queue.specs.declared.operation.Cancelled.{Cancelled}
use Rattle.op_queue.specs.declared.operation.Cancelled.TheVariants.{Dropped, Flagged, Nothing}
use Rattle.op_queue.specs.declared.operation.Progress.{Progress}
use Rattle.op_queue.specs.declared.operation.Progress.TheVariants.{Waiting, Running}
use Rattle.tee_base.specs.Words.{InstanceNumber}

-- the operations that haven't been answered, in ascending order of their numbers, and the number of the next call
pub record Queue : Type 0 where
  pub next : ℕ
  pub operations : List Operation

-- no operation yet, and the first call has the number 1
abbrev pub empty_queue : Queue
empty_queue = record { next = 1; operations = [] }

-- the call closes a session
abbrev pub is_close_call : Call → Bool
is_close_call (Open label login params) = false
is_close_call (Invoke label command params) = false
is_close_call (Close label) = true
is_close_call (Share block flags size) = false
is_close_call (Fill block at bytes) = false
is_close_call (Show block) = false
is_close_call (Unshare block) = false

-- the operation, which waits or runs, closes a session
abbrev pub is_close : Progress → Bool
is_close (Waiting call) = is_close_call call
is_close (Running close cancelled masked) = close

-- the operation's entry has begun
abbrev pub is_running : Progress → Bool
is_running (Waiting call) = false
is_running (Running close cancelled masked) = true

-- as many operations other than closes are unanswered as there may be
abbrev pub is_full : Queue → Bool
is_full q = nat_le MAX_OPERATIONS (count_by (λ o. not (is_close o.progress)) q.operations)

-- one more operation, which waits. What its call refers to is known of it until it is answered
abbrev pub with_operation : Queue → ℕ → InstanceNumber → ℕ → Call → Queue
with_operation q client instance session call = record {
  next = q.next + 1;
  operations = q.operations ++ record {
    number = q.next;
    client = client;
    session = session;
    instance = instance;
    references = call_references call;
    progress = Waiting call;
  } ∷ [];
}

-- the next number is used up
abbrev pub with_number_used : Queue → Queue
with_number_used q = record q { next = q.next + 1 }

-- the operation is of this instance and waits
abbrev pub waits_for : InstanceNumber → Operation → Bool
waits_for instance o = (o.instance == instance) && not (is_running o.progress)

-- the call of an operation that waits, ready to be run
abbrev pub begun_of : Operation → Progress → Option Begun
begun_of o (Waiting call) = Some (record { op = o.number; client = o.client; session = o.session; call = call })
begun_of o (Running close cancelled masked) = None

-- the instance's operation with the least number that waits
abbrev pub first_waiting : Queue → InstanceNumber → Option Operation
first_waiting q instance = find (waits_for instance) q.operations

-- the call of the operation, where there is one that waits
abbrev pub begun_at : Option Operation → Option Begun
begun_at None = None
begun_at (Some o) = begun_of o o.progress

-- from now on the operation runs, with cancellation masked
abbrev pub as_running : ℕ → Operation → Operation
as_running op o = if o.number == op then record o { progress = Running (is_close o.progress) false true } else o

-- the queue once this operation, if there is one, runs
abbrev pub after_begin : Queue → Option Operation → Queue
after_begin q None = q
after_begin q (Some o) = record q { operations = map (as_running o.number) q.operations }

-- the unanswered operation of this number, where there is one
abbrev pub operation_of : Queue → ℕ → Option Operation
operation_of q op = find (λ o. o.number == op) q.operations

-- the operation is the client's, and names its block of this number
abbrev pub is_naming : ℕ → ℕ → Operation → Bool
is_naming client block o = (o.client == client) && name_block block o.references

-- an unanswered operation of the client names its block of this number
abbrev pub is_named : Queue → ℕ → ℕ → Bool
is_named q client block = list_any (is_naming client block) q.operations

-- what is told of an operation
abbrev pub facts_of : Operation → OpFacts
facts_of o = record {
  client = o.client;
  instance = o.instance;
  session = o.session;
  references = o.references;
  running = is_running o.progress;
  close = is_close o.progress;
}

-- the least unanswered number of the instance that is greater
abbrev pub next_of : Queue → InstanceNumber → ℕ → Option ℕ
next_of q instance after = option_map (λ o. o.number) (find (λ o. (o.instance == instance) && nat_lt after o.number) q.operations)

-- what a request for cancellation does to an operation: one that waits and is no close goes, one that runs and is no close is flagged
abbrev pub cancel_of : Option Operation → Cancelled
cancel_of None = Nothing
cancel_of (Some o) = if is_close o.progress then Nothing else if is_running o.progress then Flagged else Dropped

-- the queue without the operation of this number
abbrev pub without : Queue → ℕ → Queue
without q op = record q { operations = filter (λ o. not (o.number == op)) q.operations }

-- the operations of an instance taken out
abbrev pub without_operations_of : Queue → InstanceNumber → Queue
without_operations_of q instance = record q { operations = filter (λ o. not (o.instance == instance)) q.operations }

-- all operations taken out; the numbers go on
abbrev pub without_operations : Queue → Queue
without_operations q = record q { operations = [] }

-- with cancellation requested, if the operation runs
abbrev pub with_request : Progress → Progress
with_request (Waiting call) = Waiting call
with_request (Running close cancelled masked) = Running close true masked

-- the operation, with cancellation requested if it has this number
abbrev pub as_requested : ℕ → Operation → Operation
as_requested op o = if o.number == op then record o { progress = with_request o.progress } else o

-- the queue after a request for cancellation that did this to the operation of this number
abbrev pub after_cancel : Queue → ℕ → Cancelled → Queue
after_cancel q op Dropped = without q op
after_cancel q op Flagged = record q { operations = map (as_requested op) q.operations }
after_cancel q op Nothing = q

-- cancellation is masked, as it is until the entry unmasks it
abbrev pub mask_of : Progress → Bool
mask_of (Waiting call) = true
mask_of (Running close cancelled masked) = masked

-- with cancellation masked or not, if the operation runs
abbrev pub with_mask : Bool → Progress → Progress
with_mask masked (Waiting call) = Waiting call
with_mask masked (Running close cancelled before) = Running close cancelled masked

-- the operation, masked or not if it has this number
abbrev pub masked_as : ℕ → Bool → Operation → Operation
masked_as op masked o = if o.number == op then record o { progress = with_mask masked o.progress } else o

-- the queue with cancellation masked or not at the operation of this number
abbrev pub mask_set : Queue → ℕ → Bool → Queue
mask_set q op masked = record q { operations = map (masked_as op masked) q.operations }

-- a cancellation was requested, and the running entry looks at it
abbrev pub reads_flag : Progress → Bool
reads_flag (Waiting call) = false
reads_flag (Running close cancelled masked) = cancelled && not masked

-- what is said of an operation, or something else where there is none
abbrev pub if_operation : {X : Type 0} → Option Operation → X → (Operation → X) → X
if_operation None otherwise f = otherwise
if_operation (Some o) otherwise f = f o

-- whether the entry of this operation sees that a cancellation was requested
abbrev pub flag_of : Queue → ℕ → Bool
flag_of q op = if_operation (operation_of q op) false (λ o. reads_flag o.progress)

-- the operation is there and runs
abbrev pub runs : Queue → ℕ → Bool
runs q op = if_operation (operation_of q op) false (λ o. is_running o.progress)

-- the mask of the operation that runs
abbrev pub mask_at : Queue → ℕ → Bool
mask_at q op = if_operation (operation_of q op) true (λ o. mask_of o.progress)

-- an operation that came before another has the lesser number
abbrev pub ComesBefore : Operation → Operation → Type 0
ComesBefore o later = o.number < later.number

-- what each queue keeps: at most sixteen operations other than closes, and a close for each of eight sessions at most,
-- with numbers in ascending order from 1 on, all of them below the next
pub record IsQueue (q : Queue) : Type 0 where
  pub first : 1 ≤ q.next
  pub few : count_by (λ o. not (is_close o.progress)) q.operations ≤ MAX_OPERATIONS
  pub closes : count_by (λ o. is_close o.progress) q.operations ≤ MAX_SESSIONS
  pub numbers : All (λ o. (1 ≤ o.number) × (o.number < q.next)) q.operations
  pub ordered : AllPairs ComesBefore q.operations
