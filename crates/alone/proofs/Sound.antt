-- What holds of every machine that events can lead to.
use Rattle.std.proofs.Common.{ℕ, ◌≡◌, ◌+◌, ◌≤◌, nat_eq, Bool, true, false, List, [], map, Option, None, Some, IfSome, refl, sym, ap, subst, arith}
use Rattle.std.specs.List.{AllByRecursion, list_any}
use Rattle.app_api.specs.declared.call.Call.{Call}
use Rattle.app_api.specs.declared.call.Call.TheVariants as calls
use Rattle.app_api.specs.declared.host.Host.{Host}
use Rattle.store_api.specs.Stores.{Store}
use Rattle.app_api.specs.declared.host.Properties.{Properties}
use Rattle.instances.specs.declared.session.SessionFacts.{SessionFacts}
use Rattle.instances.specs.declared.session.SessionState.{SessionState}
use Rattle.instances.specs.declared.session.SessionState.TheVariants.{Opening, Open, Closing, Dead}
use Rattle.instances.specs.Instances.{Table, IsTable, instance_numbers, is_dead, no_instances}
use Rattle.op_queue.specs.declared.operation.Operation.{Operation}
use Rattle.op_queue.specs.declared.operation.Progress.{Progress}
use Rattle.op_queue.specs.declared.operation.Progress.TheVariants.{Waiting, Running as Runs}
use Rattle.op_queue.specs.Queue.{Queue, IsQueue, empty_queue}
use Rattle.alone.specs.declared.active_entry.Instance.{Instance}
use Rattle.alone.specs.declared.active_entry.ActiveEntry.{ActiveEntry}
use Rattle.alone.specs.declared.active_entry.EntryPoint.{EntryPoint}
use Rattle.alone.specs.declared.active_entry.EntryPoint.TheVariants as stages
use Rattle.alone.specs.Machine.{Machine, start}
use Rattle.alone.proofs.Totals.{bit, total}
use Rattle.alone.proofs.Calm.{IsCalm, sessions_of}

-- ---- sessions that are held: an open holds its session while that is opening, and a close while it is closing

abbrev pub is_held : SessionState → Bool
is_held Opening = true
is_held Open = false
is_held Closing = true
is_held Dead = false

abbrev pub facts : ℕ → ℕ → SessionState → SessionFacts
facts session instance state = record { session = session; instance = instance; state = state }

-- what a call holds that waits
abbrev pub claim_of_call : ℕ → ℕ → Call → Option SessionFacts
claim_of_call session i (calls.Open label login ps) = Some (facts session i Opening)
claim_of_call session i (calls.Invoke label command ps) = None
claim_of_call session i (calls.Close label) = Some (facts session i Closing)
claim_of_call session i (calls.Share block flags size) = None
claim_of_call session i (calls.Fill block at bytes) = None
claim_of_call session i (calls.Show block) = None
claim_of_call session i (calls.Unshare block) = None

abbrev pub claim_of_progress : ℕ → ℕ → Progress → Option SessionFacts
claim_of_progress session i (Waiting call) = claim_of_call session i call
claim_of_progress session i (Runs close cancelled masked) = None

abbrev pub claim_of : Operation → Option SessionFacts
claim_of o = claim_of_progress o.session o.instance o.progress

-- what an entry holds that runs
abbrev pub claim_of_stage : ℕ → EntryPoint → Option SessionFacts
claim_of_stage i (stages.Create session client ps) = Some (facts session i Opening)
claim_of_stage i (stages.Start session places) = Some (facts session i Opening)
claim_of_stage i (stages.Invoke session places) = None
claim_of_stage i (stages.Stop session) = Some (facts session i Closing)
claim_of_stage i (stages.Destroy reply) = None

abbrev pub claim_of_entry : ℕ → Option ActiveEntry → Option SessionFacts
claim_of_entry i None = None
claim_of_entry i (Some r) = claim_of_stage i r.stage

abbrev pub claim_in : {A : Type 0} → Instance A → Option SessionFacts
claim_in inst = claim_of_entry inst.number inst.running

-- ---- operations that run

-- an operation that runs: its number, its instance, and whether it is a close
pub record Run : Type 0 where
  pub op : ℕ
  pub instance : ℕ
  pub close : Bool

abbrev pub run : ℕ → ℕ → Bool → Run
run op i close = record { op = op; instance = i; close = close }

abbrev pub run_of_progress : ℕ → ℕ → Progress → Option Run
run_of_progress op i (Waiting call) = None
run_of_progress op i (Runs close cancelled masked) = Some (run op i close)

abbrev pub run_of : Operation → Option Run
run_of o = run_of_progress o.number o.instance o.progress

-- ---- weights

-- one where there is something that passes
abbrev pub weigh : {X : Type 0} → (X → Bool) → Option X → ℕ
weigh p None = 0
weigh p (Some x) = bit (p x)

pub weigh_le : {X : Type 0} (p q : X → Bool) (o : Option X) → IfSome o (λ x. bit (p x) ≤ bit (q x)) → weigh p o ≤ weigh q o
weigh_le p q None h = omega arith
weigh_le p q (Some x) h = h

pub weigh_split : {X : Type 0} (p q r : X → Bool) (o : Option X) → IfSome o (λ x. bit (p x) ≤ bit (q x) + bit (r x)) → weigh p o ≤ weigh q o + weigh r o
weigh_split p q r None h = omega arith
weigh_split p q r (Some x) h = h

-- sessions that operations hold, and operations that run, by the operations and by the instances
abbrev pub held_by : (SessionFacts → Bool) → List Operation → ℕ
held_by p os = total (λ o. weigh p (claim_of o)) os

abbrev pub held_in : {A : Type 0} → (SessionFacts → Bool) → List (Instance A) → ℕ
held_in p xs = total (λ x. weigh p (claim_in x)) xs

abbrev pub runs_by : (Run → Bool) → List Operation → ℕ
runs_by p os = total (λ o. weigh p (run_of o)) os

-- what an entry may run: a destroy entry serves a close or another operation
abbrev pub weigh_op : (Run → Bool) → ℕ → ℕ → EntryPoint → ℕ
weigh_op p i op (stages.Create session client ps) = bit (p (run op i false))
weigh_op p i op (stages.Start session places) = bit (p (run op i false))
weigh_op p i op (stages.Invoke session places) = bit (p (run op i false))
weigh_op p i op (stages.Stop session) = bit (p (run op i true))
weigh_op p i op (stages.Destroy reply) = bit (p (run op i true)) + bit (p (run op i false))

abbrev pub weigh_served : (Run → Bool) → ℕ → Option ℕ → EntryPoint → ℕ
weigh_served p i None stage = 0
weigh_served p i (Some op) stage = weigh_op p i op stage

abbrev pub weigh_entry : (Run → Bool) → ℕ → Option ActiveEntry → ℕ
weigh_entry p i None = 0
weigh_entry p i (Some r) = weigh_served p i r.op r.stage

abbrev pub weigh_in : {A : Type 0} → (Run → Bool) → Instance A → ℕ
weigh_in p x = weigh_entry p x.number x.running

abbrev pub runs_in : {A : Type 0} → (Run → Bool) → List (Instance A) → ℕ
runs_in p xs = total (λ x. weigh_in p x) xs

-- where each run of an instance that the one lets pass is let pass by the other
op_le : (p q : Run → Bool) (i op : ℕ) (stage : EntryPoint) → ((c : Run) → c.instance ≡ i → bit (p c) ≤ bit (q c)) → weigh_op p i op stage ≤ weigh_op q i op stage
op_le p q i op (stages.Create session client ps) h = h (run op i false) refl
op_le p q i op (stages.Start session places) h = h (run op i false) refl
op_le p q i op (stages.Invoke session places) h = h (run op i false) refl
op_le p q i op (stages.Stop session) h = h (run op i true) refl
op_le p q i op (stages.Destroy reply) h = omega (arith, h (run op i true) refl, h (run op i false) refl)

served_le : (p q : Run → Bool) (i : ℕ) (op : Option ℕ) (stage : EntryPoint) → ((c : Run) → c.instance ≡ i → bit (p c) ≤ bit (q c)) → weigh_served p i op stage ≤ weigh_served q i op stage
served_le p q i None stage h = omega arith
served_le p q i (Some op) stage h = op_le p q i op stage h

pub entry_le : (p q : Run → Bool) (i : ℕ) (o : Option ActiveEntry) → ((c : Run) → c.instance ≡ i → bit (p c) ≤ bit (q c)) → weigh_entry p i o ≤ weigh_entry q i o
entry_le p q i None h = omega arith
entry_le p q i (Some r) h = served_le p q i r.op r.stage h

op_none : (i op : ℕ) (stage : EntryPoint) → weigh_op (λ c. false) i op stage ≡ 0
op_none i op (stages.Create session client ps) = refl
op_none i op (stages.Start session places) = refl
op_none i op (stages.Invoke session places) = refl
op_none i op (stages.Stop session) = refl
op_none i op (stages.Destroy reply) = refl

served_none : (i : ℕ) (op : Option ℕ) (stage : EntryPoint) → weigh_served (λ c. false) i op stage ≡ 0
served_none i None stage = refl
served_none i (Some op) stage = op_none i op stage

pub entry_none : (i : ℕ) (o : Option ActiveEntry) → weigh_entry (λ c. false) i o ≡ 0
entry_none i None = refl
entry_none i (Some r) = served_none i r.op r.stage

-- ---- what holds

-- an instance of this number is in the table
abbrev pub HasSlot : Table → ℕ → Type 0
HasSlot t i = list_any (nat_eq i) (instance_numbers t) ≡ true

-- the instances are those of the table; each session that isn't dead and each operation belongs to one; no session is held twice,
-- and each that is held is there, in its state; and an operation runs only where its instance runs an entry for it; and an instance that
-- is destroyed has no session
pub record IsSound {A : Type 0} (q : Queue) (t : Table) (xs : List (Instance A)) : Type 0 where
  pub queue : IsQueue q
  pub table : IsTable t
  pub numbers : map (λ x. x.number) xs ≡ instance_numbers t
  pub sessions : AllByRecursion (λ s. is_dead s.state ≡ false → HasSlot t s.instance) t.sessions
  pub operations : AllByRecursion (λ o. HasSlot t o.instance) q.operations
  pub held : (p : SessionFacts → Bool) → held_by p q.operations + held_in p xs ≤ sessions_of p t.sessions
  pub runs : (p : Run → Bool) → runs_by p q.operations ≤ runs_in p xs
  pub calm : IsCalm t xs

abbrev pub IsSoundMachine : {A : Type 0} → Machine A → Type 0
IsSoundMachine m = IsSound m.queue m.table m.instances

-- where there is no instance
pub nothing_sound : {A : Type 0} (q : Queue) (properties : Properties) → IsQueue q → q.operations ≡ [] → IsSound {A = A} q (no_instances properties) []
nothing_sound q properties queue none = record {
  queue = queue;
  table = record {
    few_slots = omega arith;
    few_sessions = omega arith;
    instance_numbers = λ k d lt. absurd (omega arith);
    session_numbers = λ k d lt. absurd (omega arith);
    slots_apart = λ i j d lt within. absurd (omega arith);
    sessions_apart = λ i j d lt within. absurd (omega arith);
    one_instance = λ _. omega arith;
  };
  numbers = refl;
  sessions = tt;
  operations = subst (AllByRecursion (λ o. HasSlot (no_instances properties) o.instance)) (sym none) tt;
  held = λ p. omega (arith, ap (held_by p) none);
  runs = λ p. omega (arith, ap (runs_by p) none);
  calm = record { quiet = λ i. omega arith; alone = λ _ i. omega arith; marked = λ i. omega arith };
}

pub start_sound : {A : Type 0} (host : Host A) (index : ℕ) (seed : List ℕ) (store : Store) → IsSoundMachine (start host index seed store)
start_sound host index seed store =
    nothing_sound empty_queue host.properties
    (record {
      first = omega arith;
      few = omega arith;
      closes = omega arith;
      numbers = λ k d lt. absurd (omega arith);
      ordered = λ i j d lt within. absurd (omega arith);
    }) refl

-- ---- what a claim says

-- it is of the operation's session and instance, and that session is held
pub record Fits (session i : ℕ) (c : SessionFacts) : Type 0 where
  pub session_same : c.session ≡ session
  pub instance_same : c.instance ≡ i
  pub state : is_held c.state ≡ true

call_fits : (session i : ℕ) (call : Call) → IfSome (claim_of_call session i call) (Fits session i)
call_fits session i (calls.Open label login ps) = record { session_same = refl; instance_same = refl; state = refl }
call_fits session i (calls.Invoke label command ps) = tt
call_fits session i (calls.Close label) = record { session_same = refl; instance_same = refl; state = refl }
call_fits session i (calls.Share block flags size) = tt
call_fits session i (calls.Fill block at bytes) = tt
call_fits session i (calls.Show block) = tt
call_fits session i (calls.Unshare block) = tt

progress_fits : (session i : ℕ) (progress : Progress) → IfSome (claim_of_progress session i progress) (Fits session i)
progress_fits session i (Waiting call) = call_fits session i call
progress_fits session i (Runs close cancelled masked) = tt

pub claim_fits : (o : Operation) → IfSome (claim_of o) (Fits o.session o.instance)
claim_fits o = progress_fits o.session o.instance o.progress

-- an entry's is of its instance
abbrev pub FitsIn : ℕ → SessionFacts → Type 0
FitsIn i c = (c.instance ≡ i) × (is_held c.state ≡ true)

stage_fits : (i : ℕ) (stage : EntryPoint) → IfSome (claim_of_stage i stage) (FitsIn i)
stage_fits i (stages.Create session client ps) = (refl, refl)
stage_fits i (stages.Start session places) = (refl, refl)
stage_fits i (stages.Invoke session places) = tt
stage_fits i (stages.Stop session) = (refl, refl)
stage_fits i (stages.Destroy reply) = tt

entry_fits : (i : ℕ) (o : Option ActiveEntry) → IfSome (claim_of_entry i o) (FitsIn i)
entry_fits i None = tt
entry_fits i (Some r) = stage_fits i r.stage

pub claim_in_fits : {A : Type 0} (x : Instance A) → IfSome (claim_in x) (FitsIn x.number)
claim_in_fits x = entry_fits x.number x.running

pub if_some : {X : Type 0} (P Q : X → Type 0) (o : Option X) → ((x : X) → P x → Q x) → IfSome o P → IfSome o Q
if_some P Q None f h = tt
if_some P Q (Some x) f h = f x h

-- any that holds of all holds of what there is
pub if_any : {X : Type 0} (Q : X → Type 0) (o : Option X) → ((x : X) → Q x) → IfSome o Q
if_any Q None f = tt
if_any Q (Some x) f = f x

pub run_fits : (op i : ℕ) (progress : Progress) → IfSome (run_of_progress op i progress) (λ c. (c.op ≡ op) × (c.instance ≡ i))
run_fits op i (Waiting call) = tt
run_fits op i (Runs close cancelled masked) = (refl, refl)
