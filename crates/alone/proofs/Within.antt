-- A queue in which nothing more is than in another.
use Rattle.std.proofs.Common.{ℕ, ◌≡◌, ◌≤◌, ◌==◌, ◌&&◌, Bool, true, not, List, filter, map, Option, None, Some, refl, sym, ap, subst, ◌∙◌, arith}
use Rattle.std.specs.List.{AllByRecursion}
use Rattle.std.proofs.lemmas.Bool.{cond_both}
use Rattle.instances.specs.declared.session.SessionFacts.{SessionFacts}
use Rattle.instances.specs.Instances.{Table}
use Rattle.op_queue.specs.declared.operation.Operation.{Operation}
use Rattle.op_queue.specs.declared.operation.Progress.{Progress}
use Rattle.op_queue.specs.declared.operation.Progress.TheVariants.{Waiting, Running as Runs}
use Rattle.op_queue.specs.Queue.{Queue, IsQueue, is_close, is_running, mask_set, masked_as, as_requested, waits_for, with_mask, with_request}
use Rattle.op_queue.proofs.Keeps.{filter_IsQueue, map_IsQueue}
use Rattle.alone.specs.declared.active_entry.Instance.{Instance}
use Rattle.alone.specs.Asks.{mask_set_for}
use Rattle.alone.specs.Step.{masked_again}
use Rattle.alone.proofs.Totals.{bit, total_le, total_map}
use Rattle.alone.proofs.Each.{each_filter, each_map}
use Rattle.alone.proofs.Calm.{filter_le}
use Rattle.alone.proofs.Called.{IsOf}
use Rattle.alone.proofs.Measure.{measure, waiting}
use Rattle.alone.proofs.Sound.{IsSound, HasSlot, Run, claim_of, claim_of_progress, held_by, run_of, run_of_progress, runs_by, weigh}

pub record IsWithin (q now : Queue) : Type 0 where
  pub queue : IsQueue q → IsQueue now
  pub next : now.next ≡ q.next
  pub homes : (t : Table) → AllByRecursion (λ o. HasSlot t o.instance) q.operations → AllByRecursion (λ o. HasSlot t o.instance) now.operations
  pub owner : (op j : ℕ) → AllByRecursion (IsOf op j) q.operations → AllByRecursion (IsOf op j) now.operations
  pub claims : (p : SessionFacts → Bool) → held_by p now.operations ≤ held_by p q.operations
  pub runs : (p : Run → Bool) → runs_by p now.operations ≤ runs_by p q.operations
  pub waits : (i : ℕ) → waiting i now.operations ≤ waiting i q.operations

-- what holds with the one holds with the other
pub sound_within : {A : Type 0} (q now : Queue) (t : _) (xs : List (Instance A)) → IsWithin q now → IsSound q t xs → IsSound now t xs
sound_within q now t xs within h = record {
  queue = within.queue h.queue;
  table = h.table;
  numbers = h.numbers;
  sessions = h.sessions;
  operations = within.homes t h.operations;
  held = λ p. omega (arith, h.held p, within.claims p);
  runs = λ p. omega (arith, h.runs p, within.runs p);
  calm = h.calm;
}

pub measure_within : {A : Type 0} (i : ℕ) (q now : Queue) (xs : List (Instance A)) → IsWithin q now → measure i now xs ≤ measure i q xs
measure_within i q now xs within = omega (arith, within.waits i)

pub within_same : (q : Queue) → IsWithin q q
within_same q = record {
  queue = λ h. h;
  next = refl;
  homes = λ t h. h;
  owner = λ op j h. h;
  claims = λ p. omega arith;
  runs = λ p. omega arith;
  waits = λ i. omega arith;
}

-- operations that some are of
pub within_filter : (q : Queue) (p : Operation → Bool) → IsWithin q (record q { operations = filter p q.operations })
within_filter q p = record {
  queue = filter_IsQueue q p;
  next = refl;
  homes = λ t h. each_filter (λ o. HasSlot t o.instance) p q.operations h;
  owner = λ op j h. each_filter (IsOf op j) p q.operations h;
  claims = λ c. filter_le (λ o. weigh c (claim_of o)) p q.operations;
  runs = λ c. filter_le (λ o. weigh c (run_of o)) p q.operations;
  waits = λ i. filter_le (λ o. bit (waits_for i o)) p q.operations;
}

-- ---- operations that change their flags alone

record IsSame (o now : Operation) : Type 0 where
  number : now.number ≡ o.number
  instance : now.instance ≡ o.instance
  close : is_close now.progress ≡ is_close o.progress
  claim : claim_of now ≡ claim_of o
  run : run_of now ≡ run_of o
  waits : is_running now.progress ≡ is_running o.progress

within_map : (q : Queue) (f : Operation → Operation) → ((o : Operation) → IsSame o (f o)) → IsWithin q (record q { operations = map f q.operations })
within_map q f same = record {
  queue = map_IsQueue q f (λ o. (same o).number) (λ o. (same o).close);
  next = refl;
  homes = λ t h. each_map (λ o. HasSlot t o.instance) (λ o. HasSlot t o.instance) f q.operations (λ o there. subst (HasSlot t) (sym (same o).instance) there) h;
  owner = λ op j h. each_map (IsOf op j) (IsOf op j) f q.operations (λ o own number. (same o).instance ∙ own (sym (same o).number ∙ number)) h;
  claims = λ p. omega (
    arith,
    total_map (λ o. weigh p (claim_of o)) f q.operations,
    total_le (λ o. weigh p (claim_of (f o)))
        (λ o. weigh p (claim_of o)) q.operations (λ o. omega (arith, ap (weigh p) (same o).claim)),
  );
  runs = λ p. omega (
    arith,
    total_map (λ o. weigh p (run_of o)) f q.operations,
    total_le (λ o. weigh p (run_of (f o)))
        (λ o. weigh p (run_of o)) q.operations (λ o. omega (arith, ap (weigh p) (same o).run)),
  );
  waits = λ i. omega (
    arith,
    total_map (λ o. bit (waits_for i o)) f q.operations,
    total_le (λ o. bit (waits_for i (f o))) (λ o. bit (waits_for i o)) q.operations
        (λ o. omega (arith, ap (λ n. bit ((n == i) && not (is_running (f o).progress))) (same o).instance, ap (λ b. bit ((o.instance == i) && not b)) (same o).waits)),
  );
}

-- another progress, as far as it is told
record IsAs (progress now : Progress) : Type 0 where
  close : is_close now ≡ is_close progress
  claim : (session i : ℕ) → claim_of_progress session i now ≡ claim_of_progress session i progress
  run : (op i : ℕ) → run_of_progress op i now ≡ run_of_progress op i progress
  waits : is_running now ≡ is_running progress

request_as : (progress : Progress) → IsAs progress (with_request progress)
request_as (Waiting call) = record { close = refl; claim = λ session i. refl; run = λ op i. refl; waits = refl }
request_as (Runs close cancelled masked) = record { close = refl; claim = λ session i. refl; run = λ op i. refl; waits = refl }

mask_as : (value : Bool) (progress : Progress) → IsAs progress (with_mask value progress)
mask_as value (Waiting call) = record { close = refl; claim = λ session i. refl; run = λ op i. refl; waits = refl }
mask_as value (Runs close cancelled masked) = record { close = refl; claim = λ session i. refl; run = λ op i. refl; waits = refl }

same_progress : (o : Operation) (progress : Progress) → IsAs o.progress progress → IsSame o (record o { progress = progress })
same_progress o progress as_it = record {
  number = refl;
  instance = refl;
  close = as_it.close;
  claim = as_it.claim o.session o.instance;
  run = as_it.run o.number o.instance;
  waits = as_it.waits;
}

all_same : (o : Operation) → IsSame o o
all_same o = record { number = refl; instance = refl; close = refl; claim = refl; run = refl; waits = refl }

-- one that runs is flagged
pub within_requested : (q : Queue) (op : ℕ) → IsWithin q (record q { operations = map (as_requested op) q.operations })
within_requested q op =
    within_map q (as_requested op) (λ o. cond_both (o.number == op) (record o { progress = with_request o.progress }) o (IsSame o)
    (λ _. same_progress o (with_request o.progress) (request_as o.progress)) (λ _. all_same o))

-- a mask is set
within_mask : (q : Queue) (op : ℕ) (value : Bool) → IsWithin q (mask_set q op value)
within_mask q op value =
    within_map q (masked_as op value) (λ o. cond_both (o.number == op) (record o { progress = with_mask value o.progress }) o (IsSame o)
    (λ _. same_progress o (with_mask value o.progress) (mask_as value o.progress)) (λ _. all_same o))

pub within_again : (q : Queue) (op : Option ℕ) → IsWithin q (masked_again q op)
within_again q None = within_same q
within_again q (Some op) = within_mask q op true

pub within_mask_for : (q : Queue) (op : Option ℕ) (value : Bool) → IsWithin q (mask_set_for q op value)
within_mask_for q None value = within_same q
within_mask_for q (Some op) value = within_mask q op value
