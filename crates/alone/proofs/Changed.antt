-- What a turn changes leaves what holds of every machine.
use Rattle.std.proofs.Common.{ℕ, ◌≡◌, ◌≢◌, ◌+◌, ◌≤◌, ◌==◌, ◌&&◌, nat_eq, Bool, true, false, not, cond, List, [], ◌∷◌, find, filter, map, None, Some, refl, sym, ap, ◌∙◌, ⊎_elim, eq-eqb, arith}
use Rattle.std.specs.List.{AllByRecursion, list_any}
use Rattle.std.proofs.lemmas.Bool.{cases_Bool, cond-true, cond-false, cond_both, eqb-true, and_parts}
use Rattle.app_api.specs.declared.call.Call.{Call}
use Rattle.app_api.specs.declared.call.Call.TheVariants as calls
use Rattle.instances.specs.declared.session.Session.{Session}
use Rattle.instances.specs.declared.session.Slot.{Slot}
use Rattle.instances.specs.declared.session.SessionFacts.{SessionFacts}
use Rattle.instances.specs.Instances.{Table, IsTable, destroy_begun, is_dead}
use Rattle.instances.proofs.Changes.{destroy_begun_IsTable}
use Rattle.op_queue.specs.declared.operation.Operation.{Operation}
use Rattle.op_queue.specs.declared.operation.Progress.TheVariants.{Waiting, Running as Runs}
use Rattle.op_queue.specs.Queue.{Queue, IsQueue, ComesBefore, is_close, is_close_call, is_running, waits_for, first_waiting, as_running, after_begin, without}
use Rattle.op_queue.proofs.Keeps.{started_IsQueue, without_IsQueue}
use Rattle.shared_mem.specs.declared.block.Block.{Block}
use Rattle.alone.specs.declared.active_entry.Instance.{Instance}
use Rattle.alone.specs.declared.active_entry.ActiveEntry.{ActiveEntry}
use Rattle.alone.specs.declared.active_entry.EntryPoint.{EntryPoint}
use Rattle.alone.specs.declared.active_entry.EntryPoint.TheVariants as stages
use Rattle.alone.specs.Machine.{is_number, put_instance}
use Rattle.alone.specs.Step.{first_entry}
use Rattle.alone.proofs.Totals.{bit, total, having, having_once, alike, found_passes, found_grows, total_both, total_map, total_filter, total_le, total_le_each, total_once}
use Rattle.alone.proofs.Each.{ending_numbers, each_filter, each_map, each_weaker, bit_and, bit_when}
use Rattle.alone.proofs.Lists.{total_put, numbers_put}
use Rattle.alone.proofs.Calm.{IsCalm, calm_begun, calm_le, counting, destroyers_put, destroys, filter_le, sessions_of}
use Rattle.alone.proofs.Sound.{IsSound, HasSlot, Run, run, claim_of, claim_of_call, claim_of_progress, claim_of_entry, claim_in, entry_le, run_of, weigh}
use Rattle.alone.proofs.Sound.{weigh_entry, weigh_in, weigh_le, weigh_op, weigh_served, held_by, held_in, runs_by, run_fits, if_some}

-- the number of an operation
abbrev pub operation_number : Operation → ℕ
operation_number o = o.number

pub operations_once : (q : Queue) → IsQueue q → (n : ℕ) → having operation_number n q.operations ≤ 1
operations_once q h n = having_once ComesBefore operation_number (λ o later before same. omega (arith, before, same)) q.operations h.ordered n

-- ---- an instance goes on

calm_put : {A : Type 0} (t : Table) (xs : List (Instance A)) (new old : Instance A) → IsCalm t xs → find (is_number new.number) xs ≡ Some old
    → bit (destroys new.running) ≤ bit (destroys old.running) → IsCalm t (put_instance new xs)
calm_put t xs new old calm found fewer = calm_le t t xs (put_instance new xs) calm refl (λ i. omega arith) (destroyers_put new old xs found fewer) (λ i. omega arith)

pub sound_put : {A : Type 0} (q : Queue) (t : Table) (xs : List (Instance A)) (new old : Instance A) → IsSound q t xs
    → find (is_number new.number) xs ≡ Some old → claim_in new ≡ claim_in old → ((p : Run → Bool) → weigh_in p old ≤ weigh_in p new)
    → bit (destroys new.running) ≤ bit (destroys old.running) → IsSound q t (put_instance new xs)
sound_put {A} q t xs new old h found claim same fewer = record {
  queue = h.queue;
  table = h.table;
  numbers = numbers_put new xs ∙ h.numbers;
  sessions = h.sessions;
  operations = h.operations;
  held = λ p. omega (arith, h.held p, total_put (λ (x : Instance A). weigh p (claim_in x)) new old xs found, ap (weigh p) claim);
  runs = λ p. omega (arith, h.runs p, total_put (λ (x : Instance A). weigh_in p x) new old xs found, same p);
  calm = calm_put t xs new old h.calm found fewer;
}

-- ---- an operation begins

-- what an operation is that has begun
abbrev begun_from : Operation → Operation
begun_from o = record o { progress = Runs (is_close o.progress) false true }

-- a measure of operations that wait falls by that of one that begins
pub started_less : (f : Operation → ℕ) (q : Operation → Bool) (os : List Operation) (o : Operation) → find q os ≡ Some o
    → ((x : Operation) → f (begun_from x) ≡ 0) → total f (map (as_running o.number) os) + f o ≤ total f os
started_less f q os o e none =
    let mapped = total_map f (as_running o.number) os in
    let here : f (as_running o.number o) ≡ 0 = ap f (cond-true (o.number == o.number) (begun_from o) o (eq-eqb o.number o.number refl)) ∙ none o in
    omega (arith, mapped, found_grows (λ x. f (as_running o.number x)) f (f o) q os o e (all os) (omega (arith, here)))
  where
    all : (xs : List Operation) → AllByRecursion (λ x. f (as_running o.number x) ≤ f x) xs
    all [] = tt
    all (x ∷ xs) = (
      cond_both (x.number == o.number) (begun_from x) x (λ y. f y ≤ f x) (λ _. omega (arith, none x)) (λ _. omega arith),
      all xs,
    )

-- and one of operations grows by that of the one at most
started_more : (f : Operation → ℕ) (q : Operation → Bool) (os : List Operation) (o : Operation) → find q os ≡ Some o → having operation_number o.number os ≤ 1
    → total f (map (as_running o.number) os) ≤ total f os + f (begun_from o)
started_more f q os o e once =
    let n = o.number in
    let c = f (begun_from o) in
    let mapped = total_map f (as_running n) os in
    let parts = total_both f (λ (x : Operation). cond (x.number == n) c 0) os in
    let each : AllByRecursion (λ x. f (as_running n x) ≤ f x + cond (x.number == n) c 0) os =
    each_weaker (λ (x : Operation). x.number ≡ n → x ≡ o) (λ x. f (as_running n x) ≤ f x + cond (x.number == n) c 0) os
    (λ x same. ⊎_elim
    (λ (yes : (x.number == n) ≡ true).
    omega (arith, ap f (cond-true (x.number == n) (begun_from x) x yes), cond-true (x.number == n) c 0 yes, ap (λ y. f (begun_from y)) (same (eqb-true x.number n yes))))
    (λ (no : (x.number == n) ≡ false). omega (arith, ap f (cond-false (x.number == n) (begun_from x) x no), cond-false (x.number == n) c 0 no))
    (cases_Bool (x.number == n)))
    (alike operation_number n q os o once e refl) in
    omega (arith, mapped, parts, total_le_each (λ x. f (as_running n x)) (λ x. f x + cond (x.number == n) c 0) os each, total_once operation_number n c os once)

first_claim : (blocks : List Block) (created : Bool) (i op client session : ℕ) (call : Call)
    → claim_of_entry i (Some (first_entry blocks created op client session call)) ≡ claim_of_call session i call
first_claim blocks false i op client session (calls.Open label login ps) = refl
first_claim blocks true i op client session (calls.Open label login ps) = refl
first_claim blocks false i op client session (calls.Invoke label command ps) = refl
first_claim blocks true i op client session (calls.Invoke label command ps) = refl
first_claim blocks false i op client session (calls.Close label) = refl
first_claim blocks true i op client session (calls.Close label) = refl
first_claim blocks created i op client session (calls.Share block flags size) = refl
first_claim blocks created i op client session (calls.Fill block at bytes) = refl
first_claim blocks created i op client session (calls.Show block) = refl
first_claim blocks created i op client session (calls.Unshare block) = refl

first_weight : (blocks : List Block) (created : Bool) (p : Run → Bool) (i op client session : ℕ) (call : Call)
    → weigh_entry p i (Some (first_entry blocks created op client session call)) ≡ bit (p (run op i (is_close_call call)))
first_weight blocks false p i op client session (calls.Open label login ps) = refl
first_weight blocks true p i op client session (calls.Open label login ps) = refl
first_weight blocks false p i op client session (calls.Invoke label command ps) = refl
first_weight blocks true p i op client session (calls.Invoke label command ps) = refl
first_weight blocks false p i op client session (calls.Close label) = refl
first_weight blocks true p i op client session (calls.Close label) = refl
first_weight blocks created p i op client session (calls.Share block flags size) = refl
first_weight blocks created p i op client session (calls.Fill block at bytes) = refl
first_weight blocks created p i op client session (calls.Show block) = refl
first_weight blocks created p i op client session (calls.Unshare block) = refl

first_stays : (blocks : List Block) (created : Bool) (op client session : ℕ) (call : Call) → destroys (Some (first_entry blocks created op client session call)) ≡ false
first_stays blocks false op client session (calls.Open label login ps) = refl
first_stays blocks true op client session (calls.Open label login ps) = refl
first_stays blocks false op client session (calls.Invoke label command ps) = refl
first_stays blocks true op client session (calls.Invoke label command ps) = refl
first_stays blocks false op client session (calls.Close label) = refl
first_stays blocks true op client session (calls.Close label) = refl
first_stays blocks created op client session (calls.Share block flags size) = refl
first_stays blocks created op client session (calls.Fill block at bytes) = refl
first_stays blocks created op client session (calls.Show block) = refl
first_stays blocks created op client session (calls.Unshare block) = refl

-- the instance's first operation that waits is the instance's
pub first_is_own : (q : Queue) (i : ℕ) (o : Operation) → first_waiting q i ≡ Some o → o.instance ≡ i
first_is_own q i o e = eqb-true o.instance i ((and_parts (o.instance == i) (not (is_running o.progress)) (found_passes (waits_for i) q.operations o e)).0)

pub sound_begun : {A : Type 0} (blocks : List Block) (q : Queue) (t : Table) (xs : List (Instance A)) (inst : Instance A) (o : Operation) (call : Call) → IsSound q t xs
    → find (is_number inst.number) xs ≡ Some inst → inst.running ≡ None → first_waiting q inst.number ≡ Some o → o.progress ≡ Waiting call
    → IsSound (after_begin q (Some o)) t (put_instance (record inst { running = Some (first_entry blocks inst.created o.number o.client o.session call) }) xs)
sound_begun {A} blocks q t xs inst o call h found idle first waits =
    let i = inst.number in
    let new : Instance A = record inst { running = Some (first_entry blocks inst.created o.number o.client o.session call) } in
    let own : o.instance ≡ i = first_is_own q i o first in
    let claim_old : claim_in inst ≡ None = ap (claim_of_entry i) idle in
    let claim_new : claim_in new ≡ claim_of o = first_claim blocks inst.created i o.number o.client o.session call ∙ ap (claim_of_progress o.session i) (sym waits)
    ∙ ap (λ k. claim_of_progress o.session k o.progress) (sym own) in
    let run_old : (p : Run → Bool) → weigh_in p inst ≡ 0 = λ p. ap (weigh_entry p i) idle in
    let run_new : (p : Run → Bool) → weigh_in p new ≡ weigh p (run_of (begun_from o)) =
    λ p. first_weight blocks inst.created p i o.number o.client o.session call ∙ ap (λ progress. bit (p (run o.number i (is_close progress)))) (sym waits) ∙ ap
    (λ k. bit (p (run o.number k (is_close o.progress)))) (sym own) in
    record {
      queue = started_IsQueue q o.number h.queue;
      table = h.table;
      numbers = numbers_put new xs ∙ h.numbers;
      sessions = h.sessions;
      operations = each_map (λ x. HasSlot t x.instance) (λ x. HasSlot t x.instance) (as_running o.number) q.operations
          (λ x here. cond_both (x.number == o.number) (begun_from x) x (λ y. HasSlot t y.instance) (λ _. here) (λ _. here)) h.operations;
      held = λ p. omega (
        arith,
        h.held p,
        started_less (λ x. weigh p (claim_of x)) (waits_for i) q.operations o first (λ x. refl),
        total_put
            (λ (x : Instance A). weigh p (claim_in x)) new inst xs found,
        ap (weigh p) claim_old,
        ap (weigh p) claim_new,
      );
      runs = λ p. omega (
        arith,
        h.runs p,
        started_more (λ x. weigh p (run_of x)) (waits_for i) q.operations o first
            (operations_once q h.queue o.number),
        total_put (λ (x : Instance A). weigh_in p x) new inst xs found,
        run_old p,
        run_new p,
      );
      calm = calm_put t xs new inst h.calm found (omega (arith, ap bit (first_stays blocks inst.created o.number o.client o.session call)));
    }

-- ---- an operation is answered

-- runs of other operations
abbrev other_op : ℕ → (Run → Bool) → Run → Bool
other_op op p c = not (c.op == op) && p c

runs_by_others : (p : Run → Bool) (op : ℕ) (os : List Operation) → runs_by p (filter (λ o. not (o.number == op)) os) ≤ runs_by (other_op op p) os
runs_by_others p op os =
    let after = total_filter (λ (o : Operation). weigh p (run_of o)) (λ (o : Operation). not (o.number == op)) os in
    let le = total_le (λ (o : Operation). cond (not (o.number == op)) (weigh p (run_of o)) 0) (λ (o : Operation). weigh (other_op op p) (run_of o)) os
    (λ o. cond_both (not (o.number == op)) (weigh p (run_of o)) 0 (λ n. n ≤ weigh (other_op op p) (run_of o))
    (λ other. weigh_le p (other_op op p) (run_of o)
    (if_some (λ c. (c.op ≡ o.number) × (c.instance ≡ o.instance)) (λ c. bit (p c) ≤ bit (other_op op p c)) (run_of o)
    (λ c fits. bit_when (not (c.op == op)) (p c) (ap (λ n. not (n == op)) fits.0 ∙ other))
    (run_fits o.number o.instance o.progress)))
    (λ _. omega arith)) in
    omega (arith, after, le)

-- a run of the operation is none of the others
op_gone : (p : Run → Bool) (op i : ℕ) (stage : EntryPoint) → weigh_op (other_op op p) i op stage ≡ 0
op_gone p op i stage = go stage (λ close. ap (λ b. bit (not b && p (run op i close))) (eq-eqb op op refl))
  where
    go : (stage : EntryPoint) → ((close : Bool) → bit (other_op op p (run op i close)) ≡ 0) → weigh_op (other_op op p) i op stage ≡ 0
    go (stages.Create session client ps) none = none false
    go (stages.Start session places) none = none false
    go (stages.Invoke session places) none = none false
    go (stages.Stop session) none = none true
    go (stages.Destroy reply) none = omega (arith, none true, none false)

-- what the sessions are to be that a return leaves
pub record IsLeft {A : Type 0} (q : Queue) (t : Table) (ss : List Session) (ys : List (Instance A)) : Type 0 where
  pub table : IsTable (record t { sessions = ss })
  pub home : AllByRecursion (λ s. is_dead s.state ≡ false → HasSlot t s.instance) ss
  pub held : (p : SessionFacts → Bool) → held_by p q.operations + held_in p ys ≤ sessions_of p ss
  pub counts : (i : ℕ) → counting i ss ≤ counting i t.sessions

pub sound_left : {A : Type 0} (q : Queue) (t : Table) (ss : List Session) (xs : List (Instance A)) (new old : Instance A) → IsSound q t xs
    → find (is_number new.number) xs ≡ Some old → IsLeft q t ss (put_instance new xs)
    → ((p : Run → Bool) → weigh_in p old ≤ weigh_in p new) → bit (destroys new.running) ≤ bit (destroys old.running) → IsSound q (record t { sessions = ss }) (put_instance new xs)
sound_left {A} q t ss xs new old h found left same fewer = record {
  queue = h.queue;
  table = left.table;
  numbers = numbers_put new xs ∙ h.numbers;
  sessions = left.home;
  operations = h.operations;
  held = left.held;
  runs = λ p. omega (arith, h.runs p, total_put (λ (x : Instance A). weigh_in p x) new old xs found, same p);
  calm = calm_le t (record t { sessions = ss }) xs (put_instance new xs) h.calm refl left.counts (destroyers_put new old xs found fewer) (λ i. omega arith);
}

pub sound_answered : {A : Type 0} (q : Queue) (t : Table) (ss : List Session) (xs : List (Instance A)) (inst : Instance A) (r : ActiveEntry) (op : ℕ)
    → IsSound q t xs → find (is_number inst.number) xs ≡ Some inst → inst.running ≡ Some r → r.op ≡ Some op
    → IsLeft q t ss (put_instance (record inst { running = None }) xs) → IsSound (without q op) (record t { sessions = ss }) (put_instance (record inst { running = None }) xs)
sound_answered {A} q t ss xs inst r op h found running serves left =
    let i = inst.number in
    let new : Instance A = record inst { running = None } in
    record {
      queue = without_IsQueue q op h.queue;
      table = left.table;
      numbers = numbers_put new xs ∙ h.numbers;
      sessions = left.home;
      operations = each_filter (λ o. HasSlot t o.instance) (λ o. not (o.number == op)) q.operations h.operations;
      held = λ p. omega (arith, left.held p, filter_le (λ o. weigh p (claim_of o)) (λ o. not (o.number == op)) q.operations);
      runs = λ p.
          let others = other_op op p in
          let none : weigh_in others inst ≡ 0 = ap (weigh_entry others i) running ∙ ap (λ o. weigh_served others i o r.stage) serves ∙ op_gone p op i r.stage in
          let put = total_put (λ (x : Instance A). weigh_in others x) new inst xs found in
          let le = total_le (λ (x : Instance A). weigh_in others x) (λ (x : Instance A). weigh_in p x) (put_instance new xs)
          (λ x. entry_le others p x.number x.running (λ c _. bit_and (not (c.op == op)) (p c))) in
          omega (arith, runs_by_others p op q.operations, h.runs others, none, put, le);
      calm = calm_le t (record t { sessions = ss }) xs (put_instance new xs) h.calm refl left.counts (destroyers_put new inst xs found (omega arith)) (λ i. omega arith);
    }

-- ---- an instance begins to be destroyed

pub sound_destroying : {A : Type 0} (q : Queue) (t : Table) (ss : List Session) (xs : List (Instance A)) (new old : Instance A) → IsSound q t xs
    → find (is_number new.number) xs ≡ Some old → IsLeft q t ss (put_instance new xs)
    → ((p : Run → Bool) → weigh_in p old ≤ weigh_in p new) → counting new.number ss ≡ 0 → IsSound q (destroy_begun (record t { sessions = ss }) new.number) (put_instance new xs)
sound_destroying {A} q t ss xs new old h found left same none =
    let n = new.number in
    let slots = ending_numbers n t.slots in
    let stays : (k : ℕ) → HasSlot t k → HasSlot (destroy_begun (record t { sessions = ss }) n) k = λ k here. ap (list_any (nat_eq k)) slots ∙ here in
    let once = having_once (λ (slot other : Slot). slot.number ≢ other.number) (λ (slot : Slot). slot.number) (λ slot other apart. apart) t.slots h.table.slots_apart n in
    record {
      queue = h.queue;
      table = destroy_begun_IsTable (record t { sessions = ss }) n left.table;
      numbers = numbers_put new xs ∙ h.numbers ∙ sym slots;
      sessions = each_weaker (λ s. is_dead s.state ≡ false → HasSlot t s.instance)
          (λ s. is_dead s.state ≡ false → HasSlot (destroy_begun (record t { sessions = ss }) n) s.instance) ss (λ s there alive. stays s.instance (there alive)) left.home;
      operations = each_weaker (λ o. HasSlot t o.instance) (λ o. HasSlot (destroy_begun (record t { sessions = ss }) n) o.instance) q.operations (λ o there. stays o.instance there) h.operations;
      held = left.held;
      runs = λ p. omega (arith, h.runs p, total_put (λ (x : Instance A). weigh_in p x) new old xs found, same p);
      calm = calm_begun t ss xs new old h.calm h.numbers once found left.counts none;
    }
