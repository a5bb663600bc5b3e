-- A cancellation leaves what holds of every machine.
use Rattle.std.proofs.Common.{ℕ, ◌≡◌, ◌+◌, ◌≤◌, ◌==◌, Bool, true, false, not, cond, List, [], ◌∷◌, find, filter, Option, None, Some, option_map, refl, ap, ◌∙◌, eq-eqb, arith}
use Rattle.std.specs.List.{AllByRecursion}
use Rattle.std.proofs.lemmas.Bool.{cond_both, eqb-true}
use Rattle.app_api.specs.declared.call.Call.{Call}
use Rattle.app_api.specs.declared.call.Call.TheVariants as calls
use Rattle.instances.specs.declared.session.SessionState.TheVariants.{Opening}
use Rattle.instances.specs.Instances.{Table, is_dead, session_removed}
use Rattle.instances.proofs.Changes.{removed_IsTable}
use Rattle.op_queue.specs.declared.operation.Operation.{Operation}
use Rattle.op_queue.specs.declared.operation.Progress.{Progress}
use Rattle.op_queue.specs.declared.operation.Progress.TheVariants.{Waiting, Running as Runs}
use Rattle.op_queue.specs.declared.operation.Cancelled.{Cancelled as Cancellation}
use Rattle.op_queue.specs.declared.operation.Cancelled.TheVariants.{Dropped, Flagged, Nothing}
use Rattle.op_queue.specs.Queue.{Queue, after_cancel, cancel_of, operation_of, without}
use Rattle.alone.specs.declared.active_entry.Instance.{Instance}
use Rattle.alone.specs.Machine.{Machine, instance_at}
use Rattle.alone.specs.Step.{after_cancellation, cancelled_by, after_dropped_open, instance_gone, is_unused, open_of_call, open_of_progress, unless_unused, waiting_open}
use Rattle.alone.proofs.Totals.{bit, found_grows, found_passes, nothing_found, total, total_filter}
use Rattle.alone.proofs.Each.{each_filter}
use Rattle.alone.proofs.Calm.{calm_le}
use Rattle.alone.proofs.Gone.{sound_failed}
use Rattle.alone.proofs.Sound.{IsSound, IsSoundMachine, HasSlot, claim_of, claim_of_call, claim_of_progress, facts, weigh}
use Rattle.alone.proofs.Sessions.{both, counting_removed, held_by_split, held_in_split, not_of, of_number, removed_others, sessions_once}
use Rattle.alone.proofs.Within.{sound_within, within_filter, within_requested}

-- a measure falls by that of an operation that goes
without_less : (f : Operation → ℕ) (op : ℕ) (os : List Operation) (o : Operation) → find (λ x. x.number == op) os ≡ Some o → o.number ≡ op
    → total f (filter (λ x. not (x.number == op)) os) + f o ≤ total f os
without_less f op os o e number =
    let g : Operation → ℕ = λ x. cond (not (x.number == op)) (f x) 0 in
    let none : g o ≡ 0 = ap (λ b. cond (not b) (f o) 0) (eq-eqb o.number op number) in
    omega (arith, total_filter f (λ (x : Operation). not (x.number == op)) os, found_grows g f (f o) (λ x. x.number == op) os o e (all os) (omega (arith, none)))
  where
    some : (b : Bool) (n : ℕ) → cond b n 0 ≤ n
    some true n = omega arith
    some false n = omega arith

    all : (xs : List Operation) → AllByRecursion (λ x. cond (not (x.number == op)) (f x) 0 ≤ f x) xs
    all [] = tt
    all (x ∷ xs) = (some (not (x.number == op)) (f x), all xs)

-- what a waiting open claims
call_claims : (session i : ℕ) (call : Call) (n j : ℕ) → open_of_call session i call ≡ Some (n, j) → claim_of_call session i call ≡ Some (facts n j Opening)
call_claims session i (calls.Open label login ps) n j e = ap (option_map (λ o. facts o.0 o.1 Opening)) e
call_claims session i (calls.Invoke label command ps) n j e = absurd (nothing_found (n, j) e)
call_claims session i (calls.Close label) n j e = absurd (nothing_found (n, j) e)
call_claims session i (calls.Share block flags size) n j e = absurd (nothing_found (n, j) e)
call_claims session i (calls.Fill block at bytes) n j e = absurd (nothing_found (n, j) e)
call_claims session i (calls.Show block) n j e = absurd (nothing_found (n, j) e)
call_claims session i (calls.Unshare block) n j e = absurd (nothing_found (n, j) e)

progress_claims : (session i : ℕ) (progress : Progress) (n j : ℕ) → open_of_progress session i progress ≡ Some (n, j) → claim_of_progress session i progress ≡ Some (facts n j Opening)
progress_claims session i (Waiting call) n j e = call_claims session i call n j e
progress_claims session i (Runs close cancelled masked) n j e = absurd (nothing_found (n, j) e)

-- the first operation of the number
found_operation : (q : Queue) (op : ℕ) (o : Operation) → operation_of q op ≡ Some o → o.number ≡ op
found_operation q op o e = eqb-true o.number op (found_passes (λ x. x.number == op) q.operations o e)

module _ {A : Type 0} where
  -- an open that waited goes, and its session
  sound_dropped : (q : Queue) (t : Table) (xs : List (Instance A)) (op n j : ℕ) (o : Operation) → IsSound q t xs → operation_of q op ≡ Some o
      → claim_of o ≡ Some (facts n j Opening) → IsSound (without q op) (session_removed t n) xs
  sound_dropped q t xs op n j o h e claim =
      let os = q.operations in
      let gone : List Operation = filter (λ x. not (x.number == op)) os in
      let less = without_less (λ x. weigh (of_number n) (claim_of x)) op os o e (found_operation q op o e) in
      let one : weigh (of_number n) (claim_of o) ≡ 1 = ap (weigh (of_number n)) claim ∙ ap bit (eq-eqb n n refl) in
      let within = sound_within q (without q op) t xs (within_filter q (λ x. not (x.number == op))) h in
      record {
        queue = within.queue;
        table = removed_IsTable t n h.table;
        numbers = h.numbers;
        sessions = each_filter (λ s. is_dead s.state ≡ false → HasSlot t s.instance) (λ s. not (s.number == n)) t.sessions h.sessions;
        operations = within.operations;
        held = λ p. omega (
          arith,
          less,
          one,
          h.held (of_number n),
          sessions_once t h.table n,
          held_by_split p n gone,
          held_in_split p n xs,
          within.held (both (not_of n) p),
          removed_others p n t.sessions,
        );
        runs = within.runs;
        calm = calm_le t (session_removed t n) xs xs h.calm refl (counting_removed n t.sessions) (λ i. omega arith) (λ i. omega arith);
      }

  unused_goes : (m : Machine A) (i : ℕ) → IsSoundMachine m → IsSoundMachine (unless_unused m i)
  unused_goes m i h = cond_both (is_unused m i (instance_at m i)) (instance_gone m i) m IsSoundMachine (λ _. sound_failed m.queue m.table m.instances i h) (λ _. h)

  drops_open : (m : Machine A) (op : ℕ) (o : Operation) → IsSoundMachine m → operation_of m.queue op ≡ Some o → (w : Option (ℕ × ℕ))
      → open_of_progress o.session o.instance o.progress ≡ w → IsSoundMachine (after_dropped_open (record m { queue = without m.queue op }) w)
  drops_open m op o h e None is_open = sound_within m.queue (without m.queue op) m.table m.instances (within_filter m.queue (λ x. not (x.number == op))) h
  drops_open m op o h e (Some w) is_open =
      unused_goes (record m { queue = without m.queue op; table = session_removed m.table w.0 }) w.1
      (sound_dropped m.queue m.table m.instances op w.0 w.1 o h e (progress_claims o.session o.instance o.progress w.0 w.1 is_open))

  drops : (m : Machine A) (op : ℕ) → IsSoundMachine m → (o : Option Operation) → operation_of m.queue op ≡ o
      → IsSoundMachine (after_dropped_open (record m { queue = without m.queue op }) (waiting_open o))
  drops m op h None e = sound_within m.queue (without m.queue op) m.table m.instances (within_filter m.queue (λ x. not (x.number == op))) h
  drops m op h (Some o) e = drops_open m op o h e (open_of_progress o.session o.instance o.progress) refl

  cancels_by : (m : Machine A) (op : ℕ) → IsSoundMachine m → (c : Cancellation)
      → IsSoundMachine (cancelled_by (record m { queue = after_cancel m.queue op c }) op (waiting_open (operation_of m.queue op)) c).machine
  cancels_by m op h Dropped = drops m op h (operation_of m.queue op) refl
  cancels_by m op h Flagged = sound_within m.queue (after_cancel m.queue op Flagged) m.table m.instances (within_requested m.queue op) h
  cancels_by m op h Nothing = h

  pub cancels : (m : Machine A) (op : ℕ) → IsSoundMachine m → IsSoundMachine (after_cancellation m op).machine
  unfolding after_cancellation
  cancels m op h = cancels_by m op h (cancel_of (operation_of m.queue op))
