-- A cancellation loses no operation.
use Rattle.std.proofs.Common.{ℕ, ◌≡◌, ◌+◌, ◌≤◌, ◌==◌, ◌&&◌, ◌||◌, nat_lt, Bool, true, false, not, cond, List, [], ◌∷◌, find, filter, Option}
use Rattle.std.proofs.Common.{None, Some, option_map, refl, sym, ap, ◌∙◌, ⊎_elim, eq-eqb, arith}
use Rattle.std.specs.List.{AllByRecursion, list_any}
use Rattle.std.proofs.lemmas.Bool.{and_parts, cases_Bool, cond_both, eqb-true, not-true, both_ways}
use Rattle.tee_base.specs.declared.codes.Origin.TheVariants.{Tee}
use Rattle.app_api.specs.declared.call.Call.{Call}
use Rattle.app_api.specs.declared.call.Call.TheVariants as calls
use Rattle.instances.specs.declared.session.Session.{Session}
use Rattle.instances.specs.declared.session.SessionFacts.{SessionFacts}
use Rattle.instances.specs.declared.session.SessionState.TheVariants.{Opening}
use Rattle.instances.specs.Instances.{Table, counts_for, facts_of, has_session, session_removed}
use Rattle.op_queue.specs.declared.operation.Operation.{Operation}
use Rattle.op_queue.specs.declared.operation.Progress.{Progress}
use Rattle.op_queue.specs.declared.operation.Progress.TheVariants.{Waiting, Running as Runs}
use Rattle.op_queue.specs.declared.operation.Cancelled.{Cancelled as Cancellation}
use Rattle.op_queue.specs.declared.operation.Cancelled.TheVariants.{Dropped, Flagged, Nothing}
use Rattle.op_queue.specs.Queue.{Queue, after_cancel, cancel_of, is_close, is_close_call, is_running, operation_of, without}
use Rattle.alone.specs.declared.active_entry.Instance.{Instance}
use Rattle.alone.specs.declared.active_entry.ActiveEntry.{ActiveEntry}
use Rattle.alone.specs.declared.active_entry.EntryPoint.{EntryPoint}
use Rattle.alone.specs.declared.active_entry.EntryPoint.TheVariants as stages
use Rattle.alone.specs.Asks.{cancel}
use Rattle.alone.specs.Machine.{Machine, is_number}
use Rattle.alone.specs.Replies.{no_outputs}
use Rattle.alone.specs.Step.{after_cancellation, cancelled_by, after_dropped_open, instance_gone, is_unused, open_of_call, open_of_progress, reply_of, waiting_open}
use Rattle.alone.proofs.Totals.{bit, alike, found_counts, found_grows, found_has, found_passes, nothing_found, total, total_filter}
use Rattle.alone.proofs.Each.{each_weaker}
use Rattle.alone.proofs.Lists.{found_number}
use Rattle.alone.proofs.Calm.{counting, counts_in, filter_le}
use Rattle.alone.proofs.Changed.{operation_number, operations_once}
use Rattle.alone.proofs.Sessions.{both, held_by_split, held_in_split, not_of, of_number, removed_others, sessions_once}
use Rattle.alone.proofs.Sound.{IsSoundMachine, claim_in, claim_of, claim_of_call, claim_of_entry, claim_of_progress, claim_of_stage, facts, held_by}
use Rattle.alone.proofs.Sound.{held_in, run_of, weigh, weigh_entry, weigh_in}
use Rattle.reply_laws.proofs.Alike.{alike_requested}
use Rattle.reply_laws.proofs.Gone.{apart, each_all, goes, keeping_gone}
use Rattle.reply_laws.proofs.Idle.{none_run, none_waiting, others_in, others_stay}
use Rattle.reply_laws.proofs.Keeping.{EntryFits, IsCreate, IsCreating, IsKeeping, IsKeepingMachine, IsReplied, IsRepliedBy, lives_removed, not_open}
use Rattle.reply_laws.proofs.Keeping.{only_instance, only_session, removed_keeps, replied_alike, replied_same}
use Rattle.reply_laws.proofs.Weights.{filter_keeps, is_closer, is_invoke_at, is_open, kept_most, lives, never, numbered, open_at, opens}
use Rattle.reply_laws.proofs.Weights.{replies_to, waits_as, waits_numbered}

-- ---- an operation goes

-- where no close that waits has the number, and no fewer sessions are open
pub keeping_without : {A : Type 0} (q : Queue) (t after : Table) (xs : List (Instance A)) (op : ℕ) → IsKeeping q t xs
    → ((s i n : ℕ) → AllByRecursion (λ y. y.number ≡ op → bit (is_closer s i n y) ≡ 0) q.operations)
    → ((s i : ℕ) → opens s i t.sessions ≤ opens s i after.sessions) → ((i : ℕ) → lives i after.sessions ≤ lives i t.sessions) → IsKeeping (without q op) after xs
keeping_without q t after xs op k closes more less = record {
  invoked = λ s i n some. omega (
    arith,
    k.invoked s i n (omega (arith, some, filter_le (λ o. bit (is_invoke_at s i n o)) (λ o. not (o.number == op)) q.operations)),
    more s i,
    filter_keeps (λ o. bit (is_closer s i n o)) (λ o. not (o.number == op)) q.operations
        (each_weaker (λ o. o.number ≡ op → bit (is_closer s i n o) ≡ 0) (λ o. not (o.number == op) ≡ false → bit (is_closer s i n o) ≡ 0) q.operations
        (λ o none gone. none (eqb-true o.number op (goes (o.number == op) gone))) (closes s i n)),
  );
  created = λ i. omega (arith, k.created i, less i);
  fits = k.fits;
  served = λ n. omega (arith, k.served n, filter_le (λ o. bit (waits_numbered n o)) (λ o. not (o.number == op)) q.operations);
  known = k.known;
}

-- the others stay
pub numbers_without : (op n : ℕ) (os : List Operation) → (n == op) ≡ false → numbered n os ≤ numbered n (filter (λ o. not (o.number == op)) os)
numbers_without op n os other =
    filter_keeps (λ o. bit (operation_number o == n)) (λ o. not (o.number == op)) os
    (each_all (λ o. not (o.number == op) ≡ false → bit (operation_number o == n) ≡ 0) os (λ o gone. ap bit (apart op n o.number other (goes (o.number == op) gone))))

-- the reply to one
pub own_reply : (op n : ℕ) → (n == op) ≡ true → bit (op == n) ≡ 1
own_reply op n same = ap bit (eq-eqb op n (sym (eqb-true n op same)))

-- a measure falls by that of an operation that goes
without_less : (f : Operation → ℕ) (op : ℕ) (os : List Operation) (o : Operation) → find (λ x. x.number == op) os ≡ Some o → o.number ≡ op
    → total f (filter (λ x. not (x.number == op)) os) + f o ≤ total f os
without_less f op os o e number =
    let g : Operation → ℕ = λ x. cond (not (x.number == op)) (f x) 0 in
    let none : g o ≡ 0 = ap (λ b. cond (not b) (f o) 0) (eq-eqb o.number op number) in
    omega (
      arith,
      total_filter f (λ (x : Operation). not (x.number == op)) os,
      found_grows g f (f o) (λ x. x.number == op) os o e (each_all (λ x. g x ≤ f x) os (λ x. kept_most (not (x.number == op)) (f x))) (omega (arith, none)),
    )

-- what a waiting open claims
call_claims : (session i : ℕ) (call : Call) (n j : ℕ) → open_of_call session i call ≡ Some (n, j) → claim_of_call session i call ≡ Some (facts n j Opening)
call_claims session i (calls.Open label login ps) n j e = ap (option_map (λ o. facts o.0 o.1 Opening)) e
call_claims session i (calls.Invoke label command ps) n j e = absurd (nothing_found (n, j) e)
call_claims session i (calls.Close label) n j e = absurd (nothing_found (n, j) e)
call_claims session i (calls.Share block flags size) n j e = absurd (nothing_found (n, j) e)
call_claims session i (calls.Fill block at bytes) n j e = absurd (nothing_found (n, j) e)
call_claims session i (calls.Show block) n j e = absurd (nothing_found (n, j) e)
call_claims session i (calls.Unshare block) n j e = absurd (nothing_found (n, j) e)

progress_claims : (session i : ℕ) (progress : Progress) (n j : ℕ) → open_of_progress session i progress ≡ Some (n, j) → claim_of_progress session i progress ≡ Some (facts n j Opening)
progress_claims session i (Waiting call) n j e = call_claims session i call n j e
progress_claims session i (Runs close cancelled masked) n j e = absurd (nothing_found (n, j) e)

-- an operation that is no close is none that waits
no_closer : (progress : Progress) → is_close progress ≡ false → waits_as is_close_call progress ≡ false
no_closer (Waiting call) other = other
no_closer (Runs close cancelled masked) other = refl

-- where no session is told of the instance, none counts
pub none_counted : (i : ℕ) (ss : List Session) → list_any (counts_for i) ss ≡ false → counting i ss ≡ 0
none_counted i [] none = refl
none_counted i (s ∷ ss) none = ⊎_elim
    (λ (yes : counts_for i s ≡ true). absurd (both_ways _ none (ap (λ b. b || list_any (counts_for i) ss) yes)))
    (λ (other : counts_for i s ≡ false). omega (arith, ap bit other, none_counted i ss (sym (ap (λ b. b || list_any (counts_for i) ss) other) ∙ none)))
    (cases_Bool (counts_for i s))

-- ---- a cancellation that drops the operation

module _ {A : Type 0} (m : Machine A) (op : ℕ) (o : Operation) (h : IsSoundMachine m) (k : IsKeepingMachine m) (found : operation_of m.queue op ≡ Some o) (other : is_close o.progress ≡ false) where
  abbrev os : List Operation
  os = m.queue.operations

  abbrev left : List Operation
  left = filter (λ x. not (x.number == op)) os

  number : o.number ≡ op
  number = eqb-true o.number op (found_passes (λ (x : Operation). x.number == op) os o found)

  -- there is no close of its number
  closes_none : (s i n : ℕ) → AllByRecursion (λ y. y.number ≡ op → bit (is_closer s i n y) ≡ 0) os
  closes_none s i n =
      each_weaker (λ (y : Operation). y.number ≡ op → y ≡ o) (λ y. y.number ≡ op → bit (is_closer s i n y) ≡ 0) os
      (λ y same own. ap (λ (x : Operation). bit (is_closer s i n x)) (same own)
      ∙ ap (λ b. bit (nat_lt n o.number && (o.instance == i) && (o.session == s) && b)) (no_closer o.progress other) ∙ never (nat_lt n o.number && (o.instance == i) && (o.session == s)))
      (alike operation_number op (λ x. x.number == op) os o (operations_once m.queue h.queue op) found number)

  -- each operation stays but this one, which is answered
  each_stays : (n : ℕ) → 1 ≤ numbered n os → 1 ≤ numbered n left + replies_to n (reply_of op cancel Tee no_outputs ∷ [])
  each_stays n some = ⊎_elim
      (λ (yes : (n == op) ≡ true). omega (arith, own_reply op n yes))
      (λ (other : (n == op) ≡ false). omega (arith, some, numbers_without op n os other))
      (cases_Bool (n == op))

  -- this machine is left, and the operation is answered
  abbrev Leaves : Machine A → Type 0
  Leaves z = IsReplied m.queue z.queue z.table z.instances (reply_of op cancel Tee no_outputs ∷ [])

  drops_none : Leaves (record m { queue = without m.queue op })
  drops_none = record {
    keeps = keeping_without m.queue m.table m.table m.instances op k closes_none (λ s i. omega arith) (λ i. omega arith);
    each = each_stays;
  }

  -- an open, of this session and instance
  module _ (n j : ℕ) (claim : claim_of o ≡ Some (facts n j Opening)) where
    abbrev ss : List Session
    ss = filter (λ s. not (s.number == n)) m.table.sessions

    abbrev after : Table
    after = session_removed m.table n

    abbrev is_no_open : SessionFacts → Bool
    is_no_open c = not (is_open c.state)

    session_is : AllByRecursion (λ s. s.number ≡ n → is_no_open (facts_of s) ≡ true) m.table.sessions
    session_is =
        let p : SessionFacts → Bool = λ c. (c.session == n) && is_no_open c in
        only_session is_no_open n m.table.sessions (sessions_once m.table h.table n)
        (omega (
          arith,
          found_counts (λ (x : Operation). weigh p (claim_of x)) (λ x. x.number == op) os o found,
          ap (weigh p) claim,
          ap (λ b. bit (b && true)) (eq-eqb n n refl),
          h.held p,
        ))

    opens_stay : (s i : ℕ) → opens s i m.table.sessions ≤ opens s i ss
    opens_stay s i =
        removed_keeps (open_at s i) n m.table.sessions
        (each_weaker (λ (x : Session). x.number ≡ n → is_no_open (facts_of x) ≡ true) (λ x. x.number ≡ n → open_at s i (facts_of x) ≡ false) m.table.sessions
        (λ x is own. not_open s i x.number x.instance x.state (not-true (is_open x.state) (is own))) session_is)

    keeps : IsKeeping (without m.queue op) after m.instances
    keeps = keeping_without m.queue m.table after m.instances op k closes_none opens_stay (lives_removed n m.table.sessions)

    -- what is held of the instance stays there
    held_left : held_by (counts_in j) left + held_in (counts_in j) m.instances ≤ counting j ss
    held_left =
        let p = counts_in j in
        let one : weigh (of_number n) (claim_of o) ≡ 1 = ap (weigh (of_number n)) claim ∙ ap bit (eq-eqb n n refl) in
        omega (
          arith,
          without_less (λ x. weigh (of_number n) (claim_of x)) op os o found number,
          one,
          h.held (of_number n),
          sessions_once m.table h.table n,
          held_by_split p n left,
          held_in_split p n m.instances,
          filter_le (λ x. weigh (both (not_of n) p) (claim_of x)) (λ x. not (x.number == op)) os,
          h.held (both (not_of n) p),
          removed_others p n m.table.sessions,
        )

    -- the instance, which was not created and has no session left, runs nothing
    idle_entry : (inst : Instance A) → find (is_number j) m.instances ≡ Some inst → held_in (counts_in j) m.instances ≤ 0 → (running : Option ActiveEntry) → inst.running ≡ running
        → IsCreating running → weigh_in (others_in j None) inst ≡ 0
    idle_entry inst at none None e creating = ap (weigh_entry (others_in j None) inst.number) e
    idle_entry inst at none (Some r) e creating = absurd (creates r.stage refl creating)
      where
        creates : (stage : EntryPoint) → r.stage ≡ stage → IsCreate stage → ⊥
        creates (stages.Create session client ps) is creating =
            let claims : claim_in inst ≡ Some (facts session inst.number Opening) = ap (claim_of_entry inst.number) e ∙ ap (claim_of_stage inst.number) is in
            let some = found_counts (λ (x : Instance A). weigh (counts_in j) (claim_in x)) (is_number j) m.instances inst at in
            omega (arith, some, none, ap (weigh (counts_in j)) claims, ap (λ b. bit (b && true)) (eq-eqb inst.number j (found_number j m.instances inst at)))
        creates (stages.Start session places) is creating = creating
        creates (stages.Invoke session places) is creating = creating
        creates (stages.Stop session) is creating = creating
        creates (stages.Destroy reply) is creating = creating

    -- so it has no operation
    each_goes : (inst : Instance A) → find (is_number j) m.instances ≡ Some inst → inst.created ≡ false → list_any (counts_for j) ss ≡ false
        → (x : ℕ) → 1 ≤ numbered x os → 1 ≤ numbered x (filter (λ y. not (y.instance == j)) left) + replies_to x (reply_of op cancel Tee no_outputs ∷ [])
    each_goes inst at made none x some =
        let counts = none_counted j ss none in
        let fits : EntryFits inst = found_has EntryFits (is_number j) m.instances inst k.fits at in
        let entry = idle_entry inst at (omega (arith, held_left, counts)) inst.running refl (fits.creates made) in
        let runs = none_run j None m.instances inst (only_instance m.queue m.table m.instances j inst h at) entry in
        let waits = none_waiting j left ss (omega (arith, held_left, counts)) (omega (arith, counts)) (λ s n some. keeps.invoked s j n some) left (λ f. omega arith) in
        omega (
          arith,
          each_stays x some,
          others_stay j x None left refl waits (omega (arith, runs, h.runs (others_in j None), filter_le (λ y. weigh (others_in j None) (run_of y)) (λ y. not (y.number == op)) os)),
        )

    abbrev dropped_one : Machine A
    dropped_one = record m { queue = without m.queue op; table = after }

    abbrev gone_if : Option (Instance A) → Machine A
    gone_if x = cond (is_unused dropped_one j x) (instance_gone dropped_one j) dropped_one

    unused_goes : (x : Option (Instance A)) → find (is_number j) m.instances ≡ x → Leaves (gone_if x)
    unused_goes None at = record { keeps = keeps; each = each_stays }
    unused_goes (Some inst) at =
        cond_both (not inst.created && not (has_session after j)) (instance_gone dropped_one j) dropped_one Leaves
        (λ unused.
        let parts = and_parts (not inst.created) (not (has_session after j)) unused in
        record {
          keeps = keeping_gone (without m.queue op) after m.instances j keeps;
          each = each_goes inst at (not-true inst.created parts.0) (not-true (has_session after j) parts.1);
        })
        (λ _. record { keeps = keeps; each = each_stays })

  drops : (w : Option (ℕ × ℕ)) → open_of_progress o.session o.instance o.progress ≡ w → Leaves (after_dropped_open (record m { queue = without m.queue op }) w)
  drops None is = drops_none
  drops (Some w) is = unused_goes w.0 w.1 (progress_claims o.session o.instance o.progress w.0 w.1 is) (find (is_number w.1) m.instances) refl

module _ {A : Type 0} where
  cancels_found : (m : Machine A) (op : ℕ) → IsSoundMachine m → IsKeepingMachine m → (o : Operation) → operation_of m.queue op ≡ Some o
      → IsRepliedBy m (cancelled_by (record m { queue = after_cancel m.queue op (cancel_of (Some o)) }) op (waiting_open (Some o)) (cancel_of (Some o)))
  cancels_found m op h k o found =
      let P : Cancellation → Type 0 = λ c. IsRepliedBy m (cancelled_by (record m { queue = after_cancel m.queue op c }) op (waiting_open (Some o)) c) in
      cond_both (is_close o.progress) Nothing (cond (is_running o.progress) Flagged Dropped) P
      (λ _. replied_same m.queue m.table m.instances k)
      (λ no. cond_both (is_running o.progress) Flagged Dropped P
      (λ _. replied_alike m.queue m.queue (after_cancel m.queue op Flagged) m.table m.instances [] (alike_requested m.queue op) (replied_same m.queue m.table m.instances k))
      (λ _. drops m op o h k found no (open_of_progress o.session o.instance o.progress) refl))

  cancels_as : (m : Machine A) (op : ℕ) → IsSoundMachine m → IsKeepingMachine m → (o : Option Operation) → operation_of m.queue op ≡ o
      → IsRepliedBy m (cancelled_by (record m { queue = after_cancel m.queue op (cancel_of o) }) op (waiting_open o) (cancel_of o))
  cancels_as m op h k None found = replied_same m.queue m.table m.instances k
  cancels_as m op h k (Some o) found = cancels_found m op h k o found

  pub cancel_replied : (m : Machine A) (op : ℕ) → IsSoundMachine m → IsKeepingMachine m → IsRepliedBy m (after_cancellation m op)
  unfolding after_cancellation
  cancel_replied m op h k = cancels_as m op h k (operation_of m.queue op) refl
