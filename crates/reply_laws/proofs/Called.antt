-- A client's call loses no operation.
use Rattle.std.proofs.Common.{ℕ, ◌≡◌, ◌+◌, ◌*◌, ◌≤◌, ◌<◌, ◌==◌, ◌&&◌, Bool, true, false, not, cond, List, [], ◌∷◌, ◌++◌, find, map, get_or, Option}
use Rattle.std.proofs.Common.{None, Some, Result, Ok, Err, is_some, option_map, refl, ap, ◌∙◌, ⊎_elim, arith}
use Rattle.std.specs.List.{AllByRecursion}
use Rattle.std.proofs.lemmas.Bool.{and_parts, cases_Bool, cases_lt, cond_both, cond-true, eqb-true, lt-ltb}
use Rattle.tee_base.specs.declared.codes.Code.{Code}
use Rattle.tee_base.specs.declared.codes.Origin.{Origin}
use Rattle.tee_base.specs.declared.codes.Origin.TheVariants.{Api, Tee}
use Rattle.tee_base.specs.declared.codes.TheConstants.Code.{SUCCESS, BAD_PARAMETERS, BAD_STATE, BUSY, TARGET_DEAD}
use Rattle.app_api.specs.declared.call.Call.{Call}
use Rattle.app_api.specs.declared.call.Call.TheVariants as calls
use Rattle.app_api.specs.declared.login.Login.{Login}
use Rattle.app_api.specs.declared.param.Params.{Params}
use Rattle.app_api.specs.Calls.{call_references}
use Rattle.app_api.specs.Params.{first_oversized, references_of}
use Rattle.instances.specs.declared.instances.Admission.{Admission}
use Rattle.instances.specs.declared.instances.Refusal.{Refusal}
use Rattle.instances.specs.declared.session.Session.{Session}
use Rattle.instances.specs.declared.session.SessionState.{SessionState}
use Rattle.instances.specs.declared.session.SessionState.TheVariants.{Opening, Open, Closing, Dead}
use Rattle.instances.specs.Instances.{Table, session_of, facts_of, is_known_as, admission_of, with_session, state_set, session_removed, with_state}
use Rattle.op_queue.specs.declared.operation.Operation.{Operation}
use Rattle.op_queue.specs.declared.operation.Progress.TheVariants.{Waiting}
use Rattle.op_queue.specs.Queue.{Queue, IsQueue, is_full, is_named, with_number_used}
use Rattle.shared_mem.specs.declared.block.Block.{Block}
use Rattle.shared_mem.specs.Blocks.{fill_of, share_of, show_of, unshare_of}
use Rattle.alone.specs.declared.active_entry.Instance.{Instance}
use Rattle.alone.specs.declared.reply.Reply.{Reply}
use Rattle.alone.specs.Blocks.{references_refusal}
use Rattle.alone.specs.Machine.{Machine}
use Rattle.alone.specs.Step.{Stepped, after_admission, answered_at_once, after_call, called_open, closed_at, closed_in, invoked_at, invoked_in, facts_of_label}
use Rattle.alone.specs.Step.{block_shown, invoked_with, memory_done, new_instance, opened_as, opened_with, after_queueing}
use Rattle.alone.proofs.Totals.{bit, alike, each_from_index, found_counts, having, total, total_both, total_le, total_le_each, total_map, total_once, total_push, total_zero}
use Rattle.alone.proofs.Each.{each_more, each_weaker}
use Rattle.alone.proofs.Changed.{operation_number}
use Rattle.alone.proofs.Sessions.{both, not_of, session_number, sessions_once, set_others}
use Rattle.alone.proofs.Sound.{IsSoundMachine}
use Rattle.reply_laws.proofs.Keeping.{EntryFits, IsKeeping, IsKeepingMachine, IsReplied, IsRepliedBy, lives_removed, not_open, removed_keeps}
use Rattle.reply_laws.proofs.Weights.{any_call, closers, created_at, createds, entries, invokes, is_closer, is_invoke, is_invoke_at, is_live, is_open, live_at, lives, never}
use Rattle.reply_laws.proofs.Weights.{numbered, open_at, opens, serves, waiters, waits_as, waits_numbered}

-- ---- numbers

and_first : (a b : Bool) → bit (a && b) ≤ bit a
and_first true true = omega arith
and_first true false = omega arith
and_first false b = omega arith

and_one : (a b c d : Bool) → bit (a && b && c && d) ≤ bit a
and_one true b c d = le_one (true && b && c && d)
  where
    le_one : (e : Bool) → bit e ≤ 1
    le_one true = omega arith
    le_one false = omega arith
and_one false b c d = omega arith

pub waiters_numbered : (n : ℕ) (os : List Operation) → waiters n os ≤ numbered n os
waiters_numbered n os = total_le (λ o. bit (waits_numbered n o)) (λ o. bit (operation_number o == n)) os (λ o. and_first (o.number == n) (waits_as any_call o.progress))

pub invokes_numbered : (s i k : ℕ) (os : List Operation) → invokes s i k os ≤ numbered k os
invokes_numbered s i k os =
    total_le (λ o. bit (is_invoke_at s i k o)) (λ o. bit (operation_number o == k)) os
    (λ o. and_one (o.number == k) (o.instance == i) (o.session == s) (waits_as is_invoke o.progress))

-- no operation has the next number, nor a greater one
pub none_further : (q : Queue) (n : ℕ) → IsQueue q → q.next ≤ n → numbered n q.operations ≤ 0
none_further q n h le =
    omega (
      arith,
      total_le_each (λ o. bit (operation_number o == n)) (λ o. 0) q.operations
          (each_from_index (λ o. bit (operation_number o == n) ≤ 0) q.operations (λ k d lt.
          let within = h.numbers k d lt in below (get_or q.operations k d).number (omega (arith, within.1, le)))),
      total_zero q.operations,
    )
  where
    below : (number : ℕ) → number < n → bit (number == n) ≤ 0
    below number lt = ⊎_elim
        (λ (yes : (number == n) ≡ true). absurd (omega (arith, lt, eqb-true number n yes)))
        (λ (no : (number == n) ≡ false). omega (arith, ap bit no))
        (cases_Bool (number == n))

-- ---- a call is answered at once, or waits

-- it only uses a number, whatever it is replied
uses_number : {A : Type 0} (m : Machine A) (t : Table) (replies : List Reply) → IsKeeping m.queue t m.instances → IsReplied m.queue (with_number_used m.queue) t m.instances replies
uses_number m t replies k = record {
  keeps = record {
    invoked = k.invoked;
    created = k.created;
    fits = k.fits;
    served = k.served;
    known = λ n le. k.known n (omega (arith, le));
  };
  each = λ n some. omega (arith, some);
}

at_once : {A : Type 0} (m : Machine A) (t : Table) (code : Code) (origin : Origin) → IsKeeping m.queue t m.instances → IsRepliedBy m (answered_at_once (record m { table = t }) code origin)
at_once m t code origin k = uses_number m t _ k

-- what is submitted
abbrev waiter : Queue → ℕ → ℕ → ℕ → Call → Operation
waiter q client i session call = record {
  number = q.next;
  client = client;
  session = session;
  instance = i;
  references = call_references call;
  progress = Waiting call;
}

waits : {A : Type 0} (m : Machine A) (t : Table) (xs : List (Instance A)) (client i session : ℕ) (call : Call) → IsQueue m.queue → IsKeepingMachine m
    → ((s j k : ℕ) → 1 ≤ invokes s j k m.queue.operations + bit (is_invoke_at s j k (waiter m.queue client i session call))
    → 1 ≤ opens s j t.sessions + (closers s j k m.queue.operations + bit (is_closer s j k (waiter m.queue client i session call))))
    → ((j : ℕ) → lives j t.sessions ≤ 8 * createds j xs) → AllByRecursion EntryFits xs → ((n : ℕ) → entries n xs ≡ entries n m.instances)
    → IsRepliedBy m (after_queueing (record m { table = t; instances = xs }) client i session call)
waits m t xs client i session call queue k invoked created fits same =
    let o : Operation = waiter m.queue client i session call in
    let os : List Operation = m.queue.operations in
    record {
      keeps = record {
        invoked = λ s j n some. omega (
          arith,
          invoked s j n (omega (arith, some, total_push (λ x. bit (is_invoke_at s j n x)) os o)),
          total_push (λ x. bit (is_closer s j n x)) os o,
        );
        created = created;
        fits = fits;
        served = λ n. ⊎_elim
            (λ (yes : (m.queue.next == n) ≡ true).
            let le : m.queue.next ≤ n = omega (arith, eqb-true m.queue.next n yes) in
            omega (
              arith,
              total_push (λ x. bit (waits_numbered n x)) os o,
              ap (λ b. bit (b && true)) yes,
              waiters_numbered n os,
              none_further m.queue n queue le,
              same n,
              k.known n le,
            ))
            (λ (no : (m.queue.next == n) ≡ false). omega (arith, total_push (λ x. bit (waits_numbered n x)) os o, ap (λ b. bit (b && true)) no, same n, k.served n))
            (cases_Bool (m.queue.next == n));
        known = λ n le. omega (arith, same n, k.known n (omega (arith, le)));
      };
      each = λ n some. omega (arith, some, total_push (λ x. bit (operation_number x == n)) os o);
    }

-- ---- an open

opens_admitted : {A : Type 0} (m : Machine A) (client label : ℕ) (login : Login) (ps : Params) (a : Admission) → IsQueue m.queue → IsKeepingMachine m
    → IsRepliedBy m (after_queueing (after_admission m client label login a) client a.instance a.session (calls.Open label login ps))
opens_admitted {A} m client label login ps a queue k =
    let session : Session = record { client = client; label = label; number = a.session; instance = a.instance; state = Opening; login = login } in
    let new : Instance A = new_instance m.template a.instance in
    let ys : List (Instance A) = cond a.new_instance (m.instances ++ new ∷ []) m.instances in
    let o : Operation = waiter m.queue client a.instance a.session (calls.Open label login ps) in
    waits m (with_session m.table client label login a) ys client a.instance a.session (calls.Open label login ps) queue k
    (λ s j n some. omega (
      arith,
      k.invoked s j n (omega (arith, some, never ((o.number == n) && (o.instance == j) && (o.session == s)))),
      total_push (λ (x : Session). bit (open_at s j (facts_of x))) m.table.sessions session,
    ))
    (λ j. omega (
      arith,
      k.created j,
      total_push (λ (x : Session). bit (live_at j (facts_of x))) m.table.sessions session,
      never (a.instance == j),
      more a.new_instance (λ (x : Instance A). bit (created_at j x)) new,
    ))
    (fits_entered a.new_instance new (record { creates = λ _. tt; replies = tt }))
    (λ n. total_entered (λ (x : Instance A). bit (serves n x.running)) a.new_instance m.instances new refl)
  where
    total_entered : (f : Instance A → ℕ) (b : Bool) (xs : List (Instance A)) (new : Instance A) → f new ≡ 0 → total f (cond b (xs ++ new ∷ []) xs) ≡ total f xs
    total_entered f true xs new none = omega (arith, total_push f xs new, none)
    total_entered f false xs new none = refl

    more : (b : Bool) (f : Instance A → ℕ) (new : Instance A) → total f m.instances ≤ total f (cond b (m.instances ++ new ∷ []) m.instances)
    more true f new = omega (arith, total_push f m.instances new)
    more false f new = omega arith

    fits_entered : (b : Bool) (new : Instance A) → EntryFits new → AllByRecursion EntryFits (cond b (m.instances ++ new ∷ []) m.instances)
    fits_entered true new fits = each_more EntryFits m.instances new k.fits fits
    fits_entered false new fits = k.fits

-- ---- a session of the client's

-- an open session is one that counts where it is
open_counts : (ss : List Session) (p : Session → Bool) (s : Session) → find p ss ≡ Some s → s.state ≡ Open → (x i : ℕ) → bit ((s.number == x) && (s.instance == i)) ≤ opens x i ss
open_counts ss p s e was x i =
    omega (
      arith,
      found_counts (λ (y : Session). bit (open_at x i (facts_of y))) p ss s e,
      ap (λ state. bit ((s.number == x) && (s.instance == i) && is_open state)) was,
      whole ((s.number == x) && (s.instance == i)),
    )
  where
    whole : (b : Bool) → bit (b && true) ≡ bit b
    whole true = refl
    whole false = refl

-- an open session of the number is the one that begins to close
closing_opens : (t : Table) (p : Session → Bool) (s : Session) → having session_number s.number t.sessions ≤ 1 → find p t.sessions ≡ Some s → (x i : ℕ)
    → opens x i t.sessions ≤ opens x i (map (with_state s.number Closing) t.sessions) + bit ((s.number == x) && (s.instance == i))
closing_opens t p s once e x i =
    let ss = t.sessions in
    let c = bit ((s.number == x) && (s.instance == i)) in
    let parts = total_both (λ (y : Session). bit (both (not_of s.number) (open_at x i) (facts_of y))) (λ (y : Session). cond (y.number == s.number) c 0) ss in
    let each : AllByRecursion (λ y. bit (open_at x i (facts_of y)) ≤ bit (both (not_of s.number) (open_at x i) (facts_of y)) + cond (y.number == s.number) c 0) ss =
    each_weaker (λ (y : Session). y.number ≡ s.number → y ≡ s)
    (λ y. bit (open_at x i (facts_of y)) ≤ bit (both (not_of s.number) (open_at x i) (facts_of y)) + cond (y.number == s.number) c 0) ss
    (λ y same. ⊎_elim
    (λ (yes : (y.number == s.number) ≡ true).
    omega (
      arith,
      cond-true (y.number == s.number) c 0 yes,
      ap (λ (z : Session). bit (open_at x i (facts_of z))) (same (eqb-true y.number s.number yes)),
      and_first ((s.number == x) && (s.instance == i)) (is_open s.state),
    ))
    (λ (no : (y.number == s.number) ≡ false). omega (arith, ap (λ b. bit (not b && open_at x i (facts_of y))) no))
    (cases_Bool (y.number == s.number)))
    (alike session_number s.number p ss s once e refl) in
    omega (
      arith,
      total_le_each (λ (y : Session). bit (open_at x i (facts_of y)))
          (λ (y : Session). bit (both (not_of s.number) (open_at x i) (facts_of y)) + cond (y.number == s.number) c 0) ss each,
      parts,
      total_once session_number s.number c ss once,
      set_others (open_at x i) s.number Closing ss,
    )

closing_lives : (t : Table) (p : Session → Bool) (s : Session) → having session_number s.number t.sessions ≤ 1 → find p t.sessions ≡ Some s → s.state ≡ Open → (i : ℕ)
    → lives i (map (with_state s.number Closing) t.sessions) ≤ lives i t.sessions
closing_lives t p s once e was i =
    let f : Session → ℕ = λ y. bit (live_at i (facts_of y)) in
    let each : AllByRecursion (λ y. f (with_state s.number Closing y) ≤ f y) t.sessions =
    each_weaker (λ (y : Session). y.number ≡ s.number → y ≡ s) (λ y. f (with_state s.number Closing y) ≤ f y) t.sessions
    (λ y same. cond_both (y.number == s.number) (record y { state = Closing }) y (λ (z : Session). f z ≤ f y)
    (λ yes. omega (arith, ap (λ state. bit ((y.instance == i) && is_live state)) (ap (λ (z : Session). z.state) (same (eqb-true y.number s.number yes)) ∙ was)))
    (λ _. omega arith))
    (alike session_number s.number p t.sessions s once e refl) in
    omega (arith, total_map f (with_state s.number Closing) t.sessions, total_le_each (λ y. f (with_state s.number Closing y)) f t.sessions each)

module _ {A : Type 0} where
  -- a dead session goes
  dead_keeps : (m : Machine A) (client label : ℕ) (s : Session) → IsSoundMachine m → IsKeepingMachine m → session_of m.table client label ≡ Some s → s.state ≡ Dead
      → IsKeeping m.queue (session_removed m.table s.number) m.instances
  dead_keeps m client label s h k e dead =
      let once = sessions_once m.table h.table s.number in
      let same = alike session_number s.number (is_known_as client label) m.table.sessions s once e refl in
      record {
        invoked = λ x i n some. omega (
          arith,
          k.invoked x i n some,
          removed_keeps (open_at x i) s.number m.table.sessions (each_weaker (λ (y : Session). y.number ≡ s.number → y ≡ s)
              (λ y. y.number ≡ s.number → open_at x i (facts_of y) ≡ false) m.table.sessions
              (λ y is number. ap (λ (z : Session). open_at x i (facts_of z)) (is number) ∙ not_open x i s.number s.instance s.state (ap is_open dead)) same),
        );
        created = λ i. omega (arith, k.created i, lives_removed s.number m.table.sessions i);
        fits = k.fits;
        served = k.served;
        known = k.known;
      }

  -- an invoke waits in it
  invokes_open : (m : Machine A) (client label command : ℕ) (ps : Params) (s : Session) → IsQueue m.queue → IsKeepingMachine m → session_of m.table client label ≡ Some s → s.state ≡ Open
      → IsRepliedBy m (after_queueing m client s.instance s.number (calls.Invoke label command ps))
  invokes_open m client label command ps s queue k e was =
      let o : Operation = waiter m.queue client s.instance s.number (calls.Invoke label command ps) in
      waits m m.table m.instances client s.instance s.number (calls.Invoke label command ps) queue k
      (λ x i n some. ⊎_elim
      (λ (yes : is_invoke_at x i n o ≡ true).
      let parts = and_parts ((o.number == n) && (s.instance == i) && (s.number == x)) true yes in
      let last = and_parts ((o.number == n) && (s.instance == i)) (s.number == x) parts.0 in
      let first = and_parts (o.number == n) (s.instance == i) last.0 in
      omega (arith, open_counts m.table.sessions (is_known_as client label) s e was x i, ap (λ b. bit (b && (s.instance == i))) last.1, ap (λ b. bit (true && b)) first.1))
      (λ (no : is_invoke_at x i n o ≡ false). omega (arith, k.invoked x i n (omega (arith, some, ap bit no))))
      (cases_Bool (is_invoke_at x i n o)))
      k.created k.fits (λ n. refl)

  -- a close waits, and its session is closing
  closes_open : (m : Machine A) (client label : ℕ) (s : Session) → IsSoundMachine m → IsKeepingMachine m → session_of m.table client label ≡ Some s → s.state ≡ Open
      → IsRepliedBy m (after_queueing (record m { table = state_set m.table s.number Closing }) client s.instance s.number (calls.Close label))
  closes_open m client label s h k e was =
      let o : Operation = waiter m.queue client s.instance s.number (calls.Close label) in
      let once = sessions_once m.table h.table s.number in
      waits m (state_set m.table s.number Closing) m.instances client s.instance s.number (calls.Close label) h.queue k
      (λ x i n some.
      let was_some : 1 ≤ invokes x i n m.queue.operations = omega (arith, some, never ((o.number == n) && (s.instance == i) && (s.number == x))) in
      let below : n < m.queue.next = ⊎_elim
      (λ (lt : n < m.queue.next). lt)
      (λ (ge : m.queue.next ≤ n). absurd (omega (arith, was_some, invokes_numbered x i n m.queue.operations, none_further m.queue n h.queue ge)))
      (cases_lt n m.queue.next) in
      let closer : bit (is_closer x i n o) ≡ bit ((s.number == x) && (s.instance == i)) =
      ap (λ b. bit (b && (s.instance == i) && (s.number == x) && true)) (lt-ltb n m.queue.next below) ∙ turned (s.instance == i) (s.number == x) in
      omega (arith, k.invoked x i n was_some, closing_opens m.table (is_known_as client label) s once e x i, closer))
      (λ i. omega (arith, k.created i, closing_lives m.table (is_known_as client label) s once e was i))
      k.fits (λ n. refl)
    where
      turned : (a b : Bool) → bit (true && a && b && true) ≡ bit (b && a)
      turned true true = refl
      turned true false = refl
      turned false true = refl
      turned false false = refl

  -- ---- any call

  opens_as : (m : Machine A) (client label : ℕ) (login : Login) (ps : Params) → IsSoundMachine m → IsKeepingMachine m → (r : Result Admission Refusal)
      → IsRepliedBy m (opened_as m client label login ps r)
  opens_as m client label login ps h k (Err refusal) = at_once m m.table refusal.code refusal.origin k
  opens_as m client label login ps h k (Ok a) = opens_admitted m client label login ps a h.queue k

  opens_with : (m : Machine A) (client label : ℕ) (login : Login) (ps : Params) → IsSoundMachine m → IsKeepingMachine m → (refused : Option Code)
      → IsRepliedBy m (opened_with m client label login ps refused)
  opens_with m client label login ps h k (Some code) = at_once m m.table code Api k
  opens_with m client label login ps h k None =
      let P : Stepped A → Type 0 = IsRepliedBy m in
      let last = opened_as m client label login ps (admission_of m.table client label) in
      cond_both (is_some (facts_of_label m client label)) (answered_at_once m BAD_STATE Api) (cond (is_full m.queue) (answered_at_once m BUSY Tee) last) P
      (λ _. at_once m m.table BAD_STATE Api k)
      (λ _. cond_both (is_full m.queue) (answered_at_once m BUSY Tee) last P
      (λ _. at_once m m.table BUSY Tee k)
      (λ _. opens_as m client label login ps h k (admission_of m.table client label)))

  takes_open : (m : Machine A) (client label : ℕ) (login : Login) (ps : Params) → IsSoundMachine m → IsKeepingMachine m → IsRepliedBy m (called_open m client label login ps)
  takes_open m client label login ps h k =
      let refused : Option Code = references_refusal m.blocks client (references_of ps) in
      cond_both (is_some (first_oversized ps)) (answered_at_once m BAD_PARAMETERS Api) (opened_with m client label login ps refused) (IsRepliedBy m)
      (λ _. at_once m m.table BAD_PARAMETERS Api k)
      (λ _. opens_with m client label login ps h k refused)

  invokes_at : (m : Machine A) (client label command : ℕ) (ps : Params) (s : Session) → IsSoundMachine m → IsKeepingMachine m → session_of m.table client label ≡ Some s
      → (state : SessionState) → s.state ≡ state → IsRepliedBy m (invoked_at m client (calls.Invoke label command ps) (facts_of s) state)
  invokes_at m client label command ps s h k e Opening was = at_once m m.table BAD_STATE Api k
  invokes_at m client label command ps s h k e Closing was = at_once m m.table BAD_STATE Api k
  invokes_at m client label command ps s h k e Dead was = at_once m m.table TARGET_DEAD Tee k
  invokes_at m client label command ps s h k e Open was =
      cond_both (is_full m.queue) (answered_at_once m BUSY Tee) (after_queueing m client s.instance s.number (calls.Invoke label command ps)) (IsRepliedBy m)
      (λ _. at_once m m.table BUSY Tee k)
      (λ _. invokes_open m client label command ps s h.queue k e was)

  invokes_in : (m : Machine A) (client label command : ℕ) (ps : Params) → IsSoundMachine m → IsKeepingMachine m → (o : Option Session) → session_of m.table client label ≡ o
      → IsRepliedBy m (invoked_in m client (calls.Invoke label command ps) (option_map facts_of o))
  invokes_in m client label command ps h k None e = at_once m m.table BAD_STATE Api k
  invokes_in m client label command ps h k (Some s) e = invokes_at m client label command ps s h k e s.state refl

  invokes_with : (m : Machine A) (client label command : ℕ) (ps : Params) → IsSoundMachine m → IsKeepingMachine m → (refused : Option Code)
      → IsRepliedBy m (invoked_with m client label command ps refused)
  invokes_with m client label command ps h k (Some code) = at_once m m.table code Api k
  invokes_with m client label command ps h k None = invokes_in m client label command ps h k (session_of m.table client label) refl

  closes_at : (m : Machine A) (client label : ℕ) (s : Session) → IsSoundMachine m → IsKeepingMachine m → session_of m.table client label ≡ Some s → (state : SessionState)
      → s.state ≡ state → IsRepliedBy m (closed_at m client label (facts_of s) state)
  closes_at m client label s h k e Opening was = at_once m m.table BAD_STATE Api k
  closes_at m client label s h k e Closing was = at_once m m.table BAD_STATE Api k
  closes_at m client label s h k e Dead was = at_once m (session_removed m.table s.number) SUCCESS Tee (dead_keeps m client label s h k e was)
  closes_at m client label s h k e Open was = closes_open m client label s h k e was

  closes_in : (m : Machine A) (client label : ℕ) → IsSoundMachine m → IsKeepingMachine m → (o : Option Session) → session_of m.table client label ≡ o
      → IsRepliedBy m (closed_in m client label (option_map facts_of o))
  closes_in m client label h k None e = at_once m m.table BAD_STATE Api k
  closes_in m client label h k (Some s) e = closes_at m client label s h k e s.state refl

  -- a call about shared memory is answered at once
  shares : (m : Machine A) → IsKeepingMachine m → (r : Result (List Block) Code) → IsRepliedBy m (memory_done m r)
  shares m k (Ok blocks) = at_once m m.table SUCCESS Api k
  shares m k (Err code) = at_once m m.table code Api k

  shows : (m : Machine A) → IsKeepingMachine m → (r : Result (List ℕ) Code) → IsRepliedBy m (block_shown m r)
  shows m k (Ok bytes) = uses_number m m.table _ k
  shows m k (Err code) = at_once m m.table code Api k

  pub call_replied : (m : Machine A) (client : ℕ) (call : Call) → IsSoundMachine m → IsKeepingMachine m → IsRepliedBy m (after_call m client call)
  unfolding after_call
  call_replied m client (calls.Open label login ps) h k = takes_open m client label login ps h k
  call_replied m client (calls.Invoke label command ps) h k =
      let refused : Option Code = references_refusal m.blocks client (references_of ps) in
      cond_both (is_some (first_oversized ps)) (answered_at_once m BAD_PARAMETERS Api) (invoked_with m client label command ps refused) (IsRepliedBy m)
      (λ _. at_once m m.table BAD_PARAMETERS Api k)
      (λ _. invokes_with m client label command ps h k refused)
  call_replied m client (calls.Close label) h k = closes_in m client label h k (session_of m.table client label) refl
  call_replied m client (calls.Share block flags size) h k = shares m k (share_of m.blocks client block flags size)
  call_replied m client (calls.Fill block at bytes) h k = shares m k (fill_of m.blocks client block at bytes)
  call_replied m client (calls.Show block) h k = shows m k (show_of m.blocks client block)
  call_replied m client (calls.Unshare block) h k = shares m k (unshare_of m.blocks client block (is_named m.queue client block))
