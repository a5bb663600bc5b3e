-- An instance that is gone leaves what keeps operations, and each operation that goes with it is answered.
use Rattle.std.proofs.Common.{ℕ, ◌≡◌, ◌≤◌, ◌==◌, ◌&&◌, nat_lt, Bool, true, false, not, cond, List, [], ◌∷◌, filter, refl, sym, ap, ◌∙◌, ⊎_elim, arith}
use Rattle.std.specs.List.{AllByRecursion}
use Rattle.std.proofs.lemmas.Bool.{cases_Bool, cond_both, eqb-true, not-true, both_ways}
use Rattle.tee_base.specs.declared.codes.Code.{Code}
use Rattle.tee_base.specs.declared.codes.Origin.{Origin}
use Rattle.instances.specs.declared.session.Session.{Session}
use Rattle.instances.specs.declared.session.SessionState.TheVariants.{Dead}
use Rattle.instances.specs.Instances.{Table, without_instance, facts_of, dead_if_of, stays_after_end}
use Rattle.op_queue.specs.declared.operation.Operation.{Operation}
use Rattle.op_queue.specs.Queue.{Queue, is_close_call}
use Rattle.alone.specs.declared.active_entry.Instance.{Instance}
use Rattle.alone.specs.declared.reply.Reply.{Reply}
use Rattle.alone.specs.Machine.{Machine, is_number}
use Rattle.alone.specs.Replies.{no_outputs}
use Rattle.alone.specs.Step.{belongs_to, reply_of, torn_down}
use Rattle.alone.proofs.Totals.{bit, total_filter, total_le, total_map, total_zero}
use Rattle.alone.proofs.Each.{each_filter}
use Rattle.alone.proofs.Calm.{filter_le}
use Rattle.alone.proofs.Changed.{operation_number}
use Rattle.alone.proofs.Sessions.{both, ended_others, not_in}
use Rattle.reply_laws.proofs.Keeping.{EntryFits, IsKeeping, IsKeepingMachine, IsRepliedBy}
use Rattle.reply_laws.proofs.Weights.{closers, created_at, createds, filter_keeps, invokes, is_closer, is_invoke, is_invoke_at, is_live, is_open, live_at}
use Rattle.reply_laws.proofs.Weights.{lives, never, open_at, opens, serves, total_parts, waits_as}
use Rattle.reply_laws.proofs.Weights.{waits_numbered}

pub each_all : {X : Type 0} (P : X → Type 0) (xs : List X) → ((x : X) → P x) → AllByRecursion P xs
each_all P [] h = tt
each_all P (x ∷ xs) h = (h x, each_all P xs h)

-- a test of which the second part fails
second_fails : (a b c d : Bool) → b ≡ false → bit (a && b && c && d) ≡ 0
second_fails true b c d failed = ap (λ x. bit (x && c && d)) failed
second_fails false b c d failed = refl

pub apart : (i j n : ℕ) → (j == i) ≡ false → (n == i) ≡ true → (n == j) ≡ false
apart i j n other same =
    ⊎_elim
    (λ (yes : (n == j) ≡ true). absurd (both_ways (j == i) other (ap (λ k. k == i) (sym (eqb-true n j yes)) ∙ same)))
    (λ (no : (n == j) ≡ false). no)
    (cases_Bool (n == j))

pub goes : (b : Bool) → not b ≡ false → b ≡ true
goes true h = refl
goes false h = absurd (both_ways _ h refl)

module _ {A : Type 0} (q : Queue) (t : Table) (xs : List (Instance A)) (i : ℕ) where
  abbrev left : List Operation
  left = filter (λ o. not (belongs_to i o)) q.operations

  abbrev others : List (Instance A)
  others = filter (λ other. not (is_number i other)) xs

  none_own : (s n : ℕ) → invokes s i n left ≤ 0
  none_own s n =
      omega (
        arith,
        total_filter (λ o. bit (is_invoke_at s i n o)) (λ o. not (belongs_to i o)) q.operations,
        total_le (λ (o : Operation). cond (not (o.instance == i)) (bit (is_invoke_at s i n o)) 0) (λ o. 0) q.operations
            (λ o. cond_both (not (o.instance == i)) (bit (is_invoke_at s i n o)) 0 (λ w. w ≤ 0)
            (λ stays. omega (arith, second_fails (o.number == n) (o.instance == i) (o.session == s) (waits_as is_invoke o.progress) (not-true (o.instance == i) stays)))
            (λ _. omega arith)),
        total_zero q.operations,
      )

  closers_stay : (s j n : ℕ) → (j == i) ≡ false → closers s j n q.operations ≤ closers s j n left
  closers_stay s j n other =
      filter_keeps (λ o. bit (is_closer s j n o)) (λ o. not (belongs_to i o)) q.operations
      (each_all (λ o. not (belongs_to i o) ≡ false → bit (is_closer s j n o) ≡ 0) q.operations
      (λ o gone. second_fails (nat_lt n o.number) (o.instance == j) (o.session == s) (waits_as is_close_call o.progress) (apart i j o.instance other (goes (o.instance == i) gone))))

  opens_stay : (s j : ℕ) → (j == i) ≡ false → opens s j t.sessions ≤ opens s j (without_instance t i).sessions
  opens_stay s j other =
      omega (
        arith,
        ended_others (open_at s j) i t.sessions,
        total_le (λ (x : Session). bit (open_at s j (facts_of x))) (λ (x : Session). bit (both (not_in i) (open_at s j) (facts_of x))) t.sessions
            (λ x. ⊎_elim
            (λ (yes : (x.instance == i) ≡ true). omega (arith, third_fails (x.number == s) (x.instance == j) (is_open x.state) (apart i j x.instance other yes)))
            (λ (no : (x.instance == i) ≡ false). omega (arith, ap (λ b. bit (not b && open_at s j (facts_of x))) no))
            (cases_Bool (x.instance == i))),
      )
    where
      third_fails : (a b c : Bool) → b ≡ false → bit (a && b && c) ≡ 0
      third_fails true b c failed = ap (λ x. bit (x && c)) failed
      third_fails false b c failed = refl

  lives_less : (j : ℕ) → lives j (without_instance t i).sessions ≤ lives j t.sessions
  lives_less j =
      let f : Session → ℕ = λ s. bit (live_at j (facts_of s)) in
      omega (
        arith,
        total_map f (dead_if_of i) (filter (stays_after_end i) t.sessions),
        total_le (λ s. f (dead_if_of i s)) f (filter (stays_after_end i) t.sessions)
            (λ s. cond_both (s.instance == i) (record s { state = Dead }) s (λ (o : Session). f o ≤ f s) (λ _. omega (arith, never (s.instance == j))) (λ _. omega arith)),
        filter_le f (stays_after_end i) t.sessions,
      )

  lives_none : lives i (without_instance t i).sessions ≤ 0
  lives_none =
      let f : Session → ℕ = λ s. bit (live_at i (facts_of s)) in
      omega (
        arith,
        total_map f (dead_if_of i) (filter (stays_after_end i) t.sessions),
        total_le (λ s. f (dead_if_of i s)) (λ s. 0) (filter (stays_after_end i) t.sessions)
            (λ s. cond_both (s.instance == i) (record s { state = Dead }) s (λ (o : Session). f o ≤ 0) (λ _. omega (arith, never (s.instance == i)))
            (λ no. omega (arith, ap (λ b. bit (b && is_live s.state)) no))),
        total_zero (filter (stays_after_end i) t.sessions),
      )

  created_stay : (j : ℕ) → (j == i) ≡ false → createds j xs ≤ createds j others
  created_stay j other =
      filter_keeps (λ (x : Instance A). bit (created_at j x)) (λ x. not (is_number i x)) xs
      (each_all (λ (x : Instance A). not (is_number i x) ≡ false → bit (created_at j x) ≡ 0) xs
      (λ x gone. ap (λ b. bit (b && x.created)) (apart i j x.number other (goes (x.number == i) gone))))

  pub keeping_gone : IsKeeping q t xs → IsKeeping (record q { operations = left }) (without_instance t i) others
  keeping_gone k = record {
    invoked = λ s j n some. ⊎_elim
        (λ (yes : (j == i) ≡ true). absurd (omega (arith, some, none_own s n, ap (λ k. invokes s k n left) (eqb-true j i yes))))
        (λ (no : (j == i) ≡ false).
        omega (
          arith,
          k.invoked s j n (omega (arith, some, filter_le (λ o. bit (is_invoke_at s j n o)) (λ o. not (belongs_to i o)) q.operations)),
          closers_stay s j n no,
          opens_stay s j no,
        ))
        (cases_Bool (j == i));
    created = λ j. ⊎_elim
        (λ (yes : (j == i) ≡ true). omega (arith, lives_none, ap (λ k. lives k (without_instance t i).sessions) (eqb-true j i yes)))
        (λ (no : (j == i) ≡ false). omega (arith, k.created j, lives_less j, created_stay j no))
        (cases_Bool (j == i));
    fits = each_filter EntryFits (λ other. not (is_number i other)) xs k.fits;
    served = λ n. omega (
      arith,
      k.served n,
      filter_le (λ o. bit (waits_numbered n o)) (λ o. not (belongs_to i o)) q.operations,
      filter_le (λ (x : Instance A). bit (serves n x.running)) (λ x. not (is_number i x)) xs,
    );
    known = λ n le. omega (arith, k.known n le, filter_le (λ (x : Instance A). bit (serves n x.running)) (λ x. not (is_number i x)) xs);
  }

-- a teardown answers each operation of the instance
pub torn_replied : {A : Type 0} (m : Machine A) (i : ℕ) (code : Code) (origin : Origin) → IsKeepingMachine m → IsRepliedBy m (torn_down m i code origin)
torn_replied m i code origin k = record {
  keeps = keeping_gone m.queue m.table m.instances i k;
  each = λ n some. omega (
    arith,
    some,
    total_parts (λ o. bit (operation_number o == n)) (belongs_to i) m.queue.operations,
    total_map (λ (r : Reply). bit (r.op == n)) (λ (o : Operation). reply_of o.number code origin no_outputs) (filter (belongs_to i) m.queue.operations),
  );
}
