-- What holds of every machine that events can lead to, besides that it is sound: why no operation is lost.
use Rattle.std.proofs.Common.{ℕ, ◌≡◌, ◌+◌, ◌*◌, ◌≤◌, ◌==◌, ◌&&◌, Bool, true, false, not, List, [], ◌∷◌, find, filter}
use Rattle.std.proofs.Common.{Option, None, Some, refl, ap, ◌∙◌, ⊎_elim, eq-eqb, arith}
use Rattle.std.specs.List.{AllByRecursion}
use Rattle.std.proofs.lemmas.Bool.{cases_Bool, cond_both, eqb-true, both_ways}
use Rattle.app_api.specs.declared.host.Properties.{Properties}
use Rattle.instances.specs.declared.session.Session.{Session}
use Rattle.instances.specs.declared.session.SessionFacts.{SessionFacts}
use Rattle.instances.specs.declared.session.SessionState.{SessionState}
use Rattle.instances.specs.Instances.{Table, facts_of, no_instances}
use Rattle.op_queue.specs.Queue.{Queue}
use Rattle.alone.specs.declared.active_entry.Instance.{Instance}
use Rattle.alone.specs.declared.active_entry.ActiveEntry.{ActiveEntry}
use Rattle.alone.specs.declared.active_entry.EntryPoint.{EntryPoint}
use Rattle.alone.specs.declared.active_entry.EntryPoint.TheVariants as stages
use Rattle.alone.specs.declared.reply.Reply.{Reply}
use Rattle.alone.specs.Machine.{Machine, is_number, put_instance}
use Rattle.alone.specs.Step.{Stepped}
use Rattle.alone.proofs.Totals.{bit, alike, found_counts, having, total_both, total_le, total_le_each, total_zero}
use Rattle.alone.proofs.Each.{each_weaker, none_passes}
use Rattle.alone.proofs.Lists.{found_number, total_put}
use Rattle.alone.proofs.Calm.{filter_le, instance_number, sessions_of}
use Rattle.alone.proofs.Measure.{instances_once}
use Rattle.alone.proofs.Sessions.{session_number}
use Rattle.alone.proofs.Sound.{IsSound, facts}
use Rattle.reply_laws.proofs.Alike.{AreAlike}
use Rattle.reply_laws.proofs.Weights.{closers, created_at, createds, entries, filter_keeps, invokes, is_open}
use Rattle.reply_laws.proofs.Weights.{live_at, lives, never, numbered, open_at, opens, replies_to, serves}
use Rattle.reply_laws.proofs.Weights.{waiters}

-- ---- what an entry is

-- it is a create entry
abbrev pub IsCreate : EntryPoint → Type 0
IsCreate (stages.Create session client ps) = Unit {0}
IsCreate (stages.Start session places) = ⊥
IsCreate (stages.Invoke session places) = ⊥
IsCreate (stages.Stop session) = ⊥
IsCreate (stages.Destroy reply) = ⊥

-- an instance that was not created runs nothing, or its create entry
abbrev pub IsCreating : Option ActiveEntry → Type 0
IsCreating None = Unit {0}
IsCreating (Some r) = IsCreate r.stage

-- the operation to which a reply is
abbrev pub replied : Option Reply → Option ℕ
replied None = None
replied (Some reply) = Some reply.op

-- a destroy entry keeps the reply to its operation
abbrev pub FitsReply : Option ℕ → EntryPoint → Type 0
FitsReply op (stages.Create session client ps) = Unit {0}
FitsReply op (stages.Start session places) = Unit {0}
FitsReply op (stages.Invoke session places) = Unit {0}
FitsReply op (stages.Stop session) = Unit {0}
FitsReply op (stages.Destroy reply) = replied reply ≡ op

abbrev pub KeepsReply : Option ActiveEntry → Type 0
KeepsReply None = Unit {0}
KeepsReply (Some r) = FitsReply r.op r.stage

pub record EntryFits {A : Type 0} (x : Instance A) : Type 0 where
  pub creates : x.created ≡ false → IsCreating x.running
  pub replies : KeepsReply x.running

-- ---- what holds

-- an invoke waits only where its session is open, or a close of it that came later waits; a session is open or closing only where its
-- instance was created; an instance that was not runs at most its create entry, and a destroy entry keeps the reply to its operation;
-- an operation that waits has no entry, and no two entries are of one; and each was called
pub record IsKeeping {A : Type 0} (q : Queue) (t : Table) (xs : List (Instance A)) : Type 0 where
  pub invoked : (s i k : ℕ) → 1 ≤ invokes s i k q.operations → 1 ≤ opens s i t.sessions + closers s i k q.operations
  pub created : (i : ℕ) → lives i t.sessions ≤ 8 * createds i xs
  pub fits : AllByRecursion EntryFits xs
  pub served : (n : ℕ) → waiters n q.operations + entries n xs ≤ 1
  pub known : (n : ℕ) → q.next ≤ n → entries n xs ≡ 0

abbrev pub IsKeepingMachine : {A : Type 0} → Machine A → Type 0
IsKeepingMachine m = IsKeeping m.queue m.table m.instances

-- after a step it holds, and each operation is there, or has a reply
pub record IsReplied {A : Type 0} (q now : Queue) (t : Table) (xs : List (Instance A)) (replies : List Reply) : Type 0 where
  pub keeps : IsKeeping now t xs
  pub each : (n : ℕ) → 1 ≤ numbered n q.operations → 1 ≤ numbered n now.operations + replies_to n replies

abbrev pub IsRepliedBy : {A : Type 0} → Machine A → Stepped A → Type 0
IsRepliedBy m s = IsReplied m.queue s.machine.queue s.machine.table s.machine.instances s.replies

-- where there is no instance
pub nothing_keeps : {A : Type 0} (q : Queue) (properties : Properties) → q.operations ≡ [] → IsKeeping {A = A} q (no_instances properties) []
nothing_keeps q properties none = record {
  invoked = λ s i k some. absurd (omega (arith, some, ap (invokes s i k) none));
  created = λ i. omega arith;
  fits = tt;
  served = λ n. omega (arith, ap (waiters n) none);
  known = λ n le. refl;
}

-- operations that differ in their flags alone
pub keeping_alike : {A : Type 0} (q now : Queue) (t : Table) (xs : List (Instance A)) → AreAlike q now → IsKeeping q t xs → IsKeeping now t xs
keeping_alike q now t xs same k = record {
  invoked = λ s i n some. omega (arith, k.invoked s i n (omega (arith, some, same.invokes_same s i n)), same.closers_same s i n);
  created = k.created;
  fits = k.fits;
  served = λ n. omega (arith, k.served n, same.waiters_same n);
  known = λ n le. k.known n (omega (arith, le, same.next));
}

pub replied_alike : {A : Type 0} (q now after : Queue) (t : Table) (xs : List (Instance A)) (replies : List Reply) → AreAlike now after → IsReplied q now t xs replies → IsReplied q after t xs replies
replied_alike q now after t xs replies same r = record {
  keeps = keeping_alike now after t xs same r.keeps;
  each = λ n some. omega (arith, r.each n some, same.numbers_same n);
}

-- nothing changes but sessions and instances
pub replied_same : {A : Type 0} (q : Queue) (t : Table) (xs : List (Instance A)) → IsKeeping q t xs → IsReplied q q t xs []
replied_same q t xs k = record { keeps = k; each = λ n some. omega (arith, some) }

-- ---- an instance is put

pub each_put : {A : Type 0} (P : Instance A → Type 0) (new : Instance A) (xs : List (Instance A)) → P new → AllByRecursion P xs → AllByRecursion P (put_instance new xs)
each_put P new [] here h = tt
each_put {A} P new (x ∷ xs) here h =
    cond_both (x.number == new.number) (new ∷ xs) (x ∷ put_instance new xs) (AllByRecursion P) (λ _. (here, h.1)) (λ _. (h.0, each_put P new xs here h.1))

-- with sessions of which none is less open and none of which more live, and an instance in place of the one that was found, which runs
-- an entry for no other operation
pub keeping_put : {A : Type 0} (q : Queue) (t after : Table) (xs : List (Instance A)) (new old : Instance A) → IsKeeping q t xs → find (is_number new.number) xs ≡ Some old
    → ((s i : ℕ) → opens s i t.sessions ≤ opens s i after.sessions) → ((i : ℕ) → lives i after.sessions ≤ lives i t.sessions)
    → bit old.created ≤ bit new.created → ((n : ℕ) → bit (serves n new.running) ≤ bit (serves n old.running)) → EntryFits new → IsKeeping q after (put_instance new xs)
keeping_put {A} q t after xs new old k found more less created served fits = record {
  invoked = λ s i n some. omega (arith, k.invoked s i n some, more s i);
  created = λ i. omega (arith, k.created i, less i, created_put i);
  fits = each_put EntryFits new xs fits k.fits;
  served = λ n. omega (arith, k.served n, total_put (λ (x : Instance A). bit (serves n x.running)) new old xs found, served n);
  known = λ n le. omega (arith, k.known n le, total_put (λ (x : Instance A). bit (serves n x.running)) new old xs found, served n);
}
  where
    and_more : (a b c : Bool) → bit b ≤ bit c → bit (a && b) ≤ bit (a && c)
    and_more true b c h = h
    and_more false b c h = omega arith

    created_put : (i : ℕ) → createds i xs ≤ createds i (put_instance new xs)
    created_put i =
        omega (
          arith,
          total_put (λ (x : Instance A). bit (created_at i x)) new old xs found,
          ap (λ n. bit ((n == i) && old.created)) (found_number new.number xs old found),
          and_more (new.number == i) old.created new.created created,
        )

-- ---- those of one number

-- what is found is what there is of that number
pub only_instance : {A : Type 0} (q : Queue) (t : Table) (xs : List (Instance A)) (i : ℕ) (inst : Instance A) → IsSound q t xs → find (is_number i) xs ≡ Some inst
    → AllByRecursion (λ x. x.number ≡ i → x ≡ inst) xs
only_instance q t xs i inst h found = alike instance_number i (is_number i) xs inst (instances_once q t xs h i) found (found_number i xs inst found)

-- where the instance was not created, none of its number was
pub none_created : {A : Type 0} (q : Queue) (t : Table) (xs : List (Instance A)) (i : ℕ) (inst : Instance A) → IsSound q t xs → find (is_number i) xs ≡ Some inst
    → inst.created ≡ false → createds i xs ≤ 0
none_created {A} q t xs i inst h found created =
    omega (
      arith,
      total_le_each (λ (x : Instance A). bit (created_at i x)) (λ x. 0) xs
          (each_weaker (λ (x : Instance A). x.number ≡ i → x ≡ inst) (λ x. bit (created_at i x) ≤ 0) xs (λ x same. ⊎_elim
          (λ (yes : (x.number == i) ≡ true). omega (arith, ap (λ b. bit ((x.number == i) && b)) (ap (λ (y : Instance A). y.created) (same (eqb-true x.number i yes)) ∙ created), never (x.number == i)))
          (λ (no : (x.number == i) ≡ false). omega (arith, ap (λ b. bit (b && x.created)) no))
          (cases_Bool (x.number == i))) (only_instance q t xs i inst h found)),
      total_zero xs,
    )

-- where the instance was, one of its number was
pub some_created : {A : Type 0} (xs : List (Instance A)) (inst : Instance A) → find (is_number inst.number) xs ≡ Some inst → inst.created ≡ true → 1 ≤ createds inst.number xs
some_created {A} xs inst found created =
    let i = inst.number in
    omega (
      arith,
      found_counts (λ (x : Instance A). bit (created_at i x)) (is_number i) xs inst found,
      ap (λ b. bit ((i == i) && b)) created,
      ap (λ b. bit (b && true)) (eq-eqb i i refl),
    )

-- where a session that passes has this number, and the number is there once, each of the number passes
pub only_session : (p : SessionFacts → Bool) (n : ℕ) (ss : List Session) → having session_number n ss ≤ 1 → 1 ≤ sessions_of (λ c. (c.session == n) && p c) ss
    → AllByRecursion (λ s. s.number ≡ n → p (facts_of s) ≡ true) ss
only_session p n ss once some =
    let parts = total_both (λ (s : Session). bit ((s.number == n) && not (p (facts_of s)))) (λ (s : Session). bit ((s.number == n) && p (facts_of s))) ss in
    let all = total_le (λ (s : Session). bit ((s.number == n) && not (p (facts_of s))) + bit ((s.number == n) && p (facts_of s))) (λ (s : Session). bit (s.number == n)) ss
    (λ s. either (s.number == n) (p (facts_of s))) in
    each_weaker (λ (s : Session). ((s.number == n) && not (p (facts_of s))) ≡ false) (λ s. s.number ≡ n → p (facts_of s) ≡ true) ss
    (λ s no same. passes (s.number == n) (p (facts_of s)) (eq-eqb s.number n same) no)
    (none_passes (λ (s : Session). (s.number == n) && not (p (facts_of s))) ss (omega (arith, parts, all, once, some)))
  where
    either : (a b : Bool) → bit (a && not b) + bit (a && b) ≤ bit a
    either true true = omega arith
    either true false = omega arith
    either false b = omega arith

    passes : (a b : Bool) → a ≡ true → (a && not b) ≡ false → b ≡ true
    passes true true same failed = refl
    passes true false same failed = absurd (both_ways true failed refl)
    passes false b same failed = absurd (both_ways false refl same)

-- ---- sessions that go, or change

-- where those of a number don't pass, what passes stays when they go
pub removed_keeps : (p : SessionFacts → Bool) (n : ℕ) (ss : List Session) → AllByRecursion (λ s. s.number ≡ n → p (facts_of s) ≡ false) ss
    → sessions_of p ss ≤ sessions_of p (filter (λ s. not (s.number == n)) ss)
removed_keeps p n ss none =
    filter_keeps (λ (s : Session). bit (p (facts_of s))) (λ s. not (s.number == n)) ss
    (each_weaker (λ (s : Session). s.number ≡ n → p (facts_of s) ≡ false) (λ s. not (s.number == n) ≡ false → bit (p (facts_of s)) ≡ 0) ss
    (λ s fails gone. ap bit (fails (eqb-true s.number n (holds (s.number == n) gone)))) none)
  where
    holds : (b : Bool) → not b ≡ false → b ≡ true
    holds true h = refl
    holds false h = absurd (both_ways _ h refl)

-- fewer live where some go
pub lives_removed : (n : ℕ) (ss : List Session) (i : ℕ) → lives i (filter (λ s. not (s.number == n)) ss) ≤ lives i ss
lives_removed n ss i = filter_le (λ (s : Session). bit (live_at i (facts_of s))) (λ (s : Session). not (s.number == n)) ss

-- a state that is not open
pub not_open : (s i : ℕ) (session instance : ℕ) (state : SessionState) → is_open state ≡ false → open_at s i (facts session instance state) ≡ false
not_open s i session instance state shut = ap (λ b. (session == s) && (instance == i) && b) shut ∙ ends ((session == s) && (instance == i))
  where
    ends : (b : Bool) → (b && false) ≡ false
    ends true = refl
    ends false = refl
