-- What is counted: invokes and closes that wait, sessions, instances that were created, entries of an operation, and replies.
use Rattle.std.proofs.Common.{ℕ, ◌≡◌, ◌+◌, ◌≤◌, ◌==◌, ◌&&◌, nat_lt, Bool, true, false, not, cond, List, [], ◌∷◌, filter, Option, None, Some}
use Rattle.std.proofs.Common.{refl, ap, ⊎_elim, arith}
use Rattle.std.specs.List.{AllByRecursion}
use Rattle.std.proofs.lemmas.Bool.{cases_Bool, cond-true, cond-false}
use Rattle.app_api.specs.declared.call.Call.{Call}
use Rattle.app_api.specs.declared.call.Call.TheVariants as calls
use Rattle.instances.specs.declared.session.Session.{Session}
use Rattle.instances.specs.declared.session.SessionFacts.{SessionFacts}
use Rattle.instances.specs.declared.session.SessionState.{SessionState}
use Rattle.instances.specs.declared.session.SessionState.TheVariants.{Opening, Open, Closing, Dead}
use Rattle.op_queue.specs.declared.operation.Operation.{Operation}
use Rattle.op_queue.specs.declared.operation.Progress.{Progress}
use Rattle.op_queue.specs.declared.operation.Progress.TheVariants.{Waiting, Running as Runs}
use Rattle.op_queue.specs.Queue.{is_close_call}
use Rattle.alone.specs.declared.active_entry.Instance.{Instance}
use Rattle.alone.specs.declared.active_entry.ActiveEntry.{ActiveEntry}
use Rattle.alone.specs.declared.reply.Reply.{Reply}
use Rattle.alone.proofs.Totals.{bit, total, total_filter, total_le_each}
use Rattle.alone.proofs.Each.{each_weaker}
use Rattle.alone.proofs.Calm.{sessions_of}
use Rattle.alone.proofs.Changed.{operation_number}

-- ---- operations

-- its first entry is an invoke, which a call about shared memory would begin as well
abbrev pub is_invoke : Call → Bool
is_invoke (calls.Open label login ps) = false
is_invoke (calls.Invoke label command ps) = true
is_invoke (calls.Close label) = false
is_invoke (calls.Share block flags size) = true
is_invoke (calls.Fill block at bytes) = true
is_invoke (calls.Show block) = true
is_invoke (calls.Unshare block) = true

abbrev pub any_call : Call → Bool
any_call call = true

-- it waits, and its call passes
abbrev pub waits_as : (Call → Bool) → Progress → Bool
waits_as p (Waiting call) = p call
waits_as p (Runs close cancelled masked) = false

-- it is the invoke of this number, session and instance, and waits
abbrev pub is_invoke_at : ℕ → ℕ → ℕ → Operation → Bool
is_invoke_at s i k o = (o.number == k) && (o.instance == i) && (o.session == s) && waits_as is_invoke o.progress

-- it is a close of this session and instance, of a greater number, and waits
abbrev pub is_closer : ℕ → ℕ → ℕ → Operation → Bool
is_closer s i k o = nat_lt k o.number && (o.instance == i) && (o.session == s) && waits_as is_close_call o.progress

-- it has this number, and waits
abbrev pub waits_numbered : ℕ → Operation → Bool
waits_numbered n o = (o.number == n) && waits_as any_call o.progress

abbrev pub invokes : ℕ → ℕ → ℕ → List Operation → ℕ
invokes s i k os = total (λ o. bit (is_invoke_at s i k o)) os

abbrev pub closers : ℕ → ℕ → ℕ → List Operation → ℕ
closers s i k os = total (λ o. bit (is_closer s i k o)) os

abbrev pub waiters : ℕ → List Operation → ℕ
waiters n os = total (λ o. bit (waits_numbered n o)) os

-- operations of this number
abbrev pub numbered : ℕ → List Operation → ℕ
numbered n os = total (λ o. bit (operation_number o == n)) os

-- ---- sessions

abbrev pub is_open : SessionState → Bool
is_open Opening = false
is_open Open = true
is_open Closing = false
is_open Dead = false

abbrev pub is_live : SessionState → Bool
is_live Opening = false
is_live Open = true
is_live Closing = true
is_live Dead = false

abbrev pub open_at : ℕ → ℕ → SessionFacts → Bool
open_at s i c = (c.session == s) && (c.instance == i) && is_open c.state

abbrev pub live_at : ℕ → SessionFacts → Bool
live_at i c = (c.instance == i) && is_live c.state

abbrev pub opens : ℕ → ℕ → List Session → ℕ
opens s i ss = sessions_of (open_at s i) ss

abbrev pub lives : ℕ → List Session → ℕ
lives i ss = sessions_of (live_at i) ss

-- ---- instances

abbrev pub created_at : {A : Type 0} → ℕ → Instance A → Bool
created_at i x = (x.number == i) && x.created

abbrev pub createds : {A : Type 0} → ℕ → List (Instance A) → ℕ
createds i xs = total (λ x. bit (created_at i x)) xs

abbrev pub serves_op : ℕ → Option ℕ → Bool
serves_op n None = false
serves_op n (Some op) = op == n

abbrev pub serves : ℕ → Option ActiveEntry → Bool
serves n None = false
serves n (Some r) = serves_op n r.op

-- entries that run for the operation of this number
abbrev pub entries : {A : Type 0} → ℕ → List (Instance A) → ℕ
entries n xs = total (λ x. bit (serves n x.running)) xs

-- ---- replies

abbrev pub replies_to : ℕ → List Reply → ℕ
replies_to n rs = total (λ r. bit (r.op == n)) rs

-- ---- sums

pub total_same : {X : Type 0} (f g : X → ℕ) (xs : List X) → ((x : X) → f x ≡ g x) → total f xs ≡ total g xs
total_same f g [] h = refl
total_same f g (x ∷ xs) h = omega (arith, h x, total_same f g xs h)

pub never : (b : Bool) → bit (b && false) ≡ 0
never true = refl
never false = refl

pub bit_most : (b : Bool) → bit b ≤ 1
bit_most true = omega arith
bit_most false = omega arith

pub kept_most : (b : Bool) (n : ℕ) → cond b n 0 ≤ n
kept_most true n = omega arith
kept_most false n = omega arith

-- where those of one number that go have no weight, the weight stays
pub filter_keeps : {X : Type 0} (f : X → ℕ) (q : X → Bool) (xs : List X) → AllByRecursion (λ x. q x ≡ false → f x ≡ 0) xs → total f xs ≤ total f (filter q xs)
filter_keeps f q xs none =
    omega (
      arith,
      total_filter f q xs,
      total_le_each f (λ x. cond (q x) (f x) 0) xs (each_weaker (λ x. q x ≡ false → f x ≡ 0) (λ x. f x ≤ cond (q x) (f x) 0) xs (λ x h. one (q x) (f x) h) none),
    )
  where
    one : (b : Bool) (n : ℕ) → (b ≡ false → n ≡ 0) → n ≤ cond b n 0
    one true n h = omega arith
    one false n h = omega (arith, h refl)

-- a list is its two parts by a test
pub total_parts : {X : Type 0} (f : X → ℕ) (q : X → Bool) (xs : List X) → total f xs ≤ total f (filter (λ x. not (q x)) xs) + total f (filter q xs)
total_parts f q [] = omega arith
total_parts f q (x ∷ xs) = ⊎_elim
    (λ (yes : q x ≡ true). omega (
      arith,
      total_parts f q xs,
      ap (total f) (cond-true (q x) (x ∷ filter q xs) (filter q xs) yes),
      ap (λ b. total f (cond (not b) (x ∷ filter (λ y. not (q y)) xs) (filter (λ y. not (q y)) xs))) yes,
    ))
    (λ (no : q x ≡ false). omega (
      arith,
      total_parts f q xs,
      ap (total f) (cond-false (q x) (x ∷ filter q xs) (filter q xs) no),
      ap (λ b. total f (cond (not b) (x ∷ filter (λ y. not (q y)) xs) (filter (λ y. not (q y)) xs))) no,
    ))
    (cases_Bool (q x))
