-- Queues whose operations differ in their flags alone.
use Rattle.std.proofs.Common.{ℕ, ◌≡◌, ◌==◌, ◌&&◌, nat_lt, Bool, true, map, Option, None, Some, refl, ap, ◌∙◌}
use Rattle.std.proofs.lemmas.Bool.{cond_both}
use Rattle.app_api.specs.declared.call.Call.{Call}
use Rattle.op_queue.specs.declared.operation.Operation.{Operation}
use Rattle.op_queue.specs.declared.operation.Progress.{Progress}
use Rattle.op_queue.specs.declared.operation.Progress.TheVariants.{Waiting, Running as Runs}
use Rattle.op_queue.specs.Queue.{Queue, is_close_call, mask_set, masked_as, as_requested, with_mask, with_request}
use Rattle.alone.specs.Asks.{mask_set_for}
use Rattle.alone.specs.Step.{masked_again}
use Rattle.alone.proofs.Totals.{bit, total_map}
use Rattle.alone.proofs.Changed.{operation_number}
use Rattle.reply_laws.proofs.Weights.{any_call, closers, invokes, is_closer, is_invoke, is_invoke_at, numbered, total_same, waiters, waits_as, waits_numbered}

-- the same number, instance, session and, where it waits, call
pub record IsAlike (o now : Operation) : Type 0 where
  pub number : now.number ≡ o.number
  pub instance : now.instance ≡ o.instance
  pub session : now.session ≡ o.session
  pub waits : (p : Call → Bool) → waits_as p now.progress ≡ waits_as p o.progress

pub record AreAlike (q now : Queue) : Type 0 where
  pub next : now.next ≡ q.next
  pub invokes_same : (s i k : ℕ) → invokes s i k now.operations ≡ invokes s i k q.operations
  pub closers_same : (s i k : ℕ) → closers s i k now.operations ≡ closers s i k q.operations
  pub waiters_same : (n : ℕ) → waiters n now.operations ≡ waiters n q.operations
  pub numbers_same : (n : ℕ) → numbered n now.operations ≡ numbered n q.operations

pub alike_same : (q : Queue) → AreAlike q q
alike_same q = record { next = refl; invokes_same = λ s i k. refl; closers_same = λ s i k. refl; waiters_same = λ n. refl; numbers_same = λ n. refl }

invoke_alike : (o now : Operation) → IsAlike o now → (s i k : ℕ) → bit (is_invoke_at s i k now) ≡ bit (is_invoke_at s i k o)
invoke_alike o now same s i k =
    ap (λ n. bit ((n == k) && (now.instance == i) && (now.session == s) && waits_as is_invoke now.progress)) same.number
    ∙ ap (λ n. bit ((o.number == k) && (n == i) && (now.session == s) && waits_as is_invoke now.progress)) same.instance
    ∙ ap (λ n. bit ((o.number == k) && (o.instance == i) && (n == s) && waits_as is_invoke now.progress)) same.session
    ∙ ap (λ b. bit ((o.number == k) && (o.instance == i) && (o.session == s) && b)) (same.waits is_invoke)

closer_alike : (o now : Operation) → IsAlike o now → (s i k : ℕ) → bit (is_closer s i k now) ≡ bit (is_closer s i k o)
closer_alike o now same s i k =
    ap (λ n. bit (nat_lt k n && (now.instance == i) && (now.session == s) && waits_as is_close_call now.progress)) same.number
    ∙ ap (λ n. bit (nat_lt k o.number && (n == i) && (now.session == s) && waits_as is_close_call now.progress)) same.instance
    ∙ ap (λ n. bit (nat_lt k o.number && (o.instance == i) && (n == s) && waits_as is_close_call now.progress)) same.session
    ∙ ap (λ b. bit (nat_lt k o.number && (o.instance == i) && (o.session == s) && b)) (same.waits is_close_call)

waiter_alike : (o now : Operation) → IsAlike o now → (n : ℕ) → bit (waits_numbered n now) ≡ bit (waits_numbered n o)
waiter_alike o now same n =
    ap (λ k. bit ((k == n) && waits_as any_call now.progress)) same.number ∙ ap (λ b. bit ((o.number == n) && b)) (same.waits any_call)

alike_map : (q : Queue) (f : Operation → Operation) → ((o : Operation) → IsAlike o (f o)) → AreAlike q (record q { operations = map f q.operations })
alike_map q f same = record {
  next = refl;
  invokes_same = λ s i k. total_map (λ o. bit (is_invoke_at s i k o)) f q.operations ∙ total_same _ _ q.operations (λ o. invoke_alike o (f o) (same o) s i k);
  closers_same = λ s i k. total_map (λ o. bit (is_closer s i k o)) f q.operations ∙ total_same _ _ q.operations (λ o. closer_alike o (f o) (same o) s i k);
  waiters_same = λ n. total_map (λ o. bit (waits_numbered n o)) f q.operations ∙ total_same _ _ q.operations (λ o. waiter_alike o (f o) (same o) n);
  numbers_same = λ n. total_map (λ o. bit (operation_number o == n)) f q.operations ∙ total_same _ _ q.operations (λ o. ap (λ k. bit (k == n)) (same o).number);
}

request_waits : (progress : Progress) (p : Call → Bool) → waits_as p (with_request progress) ≡ waits_as p progress
request_waits (Waiting call) p = refl
request_waits (Runs close cancelled masked) p = refl

mask_waits : (value : Bool) (progress : Progress) (p : Call → Bool) → waits_as p (with_mask value progress) ≡ waits_as p progress
mask_waits value (Waiting call) p = refl
mask_waits value (Runs close cancelled masked) p = refl

itself : (o : Operation) → IsAlike o o
itself o = record { number = refl; instance = refl; session = refl; waits = λ p. refl }

-- one that runs is flagged
pub alike_requested : (q : Queue) (op : ℕ) → AreAlike q (record q { operations = map (as_requested op) q.operations })
alike_requested q op =
    alike_map q (as_requested op) (λ o. cond_both (o.number == op) (record o { progress = with_request o.progress }) o (IsAlike o)
    (λ _. record { number = refl; instance = refl; session = refl; waits = request_waits o.progress }) (λ _. itself o))

-- a mask is set
pub alike_mask : (q : Queue) (op : ℕ) (value : Bool) → AreAlike q (mask_set q op value)
alike_mask q op value =
    alike_map q (masked_as op value) (λ o. cond_both (o.number == op) (record o { progress = with_mask value o.progress }) o (IsAlike o)
    (λ _. record { number = refl; instance = refl; session = refl; waits = mask_waits value o.progress }) (λ _. itself o))

pub alike_again : (q : Queue) (op : Option ℕ) → AreAlike q (masked_again q op)
alike_again q None = alike_same q
alike_again q (Some op) = alike_mask q op true

pub alike_mask_for : (q : Queue) (op : Option ℕ) (value : Bool) → AreAlike q (mask_set_for q op value)
alike_mask_for q None value = alike_same q
alike_mask_for q (Some op) value = alike_mask q op value
