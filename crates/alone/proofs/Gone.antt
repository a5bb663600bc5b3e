-- An instance that is gone leaves what holds of every machine.
use Rattle.std.proofs.Common.{ℕ, ◌≡◌, ◌≤◌, ◌==◌, ◌&&◌, nat_eq, Bool, true, false, not, cond, List, filter, Option, IfSome, refl, sym, ap, ◌∙◌, arith}
use Rattle.std.specs.List.{list_any}
use Rattle.std.proofs.lemmas.Bool.{cond_both, not-true, both_ways}
use Rattle.instances.specs.declared.session.Session.{Session}
use Rattle.instances.specs.declared.session.Slot.{Slot}
use Rattle.instances.specs.declared.session.SessionState.TheVariants.{Dead}
use Rattle.instances.specs.Instances.{Table, instance_numbers, is_dead, without_instance, stays_after_end, dead_if_of}
use Rattle.instances.proofs.Changes.{ended_IsTable}
use Rattle.op_queue.specs.Queue.{Queue}
use Rattle.op_queue.proofs.Keeps.{filter_IsQueue}
use Rattle.alone.specs.declared.active_entry.Instance.{Instance}
use Rattle.alone.specs.Machine.{is_number}
use Rattle.alone.specs.Step.{belongs_to}
use Rattle.alone.proofs.Totals.{bit, total, total_filter, total_le}
use Rattle.alone.proofs.Each.{each_filter, each_passed, each_map, numbers_filter, stays_there, bit_and, bit_when}
use Rattle.alone.proofs.Calm.{calm_ended}
use Rattle.alone.proofs.Sound.{IsSound, HasSlot, Run, claim_of, claim_in, entry_le, entry_none, run_of, weigh, weigh_in, weigh_le, runs_in, Fits, FitsIn, claim_fits, claim_in_fits, run_fits, if_some}
use Rattle.alone.proofs.Sessions.{both, not_in, ended_others}

-- runs of other instances
abbrev other_instance : ℕ → (Run → Bool) → Run → Bool
other_instance i p c = not (c.instance == i) && p c

-- a weight of those that stay, where what there is of the ones that go has none
gone_none : {X C : Type 0} (f : X → Option C) (number : X → ℕ) (place : C → ℕ) (i : ℕ) (p : C → Bool) (xs : List X) → ((x : X) → IfSome (f x) (λ c. place c ≡ number x))
    → total (λ x. weigh p (f x)) (filter (λ x. not (number x == i)) xs) ≤ total (λ x. weigh (λ c. not (place c == i) && p c) (f x)) xs
gone_none {X} {C} f number place i p xs fits =
    let q : C → Bool = λ c. not (place c == i) && p c in
    let after = total_filter (λ x. weigh p (f x)) (λ x. not (number x == i)) xs in
    let le = total_le (λ x. cond (not (number x == i)) (weigh p (f x)) 0) (λ x. weigh q (f x)) xs
    (λ x. cond_both (not (number x == i)) (weigh p (f x)) 0 (λ n. n ≤ weigh q (f x))
    (λ other. weigh_le p q (f x) (if_some (λ c. place c ≡ number x) (λ c. bit (p c) ≤ bit (q c)) (f x) (λ c same. bit_when (not (place c == i)) (p c) (ap (λ n. not (n == i)) same ∙ other)) (fits x)))
    (λ _. omega arith)) in
    omega (arith, after, le)

-- runs of the others stay where an instance goes
runs_gone : {A : Type 0} (p : Run → Bool) (i : ℕ) (xs : List (Instance A)) → runs_in (other_instance i p) xs ≤ runs_in p (filter (λ other. not (is_number i other)) xs)
runs_gone {A} p i xs =
    let q = other_instance i p in
    let after = total_filter (λ (x : Instance A). weigh_in p x) (λ (x : Instance A). not (x.number == i)) xs in
    let le = total_le (λ (x : Instance A). weigh_in q x) (λ (x : Instance A). cond (not (x.number == i)) (weigh_in p x) 0) xs
    (λ x. cond_both (not (x.number == i)) (weigh_in p x) 0 (λ n. weigh_in q x ≤ n)
    (λ _. entry_le q p x.number x.running (λ c _. bit_and (not (c.instance == i)) (p c)))
    (λ goes. omega (
      arith,
      entry_le q (λ c. false) x.number x.running (λ c same. never (not (c.instance == i)) (p c) (ap (λ n. not (n == i)) same ∙ goes)),
      entry_none x.number x.running,
    ))) in
    omega (arith, after, le)
  where
    never : (a b : Bool) → a ≡ false → bit (a && b) ≤ 0
    never true b h = absurd (both_ways _ h refl)
    never false b h = omega arith

pub sound_failed : {A : Type 0} (q : Queue) (t : Table) (xs : List (Instance A)) (i : ℕ) → IsSound q t xs
    → IsSound (record q { operations = filter (λ o. not (belongs_to i o)) q.operations }) (without_instance t i) (filter (λ other. not (is_number i other)) xs)
sound_failed {A} q t xs i h =
    let slots = numbers_filter (λ (s : Slot). s.number) i t.slots in
    let stays : (k : ℕ) → (k == i) ≡ false → HasSlot t k → HasSlot (without_instance t i) k = λ k apart here. ap (list_any (nat_eq k)) slots ∙ stays_there k i (instance_numbers t) apart here in
    record {
      queue = filter_IsQueue q (λ o. not (belongs_to i o)) h.queue;
      table = ended_IsTable t i h.table;
      numbers = numbers_filter (λ (x : Instance A). x.number) i xs ∙ ap (filter (λ n. not (n == i))) h.numbers ∙ sym slots;
      sessions =
          each_map (λ s. is_dead s.state ≡ false → HasSlot t s.instance) (λ s. is_dead s.state ≡ false
          → HasSlot (without_instance t i) s.instance) (dead_if_of i) (filter (stays_after_end i) t.sessions)
          (λ s there. cond_both (s.instance == i) (record s { state = Dead }) s (λ (o : Session). is_dead o.state ≡ false → HasSlot (without_instance t i) o.instance)
          (λ _ alive. absurd (both_ways _ alive refl))
          (λ apart alive. stays s.instance apart (there alive)))
          (each_filter (λ s. is_dead s.state ≡ false → HasSlot t s.instance) (stays_after_end i) t.sessions h.sessions);
      operations = each_passed (λ o. HasSlot t o.instance) (λ o. HasSlot (without_instance t i) o.instance) (λ o. not (belongs_to i o)) q.operations
          (λ o there other. stays o.instance (not-true (o.instance == i) other) there) h.operations;
      held = λ p.
          let os = gone_none claim_of (λ o. o.instance) (λ c. c.instance) i p q.operations
          (λ o. if_some (Fits o.session o.instance) (λ c. c.instance ≡ o.instance) (claim_of o) (λ c fits. fits.instance_same) (claim_fits o)) in
          let is = gone_none claim_in (λ (x : Instance A). x.number) (λ c. c.instance) i p xs
          (λ x. if_some (FitsIn x.number) (λ c. c.instance ≡ x.number) (claim_in x) (λ c fits. fits.0) (claim_in_fits x)) in
          omega (arith, os, is, h.held (both (not_in i) p), ended_others p i t.sessions);
      runs = λ p.
          let os = gone_none run_of (λ o. o.instance) (λ c. c.instance) i p q.operations
          (λ o. if_some (λ c. (c.op ≡ o.number) × (c.instance ≡ o.instance)) (λ c. c.instance ≡ o.instance) (run_of o) (λ c fits. fits.1) (run_fits o.number o.instance o.progress)) in
          omega (arith, os, runs_gone p i xs, h.runs (other_instance i p));
      calm = calm_ended t xs i h.calm;
    }
