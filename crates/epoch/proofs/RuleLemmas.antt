-- What the rule says of a header that counts, whatever the counter.
use Rattle.std.proofs.Common.{◌≡◌, ◌≢◌, ◌≤◌, ◌<◌, ◌+◌, ◌==◌, ◌∙◌, if◌then◌else◌, ℕ, Bool, true, false, not, Option, Some, None, Result, Ok, Err, refl, sym, ap, subst, nat_lt, arith}
use Rattle.epoch.specs.Opening.{answer_at, opening_by, opening_of}
use Rattle.epoch.specs.Slots.{slot_of}
use Rattle.epoch.specs.Laws.{RefusesRollback, OpensAtTwo}
use Rattle.epoch.specs.declared.answer.OpenAnswer.{OpenAnswer}
use Rattle.epoch.specs.declared.answer.OpenAnswer.TheVariants.{NoVolume, Rollback}
use Rattle.epoch.specs.declared.header.Header.{Header}
use Rattle.epoch.specs.declared.rule.Found.{Found}
use Rattle.epoch.specs.declared.slots.Slot.{Slot}
use Rattle.epoch.specs.declared.slots.Slot.TheVariants.{Shut, Bad, Good}

-- a choice that isn't its first value is its second
pub if_other : {A : Type 0} (b : Bool) (x y z : A) → (if b then x else y) ≡ z → x ≢ z → (b ≡ false) × (y ≡ z)
if_other true x y z e differs = absurd (differs e)
if_other false x y z e differs = (refl, e)

-- a header that counts is of the version, and its sequence is the counter or one more
pub record Counts (knows : ℕ → Bool) (slot : ℕ) (h : Header) (n : ℕ) (found : Found) : Type 0 where
  pub is : found ≡ record { header = h; slot = slot }
  pub known : not (knows h.version) ≡ false
  pub least : nat_lt h.sequence n ≡ false
  pub most : nat_lt (n + 1) h.sequence ≡ false

pub counts : (knows : ℕ → Bool) (slot : ℕ) (h : Header) (n : ℕ) (found : Found) → answer_at knows slot h n ≡ Ok (Some found) → Counts knows slot h n found
counts knows slot h n found e =
    let one = if_other (not (knows h.version)) _ _ _ e (λ w. cc) in
    let two = if_other (nat_lt h.sequence n) _ _ _ one.1 (λ w. cc) in
    let three = if_other (nat_lt (n + 1) h.sequence) _ _ _ two.1 (λ w. cc) in
    record { is = (let last = three.1 in cc); known = one.0; least = two.0; most = three.0 }

-- and so it counts at such a counter
pub answer_ok : (knows : ℕ → Bool) (slot : ℕ) (h : Header) (m : ℕ) → not (knows h.version) ≡ false → m ≤ h.sequence → h.sequence ≤ m + 1
    → answer_at knows slot h m ≡ Ok (Some (record { header = h; slot = slot }))
answer_ok knows slot h m known least most =
    let one : nat_lt h.sequence m ≡ false = grind (arith) in
    let two : nat_lt (m + 1) h.sequence ≡ false = grind (arith) in
    rw (known, one, two) refl

-- and is refused at every counter above its sequence
pub answer_rollback : (knows : ℕ → Bool) (slot : ℕ) (h : Header) (m : ℕ) → not (knows h.version) ≡ false → h.sequence < m → answer_at knows slot h m ≡ Err (Rollback h.sequence m)
answer_rollback knows slot h m known above =
    let one : nat_lt h.sequence m ≡ true = grind (arith) in
    rw (known, one) refl

-- where two slots open to a header, at every counter that header is asked
pub record IsAsked (knows : ℕ → Bool) (first second : Slot) (n : ℕ) (found : Found) : Type 0 where
  pub same : (m : ℕ) → opening_by knows first second m ≡ answer_at knows found.slot found.header m
  pub counts : Counts knows found.slot found.header n found

asked_at : (knows : ℕ → Bool) (first second : Slot) (n : ℕ) (found : Found) (slot : ℕ) (h : Header) → opening_by knows first second n ≡ Ok (Some found)
    → ((m : ℕ) → opening_by knows first second m ≡ answer_at knows slot h m) → IsAsked knows first second n found
asked_at knows first second n found slot h e same =
    let c : Counts knows slot h n found = counts knows slot h n found (sym (same n) ∙ e) in
    record {
      same = λ m. same m ∙ ap (λ (f : Found). answer_at knows f.slot f.header m) (sym c.is);
      counts = subst (λ (f : Found). Counts knows f.slot f.header n found) (sym c.is) c;
    }

no_slot : (b : Bool) (n : ℕ) (found : Found) → (let none : Result (Option Found) OpenAnswer = Ok None in if b then none else Err (NoVolume n)) ≡ Ok (Some found) → ⊥
no_slot true n found e = cc
no_slot false n found e = cc

pub asked : (knows : ℕ → Bool) (first second : Slot) (n : ℕ) (found : Found) → opening_by knows first second n ≡ Ok (Some found) → IsAsked knows first second n found
asked knows (Bad t) second n found e = absurd cc
asked knows Shut (Bad t) n found e = absurd cc
asked knows Shut Shut n found e = absurd (no_slot (n == 0) n found e)
asked knows Shut (Good h) n found e = asked_at knows Shut (Good h) n found 1 h e (λ m. refl)
asked knows (Good h) (Bad t) n found e = absurd cc
asked knows (Good h) Shut n found e = asked_at knows (Good h) Shut n found 0 h e (λ m. refl)
asked knows (Good h) (Good h') n found e =
    elim (nat_lt h.sequence h'.sequence) as (λ b. nat_lt h.sequence h'.sequence ≡ b → IsAsked knows (Good h) (Good h') n found) [
      | true ↦ λ newer. asked_at knows (Good h) (Good h') n found 1 h' e (λ m. rw newer refl)
      | false ↦ λ older. asked_at knows (Good h) (Good h') n found 0 h e (λ m. rw older refl)
    ] refl

-- the laws
pub refuses_rollback : RefusesRollback
unfolding opening_of
refuses_rollback knows key image n c found e above =
    let a = asked knows (slot_of key image 0) (slot_of key image 1) n found e in
    a.same c ∙ answer_rollback knows found.slot found.header c a.counts.known above

pub opens_at_two : OpensAtTwo
unfolding opening_of
opens_at_two knows key image n found e =
    let a = asked knows (slot_of key image 0) (slot_of key image 1) n found e in (
      (let least = a.counts.least in grind (arith)),
      (let most = a.counts.most in grind (arith)),
      λ m low high. a.same m ∙ answer_ok knows found.slot found.header m a.counts.known low high ∙ ap
          (λ (f : Found). let some : Result (Option Found) OpenAnswer = Ok (Some f) in some) (sym a.counts.is),
    )

-- two slots of which one is shut
pub alone_first : (knows : ℕ → Bool) (first second : Slot) (n : ℕ) (found : Found) → opening_by knows first second n ≡ Ok (Some found) → found.slot ≢ 1
    → opening_by knows first Shut n ≡ Ok (Some found)
alone_first knows (Bad t) second n found e other = absurd cc
alone_first knows Shut (Bad t) n found e other = absurd cc
alone_first knows Shut Shut n found e other = e
alone_first knows Shut (Good h) n found e other = absurd (other (ap (λ (f : Found). f.slot) (counts knows 1 h n found e).is))
alone_first knows (Good h) (Bad t) n found e other = absurd cc
alone_first knows (Good h) Shut n found e other = e
alone_first knows (Good h) (Good h') n found e other =
    elim (nat_lt h.sequence h'.sequence) as (λ b. (if b then answer_at knows 1 h' n else answer_at knows 0 h n) ≡ Ok (Some found) → answer_at knows 0 h n ≡ Ok (Some found)) [
      | true ↦ λ w. absurd (other (ap (λ (f : Found). f.slot) (counts knows 1 h' n found w).is))
      | false ↦ λ w. w
    ] e

pub alone_second : (knows : ℕ → Bool) (first second : Slot) (n : ℕ) (found : Found) → opening_by knows first second n ≡ Ok (Some found) → found.slot ≢ 0
    → opening_by knows Shut second n ≡ Ok (Some found)
alone_second knows (Bad t) second n found e other = absurd cc
alone_second knows Shut second n found e other = e
alone_second knows (Good h) (Bad t) n found e other = absurd cc
alone_second knows (Good h) Shut n found e other = absurd (other (ap (λ (f : Found). f.slot) (counts knows 0 h n found e).is))
alone_second knows (Good h) (Good h') n found e other =
    elim (nat_lt h.sequence h'.sequence) as (λ b. (if b then answer_at knows 1 h' n else answer_at knows 0 h n) ≡ Ok (Some found) → answer_at knows 1 h' n ≡ Ok (Some found)) [
      | true ↦ λ w. w
      | false ↦ λ w. absurd (other (ap (λ (f : Found). f.slot) (counts knows 0 h n found w).is))
    ] e
