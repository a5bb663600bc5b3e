-- What the images that a crash leaves within a step open to.
use Rattle.std.proofs.Common.{◌≡◌, ◌≢◌, ◌≤◌, ◌<◌, ◌+◌, ◌⊎◌, ◌∙◌, if◌then◌else◌, ℕ, Bool, true, false, not, List, Option, Some}
use Rattle.std.proofs.Common.{None, Result, Ok, Err, refl, sym, ap, subst, inl, inr, ⊎_elim, nat_lt, arith}
use Rattle.std.proofs.lemmas.Bool.{cases_lt, false≢true}
use Rattle.board.specs.Moment.{CrashImage, Moment}
use Rattle.epoch.specs.Gates.{gate_at, header_at, gate_open}
use Rattle.epoch.specs.Opening.{answer_at, opening_by, opening_of}
use Rattle.epoch.specs.Slots.{header_slot, slot_of}
use Rattle.epoch.specs.Steps.{LeavesFlip, CountsElsewhere, IsCurrent, IsLaid, shut_writes, outcome_opening}
use Rattle.epoch.specs.declared.answer.OpenAnswer.{OpenAnswer}
use Rattle.epoch.specs.declared.header.Header.{Header}
use Rattle.epoch.specs.declared.rule.Found.{Found}
use Rattle.epoch.specs.declared.slots.Slot.{Slot}
use Rattle.epoch.specs.declared.slots.Slot.TheVariants.{Shut, Bad, Good}
use Rattle.epoch.proofs.RuleLemmas.{if_other, answer_ok, alone_first, alone_second}

-- a slot's number is 0 or 1
pub by_slot : (P : ℕ → Type 0) (slot : ℕ) → slot < 2 → P 0 → P 1 → P slot
by_slot P slot below zeroth first =
    ⊎_elim
    (λ (h : slot < 1). let e : 0 ≡ slot = omega arith in subst P e zeroth)
    (λ (h : 1 ≤ slot). let e : 1 ≡ slot = omega arith in subst P e first)
    (cases_lt slot 1)

-- a slot by its gate
slot_open : (key : List ℕ) (image : ℕ → List ℕ) (slot : ℕ) → gate_open (image (gate_at slot)) ≡ true → slot_of key image slot ≡ header_slot key slot (image (header_at slot))
unfolding slot_of
slot_open key image slot opened = rw opened refl

slot_shut : (key : List ℕ) (image : ℕ → List ℕ) (slot : ℕ) → gate_open (image (gate_at slot)) ≡ false → slot_of key image slot ≡ Shut
unfolding slot_of
slot_shut key image slot shut = rw shut refl

slot_same : (key : List ℕ) (image base : ℕ → List ℕ) (slot : ℕ) → image (gate_at slot) ≡ base (gate_at slot)
    → image (header_at slot) ≡ base (header_at slot) → slot_of key image slot ≡ slot_of key base slot
unfolding slot_of
slot_same key image base slot gate header = rw (gate, header) refl

-- images whose slots are the same open to the same
opening_same : (knows : ℕ → Bool) (key : List ℕ) (image base : ℕ → List ℕ) (n : ℕ) → slot_of key image 0 ≡ slot_of key base 0
    → slot_of key image 1 ≡ slot_of key base 1 → opening_of knows key image n ≡ opening_of knows key base n
unfolding opening_of
opening_same knows key image base n zeroth first = rw (zeroth, first) refl

-- a header that counts is no blank board
not_blank : (knows : ℕ → Bool) (slot : ℕ) (h : Header) (n : ℕ) → (let none : Result (Option Found) OpenAnswer = Ok None in answer_at knows slot h n ≡ none) → ⊥
not_blank knows slot h n e =
    let one = if_other (not (knows h.version)) _ _ _ e (λ w. cc) in
    let two = if_other (nat_lt h.sequence n) _ _ _ one.1 (λ w. cc) in
    let three = if_other (nat_lt (n + 1) h.sequence) _ _ _ two.1 (λ w. cc) in
    let last = three.1 in cc

pub blank_first : (knows : ℕ → Bool) (first second : Slot) (n : ℕ) → (let none : Result (Option Found) OpenAnswer = Ok None in opening_by knows first second n ≡ none)
    → (first ≡ Shut) × (second ≡ Shut)
blank_first knows (Bad t) second n e = absurd cc
blank_first knows Shut (Bad t) n e = absurd cc
blank_first knows Shut Shut n e = (refl, refl)
blank_first knows Shut (Good h) n e = absurd (not_blank knows 1 h n e)
blank_first knows (Good h) (Bad t) n e = absurd cc
blank_first knows (Good h) Shut n e = absurd (not_blank knows 0 h n e)
blank_first knows (Good h) (Good h') n e =
    absurd (elim (nat_lt h.sequence h'.sequence) as (λ b. (let none : Result (Option Found) OpenAnswer = Ok None in (if b then answer_at knows 1 h' n else answer_at knows 0 h n) ≡ none) → ⊥) [
      | true ↦ λ w. not_blank knows 1 h' n w
      | false ↦ λ w. not_blank knows 0 h n w
    ] e)

-- slot 0 or slot 1 may be shut where another counts
without_first : (knows : ℕ → Bool) (first second : Slot) (n : ℕ) (r : Result (Option Found) OpenAnswer) → opening_by knows first second n ≡ r → CountsElsewhere 0 r → opening_by knows Shut second n ≡ r
without_first knows first second n (Ok None) e other = ap (λ (s : Slot). opening_by knows s second n) (sym (blank_first knows first second n e).0) ∙ e
without_first knows first second n (Ok (Some found)) e other = alone_second knows first second n found e other
without_first knows first second n (Err answer) e other = absurd other

without_second : (knows : ℕ → Bool) (first second : Slot) (n : ℕ) (r : Result (Option Found) OpenAnswer) → opening_by knows first second n ≡ r → CountsElsewhere 1 r → opening_by knows first Shut n ≡ r
without_second knows first second n (Ok None) e other = ap (λ (s : Slot). opening_by knows first s n) (sym (blank_first knows first second n e).1) ∙ e
without_second knows first second n (Ok (Some found)) e other = alone_first knows first second n found e other
without_second knows first second n (Err answer) e other = absurd other

module _ (knows : ℕ → Bool) (key : List ℕ) (base image : ℕ → List ℕ) (n : ℕ) where
  -- within a shutting of slot 0, and of slot 1
  shut_0 : ((k : ℕ) → shut_writes 0 base k ≡ false → image k ≡ base k) → CountsElsewhere 0 (opening_of knows key base n) → opening_of knows key image n ≡ opening_of knows key base n
  unfolding opening_of
  shut_0 same other =
      let first = slot_same key image base 1 (same 2 refl) (same 3 refl) in
      elim (gate_open (base 0)) as (λ o. gate_open (base 0) ≡ o → opening_of knows key image n ≡ opening_of knows key base n) [
        | false ↦ λ shut. opening_same knows key image base n (slot_same key image base 0 (same 0 shut) (same 1 refl)) first
        | true ↦ λ opened. elim (gate_open (image 0)) as (λ o. gate_open (image 0) ≡ o → opening_of knows key image n ≡ opening_of knows key base n) [
          | true ↦ λ still. opening_same knows key image base n (slot_open key image 0 still ∙ ap (header_slot key 0) (same 1 refl) ∙ sym (slot_open key base 0 opened)) first
          | false ↦ λ shut. rw (slot_shut key image 0 shut, first) (without_first knows (slot_of key base 0) (slot_of key base 1) n _ refl other)
        ] refl
      ] refl

  shut_1 : ((k : ℕ) → shut_writes 1 base k ≡ false → image k ≡ base k) → CountsElsewhere 1 (opening_of knows key base n) → opening_of knows key image n ≡ opening_of knows key base n
  unfolding opening_of
  shut_1 same other =
      let zeroth = slot_same key image base 0 (same 0 refl) (same 1 refl) in
      elim (gate_open (base 2)) as (λ o. gate_open (base 2) ≡ o → opening_of knows key image n ≡ opening_of knows key base n) [
        | false ↦ λ shut. opening_same knows key image base n zeroth (slot_same key image base 1 (same 2 shut) (same 3 refl))
        | true ↦ λ opened. elim (gate_open (image 2)) as (λ o. gate_open (image 2) ≡ o → opening_of knows key image n ≡ opening_of knows key base n) [
          | true ↦ λ still. opening_same knows key image base n zeroth (slot_open key image 1 still ∙ ap (header_slot key 1) (same 3 refl) ∙ sym (slot_open key base 1 opened))
          | false ↦ λ shut. rw (slot_shut key image 1 shut, zeroth) (without_second knows (slot_of key base 0) (slot_of key base 1) n _ refl other)
        ] refl
      ] refl

  -- within a writing of the header in slot 0, and in slot 1, whose gate isn't open
  laid_0 : ((k : ℕ) → k ≢ 1 → image k ≡ base k) → gate_open (base 0) ≡ false → opening_of knows key image n ≡ opening_of knows key base n
  laid_0 same shut =
      let gate : image 0 ≡ base 0 = same 0 (λ e. cc) in
      let still : gate_open (image 0) ≡ false = ap gate_open gate ∙ shut in
      opening_same knows key image base n (slot_shut key image 0 still ∙ sym (slot_shut key base 0 shut)) (slot_same key image base 1 (same 2 (λ e. cc)) (same 3 (λ e. cc)))

  laid_1 : ((k : ℕ) → k ≢ 3 → image k ≡ base k) → gate_open (base 2) ≡ false → opening_of knows key image n ≡ opening_of knows key base n
  laid_1 same shut =
      let gate : image 2 ≡ base 2 = same 2 (λ e. cc) in
      let still : gate_open (image 2) ≡ false = ap gate_open gate ∙ shut in
      opening_same knows key image base n (slot_same key image base 0 (same 0 (λ e. cc)) (same 1 (λ e. cc))) (slot_shut key image 1 still ∙ sym (slot_shut key base 1 shut))

pub shut_opens : (knows : ℕ → Bool) (key : List ℕ) (base image : ℕ → List ℕ) (n slot : ℕ) → slot < 2
    → ((k : ℕ) → shut_writes slot base k ≡ false → image k ≡ base k) → CountsElsewhere slot (opening_of knows key base n)
    → opening_of knows key image n ≡ opening_of knows key base n
shut_opens knows key base image n slot below =
    by_slot (λ s. ((k : ℕ) → shut_writes s base k ≡ false → image k ≡ base k) → CountsElsewhere s (opening_of knows key base n)
    → opening_of knows key image n ≡ opening_of knows key base n) slot below (shut_0 knows key base image n) (shut_1 knows key base image n)

pub lay_opens : (knows : ℕ → Bool) (key : List ℕ) (base image : ℕ → List ℕ) (n slot : ℕ) → slot < 2 → ((k : ℕ) → k ≢ header_at slot → image k ≡ base k)
    → gate_open (base (gate_at slot)) ≡ false → opening_of knows key image n ≡ opening_of knows key base n
lay_opens knows key base image n slot below =
    by_slot (λ s. ((k : ℕ) → k ≢ header_at s → image k ≡ base k) → gate_open (base (gate_at s)) ≡ false
    → opening_of knows key image n ≡ opening_of knows key base n) slot below (laid_0 knows key base image n) (laid_1 knows key base image n)

-- the header that counts has the counter's sequence
current_if : (n : ℕ) (b : Bool) (answer : OpenAnswer) (y : Result (Option Found) OpenAnswer) (P : Type 0) → (IsCurrent n y → P) → IsCurrent n (if b then Err answer else y) → P
current_if n true answer y P f w = absurd w
current_if n false answer y P f w = f w

current_at : (knows : ℕ → Bool) (slot : ℕ) (h : Header) (n : ℕ) → IsCurrent n (answer_at knows slot h n) → h.sequence ≡ n
current_at knows slot h n = current_if n (not (knows h.version)) _ _ _ (current_if n (nat_lt h.sequence n) _ _ _ (current_if n (nat_lt (n + 1) h.sequence) _ _ _ (λ w. w)))

module _ (knows : ℕ → Bool) (h : Header) (n m : ℕ) (known : knows h.version ≡ true) (next : h.sequence ≡ n + 1) (low : n ≤ m) (high : m ≤ n + 1) where
  known_not : not (knows h.version) ≡ false
  known_not = rw known refl

  at_slot : (slot : ℕ) → answer_at knows slot h m ≡ Ok (Some (record { header = h; slot = slot }))
  at_slot slot = answer_ok knows slot h m known_not (omega (arith, next, high)) (omega (arith, next, low))

  -- the header that was laid counts before the one that counted
  pub newer_first : (second : Slot) → IsCurrent n (opening_by knows Shut second n) → opening_by knows (Good h) second m ≡ Ok (Some (record { header = h; slot = 0 }))
  newer_first (Bad t) current = absurd current
  newer_first Shut current = at_slot 0
  newer_first (Good other) current =
      let older : nat_lt h.sequence other.sequence ≡ false = (let e = current_at knows 1 other n current in grind arith) in
      rw older (at_slot 0)

  pub newer_second : (first : Slot) → IsCurrent n (opening_by knows first Shut n) → opening_by knows first (Good h) m ≡ Ok (Some (record { header = h; slot = 1 }))
  newer_second (Bad t) current = absurd current
  newer_second Shut current = at_slot 1
  newer_second (Good other) current =
      let newer : nat_lt other.sequence h.sequence ≡ true = (let e = current_at knows 0 other n current in grind arith) in
      rw newer (at_slot 1)

module _ (knows : ℕ → Bool) (key : List ℕ) (n : ℕ) (h : Header) (m : Moment) (image : ℕ → List ℕ) (counter : ℕ) (low : n ≤ counter) (high : counter ≤ n + 1) where
  -- an image whose gate is open over the header that was laid
  open_0 : IsLaid knows key 0 n h m → ((k : ℕ) → k ≢ 0 → image k ≡ m.reads k) → gate_open (image 0) ≡ true → opening_of knows key image counter ≡ Ok (Some (record { header = h; slot = 0 }))
  unfolding opening_of
  open_0 laid same opened =
      let zeroth : slot_of key image 0 ≡ Good h = slot_open key image 0 opened ∙ ap (header_slot key 0) (same 1 (λ e. cc)) ∙ laid.good in
      let first = slot_same key image m.reads 1 (same 2 (λ e. cc)) (same 3 (λ e. cc)) in
      let current : IsCurrent n (opening_by knows Shut (slot_of key m.reads 1) n) = subst (λ (s : Slot). IsCurrent n (opening_by knows s (slot_of key m.reads 1) n))
      (slot_shut key m.reads 0 laid.gate) laid.current in
      rw (zeroth, first) (newer_first knows h n counter laid.accepted laid.next low high (slot_of key m.reads 1) current)

  open_1 : IsLaid knows key 1 n h m → ((k : ℕ) → k ≢ 2 → image k ≡ m.reads k) → gate_open (image 2) ≡ true → opening_of knows key image counter ≡ Ok (Some (record { header = h; slot = 1 }))
  unfolding opening_of
  open_1 laid same opened =
      let first : slot_of key image 1 ≡ Good h = slot_open key image 1 opened ∙ ap (header_slot key 1) (same 3 (λ e. cc)) ∙ laid.good in
      let zeroth = slot_same key image m.reads 0 (same 0 (λ e. cc)) (same 1 (λ e. cc)) in
      let current : IsCurrent n (opening_by knows (slot_of key m.reads 0) Shut n) = subst (λ (s : Slot). IsCurrent n (opening_by knows (slot_of key m.reads 0) s n))
      (slot_shut key m.reads 1 laid.gate) laid.current in
      rw (zeroth, first) (newer_second knows h n counter laid.accepted laid.next low high (slot_of key m.reads 0) current)

pub flip_open : (knows : ℕ → Bool) (key : List ℕ) (n : ℕ) (h : Header) (m : Moment) (image : ℕ → List ℕ) (counter : ℕ) → n ≤ counter → counter ≤ n + 1
    → (slot : ℕ) → slot < 2 → IsLaid knows key slot n h m → ((k : ℕ) → k ≢ gate_at slot → image k ≡ m.reads k)
    → gate_open (image (gate_at slot)) ≡ true → opening_of knows key image counter ≡ Ok (Some (record { header = h; slot = slot }))
flip_open knows key n h m image counter low high slot below =
    by_slot (λ s. IsLaid knows key s n h m → ((k : ℕ) → k ≢ gate_at s → image k ≡ m.reads k) → gate_open (image (gate_at s)) ≡ true
    → opening_of knows key image counter ≡ Ok (Some (record { header = h; slot = s }))) slot below (open_0 knows key n h m image counter low high)
    (open_1 knows key n h m image counter low high)

-- an image whose gate isn't open
module _ (knows : ℕ → Bool) (key : List ℕ) (base image : ℕ → List ℕ) (n : ℕ) where
  still_0 : ((k : ℕ) → k ≢ 0 → image k ≡ base k) → gate_open (base 0) ≡ false → gate_open (image 0) ≡ false → opening_of knows key image n ≡ opening_of knows key base n
  still_0 same shut still = opening_same knows key image base n (slot_shut key image 0 still ∙ sym (slot_shut key base 0 shut)) (slot_same key image base 1 (same 2 (λ e. cc)) (same 3 (λ e. cc)))

  still_1 : ((k : ℕ) → k ≢ 2 → image k ≡ base k) → gate_open (base 2) ≡ false → gate_open (image 2) ≡ false → opening_of knows key image n ≡ opening_of knows key base n
  still_1 same shut still = opening_same knows key image base n (slot_same key image base 0 (same 0 (λ e. cc)) (same 1 (λ e. cc))) (slot_shut key image 1 still ∙ sym (slot_shut key base 1 shut))

pub flip_shut : (knows : ℕ → Bool) (key : List ℕ) (base image : ℕ → List ℕ) (n slot : ℕ) → slot < 2 → ((k : ℕ) → k ≢ gate_at slot → image k ≡ base k)
    → gate_open (base (gate_at slot)) ≡ false → gate_open (image (gate_at slot)) ≡ false → opening_of knows key image n ≡ opening_of knows key base n
flip_shut knows key base image n slot below =
    by_slot (λ s. ((k : ℕ) → k ≢ gate_at s → image k ≡ base k) → gate_open (base (gate_at s)) ≡ false → gate_open (image (gate_at s)) ≡ false
    → opening_of knows key image n ≡ opening_of knows key base n) slot below (still_0 knows key base image n) (still_1 knows key base image n)

-- what a crash within a flip leaves opens as before, or to the header that was laid
pub flip_opens : (knows : ℕ → Bool) (key : List ℕ) (slot n : ℕ) (h : Header) (m : Moment) (c : CrashImage) → slot < 2 → IsLaid knows key slot n h m
    → LeavesFlip slot m.reads n c
    → (outcome_opening knows key c ≡ opening_of knows key m.reads n) ⊎ (outcome_opening knows key c ≡ Ok (Some (record { header = h; slot = slot })))
flip_opens knows key slot n h m c below laid leaves =
    elim (gate_open (c.image (gate_at slot))) as (λ o. gate_open (c.image (gate_at slot)) ≡ o → (outcome_opening knows key c ≡ opening_of knows key m.reads n) ⊎
    (outcome_opening knows key c ≡ Ok (Some (record { header = h; slot = slot })))) [
      | true ↦ λ opened.
          let low : n ≤ c.counter = ⊎_elim (λ (e : c.counter ≡ n). omega (arith, e)) (λ (e : (c.counter ≡ n + 1) × (gate_open (c.image (gate_at slot)) ≡ true)). omega (arith, e.0)) leaves.counter in
          let high : c.counter ≤ n + 1 = ⊎_elim (λ (e : c.counter ≡ n). omega (arith, e))
          (λ (e : (c.counter ≡ n + 1) × (gate_open (c.image (gate_at slot)) ≡ true)). omega (arith, e.0)) leaves.counter in
          inr (flip_open knows key n h m c.image c.counter low high slot below laid leaves.elsewhere opened)
      | false ↦ λ shut.
          let same : c.counter ≡ n = ⊎_elim (λ (e : c.counter ≡ n). e)
          (λ (e : (c.counter ≡ n + 1) × (gate_open (c.image (gate_at slot)) ≡ true)). absurd (false≢true (sym shut ∙ e.1))) leaves.counter in
          inl (ap (λ (k : ℕ). opening_of knows key c.image k) same ∙ flip_shut knows key m.reads c.image n slot below leaves.elsewhere laid.gate shut)
    ] refl
