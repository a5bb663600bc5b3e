-- An instance that is destroyed has no session, and in an application that isn't single each instance has one at most.
use Rattle.std.proofs.Common.{ℕ, ◌≡◌, ◌+◌, ◌*◌, ◌≤◌, ◌<◌, ◌==◌, ◌&&◌, Bool, true, false, not, cond, List, [], ◌∷◌, ◌++◌, find}
use Rattle.std.proofs.Common.{filter, map, length, Option, None, Some, refl, sym, ap, ◌∙◌, ⊎_elim, arith}
use Rattle.std.proofs.lemmas.Bool.{cases_Bool, cond_both, eqb-true}
use Rattle.app_api.specs.declared.login.Login.{Login}
use Rattle.instances.specs.declared.instances.Admission.{Admission}
use Rattle.instances.specs.declared.session.Session.{Session}
use Rattle.instances.specs.declared.session.Slot.{Slot}
use Rattle.instances.specs.declared.session.SessionFacts.{SessionFacts}
use Rattle.instances.specs.declared.session.SessionState.TheVariants.{Opening, Dead}
use Rattle.instances.specs.Instances.{Table, destroy_begun, without_instance, with_session, facts_of, instance_numbers, is_dead, dead_if_of, stays_after_end, with_ending}
use Rattle.alone.specs.declared.active_entry.Instance.{Instance}
use Rattle.alone.specs.declared.active_entry.ActiveEntry.{ActiveEntry}
use Rattle.alone.specs.declared.active_entry.EntryPoint.{EntryPoint}
use Rattle.alone.specs.declared.active_entry.EntryPoint.TheVariants as stages
use Rattle.alone.specs.Machine.{is_number, put_instance}
use Rattle.alone.specs.Step.{new_instance}
use Rattle.alone.proofs.Totals.{bit, having, total, total_filter, total_le, total_map, total_ones, total_push, total_zero}
use Rattle.alone.proofs.Lists.{found_number, numbers_put, total_put}

-- ---- counts

abbrev pub sessions_of : (SessionFacts → Bool) → List Session → ℕ
sessions_of p ss = total (λ s. bit (p (facts_of s))) ss

-- it is opening, open or closing, and of this instance
abbrev pub counts_in : ℕ → SessionFacts → Bool
counts_in i c = (c.instance == i) && not (is_dead c.state)

abbrev pub counting : ℕ → List Session → ℕ
counting i ss = sessions_of (counts_in i) ss

abbrev pub is_destroy : EntryPoint → Bool
is_destroy (stages.Create session client ps) = false
is_destroy (stages.Start session places) = false
is_destroy (stages.Invoke session places) = false
is_destroy (stages.Stop session) = false
is_destroy (stages.Destroy reply) = true

abbrev pub destroys : Option ActiveEntry → Bool
destroys None = false
destroys (Some r) = is_destroy r.stage

abbrev pub destroys_at : {A : Type 0} → ℕ → Instance A → Bool
destroys_at i x = (x.number == i) && destroys x.running

-- instances of this number that run their destroy entry
abbrev pub destroyers : {A : Type 0} → ℕ → List (Instance A) → ℕ
destroyers i xs = total (λ x. bit (destroys_at i x)) xs

abbrev pub ends_at : ℕ → Slot → Bool
ends_at i slot = (slot.number == i) && slot.ending

-- places of this number whose instance is ending
abbrev pub endings : ℕ → List Slot → ℕ
endings i slots = total (λ slot. bit (ends_at i slot)) slots

pub record IsCalm {A : Type 0} (t : Table) (xs : List (Instance A)) : Type 0 where
  pub quiet : (i : ℕ) → counting i t.sessions + 8 * destroyers i xs ≤ 8
  pub alone : t.properties.single ≡ false → (i : ℕ) → counting i t.sessions ≤ 1
  pub marked : (i : ℕ) → destroyers i xs ≤ endings i t.slots

abbrev pub instance_number : {A : Type 0} → Instance A → ℕ
instance_number x = x.number

abbrev pub slot_number : Slot → ℕ
slot_number slot = slot.number

-- ---- tests

and_le : (a b c : Bool) → bit b ≤ bit c → bit (a && b) ≤ bit (a && c)
and_le true b c h = h
and_le false b c h = omega arith

and_first : (a b : Bool) → bit (a && b) ≤ bit a
and_first true true = omega arith
and_first true false = omega arith
and_first false b = omega arith

some_bit : (b : Bool) → bit b ≤ 1
some_bit true = omega arith
some_bit false = omega arith

kept_le : (b : Bool) (n : ℕ) → cond b n 0 ≤ n
kept_le true n = omega arith
kept_le false n = omega arith

pub filter_le : {X : Type 0} (f : X → ℕ) (p : X → Bool) (xs : List X) → total f (filter p xs) ≤ total f xs
filter_le f p xs = omega (arith, total_filter f p xs, total_le (λ x. cond (p x) (f x) 0) f xs (λ x. kept_le (p x) (f x)))

pub counting_most : (i : ℕ) (ss : List Session) → counting i ss ≤ length ss
counting_most i ss = omega (arith, total_le (λ s. bit (counts_in i (facts_of s))) (λ s. 1) ss (λ s. some_bit (counts_in i (facts_of s))), total_ones ss)

pub destroyers_most : {A : Type 0} (i : ℕ) (xs : List (Instance A)) → destroyers i xs ≤ having instance_number i xs
destroyers_most {A} i xs = total_le (λ (x : Instance A). bit (destroys_at i x)) (λ x. bit (x.number == i)) xs (λ x. and_first (x.number == i) (destroys x.running))

pub endings_most : (i : ℕ) (slots : List Slot) → endings i slots ≤ having slot_number i slots
endings_most i slots = total_le (λ (slot : Slot). bit (ends_at i slot)) (λ slot. bit (slot.number == i)) slots (λ slot. and_first (slot.number == i) slot.ending)

-- ---- where less is there

pub calm_le : {A : Type 0} (t after : Table) (xs ys : List (Instance A)) → IsCalm t xs → after.properties.single ≡ t.properties.single → ((i : ℕ) → counting i after.sessions ≤ counting i t.sessions)
    → ((i : ℕ) → destroyers i ys ≤ destroyers i xs) → ((i : ℕ) → endings i t.slots ≤ endings i after.slots) → IsCalm after ys
calm_le t after xs ys h same counts fewer more = record {
  quiet = λ i. omega (arith, h.quiet i, counts i, fewer i);
  alone = λ no i. omega (arith, h.alone (sym same ∙ no) i, counts i);
  marked = λ i. omega (arith, h.marked i, fewer i, more i);
}

module _ {A : Type 0} where
  -- an instance that doesn't begin to be destroyed
  pub destroyers_put : (new old : Instance A) (xs : List (Instance A)) → find (is_number new.number) xs ≡ Some old
      → bit (destroys new.running) ≤ bit (destroys old.running) → (i : ℕ) → destroyers i (put_instance new xs) ≤ destroyers i xs
  destroyers_put new old xs found less i =
      let put = total_put (λ (x : Instance A). bit (destroys_at i x)) new old xs found in
      let same : bit ((old.number == i) && destroys old.running) ≡ bit ((new.number == i) && destroys old.running) = ap
      (λ n. bit ((n == i) && destroys old.running)) (found_number new.number xs old found) in
      omega (arith, put, same, and_le (new.number == i) (destroys new.running) (destroys old.running) less)

  -- an instance of another number
  destroyers_other : (new old : Instance A) (xs : List (Instance A)) → find (is_number new.number) xs ≡ Some old → (i : ℕ) → (new.number == i) ≡ false
      → destroyers i (put_instance new xs) ≤ destroyers i xs
  destroyers_other new old xs found i other =
      let put = total_put (λ (x : Instance A). bit (destroys_at i x)) new old xs found in
      omega (arith, put, ap (λ b. bit (b && destroys new.running)) other)

  pub having_put : (new : Instance A) (xs : List (Instance A)) (i : ℕ) → having instance_number i (put_instance new xs) ≡ having instance_number i xs
  having_put new xs i =
      let after = total_map (λ n. bit (n == i)) (λ (x : Instance A). x.number) (put_instance new xs) in
      let before = total_map (λ n. bit (n == i)) (λ (x : Instance A). x.number) xs in
      omega (arith, after, before, ap (total (λ n. bit (n == i))) (numbers_put new xs))

  pub having_slots : (t : Table) (xs : List (Instance A)) → map (λ x. x.number) xs ≡ instance_numbers t → (i : ℕ) → having instance_number i xs ≡ having slot_number i t.slots
  having_slots t xs numbers i =
      let here = total_map (λ n. bit (n == i)) (λ (x : Instance A). x.number) xs in
      let there = total_map (λ n. bit (n == i)) (λ (slot : Slot). slot.number) t.slots in
      omega (arith, here, there, ap (total (λ n. bit (n == i))) numbers)

-- ---- an instance begins to be destroyed

begun_marks : (i : ℕ) (slots : List Slot) → having slot_number i slots ≤ endings i (map (with_ending i) slots)
begun_marks i slots =
    let after = total_map (λ (slot : Slot). bit (ends_at i slot)) (with_ending i) slots in
    let le = total_le (λ (slot : Slot). bit (slot.number == i)) (λ slot. bit (ends_at i (with_ending i slot))) slots
    (λ slot. cond_both (slot.number == i) (record slot { ending = true }) slot (λ (s : Slot). bit (slot.number == i) ≤ bit (ends_at i s))
    (λ yes. omega (arith, ap bit yes, ap (λ b. bit (b && true)) yes))
    (λ no. omega (arith, ap bit no))) in
    omega (arith, after, le)

begun_keeps : (i j : ℕ) (slots : List Slot) → endings j slots ≤ endings j (map (with_ending i) slots)
begun_keeps i j slots =
    let after = total_map (λ (slot : Slot). bit (ends_at j slot)) (with_ending i) slots in
    let le = total_le (λ (slot : Slot). bit (ends_at j slot)) (λ slot. bit (ends_at j (with_ending i slot))) slots
    (λ slot. cond_both (slot.number == i) (record slot { ending = true }) slot (λ (s : Slot). bit (ends_at j slot) ≤ bit (ends_at j s))
    (λ _. and_le (slot.number == j) slot.ending true (some_bit slot.ending))
    (λ _. omega arith)) in
    omega (arith, after, le)

pub calm_begun : {A : Type 0} (t : Table) (ss : List Session) (xs : List (Instance A)) (new old : Instance A) → IsCalm t xs
    → map (λ x. x.number) xs ≡ instance_numbers t → having slot_number new.number t.slots ≤ 1
    → find (is_number new.number) xs ≡ Some old → ((i : ℕ) → counting i ss ≤ counting i t.sessions) → counting new.number ss ≡ 0
    → IsCalm (destroy_begun (record t { sessions = ss }) new.number) (put_instance new xs)
calm_begun {A} t ss xs new old h numbers once found counts none =
    let n = new.number in
    let own : (i : ℕ) → n ≡ i → destroyers i (put_instance new xs) ≤ having slot_number n t.slots =
    λ i same. omega (arith, destroyers_most i (put_instance new xs), having_put new xs i, having_slots t xs numbers i, ap (λ k. having slot_number k t.slots) same) in
    record {
      quiet = λ i. ⊎_elim
          (λ (yes : (n == i) ≡ true). let same = eqb-true n i yes in omega (arith, own i same, once, none, ap (λ k. counting k ss) same))
          (λ (no : (n == i) ≡ false). omega (arith, h.quiet i, counts i, destroyers_other new old xs found i no))
          (cases_Bool (n == i));
      alone = λ no i. omega (arith, h.alone no i, counts i);
      marked = λ i. ⊎_elim
          (λ (yes : (n == i) ≡ true). let same = eqb-true n i yes in omega (arith, own i same, begun_marks n t.slots, ap (λ k. endings k (map (with_ending n) t.slots)) same))
          (λ (no : (n == i) ≡ false). omega (arith, h.marked i, destroyers_other new old xs found i no, begun_keeps n i t.slots))
          (cases_Bool (n == i));
    }

-- ---- an instance is gone

counting_ended : (i j : ℕ) (ss : List Session) → counting j (map (dead_if_of i) (filter (stays_after_end i) ss)) ≤ counting j ss
counting_ended i j ss =
    let f : Session → ℕ = λ s. bit (counts_in j (facts_of s)) in
    let mapped = total_map f (dead_if_of i) (filter (stays_after_end i) ss) in
    let le = total_le (λ s. f (dead_if_of i s)) f (filter (stays_after_end i) ss)
    (λ s. cond_both (s.instance == i) (record s { state = Dead }) s (λ (o : Session). bit (counts_in j (facts_of o)) ≤ bit (counts_in j (facts_of s)))
    (λ _. omega (arith, dead (s.instance == j)))
    (λ _. omega arith)) in
    omega (arith, mapped, le, filter_le f (stays_after_end i) ss)
  where
    dead : (b : Bool) → bit (b && false) ≡ 0
    dead true = refl
    dead false = refl

none_left : (a b : Bool) → cond (not a) (bit (a && b)) 0 ≤ 0
none_left true b = omega arith
none_left false b = omega arith

pub calm_ended : {A : Type 0} (t : Table) (xs : List (Instance A)) (i : ℕ) → IsCalm t xs → IsCalm (without_instance t i) (filter (λ other. not (is_number i other)) xs)
calm_ended {A} t xs i h =
    let q : Instance A → Bool = λ other. not (is_number i other) in
    let fewer : (j : ℕ) → destroyers j (filter q xs) ≤ destroyers j xs = λ j. filter_le (λ (x : Instance A). bit (destroys_at j x)) q xs in
    record {
      quiet = λ j. omega (arith, h.quiet j, counting_ended i j t.sessions, fewer j);
      alone = λ no j. omega (arith, h.alone no j, counting_ended i j t.sessions);
      marked = λ j. ⊎_elim
          (λ (yes : (i == j) ≡ true).
          let zero = total_filter (λ (x : Instance A). bit (destroys_at i x)) q xs in
          let le = total_le (λ (x : Instance A). cond (not (x.number == i)) (bit (destroys_at i x)) 0) (λ x. 0) xs (λ x. none_left (x.number == i) (destroys x.running)) in
          omega (arith, zero, le, total_zero xs, ap (λ k. destroyers k (filter q xs)) (eqb-true i j yes)))
          (λ (no : (i == j) ≡ false). omega (arith, h.marked j, fewer j, stay j no))
          (cases_Bool (i == j));
    }
  where
    one : (b : Bool) (n j : ℕ) (e : Bool) → (n == i) ≡ b → (i == j) ≡ false → bit ((n == j) && e) ≤ cond (not b) (bit ((n == j) && e)) 0
    one true n j e same other = omega (arith, ap (λ k. bit ((k == j) && e)) (eqb-true n i same), ap (λ b. bit (b && e)) other)
    one false n j e same other = omega arith

    stay : (j : ℕ) → (i == j) ≡ false → endings j t.slots ≤ endings j (filter (λ slot. not (slot.number == i)) t.slots)
    stay j other =
        let after = total_filter (λ (slot : Slot). bit (ends_at j slot)) (λ (slot : Slot). not (slot.number == i)) t.slots in
        let le = total_le (λ (slot : Slot). bit (ends_at j slot)) (λ (slot : Slot). cond (not (slot.number == i)) (bit (ends_at j slot)) 0) t.slots
        (λ slot. one (slot.number == i) slot.number j slot.ending refl other) in
        omega (arith, after, le)

-- ---- an open

destroyers_entered : {A : Type 0} (b : Bool) (xs : List (Instance A)) (template : A) (n i : ℕ) → destroyers i (cond b (xs ++ new_instance template n ∷ []) xs) ≡ destroyers i xs
destroyers_entered {A} true xs template n i = omega (arith, total_push (λ (x : Instance A). bit (destroys_at i x)) xs (new_instance template n), none (n == i))
  where
    none : (b : Bool) → bit (b && false) ≡ 0
    none true = refl
    none false = refl
destroyers_entered false xs template n i = refl

endings_entered : (b : Bool) (slots : List Slot) (slot : Slot) (i : ℕ) → endings i slots ≤ endings i (cond b (slots ++ slot ∷ []) slots)
endings_entered true slots slot i = omega (arith, total_push (λ (s : Slot). bit (ends_at i s)) slots slot)
endings_entered false slots slot i = omega arith

pub calm_entered : {A : Type 0} (template : A) (t : Table) (xs : List (Instance A)) (client label : ℕ) (login : Login) (a : Admission)
    → IsCalm t xs → length t.sessions < 8 → endings a.instance t.slots ≡ 0
    → (t.properties.single ≡ false → counting a.instance t.sessions ≡ 0) → IsCalm (with_session t client label login a) (cond a.new_instance (xs ++ new_instance template a.instance ∷ []) xs)
calm_entered {A} template t xs client label login a h room free lone =
    let n = a.instance in
    let session : Session = record { client = client; label = label; number = a.session; instance = n; state = Opening; login = login } in
    let slot : Slot = record { number = n; ending = false } in
    let more : (i : ℕ) → counting i (t.sessions ++ session ∷ []) ≡ counting i t.sessions + bit ((n == i) && true) = λ i. total_push
    (λ (s : Session). bit (counts_in i (facts_of s))) t.sessions session in
    let same : (i : ℕ) → destroyers i (cond a.new_instance (xs ++ new_instance template n ∷ []) xs) ≡ destroyers i xs = destroyers_entered a.new_instance xs template n in
    let grow : (i : ℕ) → endings i t.slots ≤ endings i (cond a.new_instance (t.slots ++ slot ∷ []) t.slots) = endings_entered a.new_instance t.slots slot in
    record {
      quiet = λ i. ⊎_elim
          (λ (yes : (n == i) ≡ true).
          omega (arith, more i, same i, some_bit ((n == i) && true), counting_most i t.sessions, room, h.marked i, free, ap (λ k. endings k t.slots) (eqb-true n i yes)))
          (λ (no : (n == i) ≡ false). omega (arith, h.quiet i, more i, same i, ap (λ b. bit (b && true)) no))
          (cases_Bool (n == i));
      alone = λ no i. ⊎_elim
          (λ (yes : (n == i) ≡ true). omega (arith, more i, some_bit ((n == i) && true), lone no, ap (λ k. counting k t.sessions) (eqb-true n i yes)))
          (λ (other : (n == i) ≡ false). omega (arith, h.alone no i, more i, ap (λ b. bit (b && true)) other))
          (cases_Bool (n == i));
      marked = λ i. omega (arith, h.marked i, same i, grow i);
    }
