-- What a table keeps, through a push, a map and a filter.
use Rattle.std.proofs.Common.{◌≡◌, ◌≢◌, ◌<◌, ◌≤◌, ℕ, Bool, true, List, [], ◌∷◌, ◌++◌, length, get_or, map, filter, All, AllPairs, Contains, sym, ap, subst, ◌∙◌, arith}
use Rattle.std.proofs.lemmas.List.{get_or-map, length_push, length-map}
use Rattle.std.proofs.lemmas.List.Elements.{All-push, All-map, All-filter, All-weaker, Contains-get_or}
use Rattle.std.proofs.lemmas.List.Quantifiers.{all_pairs_push}
use Rattle.std.proofs.lemmas.List.Kept.{AllPairs-filter}
use Rattle.std.proofs.lemmas.List.Sums.{length-filter, count_by-le-length}
use Rattle.tee_base.specs.Numbers.{lowest_free}
use Rattle.tee_base.specs.declared.limits.TheConstants.{MAX_INSTANCES, MAX_SESSIONS}
use Rattle.tee_base.proofs.LowestFree.{lowest_free-free, lowest_free-positive, lowest_free-near}
use Rattle.instances.specs.declared.session.Session.{Session}
use Rattle.instances.specs.declared.session.Slot.{Slot}
use Rattle.instances.specs.Instances.{Table, IsTable}

-- at most so many entries, numbered from 1 to so many, no two alike
pub record Fits {X : Type 0} (number : X → ℕ) (most : ℕ) (xs : List X) : Type 0 where
  pub few : length xs ≤ most
  pub numbers : All (λ x. (1 ≤ number x) × (number x ≤ most)) xs
  pub apart : AllPairs (λ x y. number x ≢ number y) xs

-- a number of the list isn't the lowest free one
not_taken : {X : Type 0} (number : X → ℕ) (xs : List X) (n k : ℕ) (d : X) → n ≡ lowest_free (map number xs) → k < length xs → number (get_or xs k d) ≢ n
not_taken number xs n k d e inside same =
    let within : k < length (map number xs) = omega (arith, length-map xs number) in
    let there : Contains (map number xs) (get_or (map number xs) k (number d)) = Contains-get_or (map number xs) k (number d) within in
    let is_free : get_or (map number xs) k (number d) ≡ lowest_free (map number xs) = get_or-map number xs k d (number d) inside ∙ same ∙ e in
    lowest_free-free (map number xs) (subst (λ (m : ℕ). Contains (map number xs) m) is_free there)

pub Fits-push : {X : Type 0} (number : X → ℕ) (most : ℕ) (xs : List X) (y : X) → Fits number most xs → number y ≡ lowest_free (map number xs) → length xs < most → Fits number most (xs ++ y ∷ [])
Fits-push number most xs y old e room = record {
  few = omega (arith, length_push xs y);
  numbers = All-push (λ x. (1 ≤ number x) × (number x ≤ most)) xs y old.numbers (
    omega (arith, e, lowest_free-positive (map number xs)),
    omega (arith, e, lowest_free-near (map number xs), length-map xs number),
  );
  apart = all_pairs_push (λ x y. number x ≢ number y) xs y old.apart (λ k d inside. not_taken number xs (number y) k d e inside);
}

pub Fits-filter : {X : Type 0} (number : X → ℕ) (most : ℕ) (p : X → Bool) (xs : List X) → Fits number most xs → Fits number most (filter p xs)
Fits-filter number most p xs old = record {
  few = omega (arith, length-filter p xs, count_by-le-length p xs, old.few);
  numbers = All-filter p (λ x. (1 ≤ number x) × (number x ≤ most)) xs old.numbers;
  apart = AllPairs-filter (λ x y. number x ≢ number y) p xs old.apart;
}

-- where no number changes
pub Fits-map : {X : Type 0} (number : X → ℕ) (most : ℕ) (f : X → X) (xs : List X) → ((x : X) → number (f x) ≡ number x) → Fits number most xs → Fits number most (map f xs)
Fits-map number most f xs same old =
    let place : (k : ℕ) (d : _) → k < length xs → number (get_or (map f xs) k d) ≡ number (get_or xs k d) = λ k d inside. ap number (get_or-map f xs k d d inside) ∙ same (get_or xs k d) in
    record {
      few = omega (arith, length-map xs f, old.few);
      numbers = All-map (λ x. (1 ≤ number x) × (number x ≤ most)) f xs (All-weaker (λ x. (1 ≤ number x) × (number x ≤ most)) (λ x. (1 ≤ number (f x)) × (number (f x) ≤ most))
          (λ x h. (omega (arith, same x, h.0), omega (arith, same x, h.1))) xs old.numbers);
      apart = λ i j d lt inside. let within : j < length xs = omega (arith, length-map xs f) in λ e. old.apart i j d lt within (sym (place i d (omega arith)) ∙ e ∙ place j d within);
    }

abbrev pub number_of_slot : Slot → ℕ
number_of_slot slot = slot.number

abbrev pub number_of : Session → ℕ
number_of s = s.number

pub slots_Fits : (t : Table) → IsTable t → Fits number_of_slot MAX_INSTANCES t.slots
slots_Fits t old = record { few = old.few_slots; numbers = old.instance_numbers; apart = old.slots_apart }

pub sessions_Fits : (t : Table) → IsTable t → Fits number_of MAX_SESSIONS t.sessions
sessions_Fits t old = record { few = old.few_sessions; numbers = old.session_numbers; apart = old.sessions_apart }

-- a table of such lists
pub IsTable-from_Fits : (t : Table) → Fits number_of_slot MAX_INSTANCES t.slots → Fits number_of MAX_SESSIONS t.sessions → (t.properties.single ≡ true → length t.slots ≤ 1) → IsTable t
IsTable-from_Fits t slots sessions one = record {
  few_slots = slots.few;
  few_sessions = sessions.few;
  instance_numbers = slots.numbers;
  session_numbers = sessions.numbers;
  slots_apart = slots.apart;
  sessions_apart = sessions.apart;
  one_instance = one;
}
