-- Where a session is open, fewer than eight closes are unanswered.
use Rattle.std.proofs.Common.{ℕ, ◌≡◌, ◌+◌, ◌*◌, ◌≤◌, ◌<◌, ◌==◌, ◌&&◌, ◌||◌, nat_eq, Bool, true, false, not, List, [], ◌∷◌, find, map}
use Rattle.std.proofs.Common.{length, count_by, Option, None, Some, refl, sym, ap, ◌∙◌, ⊎_elim, eq-eqb, arith}
use Rattle.std.specs.List.{AllByRecursion, list_any}
use Rattle.std.proofs.lemmas.Bool.{cases_Bool, both_ways}
use Rattle.std.proofs.lemmas.List.{length-map}
use Rattle.app_api.specs.declared.call.Call.TheVariants as calls
use Rattle.instances.specs.declared.session.Session.{Session}
use Rattle.instances.specs.declared.session.Slot.{Slot}
use Rattle.instances.specs.declared.session.SessionFacts.{SessionFacts}
use Rattle.instances.specs.declared.session.SessionState.{SessionState}
use Rattle.instances.specs.declared.session.SessionState.TheVariants.{Opening, Open, Closing, Dead}
use Rattle.instances.specs.Instances.{Table, facts_of, instance_numbers, is_dead}
use Rattle.op_queue.specs.declared.operation.Operation.{Operation}
use Rattle.op_queue.specs.declared.operation.Progress.{Progress}
use Rattle.op_queue.specs.declared.operation.Progress.TheVariants.{Waiting, Running as Runs}
use Rattle.op_queue.specs.Queue.{Queue, is_close}
use Rattle.alone.specs.declared.active_entry.Instance.{Instance}
use Rattle.alone.specs.declared.active_entry.ActiveEntry.{ActiveEntry}
use Rattle.alone.specs.declared.active_entry.EntryPoint.{EntryPoint}
use Rattle.alone.specs.declared.active_entry.EntryPoint.TheVariants as stages
use Rattle.alone.proofs.Totals.{bit, found_grows, total, total_both, total_count, total_le}
use Rattle.alone.proofs.Each.{each_weaker, or_later}
use Rattle.alone.proofs.Calm.{counting, counts_in, destroyers, destroys, destroys_at, is_destroy, sessions_of}
use Rattle.alone.proofs.Sound.{IsSound, HasSlot, Run, claim_of, claim_of_entry, claim_of_progress, claim_of_stage, claim_in}
use Rattle.alone.proofs.Sound.{run_of, run_of_progress, weigh, weigh_entry, weigh_in, weigh_op, weigh_served}

-- ---- what each close holds

abbrev is_closing : SessionState → Bool
is_closing Opening = false
is_closing Open = false
is_closing Closing = true
is_closing Dead = false

abbrev closing : SessionFacts → Bool
closing c = is_closing c.state

abbrev stopping : Run → Bool
stopping c = c.close

-- a close that waits holds its session
close_holds : (op session i : ℕ) (progress : Progress) → bit (is_close progress) ≤ weigh closing (claim_of_progress session i progress) + weigh stopping (run_of_progress op i progress)
close_holds op session i (Waiting (calls.Open label login ps)) = omega arith
close_holds op session i (Waiting (calls.Invoke label command ps)) = omega arith
close_holds op session i (Waiting (calls.Close label)) = omega arith
close_holds op session i (Waiting (calls.Share block flags size)) = omega arith
close_holds op session i (Waiting (calls.Fill block at bytes)) = omega arith
close_holds op session i (Waiting (calls.Show block)) = omega arith
close_holds op session i (Waiting (calls.Unshare block)) = omega arith
close_holds op session i (Runs close cancelled masked) = omega arith

-- one that runs holds it, or its instance is destroyed
op_holds : (op i : ℕ) (stage : EntryPoint) → weigh_op stopping i op stage ≤ weigh closing (claim_of_stage i stage) + bit (is_destroy stage)
op_holds op i (stages.Create session client ps) = omega arith
op_holds op i (stages.Start session places) = omega arith
op_holds op i (stages.Invoke session places) = omega arith
op_holds op i (stages.Stop session) = omega arith
op_holds op i (stages.Destroy reply) = omega arith

served_holds : (op : Option ℕ) (i : ℕ) (stage : EntryPoint) → weigh_served stopping i op stage ≤ weigh closing (claim_of_stage i stage) + bit (is_destroy stage)
served_holds None i stage = omega arith
served_holds (Some op) i stage = op_holds op i stage

entry_holds : (i : ℕ) (o : Option ActiveEntry) → weigh_entry stopping i o ≤ weigh closing (claim_of_entry i o) + bit (destroys o)
entry_holds i None = omega arith
entry_holds i (Some r) = served_holds r.op i r.stage

-- ---- sums over instances

-- a sum is that of its parts by numbers, where each element is of one of the numbers
parts_all : {X : Type 0} (g : X → ℕ) (f : ℕ → X → ℕ) (ns : List ℕ) (xs : List X) → AllByRecursion (λ x. g x ≤ total (λ k. f k x) ns) xs → total g xs ≤ total (λ k. total (f k) xs) ns
parts_all g f ns [] h = omega arith
parts_all g f ns (x ∷ xs) h = omega (arith, h.0, parts_all g f ns xs h.1, total_both (λ k. f k x) (λ k. total (f k) xs) ns)

-- one that is of a number in the list
part_of : (n : ℕ) (b : Bool) (ns : List ℕ) → list_any (nat_eq n) ns ≡ true → bit b ≤ total (λ k. bit ((n == k) && b)) ns
part_of n b [] h = absurd (both_ways _ refl h)
part_of n b (k ∷ ks) h = ⊎_elim
    (λ (yes : (n == k) ≡ true). omega (arith, ap (λ c. bit (c && b)) yes))
    (λ (other : (n == k) ≡ false). omega (arith, part_of n b ks (sym (ap (λ c. c || list_any (nat_eq n) ks) other) ∙ h)))
    (cases_Bool (n == k))

part_of_none : (n : ℕ) (b : Bool) (ns : List ℕ) → b ≡ false → bit b ≤ total (λ k. bit ((n == k) && b)) ns
part_of_none n b ns none = omega (arith, ap bit none)

-- each number of a list is in it
own_numbers : {A : Type 0} (xs : List (Instance A)) (ns : List ℕ)
    → ((k : ℕ) → list_any (nat_eq k) (map (λ x. x.number) xs) ≡ true → list_any (nat_eq k) ns ≡ true) → AllByRecursion (λ x. list_any (nat_eq x.number) ns ≡ true) xs
own_numbers [] ns sub = tt
own_numbers (x ∷ xs) ns sub = (
  sub x.number (ap (λ b. b || list_any (nat_eq x.number) (map (λ (y : Instance _). y.number) xs)) (eq-eqb x.number x.number refl)),
  own_numbers xs ns (λ k here. sub k (or_later (nat_eq k x.number) (list_any (nat_eq k) (map (λ (y : Instance _). y.number) xs)) here)),
)

-- ---- how many sessions count, and how many instances are destroyed

abbrev counts : SessionFacts → Bool
counts c = not (is_dead c.state)

abbrev destroying : {A : Type 0} → List (Instance A) → ℕ
destroying xs = total (λ x. bit (destroys x.running)) xs

-- where each instance has one at most, of either
load_each : {A : Type 0} (ss : List Session) (xs : List (Instance A)) (ns : List ℕ) → ((i : ℕ) → counting i ss ≤ 1)
    → ((i : ℕ) → counting i ss + 8 * destroyers i xs ≤ 8) → total (λ k. counting k ss) ns + total (λ k. destroyers k xs) ns ≤ length ns
load_each ss xs [] one quiet = omega arith
load_each ss xs (n ∷ ns) one quiet = omega (arith, one n, quiet n, load_each ss xs ns one quiet)

-- where there is one instance
load_one : {A : Type 0} (ss : List Session) (xs : List (Instance A)) (ns : List ℕ) → length ns ≤ 1 → ((i : ℕ) → counting i ss + 8 * destroyers i xs ≤ 8)
    → total (λ k. counting k ss) ns + total (λ k. destroyers k xs) ns ≤ 8
load_one ss xs [] one quiet = omega arith
load_one ss xs (n ∷ []) one quiet = omega (arith, quiet n)
load_one ss xs (n ∷ m ∷ ns) one quiet = absurd (omega (arith, one))

-- an open session is one that counts, and no close holds it
open_counts : (p : Session → Bool) (ss : List Session) (s : Session) → find p ss ≡ Some s → s.state ≡ Open → sessions_of closing ss + 1 ≤ sessions_of counts ss
open_counts p ss s found is_open =
    found_grows (λ (x : Session). bit (closing (facts_of x))) (λ x. bit (counts (facts_of x))) 1 p ss s found (all ss)
    (omega (arith, ap (λ state. bit (is_closing state)) is_open, ap (λ state. bit (not (is_dead state))) is_open))
  where
    some : (state : SessionState) → bit (is_closing state) ≤ bit (not (is_dead state))
    some Opening = omega arith
    some Open = omega arith
    some Closing = omega arith
    some Dead = omega arith

    all : (xs : List Session) → AllByRecursion (λ (x : Session). bit (closing (facts_of x)) ≤ bit (counts (facts_of x))) xs
    all [] = tt
    all (x ∷ xs) = (some x.state, all xs)

module _ {A : Type 0} where
  load : (q : Queue) (t : Table) (xs : List (Instance A)) → IsSound q t xs → sessions_of counts t.sessions + destroying xs ≤ 8
  load q t xs h =
      let ns = instance_numbers t in
      let sessions = parts_all (λ (s : Session). bit (counts (facts_of s))) (λ i s. bit (counts_in i (facts_of s))) ns t.sessions
      (each_weaker (λ s. is_dead s.state ≡ false → HasSlot t s.instance) (λ s. bit (counts (facts_of s)) ≤ total (λ k. bit ((s.instance == k) && counts (facts_of s))) ns) t.sessions
      (λ s there. ⊎_elim
      (λ (dead : is_dead s.state ≡ true). part_of_none s.instance (counts (facts_of s)) ns (ap not dead))
      (λ (alive : is_dead s.state ≡ false). part_of s.instance (counts (facts_of s)) ns (there alive))
      (cases_Bool (is_dead s.state))) h.sessions) in
      let instances = parts_all (λ (x : Instance A). bit (destroys x.running)) (λ i x. bit (destroys_at i x)) ns xs
      (each_weaker (λ x. list_any (nat_eq x.number) ns ≡ true) (λ x. bit (destroys x.running) ≤ total (λ k. bit ((x.number == k) && destroys x.running)) ns) xs
      (λ x there. part_of x.number (destroys x.running) ns there)
      (own_numbers xs ns (λ k here. ap (list_any (nat_eq k)) (sym h.numbers) ∙ here))) in
      let slots : length ns ≡ length t.slots = length-map t.slots (λ (s : Slot). s.number) in
      ⊎_elim
      (λ (single : t.properties.single ≡ true). omega (arith, sessions, instances, load_one t.sessions xs ns (omega (arith, slots, h.table.one_instance single)) h.calm.quiet))
      (λ (many : t.properties.single ≡ false). omega (arith, sessions, instances, load_each t.sessions xs ns (h.calm.alone many) h.calm.quiet, slots, h.table.few_slots))
      (cases_Bool t.properties.single)

  pub closes_few : (q : Queue) (t : Table) (xs : List (Instance A)) (p : Session → Bool) (s : Session) → IsSound q t xs → find p t.sessions ≡ Some s
      → s.state ≡ Open → count_by (λ o. is_close o.progress) q.operations < 8
  closes_few q t xs p s h found is_open =
      let os = q.operations in
      let parts = total_both (λ (o : Operation). weigh closing (claim_of o)) (λ (o : Operation). weigh stopping (run_of o)) os in
      let by_claims = total_le (λ (o : Operation). bit (is_close o.progress))
      (λ (o : Operation). weigh closing (claim_of o) + weigh stopping (run_of o)) os (λ o. close_holds o.number o.session o.instance o.progress) in
      let entries = total_both (λ (x : Instance A). weigh closing (claim_in x)) (λ (x : Instance A). bit (destroys x.running)) xs in
      let by_entries = total_le (λ (x : Instance A). weigh_in stopping x) (λ (x : Instance A). weigh closing (claim_in x) + bit (destroys x.running)) xs (λ x. entry_holds x.number x.running) in
      omega (
        arith,
        parts,
        by_claims,
        entries,
        by_entries,
        h.held closing,
        h.runs stopping,
        open_counts p t.sessions s found is_open,
        load q t xs h,
        total_count (λ (o : Operation). is_close o.progress) os,
      )
