-- What operations hold, where sessions change.
use Rattle.std.proofs.Common.{ℕ, ◌≡◌, ◌≢◌, ◌+◌, ◌≤◌, ◌==◌, ◌&&◌, ◌||◌, Bool, true, false, not, cond, List, find, filter, map}
use Rattle.std.proofs.Common.{Option, None, Some, IfSome, is_some, refl, ap, subst, ◌∙◌, ⊎_elim, eq-eqb, arith}
use Rattle.std.specs.List.{AllByRecursion}
use Rattle.std.proofs.lemmas.Bool.{cases_Bool, cond-true, cond-false, cond_both, eqb-true, both_ways}
use Rattle.instances.specs.declared.session.Session.{Session}
use Rattle.instances.specs.declared.session.SessionFacts.{SessionFacts}
use Rattle.instances.specs.declared.session.SessionState.{SessionState}
use Rattle.instances.specs.declared.session.SessionState.TheVariants.{Opening, Open, Closing, Dead}
use Rattle.instances.specs.Instances.{Table, IsTable, facts_of, is_dead, with_state, stays_after_end, dead_if_of, state_after_end}
use Rattle.op_queue.specs.declared.operation.Operation.{Operation}
use Rattle.alone.specs.declared.active_entry.Instance.{Instance}
use Rattle.alone.specs.Machine.{is_number, put_instance}
use Rattle.alone.proofs.Totals.{bit, having, having_once, alike, found_counts, found_grows, total_both, total_map, total_filter, total_le, total_le_each}
use Rattle.alone.proofs.Each.{each_weaker, none_passes, bit_split, bit_and, bit_when, bit_unless}
use Rattle.alone.proofs.Lists.{total_put}
use Rattle.alone.proofs.Calm.{counting, counts_in, filter_le, sessions_of}
use Rattle.alone.proofs.Sound.{is_held, facts, claim_of, claim_in, weigh, weigh_le, weigh_split, held_by, held_in, Fits, FitsIn, claim_fits, claim_in_fits, if_some, if_any}

-- the number of a session
abbrev pub session_number : Session → ℕ
session_number s = s.number

-- a table has a session number once
pub sessions_once : (t : Table) → IsTable t → (n : ℕ) → having session_number n t.sessions ≤ 1
sessions_once t h n = having_once (λ s other. s.number ≢ other.number) session_number (λ s other apart. apart) t.sessions h.sessions_apart n

abbrev pub both : (SessionFacts → Bool) → (SessionFacts → Bool) → SessionFacts → Bool
both q p c = q c && p c

abbrev pub of_number : ℕ → SessionFacts → Bool
of_number n c = c.session == n

abbrev pub not_of : ℕ → SessionFacts → Bool
not_of n c = not (c.session == n)

abbrev pub not_in : ℕ → SessionFacts → Bool
not_in i c = not (c.instance == i)

abbrev pub held : SessionFacts → Bool
held c = is_held c.state

-- ---- only sessions that are held count

pub held_by_held : (p : SessionFacts → Bool) (os : List Operation) → held_by p os ≤ held_by (both held p) os
held_by_held p os = total_le (λ o. weigh p (claim_of o)) (λ o. weigh (both held p) (claim_of o)) os
    (λ o. weigh_le p (both held p) (claim_of o) (if_some (Fits o.session o.instance) (λ c. bit (p c) ≤ bit (is_held c.state && p c)) (claim_of o)
    (λ c h. bit_when (is_held c.state) (p c) h.state) (claim_fits o)))

pub held_in_held : {A : Type 0} (p : SessionFacts → Bool) (xs : List (Instance A)) → held_in p xs ≤ held_in (both held p) xs
held_in_held {A} p xs = total_le (λ (x : Instance A). weigh p (claim_in x)) (λ (x : Instance A). weigh (both held p) (claim_in x)) xs
    (λ x. weigh_le p (both held p) (claim_in x) (if_some (FitsIn x.number) (λ c. bit (p c) ≤ bit (is_held c.state && p c)) (claim_in x)
    (λ c h. bit_when (is_held c.state) (p c) h.1) (claim_in_fits x)))

-- ---- those of one session and the others

pub held_by_split : (p : SessionFacts → Bool) (n : ℕ) (os : List Operation) → held_by p os ≤ held_by (both (not_of n) p) os + held_by (of_number n) os
held_by_split p n os =
    let more = total_both (λ (o : Operation). weigh (both (not_of n) p) (claim_of o)) (λ (o : Operation). weigh (of_number n) (claim_of o)) os in
    let le = total_le (λ (o : Operation). weigh p (claim_of o)) (λ (o : Operation). weigh (both (not_of n) p) (claim_of o) + weigh (of_number n) (claim_of o)) os
    (λ o. weigh_split p (both (not_of n) p) (of_number n) (claim_of o)
    (if_any (λ c. bit (p c) ≤ bit (both (not_of n) p c) + bit (of_number n c)) (claim_of o) (λ c. bit_split (c.session == n) (p c)))) in
    omega (arith, more, le)

pub held_in_split : {A : Type 0} (p : SessionFacts → Bool) (n : ℕ) (xs : List (Instance A)) → held_in p xs ≤ held_in (both (not_of n) p) xs + held_in (of_number n) xs
held_in_split {A} p n xs =
    let more = total_both (λ (x : Instance A). weigh (both (not_of n) p) (claim_in x)) (λ (x : Instance A). weigh (of_number n) (claim_in x)) xs in
    let le = total_le (λ (x : Instance A). weigh p (claim_in x)) (λ (x : Instance A). weigh (both (not_of n) p) (claim_in x) + weigh (of_number n) (claim_in x)) xs
    (λ x. weigh_split p (both (not_of n) p) (of_number n) (claim_in x)
    (if_any (λ c. bit (p c) ≤ bit (both (not_of n) p c) + bit (of_number n c)) (claim_in x) (λ c. bit_split (c.session == n) (p c)))) in
    omega (arith, more, le)

-- ---- changes of sessions

-- the sessions of the other numbers stay where the state of one is set
pub set_others : (p : SessionFacts → Bool) (n : ℕ) (state : SessionState) (ss : List Session) → sessions_of (both (not_of n) p) ss ≤ sessions_of p (map (with_state n state) ss)
set_others p n state ss =
    let after = total_map (λ (s : Session). bit (p (facts_of s))) (with_state n state) ss in
    let le = total_le (λ (s : Session). bit (both (not_of n) p (facts_of s))) (λ (s : Session). bit (p (facts_of (with_state n state s)))) ss
    (λ s. bit_unless (s.number == n) (p (facts_of s)) (p (facts_of (with_state n state s)))
    (λ no. let same = ap (λ (o : Session). bit (p (facts_of o))) (cond-false (s.number == n) (record s { state = state }) s no) in omega (arith, same))) in
    omega (arith, after, le)

-- where one goes
pub removed_others : (p : SessionFacts → Bool) (n : ℕ) (ss : List Session) → sessions_of (both (not_of n) p) ss ≤ sessions_of p (filter (λ s. not (s.number == n)) ss)
removed_others p n ss =
    let after = total_filter (λ (s : Session). bit (p (facts_of s))) (λ (s : Session). not (s.number == n)) ss in
    let le = total_le (λ (s : Session). bit (both (not_of n) p (facts_of s)))
    (λ (s : Session). cond (not (s.number == n)) (bit (p (facts_of s))) 0) ss (λ s. when (not (s.number == n)) (p (facts_of s))) in
    omega (arith, after, le)
  where
    when : (a b : Bool) → bit (a && b) ≤ cond a (bit b) 0
    when true b = omega arith
    when false b = omega arith

-- where an instance ends
pub ended_others : (p : SessionFacts → Bool) (i : ℕ) (ss : List Session) → sessions_of (both (not_in i) p) ss ≤ sessions_of p (map (dead_if_of i) (filter (stays_after_end i) ss))
ended_others p i ss =
    let mapped = total_map (λ (s : Session). bit (p (facts_of s))) (dead_if_of i) (filter (stays_after_end i) ss) in
    let after = total_filter (λ (s : Session). bit (p (facts_of (dead_if_of i s)))) (stays_after_end i) ss in
    let le = total_le (λ (s : Session). bit (both (not_in i) p (facts_of s))) (λ (s : Session). cond (stays_after_end i s) (bit (p (facts_of (dead_if_of i s)))) 0) ss
    (λ s. when (s.instance == i) (is_some (state_after_end s.state)) s (record s { state = Dead })) in
    omega (arith, mapped, after, le)
  where
    when : (b stays : Bool) (s dead : Session) → bit (not b && p (facts_of s)) ≤ cond (not b || stays) (bit (p (facts_of (cond b dead s)))) 0
    when true true s dead = omega arith
    when true false s dead = omega arith
    when false stays s dead = omega arith

-- ---- how many count

-- where sessions of a number aren't dead, they may be set to another state that isn't
pub counting_set : (n : ℕ) (state : SessionState) (ss : List Session) → AllByRecursion (λ s. s.number ≡ n → is_dead s.state ≡ false) ss → (i : ℕ)
    → counting i (map (with_state n state) ss) ≤ counting i ss
counting_set n state ss alive i =
    let f : Session → ℕ = λ s. bit (counts_in i (facts_of s)) in
    let after = total_map f (with_state n state) ss in
    let each : AllByRecursion (λ s. f (with_state n state s) ≤ f s) ss =
    each_weaker (λ (s : Session). s.number ≡ n → is_dead s.state ≡ false) (λ s. f (with_state n state s) ≤ f s) ss
    (λ s living. cond_both (s.number == n) (record s { state = state }) s (λ (o : Session). f o ≤ f s)
    (λ yes. let lives : f s ≡ bit ((s.instance == i) && true) = ap (λ b. bit ((s.instance == i) && not b))
    (living (eqb-true s.number n yes)) in omega (arith, lives, fewer (s.instance == i) (not (is_dead state))))
    (λ _. omega arith)) alive in
    omega (arith, after, total_le_each (λ s. f (with_state n state s)) f ss each)
  where
    fewer : (a b : Bool) → bit (a && b) ≤ bit (a && true)
    fewer true true = omega arith
    fewer true false = omega arith
    fewer false b = omega arith

pub counting_removed : (n : ℕ) (ss : List Session) (i : ℕ) → counting i (filter (λ s. not (s.number == n)) ss) ≤ counting i ss
counting_removed n ss i = filter_le (λ (s : Session). bit (counts_in i (facts_of s))) (λ (s : Session). not (s.number == n)) ss

-- an open session that begins to close is held from now on
pub closing_held : (p : SessionFacts → Bool) (q : Session → Bool) (ss : List Session) (s : Session) → having session_number s.number ss ≤ 1 → find q ss ≡ Some s → s.state ≡ Open
    → sessions_of (both held p) ss + bit (p (facts s.number s.instance Closing)) ≤ sessions_of p (map (with_state s.number Closing) ss)
closing_held p q ss s once e was =
    let f : Session → ℕ = λ x. bit (both held p (facts_of x)) in
    let g : Session → ℕ = λ x. bit (p (facts_of (with_state s.number Closing x))) in
    let c : ℕ = bit (p (facts s.number s.instance Closing)) in
    let after = total_map (λ (x : Session). bit (p (facts_of x))) (with_state s.number Closing) ss in
    let none : f s ≡ 0 = ap (λ state. bit (is_held state && p (facts_of s))) was in
    let here : g s ≡ c = ap (λ (o : Session). bit (p (facts_of o))) (cond-true (s.number == s.number) (record s { state = Closing }) s (eq-eqb s.number s.number refl)) in
    let each : AllByRecursion (λ x. f x ≤ g x) ss =
    each_weaker (λ (x : Session). x.number ≡ s.number → x ≡ s) (λ x. f x ≤ g x) ss
    (λ x same. ⊎_elim
    (λ (yes : (x.number == s.number) ≡ true). omega (arith, none, ap f (same (eqb-true x.number s.number yes))))
    (λ (no : (x.number == s.number) ≡ false).
    let stays = ap (λ (o : Session). bit (p (facts_of o))) (cond-false (x.number == s.number) (record x { state = Closing }) x no) in
    omega (arith, stays, bit_and (is_held x.state) (p (facts_of x))))
    (cases_Bool (x.number == s.number)))
    (alike session_number s.number q ss s once e refl) in
    omega (arith, after, found_grows f g c q ss s e each (omega (arith, none, here)))

-- a dead session that goes was held by none
pub dead_gone : (p : SessionFacts → Bool) (q : Session → Bool) (ss : List Session) (s : Session) → having session_number s.number ss ≤ 1 → find q ss ≡ Some s → s.state ≡ Dead
    → sessions_of (both held p) ss ≤ sessions_of p (filter (λ x. not (x.number == s.number)) ss)
dead_gone p q ss s once e dead =
    let f : Session → ℕ = λ x. bit (both held p (facts_of x)) in
    let g : Session → ℕ = λ x. cond (not (x.number == s.number)) (bit (p (facts_of x))) 0 in
    let after = total_filter (λ (x : Session). bit (p (facts_of x))) (λ (x : Session). not (x.number == s.number)) ss in
    let none : f s ≡ 0 = ap (λ state. bit (is_held state && p (facts_of s))) dead in
    let each : AllByRecursion (λ x. f x ≤ g x) ss =
    each_weaker (λ (x : Session). x.number ≡ s.number → x ≡ s) (λ x. f x ≤ g x) ss
    (λ x same. ⊎_elim
    (λ (yes : (x.number == s.number) ≡ true). omega (arith, none, ap f (same (eqb-true x.number s.number yes))))
    (λ (no : (x.number == s.number) ≡ false).
    let stays : g x ≡ bit (p (facts_of x)) = ap (λ b. cond (not b) (bit (p (facts_of x))) 0) no in
    omega (arith, stays, bit_and (is_held x.state) (p (facts_of x))))
    (cases_Bool (x.number == s.number)))
    (alike session_number s.number q ss s once e refl) in
    omega (arith, after, total_le_each f g ss each)

-- ---- an entry that returns holds its session no longer

-- where an instance that held a session holds none, and the other sessions stay, each that is held is there
pub held_answered : {A : Type 0} (os : List Operation) (xs : List (Instance A)) (ss after : List Session) (new old : Instance A) (c : SessionFacts)
    → ((p : SessionFacts → Bool) → held_by p os + held_in p xs ≤ sessions_of p ss) → having session_number c.session ss ≤ 1
    → find (is_number new.number) xs ≡ Some old → claim_in old ≡ Some c → claim_in new ≡ None
    → ((p : SessionFacts → Bool) → sessions_of (both (not_of c.session) p) ss ≤ sessions_of p after)
    → (p : SessionFacts → Bool) → held_by p os + held_in p (put_instance new xs) ≤ sessions_of p after
held_answered {A} os xs ss after new old c h once found claim free others p =
    let n = c.session in
    let put_n = total_put (λ (x : Instance A). weigh (of_number n) (claim_in x)) new old xs found in
    let put_p = total_put (λ (x : Instance A). weigh (both (not_of n) p) (claim_in x)) new old xs found in
    let one : weigh (of_number n) (claim_in old) ≡ 1 = ap (weigh (of_number n)) claim ∙ ap bit (eq-eqb n n refl) in
    let none_n : weigh (of_number n) (claim_in new) ≡ 0 = ap (weigh (of_number n)) free in
    let none_p : weigh (both (not_of n) p) (claim_in new) ≡ 0 = ap (weigh (both (not_of n) p)) free in
    omega (arith, put_n, put_p, one, none_n, none_p, h (of_number n), h (both (not_of n) p), once, held_by_split p n os, held_in_split p n (put_instance new xs), others p)

-- a session that an entry holds isn't dead
pub held_alive : {A : Type 0} (os : List Operation) (xs : List (Instance A)) (ss : List Session) (q : Instance A → Bool) (inst : Instance A) (c : SessionFacts)
    → ((p : SessionFacts → Bool) → held_by p os + held_in p xs ≤ sessions_of p ss) → having session_number c.session ss ≤ 1 → find q xs ≡ Some inst → claim_in inst ≡ Some c
    → AllByRecursion (λ s. s.number ≡ c.session → is_dead s.state ≡ false) ss
held_alive {A} os xs ss q inst c h once found claim =
    let n = c.session in
    let p : SessionFacts → Bool = both held (of_number n) in
    let state : is_held c.state ≡ true = (subst (λ (o : Option SessionFacts). IfSome o (FitsIn inst.number)) claim (claim_in_fits inst)).1 in
    let one : weigh p (claim_in inst) ≡ 1 = ap (weigh p) claim ∙ ap (λ b. bit (b && (n == n))) state ∙ ap bit (eq-eqb n n refl) in
    let counts = found_counts (λ (x : Instance A). weigh p (claim_in x)) q xs inst found in
    let parts = total_both (λ (s : Session). bit (not (is_held s.state) && (s.number == n))) (λ (s : Session). bit (is_held s.state && (s.number == n))) ss in
    let all = total_le (λ (s : Session). bit (not (is_held s.state) && (s.number == n)) + bit (is_held s.state && (s.number == n)))
    (λ (s : Session). bit (s.number == n)) ss (λ s. either (is_held s.state) (s.number == n)) in
    let none = none_passes (λ (s : Session). not (is_held s.state) && (s.number == n)) ss (omega (arith, one, counts, parts, all, once, h p)) in
    each_weaker (λ (s : Session). (not (is_held s.state) && (s.number == n)) ≡ false) (λ s. s.number ≡ n → is_dead s.state ≡ false) ss
    (λ s no same. alive s.state (s.number == n) (eq-eqb s.number n same) no) none
  where
    either : (a b : Bool) → bit (not a && b) + bit (a && b) ≤ bit b
    either true b = omega arith
    either false b = omega arith

    alive : (state : SessionState) (b : Bool) → b ≡ true → (not (is_held state) && b) ≡ false → is_dead state ≡ false
    alive Opening b same h = refl
    alive Open b same h = refl
    alive Closing b same h = refl
    alive Dead b same h = absurd (both_ways _ h same)
