-- An instance without a session has no operation, but the one that its destroy entry serves.
use Rattle.std.proofs.Common.{ℕ, ◌≡◌, ◌+◌, ◌≤◌, ◌==◌, ◌&&◌, ◌⊎◌, nat_lt, Bool, true, false, not, cond, List, [], ◌∷◌, filter, Option}
use Rattle.std.proofs.Common.{refl, ap, ◌∙◌, ⊎_elim, inl, inr, eq-eqb, arith}
use Rattle.std.specs.List.{AllByRecursion}
use Rattle.std.proofs.lemmas.Bool.{and_parts, cases_Bool, eqb-true, both_ways}
use Rattle.app_api.specs.declared.call.Call.TheVariants as calls
use Rattle.instances.specs.declared.session.Session.{Session}
use Rattle.instances.specs.declared.session.SessionState.{SessionState}
use Rattle.instances.specs.declared.session.SessionState.TheVariants.{Opening, Open, Closing, Dead}
use Rattle.instances.specs.Instances.{facts_of, is_dead}
use Rattle.op_queue.specs.declared.operation.Operation.{Operation}
use Rattle.op_queue.specs.declared.operation.Progress.{Progress}
use Rattle.op_queue.specs.declared.operation.Progress.TheVariants.{Waiting, Running as Runs}
use Rattle.op_queue.specs.Queue.{is_close_call, is_running, waits_for}
use Rattle.alone.specs.declared.active_entry.Instance.{Instance}
use Rattle.alone.specs.Step.{belongs_to}
use Rattle.alone.proofs.Totals.{bit, total, total_both, total_filter, total_le, total_le_each, total_zero}
use Rattle.alone.proofs.Each.{each_weaker}
use Rattle.alone.proofs.Calm.{counting, counts_in}
use Rattle.alone.proofs.Changed.{operation_number}
use Rattle.alone.proofs.Measure.{waiting}
use Rattle.alone.proofs.Sound.{Run, claim_of, claim_of_progress, entry_le, entry_none, held_by, run_of, run_of_progress, runs_by, runs_in, weigh, weigh_in}
use Rattle.reply_laws.proofs.Weights.{closers, invokes, is_closer, is_invoke, is_invoke_at, is_open, never, numbered, open_at, opens, serves_op, total_parts, waits_as}

-- ---- what waits

-- a close that waits claims a session of its instance
closer_claims : (s i k number instance session : ℕ) (progress : Progress) → bit (nat_lt k number && (instance == i) && (session == s) && waits_as is_close_call progress)
    ≤ weigh (counts_in i) (claim_of_progress session instance progress)
closer_claims s i k number instance session (Waiting (calls.Open label login ps)) = omega (arith, never (nat_lt k number && (instance == i) && (session == s)))
closer_claims s i k number instance session (Waiting (calls.Invoke label command ps)) = omega (arith, never (nat_lt k number && (instance == i) && (session == s)))
closer_claims s i k number instance session (Waiting (calls.Close label)) = claims (nat_lt k number) (instance == i) (session == s)
  where
    claims : (a b c : Bool) → bit (a && b && c && true) ≤ bit (b && true)
    claims true true true = omega arith
    claims true true false = omega arith
    claims true false c = omega arith
    claims false b c = omega arith
closer_claims s i k number instance session (Waiting (calls.Share block flags size)) = omega (arith, never (nat_lt k number && (instance == i) && (session == s)))
closer_claims s i k number instance session (Waiting (calls.Fill block at bytes)) = omega (arith, never (nat_lt k number && (instance == i) && (session == s)))
closer_claims s i k number instance session (Waiting (calls.Show block)) = omega (arith, never (nat_lt k number && (instance == i) && (session == s)))
closer_claims s i k number instance session (Waiting (calls.Unshare block)) = omega (arith, never (nat_lt k number && (instance == i) && (session == s)))
closer_claims s i k number instance session (Runs close cancelled masked) = omega (arith, never (nat_lt k number && (instance == i) && (session == s)))

pub closers_claim : (s i k : ℕ) (os : List Operation) → closers s i k os ≤ held_by (counts_in i) os
closers_claim s i k os = total_le (λ o. bit (is_closer s i k o)) (λ o. weigh (counts_in i) (claim_of o)) os (λ o. closer_claims s i k o.number o.instance o.session o.progress)

-- an open session counts
pub opens_count : (s i : ℕ) (ss : List Session) → opens s i ss ≤ counting i ss
opens_count s i ss =
    total_le (λ (x : Session). bit (open_at s i (facts_of x))) (λ x. bit (counts_in i (facts_of x))) ss (λ x. counts (x.number == s) (x.instance == i) x.state)
  where
    inner : (b : Bool) (state : SessionState) → bit (b && is_open state) ≤ bit (b && not (is_dead state))
    inner true Opening = omega arith
    inner true Open = omega arith
    inner true Closing = omega arith
    inner true Dead = omega arith
    inner false state = omega arith

    counts : (a b : Bool) (state : SessionState) → bit (a && b && is_open state) ≤ bit (b && not (is_dead state))
    counts true b state = inner b state
    counts false b state = omega arith

all_true : (a b c d : Bool) → a ≡ true → b ≡ true → c ≡ true → d ≡ true → bit (a && b && c && d) ≡ 1
all_true a b c d first second third fourth =
    ap (λ x. bit (x && b && c && d)) first ∙ ap (λ x. bit (true && x && c && d)) second ∙ ap (λ x. bit (true && true && x && d)) third ∙ ap (λ x. bit (true && true && true && x)) fourth

-- an invoke that waits for the instance is one of it
invoke_waits : (i : ℕ) (o : Operation) → waits_as is_invoke o.progress ≡ true → waits_for i o ≡ true → 1 ≤ bit (is_invoke_at o.session i o.number o)
invoke_waits i o is waits_so =
    let own = (and_parts (o.instance == i) (not (is_running o.progress)) waits_so).0 in
    omega (
      arith,
      all_true (o.number == o.number) (o.instance == i) (o.session == o.session) (waits_as is_invoke o.progress) (eq-eqb o.number o.number refl) own (eq-eqb o.session o.session refl) is,
    )

-- what waits for the instance claims a session of it, or is an invoke
waits_claims : (i : ℕ) (o : Operation) (progress : Progress) → o.progress ≡ progress → waits_for i o ≡ true
    → (1 ≤ weigh (counts_in i) (claim_of o)) ⊎ (1 ≤ bit (is_invoke_at o.session i o.number o))
waits_claims i o (Waiting (calls.Open label login ps)) e waits_so =
    let own = (and_parts (o.instance == i) (not (is_running o.progress)) waits_so).0 in
    inl (omega (arith, ap (λ p. weigh (counts_in i) (claim_of_progress o.session o.instance p)) e, ap (λ b. bit (b && true)) own))
waits_claims i o (Waiting (calls.Close label)) e waits_so =
    let own = (and_parts (o.instance == i) (not (is_running o.progress)) waits_so).0 in
    inl (omega (arith, ap (λ p. weigh (counts_in i) (claim_of_progress o.session o.instance p)) e, ap (λ b. bit (b && true)) own))
waits_claims i o (Waiting (calls.Invoke label command ps)) e waits_so = inr (invoke_waits i o (ap (waits_as is_invoke) e) waits_so)
waits_claims i o (Waiting (calls.Share block flags size)) e waits_so = inr (invoke_waits i o (ap (waits_as is_invoke) e) waits_so)
waits_claims i o (Waiting (calls.Fill block at bytes)) e waits_so = inr (invoke_waits i o (ap (waits_as is_invoke) e) waits_so)
waits_claims i o (Waiting (calls.Show block)) e waits_so = inr (invoke_waits i o (ap (waits_as is_invoke) e) waits_so)
waits_claims i o (Waiting (calls.Unshare block)) e waits_so = inr (invoke_waits i o (ap (waits_as is_invoke) e) waits_so)
waits_claims i o (Runs close cancelled masked) e waits_so =
    absurd (both_ways (not (is_running o.progress)) (ap (λ p. not (is_running p)) e) (and_parts (o.instance == i) (not (is_running o.progress)) waits_so).1)

-- where no session of the instance counts, and no operation claims one, nothing waits for it
pub none_waiting : (i : ℕ) (os : List Operation) (ss : List Session) → held_by (counts_in i) os ≤ 0 → counting i ss ≤ 0
    → ((s k : ℕ) → 1 ≤ invokes s i k os → 1 ≤ opens s i ss + closers s i k os) → (part : List Operation) → ((f : Operation → ℕ) → total f part ≤ total f os) → waiting i part ≤ 0
none_waiting i os ss held counts invoked [] le = omega arith
none_waiting i os ss held counts invoked (o ∷ part) le = ⊎_elim
    (λ (yes : waits_for i o ≡ true). absurd (⊎_elim
    (λ (claims : 1 ≤ weigh (counts_in i) (claim_of o)). let most = le (λ x. weigh (counts_in i) (claim_of x)) in let no : ⊥ = omega (arith, claims, most, held) in no)
    (λ (invoke : 1 ≤ bit (is_invoke_at o.session i o.number o)).
    let most = le (λ x. bit (is_invoke_at o.session i o.number x)) in
    let some = invoked o.session o.number (omega (arith, invoke, most)) in
    let no : ⊥ = omega (arith, some, opens_count o.session i ss, counts, closers_claim o.session i o.number os, held) in
    no)
    (waits_claims i o o.progress refl yes)))
    (λ (no : waits_for i o ≡ false). let rest = none_waiting i os ss held counts invoked part (λ f. let most = le f in omega (arith, most)) in omega (arith, rest, ap bit no))
    (cases_Bool (waits_for i o))

-- ---- what runs

-- runs of this instance for another operation than this one
abbrev pub others_in : ℕ → Option ℕ → Run → Bool
others_in i op c = (c.instance == i) && not (serves_op c.op op)

-- where the instance that is found has none, there is none
pub none_run : {A : Type 0} (i : ℕ) (op : Option ℕ) (xs : List (Instance A)) (inst : Instance A) → AllByRecursion (λ x. x.number ≡ i → x ≡ inst) xs
    → weigh_in (others_in i op) inst ≡ 0 → runs_in (others_in i op) xs ≤ 0
none_run {A} i op xs inst only none =
    let p = others_in i op in
    omega (
      arith,
      total_le_each (λ (x : Instance A). weigh_in p x) (λ x. 0) xs
          (each_weaker (λ (x : Instance A). x.number ≡ i → x ≡ inst) (λ x. weigh_in p x ≤ 0) xs (λ x same. ⊎_elim
          (λ (yes : (x.number == i) ≡ true). omega (arith, ap (λ (y : Instance A). weigh_in p y) (same (eqb-true x.number i yes)), none))
          (λ (no : (x.number == i) ≡ false). omega (
            arith,
            entry_le p (λ c. false) x.number x.running (λ c place. omega (arith, ap (λ n. bit ((n == i) && not (serves_op c.op op))) place, ap (λ b. bit (b && not (serves_op c.op op))) no)),
            entry_none x.number x.running,
          ))
          (cases_Bool (x.number == i))) only),
      total_zero xs,
    )

-- an operation of the instance waits, or runs, unless it is the one that is served
belongs_runs : (i n : ℕ) (op : Option ℕ) → serves_op n op ≡ false → (number instance session : ℕ) (progress : Progress)
    → cond (instance == i) (bit (number == n)) 0 ≤ bit ((instance == i) && not (is_running progress)) + weigh (others_in i op) (run_of_progress number instance progress)
belongs_runs i n op other number instance session (Waiting call) = first (instance == i) (number == n)
  where
    first : (a b : Bool) → cond a (bit b) 0 ≤ bit (a && true) + 0
    first true true = omega arith
    first true false = omega arith
    first false b = omega arith
belongs_runs i n op other number instance session (Runs close cancelled masked) = ⊎_elim
    (λ (yes : (number == n) ≡ true).
    omega (
      arith,
      ap (λ b. bit ((instance == i) && not b)) (ap (λ k. serves_op k op) (eqb-true number n yes) ∙ other),
      second (instance == i) (number == n),
    ))
    (λ (no : (number == n) ≡ false). omega (arith, ap (λ b. cond (instance == i) (bit b) 0) no, third (instance == i)))
    (cases_Bool (number == n))
  where
    second : (a b : Bool) → cond a (bit b) 0 ≤ bit (a && true)
    second true true = omega arith
    second true false = omega arith
    second false b = omega arith

    third : (a : Bool) → cond a 0 0 ≤ 0
    third true = omega arith
    third false = omega arith

-- where nothing waits for the instance, and it runs nothing else, an operation stays that isn't the one that is served
pub others_stay : (i n : ℕ) (op : Option ℕ) (os : List Operation) → serves_op n op ≡ false → waiting i os ≤ 0 → runs_by (others_in i op) os ≤ 0
    → numbered n os ≤ numbered n (filter (λ o. not (belongs_to i o)) os)
others_stay i n op os other waits runs =
    let f : Operation → ℕ = λ o. bit (operation_number o == n) in
    omega (
      arith,
      total_parts f (belongs_to i) os,
      total_filter f (belongs_to i) os,
      total_le (λ o. cond (belongs_to i o) (f o) 0) (λ o. bit (waits_for i o) + weigh (others_in i op) (run_of o)) os
          (λ o. belongs_runs i n op other o.number o.instance o.session o.progress),
      total_both (λ (o : Operation). bit (waits_for i o)) (λ (o : Operation). weigh (others_in i op) (run_of o)) os,
      waits,
      runs,
    )
