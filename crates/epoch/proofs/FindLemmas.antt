-- The advance that ends a search for the header that counts, and what a crash within the search leaves.
use Rattle.std.proofs.Common.{◌≡◌, ◌≢◌, ◌≤◌, ◌+◌, ◌∙◌, ◌==◌, not, if◌then◌else◌, ℕ, Bool, true, false, subst, List, Option, Some, None, Result, Ok, Err, IfErr, IfOk, nat_lt, refl, sym, ap, arith}
use Rattle.std.proofs.lemmas.Bool.Decides.{nat_tests}
use Rattle.tee_base.specs.Crash.{LeavesOnly}
use Rattle.tee_base.proofs.Crash.{weaker}
use Rattle.board.specs.declared.BoardFailed.{BoardFailed}
use Rattle.board.specs.Moment.{Moment, View, IsCounter, moment, left_since}
use Rattle.board.specs.Steps.{Answered, Advanced, Settles}
use Rattle.board.specs.Runs.{IsBase, LeavesBase, RunsOver, Rests}
use Rattle.board.proofs.Runs.{base-wider, rests_base, run_starts, run_goes_on}
use Rattle.epoch.specs.Finding.{Finds, IsSettledAt, OpensBelow, RefusesOlder, sequence_of}
use Rattle.epoch.specs.Formats.{IsAccepted, accepts}
use Rattle.epoch.specs.declared.format.Format.{Format}
use Rattle.epoch.specs.Opening.{IsRuled, answer_at, header_answer, is_no_failure, opening_by, opening_of, opens_as}
use Rattle.epoch.specs.Slots.{slot_of}
use Rattle.epoch.specs.Steps.{outcome_opening}
use Rattle.epoch.specs.declared.answer.OpenAnswer.{OpenAnswer}
use Rattle.epoch.specs.declared.answer.OpenAnswer.TheVariants.{Ahead, BadHeader, Failed, NoMemory, NoVolume, OldGarbled, OldMismatch, Rollback, TooSmall, UnknownVersion}
use Rattle.epoch.specs.declared.header.Header.{Header}
use Rattle.epoch.specs.declared.rule.Found.{Found}
use Rattle.epoch.specs.declared.slots.Slot.{Slot}
use Rattle.epoch.specs.declared.slots.Slot.TheVariants.{Bad, Good, Shut}
use Rattle.epoch.proofs.StageLemmas.{blank_first}
use Rattle.epoch.proofs.RuleLemmas.{asked, if_other, opens_at_two, refuses_rollback}

module _ (open_at : ℕ → Bool) (base : ℕ → List ℕ) (low high n : ℕ) where
  raised : (old new : Moment) (result : Result ℕ BoardFailed) → IsBase open_at base low high old → IsSettledAt n old → n + 1 ≤ high → Advanced result old new → IsBase open_at base low high new
  raised old new (Ok m) is settled room advanced =
      let up = advanced.counter in
      record {
        reads = λ k shut. ap (λ (f : ℕ → List ℕ). f k) advanced.blocks.reads ∙ is.reads k shut;
        durable = λ k shut. ap (λ (f : ℕ → List ℕ). f k) advanced.blocks.durable ∙ is.durable k shut;
        pending = λ k shut. ap (λ (f : ℕ → Bool). f k) advanced.blocks.pending ∙ is.pending k shut;
        least = omega (arith, is.least, up.positive, up.among.least, up.counter);
        greatest = omega (arith, room, up.positive, up.among.greatest, up.counter, up.slack, settled.counter, settled.slack);
      }
  raised old new (Err e) is settled room advanced =
      let failed = advanced.counter in
      record {
        reads = λ k shut. ap (λ (f : ℕ → List ℕ). f k) advanced.blocks.reads ∙ is.reads k shut;
        durable = λ k shut. ap (λ (f : ℕ → List ℕ). f k) advanced.blocks.durable ∙ is.durable k shut;
        pending = λ k shut. ap (λ (f : ℕ → Bool). f k) advanced.blocks.pending ∙ is.pending k shut;
        least = omega (arith, is.least, failed.0);
        greatest = omega (arith, room, failed.0, failed.1, settled.counter, settled.slack);
      }

  pub over_raise : (first old new : View) (result : Result ℕ BoardFailed) → RunsOver open_at base low high first old → Answered old new
      → IsSettledAt n old.state → n + 1 ≤ high → Advanced result old.state new.state → RunsOver open_at base low high first new
  over_raise first old new result run answered settled room advanced =
      run_goes_on open_at base low high first old new run answered.time (raised old.state new.state result run.now settled room advanced)

pub settled_raise : (n m : ℕ) (old new : Moment) → IsSettledAt n old → Advanced (Ok m) old new → IsSettledAt (n + 1) new
settled_raise n m old new settled advanced =
    let up = advanced.counter in
    record {
      counter = omega (arith, up.positive, up.among.least, up.among.greatest, up.counter, settled.counter, settled.slack);
      slack = up.slack;
    }

-- how far the counter may rise where a board opens so
abbrev pub top : Result (Option Found) OpenAnswer → ℕ → ℕ
top (Ok (Some found)) n = found.header.sequence
top (Ok None) n = n
top (Err _) n = n

module _ (knows : ℕ → Bool) (key : List ℕ) (image : ℕ → List ℕ) (n : ℕ) where
  opens_between : (r : Result (Option Found) OpenAnswer) → opening_of knows key image n ≡ r → (m : ℕ) → n ≤ m → m ≤ top r n → opening_of knows key image m ≡ opening_of knows key image n
  opens_between (Ok (Some found)) e m low high =
      let two = opens_at_two knows key image n found e in
      two.2 m high (omega (arith, two.1, low)) ∙ sym e
  opens_between (Ok None) e m low high = ap (opening_of knows key image) (let same : m ≡ n = omega arith in same)
  opens_between (Err answer) e m low high = ap (opening_of knows key image) (let same : m ≡ n = omega arith in same)

  pub opens_below : OpensBelow knows key image n (top (opening_of knows key image n) n)
  opens_below m found low high e =
      let same : opening_of knows key image n ≡ Ok (Some found) = sym (opens_between (opening_of knows key image n) refl m low high) ∙ e in
      let at_top : top (opening_of knows key image n) n ≡ found.header.sequence = ap (λ (r : Result (Option Found) OpenAnswer). top r n) same in
      omega (arith, at_top)

pub find_crash : (knows : ℕ → Bool) (n : ℕ) (old new : View)
    → RunsOver (λ k. false) old.state.reads n (top (opening_of knows old.key old.state.reads n) n) old new
    → LeavesOnly moment left_since old new (λ c. outcome_opening knows old.key c ≡ opening_of knows old.key old.state.reads n)
find_crash knows n old new run =
    weaker moment left_since old new (LeavesBase (λ k. false) old.state.reads n (top (opening_of knows old.key old.state.reads n) n))
    (λ c. outcome_opening knows old.key c ≡ opening_of knows old.key old.state.reads n)
    (λ c leaves.
    let same : c.image ≡ old.state.reads = λ i k. leaves.image k refl i in
    ap (λ (f : ℕ → List ℕ). opening_of knows old.key f c.counter) same
    ∙ opens_between knows old.key old.state.reads n (opening_of knows old.key old.state.reads n) refl c.counter leaves.least leaves.greatest)
    run.leaves

-- before the first call
at_most_top : (knows : ℕ → Bool) (key : List ℕ) (image : ℕ → List ℕ) (n : ℕ) (r : Result (Option Found) OpenAnswer) → opening_of knows key image n ≡ r → n ≤ top r n
at_most_top knows key image n (Ok (Some found)) e = (opens_at_two knows key image n found e).0
at_most_top knows key image n (Ok None) e = omega arith
at_most_top knows key image n (Err answer) e = omega arith

pub find_starts : (knows : ℕ → Bool) (n : ℕ) (v : View) → Rests n v.state → RunsOver (λ k. false) v.state.reads n (top (opening_of knows v.key v.state.reads n) n) v v
find_starts knows n v rests =
    run_starts (λ k. false) v.state.reads n (top (opening_of knows v.key v.state.reads n) n) v
    (base-wider (λ k. false) (λ k. false) v.state.reads n n (top (opening_of knows v.key v.state.reads n) n) v.state (λ k shut. shut)
    (at_most_top knows v.key v.state.reads n (opening_of knows v.key v.state.reads n) refl) (rests_base n v.state rests (λ k. false)))

-- what was judged is what the image opens to
pub judged_opening : (knows : ℕ → Bool) (key : List ℕ) (image : ℕ → List ℕ) (first second : Slot) (n : ℕ) (r : Result (Option Found) OpenAnswer)
    → first ≡ slot_of key image 0 → second ≡ slot_of key image 1 → r ≡ opening_by knows first second n → r ≡ opening_of knows key image n
unfolding opening_of
judged_opening knows key image first second n r one two is = is ∙ rw (one, two) refl

-- an answer by which the rule refuses: neither a failed call nor want of memory
abbrev is_ruled : OpenAnswer → Bool
is_ruled Failed = false
is_ruled NoMemory = false
is_ruled _ = true

ruled_made : (why : OpenAnswer) → is_ruled why ≡ true → is_no_failure why ≡ true
ruled_made Failed is = is
ruled_made NoMemory is = refl
ruled_made (TooSmall blocks) is = refl
ruled_made (NoVolume counter) is = refl
ruled_made (BadHeader slot found kept) is = refl
ruled_made (UnknownVersion version) is = refl
ruled_made (Rollback sequence counter) is = refl
ruled_made (Ahead sequence counter) is = refl
ruled_made (OldMismatch tags) is = refl
ruled_made (OldGarbled region leaf) is = refl

-- the rule never answers otherwise
abbrev IsAnswered : Result (Option Found) OpenAnswer → Type 0
IsAnswered r = IfErr r (λ why. is_ruled why ≡ true)

-- so a header is judged, by the three tests
tests_answered : (old low high : Bool) (version slot : ℕ) (header : Header) (n : ℕ)
    → IsAnswered (if old then Err (UnknownVersion version) else if low then Err (Rollback header.sequence n) else if high then Err (Ahead header.sequence n) else
    Ok (Some (record { header = header; slot = slot })))
tests_answered true low high version slot header n = refl
tests_answered false true high version slot header n = refl
tests_answered false false true version slot header n = refl
tests_answered false false false version slot header n = tt

at_answered : (knows : ℕ → Bool) (slot : ℕ) (header : Header) (n : ℕ) → IsAnswered (answer_at knows slot header n)
at_answered knows slot header n =
    tests_answered (not (knows header.version)) (nat_lt header.sequence n) (nat_lt (n + 1) header.sequence) header.version slot header n

shut_answered : (b : Bool) (n : ℕ) → IsAnswered (if b then Ok None else Err (NoVolume n))
shut_answered true n = tt
shut_answered false n = refl

newer_answered : (b : Bool) (one two : Result (Option Found) OpenAnswer) → IsAnswered one → IsAnswered two → IsAnswered (if b then one else two)
newer_answered true one two is also = is
newer_answered false one two is also = also

by_answered : (knows : ℕ → Bool) (first second : Slot) (n : ℕ) → IsAnswered (opening_by knows first second n)
by_answered knows (Bad tags) second n = refl
by_answered knows Shut (Bad tags) n = refl
by_answered knows Shut Shut n = shut_answered (n == 0) n
by_answered knows Shut (Good header) n = at_answered knows 1 header n
by_answered knows (Good header) (Bad tags) n = refl
by_answered knows (Good header) Shut n = at_answered knows 0 header n
by_answered knows (Good header) (Good other) n =
    newer_answered (nat_lt header.sequence other.sequence) (answer_at knows 1 other n) (answer_at knows 0 header n) (at_answered knows 1 other n) (at_answered knows 0 header n)

pub judged_so : (knows : ℕ → Bool) (first second : Slot) (n : ℕ) (answer : OpenAnswer) → opening_by knows first second n ≡ Err answer → is_no_failure answer ≡ true
judged_so knows first second n answer e = ruled_made answer (subst IsAnswered e (by_answered knows first second n))

pub judged_memory : (knows : ℕ → Bool) (first second : Slot) (n : ℕ) → opening_by knows first second n ≡ Err NoMemory → ⊥
judged_memory knows first second n e = let same : false ≡ true = subst IsAnswered e (by_answered knows first second n) in cc

-- what is Ok is no error
pub ok_never : {A E : Type 0} (x : A) (e : E) → (let ok : Result A E = Ok x in ok ≡ Err e) → ⊥
ok_never x e is = cc

-- an answer that is what was judged, on a board that is large enough
pub ruled_answer : (knows : ℕ → Bool) (blocks size : ℕ) (key : List ℕ) (image : ℕ → List ℕ) (n : ℕ) (r : Result (Option Found) OpenAnswer) (result : Result (Option Header) OpenAnswer)
    → blocks ≤ size → r ≡ opening_of knows key image n → (result ≢ Err Failed → result ≡ header_answer r)
    → IsRuled result (opens_as knows blocks size key image n)
ruled_answer knows blocks size key image n r result large is answers made =
    let enough : nat_lt size blocks ≡ false = grind arith in
    rw enough (answers made ∙ ap header_answer is)

-- a counter that was told is one that the board may have then
pub told_counter : (n : ℕ) (old new : Moment) → Settles n old new → IsCounter new n
told_counter n old new told = record {
  least = omega (arith, told.counter);
  greatest = omega (arith, told.counter);
  fits = told.among.fits;
}

-- a header that counts lies between the counter and the highest that may count
pub record IsBetween (low high n sequence : ℕ) : Type 0 where
  pub counter : n ≤ high
  pub highest : sequence ≤ high
  pub least : n ≤ sequence
  pub most : sequence ≤ n + 1

pub between : (knows : ℕ → Bool) (key : List ℕ) (open_at : ℕ → Bool) (base : ℕ → List ℕ) (low high n : ℕ) (m : Moment) (found : Found)
    → IsBase open_at base low high m → IsCounter m n → OpensBelow knows key m.reads low high → opening_of knows key m.reads n ≡ Ok (Some found)
    → IsBetween low high n found.header.sequence
between knows key open_at base low high n m found is among opens e =
    let two = opens_at_two knows key m.reads n found e in
    let counter : n ≤ high = omega (arith, among.greatest, is.greatest) in
    let above : low ≤ n = omega (arith, among.least, is.least) in
    record { counter = counter; highest = opens n found above counter e; least = two.0; most = two.1 }

-- what is found refuses an older image
pub refuses_older : (knows : ℕ → Bool) (blocks size : ℕ) (key : List ℕ) (m new : Moment) (result : Result (Option Header) OpenAnswer)
    → Finds knows blocks size key m new result → RefusesOlder knows blocks size key m result
refuses_older knows blocks size key m new result finds n c found opens settled above made =
    let one = if_other (nat_lt size blocks) (Err (TooSmall size)) (opening_of knows key m.reads n) (Ok (Some found)) opens (λ w. cc) in
    let same : finds.counter ≡ c = omega (arith, finds.among.least, finds.among.greatest, settled.counter, settled.slack) in
    let rule : opens_as knows blocks size key m.reads finds.counter ≡ Err (Rollback found.header.sequence c)
    = rw (one.0, same) (refuses_rollback knows key m.reads n c found one.1 above) in
    finds.ruled made ∙ ap header_answer rule

-- where nothing is found and nothing refused, the counter is 0
zero_told : (b : Bool) (n : ℕ) → n == 0 ≡ b → (let none : Result (Option Found) OpenAnswer = Ok None in if b then none else Err (NoVolume n)) ≡ Ok None → n ≡ 0
zero_told true n is e = grind (arith, nat_tests, is)
zero_told false n is e = cc

pub blank_counter : (knows : ℕ → Bool) (first second : Slot) (n : ℕ) → (let none : Result (Option Found) OpenAnswer = Ok None in opening_by knows first second n ≡ none) → n ≡ 0
blank_counter knows first second n e =
    let none : Result (Option Found) OpenAnswer = Ok None in
    let shut = blank_first knows first second n e in
    let one : opening_by knows Shut second n ≡ none = subst (λ (s : Slot). opening_by knows s second n ≡ none) shut.0 e in
    let both : opening_by knows Shut Shut n ≡ none = subst (λ (s : Slot). opening_by knows Shut s n ≡ none) shut.1 one in
    zero_told (n == 0) n refl both

-- the counter is settled at the header that is told
pub settled_answer : (r : Result (Option Header) OpenAnswer) (header : Header) (m : Moment) → (r ≢ Err Failed → r ≡ Ok (Some header))
    → IfOk r (λ h. IsSettledAt header.sequence m) → IfOk r (λ h. IsSettledAt (sequence_of h) m)
settled_answer (Ok h) header m made settled =
    let told : Ok h ≡ Ok (Some header) = made (λ w. cc) in
    let same : h ≡ Some header = cc in
    rw same settled
settled_answer (Err answer) header m made settled = tt

-- a header that counts is of an accepted version
accepts_known : (b : Bool) → not b ≡ false → b ≡ true
accepts_known true e = refl
accepts_known false e = absurd (cc)

pub accepted_answer : (format : Format) (first second : Slot) (n : ℕ) (found : Found) (r : Result (Option Header) OpenAnswer)
    → opening_by (accepts format) first second n ≡ Ok (Some found) → (r ≢ Err Failed → r ≡ Ok (Some found.header)) → IfOk r (λ h. IsAccepted format h)
accepted_answer format first second n found (Ok h) opens made =
    let told : Ok h ≡ Ok (Some found.header) = made (λ w. cc) in
    let same : h ≡ Some found.header = cc in
    subst (IsAccepted format) (sym same) (accepts_known (accepts format found.header.version) (asked (accepts format) first second n found opens).counts.known)
accepted_answer format first second n found (Err answer) opens made = tt
