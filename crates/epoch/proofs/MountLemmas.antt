-- What a board holds that is opened, over the form of the leaves.
use Rattle.std.proofs.Common.{◌≡◌, ◌≢◌, ◌≤◌, ◌<◌, ◌+◌, ◌^◌, ◌%◌, ◌==◌, ◌&&◌, ◌∙◌, ◌⊎◌, if◌then◌else◌, ℕ, Bool, true, false, List, [], ◌∷◌, length, Option}
use Rattle.std.proofs.Common.{Some, None, Result, Ok, Err, IfOk, IfErr, nat_lt, refl, sym, ap, subst, inl, inr, ⊎_elim, arith}
use Rattle.std.proofs.lemmas.Bool.{cases_lt}
use Rattle.std.proofs.lemmas.Bool.Decides.{nat_tests}
use Rattle.tee_base.specs.Crash.{LeavesOnly, read_as}
use Rattle.tee_base.proofs.Crash.{joined, mapped, weaker}
use Rattle.store_api.specs.Volumes.{Held}
use Rattle.board.specs.Moment.{IsConsistent, IsCounter, IsLeft, Moment, CrashImage, Order, View, WasLeft, left_since, moment}
use Rattle.board.specs.Runs.{IsBase, LeavesBase, Rests, RunsOver}
use Rattle.board.specs.Steps.{Answered, Passes, Powered, SameBlocks, Synced, Unchanged}
use Rattle.board.proofs.Runs.{goes_on, run_starts, starts}
use Rattle.epoch.specs.Commits.{IsMounted, OpensTo}
use Rattle.epoch.specs.Finding.{Finds, IsSettledAt, OpensBelow, sequence_of}
use Rattle.epoch.specs.Formats.{IsFormatOf, accepts}
use Rattle.epoch.specs.Forms.{Form, IsFramed, Root, blank_leaves, held_in, held_by, held_of, is_sealed, leaves_of, root_of}
use Rattle.epoch.specs.Mounting.{AreSound, IsHolding, Mounts, MountsAfterPower, MountsAgain, MountsTo, after_again, after_found, after_opening, after_version, opened_by}
use Rattle.epoch.specs.Mounts.{IsLeftSound, IsOpenedTo, LeavesOpening, LeftByOpening, MakesBy, MakesOf, MightBe, RemakesOf}
use Rattle.epoch.specs.Opening.{answer_at, header_answer, opening_by, opening_of, opens_as}
use Rattle.epoch.specs.Past.{KeepsPast}
use Rattle.epoch.specs.Slots.{slot_of}
use Rattle.epoch.specs.declared.answer.OpenAnswer.{OpenAnswer}
use Rattle.epoch.specs.declared.answer.OpenAnswer.TheVariants.{Ahead, BadHeader, Failed, NoMemory, NoVolume, OldGarbled, OldMismatch, Rollback, TooSmall, UnknownVersion}
use Rattle.epoch.specs.declared.format.Format.{Format}
use Rattle.epoch.specs.declared.header.Header.{Header}
use Rattle.epoch.specs.declared.rule.Found.{Found}
use Rattle.epoch.specs.declared.slots.Slot.TheVariants.{Shut}
use Rattle.epoch.proofs.CommitLemmas.{first_true, held_before, second_true, zero_leaves, zero_sealed}
use Rattle.epoch.proofs.FindLemmas.{blank_counter}
use Rattle.epoch.proofs.RuleLemmas.{asked, counts, opens_at_two, refuses_rollback}
use Rattle.epoch.proofs.StageLemmas.{blank_first}

-- of one image, two headers that count at two counters are one
pub same_found : (knows : ℕ → Bool) (key : List ℕ) (image : ℕ → List ℕ) (n m : ℕ) (a b : Found)
    → opening_of knows key image n ≡ Ok (Some a) → opening_of knows key image m ≡ Ok (Some b) → b ≡ a
unfolding opening_of
same_found knows key image n m a b one two =
    let x = asked knows (slot_of key image 0) (slot_of key image 1) n a one in
    let y : answer_at knows a.slot a.header m ≡ Ok (Some b) = sym (x.same m) ∙ two in
    (counts knows a.slot a.header m b y).is

no_slot : (b : Bool) (n : ℕ) (found : Found) → (let none : Result (Option Found) OpenAnswer = Ok None in if b then none else Err (NoVolume n)) ≡ Ok (Some found) → ⊥
no_slot true n found e = cc
no_slot false n found e = cc

-- where it is blank at one counter, no header counts at another
pub never_found : (knows : ℕ → Bool) (key : List ℕ) (image : ℕ → List ℕ) (n m : ℕ) (b : Found)
    → (let none : Result (Option Found) OpenAnswer = Ok None in opening_of knows key image n ≡ none) → opening_of knows key image m ≡ Ok (Some b) → ⊥
unfolding opening_of
never_found knows key image n m b blank found =
    let shut = blank_first knows (slot_of key image 0) (slot_of key image 1) n blank in
    let one : opening_by knows Shut (slot_of key image 1) m ≡ Ok (Some b) = rw shut.0 at found in
    let both : opening_by knows Shut Shut m ≡ Ok (Some b) = rw shut.1 at one in
    no_slot (m == 0) m b both

-- and the counter is 0
pub blank_at : (knows : ℕ → Bool) (key : List ℕ) (image : ℕ → List ℕ) (n : ℕ)
    → (let none : Result (Option Found) OpenAnswer = Ok None in opening_of knows key image n ≡ none) → n ≡ 0
unfolding opening_of
blank_at knows key image n e = blank_counter knows (slot_of key image 0) (slot_of key image 1) n e

-- a choice that is something is its first
if_some : {A : Type 0} (b : Bool) (x h : A) → (let none : Option A = None in if b then Some x else none) ≡ Some h → (b ≡ true) × (x ≡ h)
if_some true x h e = (refl, (cc))
if_some false x h e = absurd (cc)

-- what is held, by how the image opens
abbrev pub HeldAs : Form → List ℕ → (ℕ → List ℕ) → Held → Result (Option Found) OpenAnswer → Type 0
HeldAs f key image h (Ok None) = (h.leaves ≡ blank_leaves f.leaves) × (h.sequence ≡ 0) × (h.version ≡ f.version)
HeldAs f key image h (Ok (Some found)) =
    (found.slot ≡ found.header.sequence % 2) × (is_sealed f key image (root_of found.header) ≡ true)
    × (h.leaves ≡ leaves_of f key image (root_of found.header)) × (h.sequence ≡ found.header.sequence)
    × (h.version ≡ found.header.version)
HeldAs f key image h (Err answer) = ⊥

held_as : (f : Form) (key : List ℕ) (image : ℕ → List ℕ) (h : Held) (o : Result (Option Found) OpenAnswer) → held_by f key image o ≡ Some h → HeldAs f key image h o
held_as f key image h (Ok None) e =
    let same : record { leaves = blank_leaves f.leaves; sequence = 0; version = f.version } ≡ h = cc in
    (ap (λ (x : Held). x.leaves) (sym same), ap (λ (x : Held). x.sequence) (sym same), ap (λ (x : Held). x.version) (sym same))
held_as f key image h (Ok (Some found)) e =
    let two = if_some ((found.slot == found.header.sequence % 2) && is_sealed f key image (root_of found.header)) _ h e in
    let slot : (found.slot == found.header.sequence % 2) ≡ true = first_true (found.slot == found.header.sequence % 2) (is_sealed f key image (root_of found.header)) two.0 in (
      grind (arith, nat_tests, slot),
      second_true (found.slot == found.header.sequence % 2) (is_sealed f key image (root_of found.header)) two.0,
      ap (λ (x : Held). x.leaves) (sym two.1),
      ap (λ (x : Held). x.sequence) (sym two.1),
      ap (λ (x : Held). x.version) (sym two.1),
    )
held_as f key image h (Err answer) e = absurd (cc)

pub holds_as : (f : Form) (key : List ℕ) (image : ℕ → List ℕ) (n : ℕ) (h : Held) → held_in f key image n ≡ Some h → HeldAs f key image h (opening_of f.known key image n)
unfolding held_in
holds_as f key image n h e = held_as f key image h (opening_of f.known key image n) e

-- what an opening gives is what is held
pub held_opening : (f : Form) (key : List ℕ) (image : ℕ → List ℕ) (n m : ℕ) → opening_of f.known key image n ≡ opening_of f.known key image m → held_in f key image n ≡ held_in f key image m
unfolding held_in
held_opening f key image n m e = ap (held_by f key image) e

-- one image opens alike at two counters at which it is sound: to one header, or as a blank board, where both are 0
opens_alike : (f : Form) (key : List ℕ) (image : ℕ → List ℕ) (n m : ℕ) (a b : Held) (x y : Result (Option Found) OpenAnswer)
    → opening_of f.known key image n ≡ x → opening_of f.known key image m ≡ y → HeldAs f key image a x → HeldAs f key image b y
    → opening_of f.known key image m ≡ opening_of f.known key image n
opens_alike f key image n m a b (Ok None) (Ok None) one two is is' = two ∙ sym one
opens_alike f key image n m a b (Ok None) (Ok (Some found)) one two is is' = absurd (never_found f.known key image n m found one two)
opens_alike f key image n m a b (Ok (Some found)) (Ok None) one two is is' = absurd (never_found f.known key image m n found two one)
opens_alike f key image n m a b (Ok (Some found)) (Ok (Some other)) one two is is' =
    let same : other ≡ found = same_found f.known key image n m found other one two in
    two ∙ ap (λ (w : Found). let r : Result (Option Found) OpenAnswer = Ok (Some w) in r) same ∙ sym one
opens_alike f key image n m a b (Ok found) (Err answer) one two is is' = absurd is'
opens_alike f key image n m a b (Err answer) y one two is is' = absurd is

-- what a sound board holds is the same at each counter
pub one_held : (f : Form) (key : List ℕ) (image : ℕ → List ℕ) (n m : ℕ) (a b : Held) → held_in f key image n ≡ Some a → held_in f key image m ≡ Some b → held_in f key image m ≡ held_in f key image n
one_held f key image n m a b one two =
    held_opening f key image m n
    (opens_alike f key image n m a b (opening_of f.known key image n) (opening_of f.known key image m) refl refl (holds_as f key image n a one) (holds_as f key image m b two))

-- what a crash left has a counter that fits
was_fits : (past : List Moment) (t : ℕ) (c : CrashImage) → WasLeft past t c → c.counter < 2 ^ 64
was_fits [] t c was = absurd was
was_fits (m ∷ past) t c was = ⊎_elim (λ (h : (t ≤ length past) × IsLeft m c). h.1.counter.fits) (λ (w : WasLeft past t c). was_fits past t c w) was

left_fits : (v : View) (t : ℕ) (c : CrashImage) → left_since v t c → c.counter < 2 ^ 64
left_fits v t c left = ⊎_elim (λ (h : IsLeft v.state c). h.counter.fits) (λ (w : WasLeft v.past t c). was_fits v.past t c w) left

fitted : (old new : View) (P : CrashImage → Type 0) → LeavesOnly moment left_since old new P → LeavesOnly moment left_since old new (λ c. P c × (c.counter < 2 ^ 64))
fitted old new P run = record {
  later = run.later;
  each = λ c left. (run.each c left, left_fits new (moment old) c left);
  before = λ t c le left. ⊎_elim (λ (l : left_since old t c). inl l) (λ (p : P c). inr (p, left_fits new t c left)) (run.before t c le left);
}

-- how far a counter may rise within a search, of a board that opens so
abbrev BoundsBy : Form → List ℕ → Moment → ℕ → Type 0
BoundsBy f key m high = (found : Found) → opening_of f.known key m.reads m.counter ≡ Ok (Some found) → found.header.sequence ≤ high

module _ (f : Form) (key : List ℕ) (h : Held) (m : Moment) (holding : IsHolding f key h m) (fits : m.counter < 2 ^ 64) where
  least_counter : IsCounter m m.counter
  least_counter = record { least = omega arith; greatest = omega arith; fits = fits }

  -- what is held at the least counter
  pub held_least : held_in f key m.reads m.counter ≡ Some h
  held_least = holding.each m.counter least_counter

  pub opens_least : HeldAs f key m.reads h (opening_of f.known key m.reads m.counter)
  opens_least = holds_as f key m.reads m.counter h held_least

  below_by : (o : Result (Option Found) OpenAnswer) → opening_of f.known key m.reads m.counter ≡ o → HeldAs f key m.reads h o
      → (high n : ℕ) (found : Found) → BoundsBy f key m high → opening_of f.known key m.reads n ≡ Ok (Some found) → found.header.sequence ≤ high
  below_by (Ok None) e is high n found bounds opens = absurd (never_found f.known key m.reads m.counter n found e opens)
  below_by (Ok (Some other)) e is high n found bounds opens =
      let same : found ≡ other = same_found f.known key m.reads m.counter n other found e opens in
      let at : found.header.sequence ≡ other.header.sequence = ap (λ (w : Found). w.header.sequence) same in
      let top : other.header.sequence ≤ high = bounds other e in
      omega (arith, at, top)
  below_by (Err answer) e is high n found bounds opens = absurd is

  opens_under : (high : ℕ) → BoundsBy f key m high → OpensBelow f.known key m.reads m.counter high
  opens_under high bounds n found low up opens =
      below_by (opening_of f.known key m.reads m.counter) refl opens_least high n found bounds opens

-- a search over a board that holds this leaves nothing else
module _ (f : Form) (h : Held) (old new : View) (holding : IsHolding f old.key h old.state) (fits : old.state.counter < 2 ^ 64)
    (goes : (open_at : ℕ → Bool) (base : ℕ → List ℕ) (low high : ℕ) (first : View) → OpensBelow f.known old.key old.state.reads low high
    → RunsOver open_at base low high first old → RunsOver open_at base low high first new) where
  base_high : (high : ℕ) → old.state.counter + old.state.slack ≤ high → IsBase (λ k. false) old.state.reads old.state.counter high old.state
  base_high high room = record {
    reads = λ k shut. refl;
    durable = λ k shut. sym (holding.as_read k);
    pending = λ k shut. holding.pending k;
    least = omega arith;
    greatest = room;
  }

  leaves_high : (high : ℕ) → old.state.counter + old.state.slack ≤ high → BoundsBy f old.key old.state high
      → ((n : ℕ) → old.state.counter ≤ n → n ≤ high → n < 2 ^ 64 → held_in f old.key old.state.reads n ≡ Some h)
      → LeavesOnly moment left_since old new (λ c. held_of f old.key c ≡ Some h)
  leaves_high high room bounds each =
      let run = goes (λ k. false) old.state.reads old.state.counter high old (opens_under f old.key h old.state holding fits high bounds)
      (run_starts (λ k. false) old.state.reads old.state.counter high old (base_high high room)) in
      weaker moment left_since old new (λ c. LeavesBase (λ k. false) old.state.reads old.state.counter high c × (c.counter < 2 ^ 64)) (λ c. held_of f old.key c ≡ Some h)
      (λ c both.
      let same : c.image ≡ old.state.reads = λ i k. both.0.image k refl i in
      ap (λ (image : ℕ → List ℕ). held_in f old.key image c.counter) same ∙ each c.counter both.0.least both.0.greatest both.1)
      (fitted old new (LeavesBase (λ k. false) old.state.reads old.state.counter high) run.leaves)

  -- within what a crash may leave of the counter
  within : (n : ℕ) → old.state.counter ≤ n → n ≤ old.state.counter + old.state.slack → n < 2 ^ 64 → held_in f old.key old.state.reads n ≡ Some h
  within n low high fit = holding.each n (record { least = low; greatest = high; fits = fit })

  leaves_by : (o : Result (Option Found) OpenAnswer) → opening_of f.known old.key old.state.reads old.state.counter ≡ o → HeldAs f old.key old.state.reads h o
      → LeavesOnly moment left_since old new (λ c. held_of f old.key c ≡ Some h)
  leaves_by (Ok None) e is =
      leaves_high (old.state.counter + old.state.slack) (omega arith) (λ found opens. absurd (never_found f.known old.key old.state.reads old.state.counter old.state.counter found e opens)) within
  leaves_by (Ok (Some found)) e is =
      let two = opens_at_two f.known old.key old.state.reads old.state.counter found e in
      let bounds : (high : ℕ) → found.header.sequence ≤ high → BoundsBy f old.key old.state high
      = λ high le other opens. (let same : other.header.sequence ≡ found.header.sequence = ap (λ (w : Found). w.header.sequence)
      (same_found f.known old.key old.state.reads old.state.counter old.state.counter found other e opens) in omega (arith, same, le)) in
      ⊎_elim
      (λ (under : found.header.sequence < old.state.counter + old.state.slack).
      leaves_high (old.state.counter + old.state.slack) (omega arith) (bounds (old.state.counter + old.state.slack) (omega (arith, under))) within)
      (λ (over : old.state.counter + old.state.slack ≤ found.header.sequence).
      leaves_high found.header.sequence over (bounds found.header.sequence (omega arith))
      (λ n low high fit.
      held_opening f old.key old.state.reads n old.state.counter (two.2 n high (omega (arith, two.1, low)) ∙ sym e) ∙ held_least f old.key h old.state holding fits))
      (cases_lt found.header.sequence (old.state.counter + old.state.slack))
  leaves_by (Err answer) e is = absurd is

  pub leaves_held : LeavesOnly moment left_since old new (λ c. held_of f old.key c ≡ Some h)
  leaves_held = leaves_by (opening_of f.known old.key old.state.reads old.state.counter) refl (opens_least f old.key h old.state holding fits)

-- a board of which nothing is pending, and the counter is settled, rests
module _ (old new : Moment) (as_read : (k : ℕ) → old.reads k ≡ old.durable k) (pending : (k : ℕ) → old.pending k ≡ false) (blocks : SameBlocks old new) where
  rests_then : (n : ℕ) → IsSettledAt n new → Rests n new
  rests_then n settled = record {
    as_read = λ k. ap (λ (g : ℕ → List ℕ). g k) blocks.reads ∙ as_read k ∙ sym (ap (λ (g : ℕ → List ℕ). g k) blocks.durable);
    pending = λ k. ap (λ (g : ℕ → Bool). g k) blocks.pending ∙ pending k;
    counter = settled.counter;
    slack = settled.slack;
  }

  pub rests_found : (result : Result (Option Header) OpenAnswer) → IfOk result (λ found. IsSettledAt (sequence_of found) new) → IfOk result (λ found. Rests (sequence_of found) new)
  rests_found (Ok found) settled = rests_then (sequence_of found) settled
  rests_found (Err why) settled = tt

-- and it is mounted then
module _ (f : Form) (framed : IsFramed f) (key : List ℕ) (h : Held) (old new : Moment) (as_read : (k : ℕ) → old.reads k ≡ old.durable k) (pending : (k : ℕ) → old.pending k ≡ false)
    (blocks : SameBlocks old new) where
  opens_then : (n : ℕ) (o : Result (Option Found) OpenAnswer) → opening_of f.known key old.reads n ≡ o → opening_of f.known key new.reads n ≡ o
  opens_then n o e = ap (λ (image : ℕ → List ℕ). opening_of f.known key image n) blocks.reads ∙ e

  mounts_by : (n : ℕ) (o : Result (Option Found) OpenAnswer) → opening_of f.known key old.reads n ≡ o → HeldAs f key old.reads h o
      → (found : Option Header) → Ok found ≡ header_answer o → IsSettledAt (sequence_of found) new → MountsTo f key h new found
  mounts_by n (Ok None) e is found answers settled =
      let none : found ≡ None = cc in
      let zero : n ≡ 0 = blank_at f.known key old.reads n e in
      let at : opening_of f.known key new.reads h.sequence ≡ opening_of f.known key old.reads n
      = ap (opening_of f.known key new.reads) (is.1 ∙ sym zero) ∙ ap (λ (image : ℕ → List ℕ). opening_of f.known key image n) blocks.reads in
      let settled' : IsSettledAt h.sequence new = subst (λ (s : ℕ). IsSettledAt s new) (ap sequence_of none ∙ sym is.1) settled in
      subst (MountsTo f key h new) (sym none) (
        is.1,
        λ root zeros. record {
          rests = rests_then old new as_read pending blocks h.sequence settled';
          opens = subst (OpensTo f h.sequence root) (sym (at ∙ e)) (is.1, zeros);
          sealed = zero_sealed f framed key root new.reads zeros;
          leaves = is.0 ∙ sym (zero_leaves f framed key root new.reads zeros);
          version = is.2 ∙ sym zeros.version;
        },
      )
  mounts_by n (Ok (Some w)) e is found answers settled =
      let some : found ≡ Some w.header = cc in
      let same : h.sequence ≡ w.header.sequence = is.3 in
      let two = opens_at_two f.known key old.reads n w e in
      let at : opening_of f.known key new.reads h.sequence ≡ Ok (Some w)
      = ap (opening_of f.known key new.reads) same ∙ opens_then w.header.sequence (Ok (Some w)) (two.2 w.header.sequence (omega arith) (omega arith)) in
      let settled' : IsSettledAt h.sequence new = subst (λ (q : ℕ). IsSettledAt q new) (ap sequence_of some ∙ sym same) settled in
      subst (MountsTo f key h new) (sym some) (
        same,
        record {
          rests = rests_then old new as_read pending blocks h.sequence settled';
          opens = subst (OpensTo f h.sequence (root_of w.header)) (sym at) (sym same, is.0 ∙ ap (λ (q : ℕ). q % 2) (sym same), refl);
          sealed = ap (λ (image : ℕ → List ℕ). is_sealed f key image (root_of w.header)) blocks.reads ∙ is.1;
          leaves = is.2 ∙ ap (λ (image : ℕ → List ℕ). leaves_of f key image (root_of w.header)) (sym blocks.reads);
          version = is.4;
        },
      )
  mounts_by n (Err answer) e is found answers settled = absurd is

-- a board that rests at the sequence of what was found is mounted with what its image holds
pub mounted_again : (f : Form) (framed : IsFramed f) (key : List ℕ) (h : Held) (m : Moment) (found : Option Header) (n : ℕ) → Rests (sequence_of found) m
    → held_in f key m.reads n ≡ Some h → header_answer (opening_of f.known key m.reads n) ≡ Ok found → MountsTo f key h m found
mounted_again f framed key h m found n rests holds answers =
    mounts_by f framed key h m m rests.as_read rests.pending (record { reads = refl; durable = refl; pending = refl }) n (opening_of f.known key m.reads n) refl
    (holds_as f key m.reads n h holds) found (sym answers) (record { counter = rests.counter; slack = rests.slack })

-- an answer that isn't the rule's is a failure
is_failure : (answer : OpenAnswer) → ((let none : Result (Option Header) OpenAnswer = Err answer in none ≢ Err Failed) → ⊥) → answer ≡ Failed
is_failure (TooSmall n) not_other = absurd (not_other (λ w. cc))
is_failure (NoVolume n) not_other = absurd (not_other (λ w. cc))
is_failure (BadHeader slot found kept) not_other = absurd (not_other (λ w. cc))
is_failure (UnknownVersion n) not_other = absurd (not_other (λ w. cc))
is_failure (Rollback s c) not_other = absurd (not_other (λ w. cc))
is_failure (Ahead s c) not_other = absurd (not_other (λ w. cc))
is_failure (OldMismatch tags) not_other = absurd (not_other (λ w. cc))
is_failure (OldGarbled region leaf) not_other = absurd (not_other (λ w. cc))
is_failure Failed not_other = refl
is_failure NoMemory not_other = absurd (not_other (λ w. cc))

never_refused : (f : Form) (key : List ℕ) (image : ℕ → List ℕ) (h : Held) (o : Result (Option Found) OpenAnswer) → HeldAs f key image h o → (answer : OpenAnswer)
    → (let refused : Result (Option Header) OpenAnswer = Err answer in refused ≡ header_answer o) → ⊥
never_refused f key image h (Ok found) is answer e = cc
never_refused f key image h (Err other) is answer e = is

module _ (f : Form) (framed : IsFramed f) (format : Format) (serves : IsFormatOf f format) (h : Held) (old new : View) (holding : IsHolding f old.key h old.state) (fits : old.state.counter < 2 ^ 64)
    (large : f.blocks ≤ old.size) where
  -- on a board that is large enough the answer is that of what the image opens to
  opens_large : (counter : ℕ) → opens_as (accepts format) format.blocks old.size old.key old.state.reads counter ≡ opening_of f.known old.key old.state.reads counter
  opens_large counter =
      let blocks = serves.blocks in
      let enough : nat_lt old.size format.blocks ≡ false = grind arith in
      rw enough (ap (λ (knows : ℕ → Bool). opening_of knows old.key old.state.reads counter) (sym serves.known))

  after_least : (o : Result (Option Found) OpenAnswer) → opening_of f.known old.key old.state.reads old.state.counter ≡ o → HeldAs f old.key old.state.reads h o
      → (n : ℕ) (found : Found) → opening_of f.known old.key old.state.reads n ≡ Ok (Some found) → opened_by f o h ≡ after_found f (Some found.header) h
  after_least (Ok None) e is n found opens = absurd (never_found f.known old.key old.state.reads old.state.counter n found e opens)
  after_least (Ok (Some other)) e is n found opens =
      ap (λ (w : Found). after_found f (Some w.header) h) (same_found f.known old.key old.state.reads n old.state.counter found other opens e)
  after_least (Err answer) e is n found opens = absurd is

  after_by : (n : ℕ) → IsCounter old.state n → (o : Result (Option Found) OpenAnswer) → opening_of f.known old.key old.state.reads n ≡ o → HeldAs f old.key old.state.reads h o
      → (found : Option Header) → Ok found ≡ header_answer o → after_found f found h ≡ after_opening f old h
  after_by n among (Ok None) e is found answers =
      let none : found ≡ None = cc in
      let zero : n ≡ 0 = blank_at f.known old.key old.state.reads n e in
      let least : old.state.counter ≡ n = omega (arith, zero, among.least) in
      let at : opening_of f.known old.key old.state.reads old.state.counter ≡ Ok None = ap (opening_of f.known old.key old.state.reads) least ∙ e in
      ap (λ (w : Option Header). after_found f w h) none ∙ sym (ap (λ (o : Result (Option Found) OpenAnswer). opened_by f o h) at)
  after_by n among (Ok (Some v)) e is found answers =
      let some : found ≡ Some v.header = cc in
      ap (λ (w : Option Header). after_found f w h) some
      ∙ sym (after_least (opening_of f.known old.key old.state.reads old.state.counter) refl (opens_least f old.key h old.state holding fits) n v e)
  after_by n among (Err answer) e is found answers = absurd is

  found_by : (result : Result (Option Header) OpenAnswer) → Finds (accepts format) format.blocks old.size old.key old.state new.state result → SameBlocks old.state new.state
      → IfOk result (λ found. IsSettledAt (sequence_of found) new.state)
      → IfOk result (λ found. MountsTo f old.key h new.state found × (after_found f found h ≡ after_opening f old h)) × IfErr result (λ why. why ≡ Failed)
  found_by (Ok found) finds blocks settled =
      let opening = opening_of f.known old.key old.state.reads finds.counter in
      let answers : Ok found ≡ header_answer (opening_of f.known old.key old.state.reads finds.counter) = finds.ruled (λ w. cc) ∙ ap header_answer (opens_large finds.counter) in
      let is = holds_as f old.key old.state.reads finds.counter h (holding.each finds.counter finds.among) in (
        (
          mounts_by f framed old.key h old.state new.state holding.as_read holding.pending blocks finds.counter (opening_of f.known old.key old.state.reads finds.counter) refl is
              found answers settled,
          after_by finds.counter finds.among (opening_of f.known old.key old.state.reads finds.counter) refl is found answers,
        ),
        tt,
      )
  found_by (Err answer) finds blocks settled =
      let is = holds_as f old.key old.state.reads finds.counter h (holding.each finds.counter finds.among) in (
        tt,
        is_failure answer (λ other.
            never_refused f old.key old.state.reads h (opening_of f.known old.key old.state.reads finds.counter) is answer (finds.ruled other ∙ ap header_answer (opens_large finds.counter))),
      )

  pub mounts_found : (result : Result (Option Header) OpenAnswer) → Finds (accepts format) format.blocks old.size old.key old.state new.state result → SameBlocks old.state new.state
      → IfOk result (λ found. IsSettledAt (sequence_of found) new.state)
      → ((open_at : ℕ → Bool) (base : ℕ → List ℕ) (low high : ℕ) (first : View) → OpensBelow (accepts format) old.key old.state.reads low high
      → RunsOver open_at base low high first old → RunsOver open_at base low high first new)
      → Mounts f h result old new
  mounts_found result finds blocks settled goes =
      let both = found_by result finds blocks settled in
      record {
        mounted = both.0;
        failed = both.1;
        leaves = leaves_held f h old new holding fits (λ open_at base low high first below.
            goes open_at base low high first (subst (λ (knows : ℕ → Bool). OpensBelow knows old.key old.state.reads low high) serves.known below));
      }

-- a board as it reads is among what a crash may leave
outcome_as_read : Moment → ℕ → CrashImage
outcome_as_read m n = record { image = m.reads; counter = n; faults = m.faults; orders = m.orders }

left_as_read : (v : View) → IsConsistent v → (n : ℕ) → IsCounter v.state n → IsLeft v.state (outcome_as_read v.state n)
unfolding outcome_as_read
left_as_read v is n among = record {
  kept = λ k shut. is.as_read k shut;
  any = λ k pending. is.whole k (is.within k pending);
  counter = among;
  faults = refl;
  orders = refl;
}

-- so what an image that is read holds beside such a counter is something that a crash might leave
pub might_as_read : (f : Form) (v : View) → IsConsistent v → (n : ℕ) → IsCounter v.state n → (h : Held) → held_in f v.key v.state.reads n ≡ Some h
    → (d : CrashImage) × IsLeft v.state d × (held_of f v.key d ≡ Some h)
unfolding outcome_as_read
might_as_read f v is n among h holds = (outcome_as_read v.state n, left_as_read v is n among, holds)

-- a search over a board of which nothing is pending leaves nothing that might not have been left before
module _ (f : Form) (old new : View) (is : IsConsistent old) (pending : (k : ℕ) → old.state.pending k ≡ false)
    (goes : (open_at : ℕ → Bool) (base : ℕ → List ℕ) (low high : ℕ) (first : View) → OpensBelow f.known old.key old.state.reads low high
    → RunsOver open_at base low high first old → RunsOver open_at base low high first new) where
  abbrev top : ℕ
  top = old.state.counter + old.state.slack

  might_at : (c : CrashImage) (n : ℕ) → c.image ≡ old.state.reads → IsCounter old.state n → held_in f old.key old.state.reads c.counter ≡ held_in f old.key old.state.reads n
      → MightBe f old.key old.state c
  unfolding outcome_as_read
  might_at c n image among same = (outcome_as_read old.state n, left_as_read old is n among, ap (λ (g : ℕ → List ℕ). held_in f old.key g c.counter) image ∙ same)

  leaves_to : (high : ℕ) → top ≤ high → OpensBelow f.known old.key old.state.reads old.state.counter high
      → ((n : ℕ) → top < n → n ≤ high → held_in f old.key old.state.reads n ≡ held_in f old.key old.state.reads top)
      → LeavesOnly moment left_since old new (MightBe f old.key old.state)
  leaves_to high room below above =
      let run = goes (λ k. false) old.state.reads old.state.counter high old below
      (run_starts (λ k. false) old.state.reads old.state.counter high old (record {
        reads = λ k shut. refl;
        durable = λ k shut. sym (is.as_read k (pending k));
        pending = λ k shut. pending k;
        least = omega arith;
        greatest = room;
      })) in
      weaker moment left_since old new (λ c. LeavesBase (λ k. false) old.state.reads old.state.counter high c × (c.counter < 2 ^ 64)) (MightBe f old.key old.state)
      (λ c both.
      let same : c.image ≡ old.state.reads = λ i k. both.0.image k refl i in
      let least = both.0.least in
      let greatest = both.0.greatest in
      let fits = both.1 in
      ⊎_elim
      (λ (over : top < c.counter). might_at c top same (record { least = omega arith; greatest = omega arith; fits = omega (arith, over, fits) }) (above c.counter over greatest))
      (λ (under : c.counter ≤ top). might_at c c.counter same (record { least = least; greatest = under; fits = fits }) refl)
      (cases_lt top c.counter))
      (fitted old new (LeavesBase (λ k. false) old.state.reads old.state.counter high) run.leaves)

  none_above : (n : ℕ) → top < n → n ≤ top → held_in f old.key old.state.reads n ≡ held_in f old.key old.state.reads top
  none_above n over under = absurd (omega (arith, over, under))

  -- no header above the greatest counter counts there, so none does at a lower one
  leaves_low : ((found : Found) → opening_of f.known old.key old.state.reads top ≡ Ok (Some found) → found.header.sequence ≤ top)
      → LeavesOnly moment left_since old new (MightBe f old.key old.state)
  leaves_low low =
      leaves_to top (omega arith)
      (λ n found least up opens.
      let two = opens_at_two f.known old.key old.state.reads n found opens in
      ⊎_elim
      (λ (less : n < top). omega (arith, less, two.1))
      (λ (more : top ≤ n).
      let same : n ≡ top = omega (arith, more, up) in
      low found (ap (opening_of f.known old.key old.state.reads) (sym same) ∙ opens))
      (cases_lt n top))
      none_above

  leaves_as : (o : Result (Option Found) OpenAnswer) → opening_of f.known old.key old.state.reads top ≡ o → LeavesOnly moment left_since old new (MightBe f old.key old.state)
  leaves_as (Ok None) e = leaves_low (λ found opens. absurd (let both : (let none : Result (Option Found) OpenAnswer = Ok None in none ≡ Ok (Some found)) = sym e ∙ opens in cc))
  leaves_as (Ok (Some w)) e =
      let two = opens_at_two f.known old.key old.state.reads top w e in
      ⊎_elim
      (λ (over : top < w.header.sequence).
      leaves_to w.header.sequence (omega (arith, over))
      (λ n found least up opens.
      let same : found.header.sequence ≡ w.header.sequence = ap (λ (x : Found). x.header.sequence) (same_found f.known old.key old.state.reads top n w found e opens) in
      omega (arith, same))
      (λ n above up. held_opening f old.key old.state.reads n top (two.2 n up (omega (arith, two.1, above)) ∙ sym e)))
      (λ (under : w.header.sequence ≤ top).
      leaves_low (λ found opens.
      let same : found.header.sequence ≡ w.header.sequence = ap (λ (x : Found). x.header.sequence) (same_found f.known old.key old.state.reads top top w found e opens) in
      omega (arith, same, under)))
      (cases_lt top w.header.sequence)
  leaves_as (Err why) e = leaves_low (λ found opens. absurd (let both : (let none : Result (Option Found) OpenAnswer = Err why in none ≡ Ok (Some found)) = sym e ∙ opens in cc))

  pub search_leaves : LeavesOnly moment left_since old new (MightBe f old.key old.state)
  search_leaves = leaves_as (opening_of f.known old.key old.state.reads top) refl

-- what is sound holds something
sound_now : (o : Option Held) → IsLeftSound o → (h : Held) × (o ≡ Some h)
sound_now (Some h) sound = (h, refl)
sound_now None sound = absurd sound

module _ (f : Form) (old : View) (is : IsConsistent old) where
  counter_now : IsCounter old.state old.state.counter
  counter_now = record { least = omega arith; greatest = omega arith; fits = is.counter }

  -- what a crash leaves after a sync, or after one that failed
  synced_left : (ok : Bool) (mid : View) → Synced ok old.state mid.state → (c : CrashImage) → IsLeft mid.state c → MightBe f old.key old.state c
  unfolding outcome_as_read
  synced_left true mid synced c left =
      let among : IsCounter old.state c.counter = record {
        least = omega (arith, left.counter.least, synced.counter);
        greatest = omega (arith, left.counter.greatest, synced.counter, synced.slack);
        fits = left.counter.fits;
      } in
      let image : c.image ≡ old.state.reads = λ i k. (left.kept k (synced.settled refl k) ∙ synced.durable refl k) i in
      (outcome_as_read old.state c.counter, left_as_read old is c.counter among, ap (λ (g : ℕ → List ℕ). held_in f old.key g c.counter) image)
  synced_left false mid synced c left =
      let among : IsCounter old.state c.counter = record {
        least = omega (arith, left.counter.least, synced.counter);
        greatest = omega (arith, left.counter.greatest, synced.counter, synced.slack);
        fits = left.counter.fits;
      } in
      let pending : (k : ℕ) → mid.state.pending k ≡ old.state.pending k = λ k. ap (λ (g : ℕ → Bool). g k) (synced.failed_pending refl) in
      let d : CrashImage = record { image = c.image; counter = c.counter; faults = old.state.faults; orders = old.state.orders } in (
        record { image = c.image; counter = c.counter; faults = old.state.faults; orders = old.state.orders },
        record {
          kept = λ k shut. left.kept k (pending k ∙ shut) ∙ ap (λ (g : ℕ → List ℕ). g k) (synced.failed_durable refl);
          any = λ k shut. left.any k (pending k ∙ shut);
          counter = among;
          faults = refl;
          orders = refl;
        },
        refl,
      )

  pub after_sync : (ok : Bool) (mid : View) → Answered old mid → Synced ok old.state mid.state → LeavesOnly moment left_since old mid (MightBe f old.key old.state)
  after_sync ok mid answered synced =
      goes_on old old mid (MightBe f old.key old.state) (starts old (MightBe f old.key old.state) (λ c left. (c, left, refl))) answered.time (synced_left ok mid synced)

  -- and what it leaves after a search behind the sync
  pub leaves_again : (mid new : View) → mid.key ≡ old.key → Answered old mid → Synced true old.state mid.state
      → LeavesOnly moment left_since mid new (MightBe f mid.key mid.state) → LeavesOnly moment left_since old new (MightBe f old.key old.state)
  leaves_again mid new key answered synced run =
      joined moment left_since old mid new (MightBe f old.key old.state) (after_sync true mid answered synced)
      (weaker moment left_since mid new (MightBe f mid.key mid.state) (MightBe f old.key old.state)
      (λ c might.
      let before = synced_left true mid synced might.0 might.1 in
      (before.0, before.1, ap (λ (k : List ℕ). held_of f k c) (sym key) ∙ might.2 ∙ ap (λ (k : List ℕ). held_of f k might.0) key ∙ before.2)) run)

  module _ (sound : AreSound f old) where
    -- what reads give now
    unfoldable now_held : (h : Held) × (held_in f old.key old.state.reads old.state.counter ≡ Some h)
    unfolding outcome_as_read
    now_held = sound_now (held_in f old.key old.state.reads old.state.counter) (sound (outcome_as_read old.state old.state.counter) (left_as_read old is old.state.counter counter_now))

    each_held : (n : ℕ) → IsCounter old.state n → held_in f old.key old.state.reads n ≡ Some now_held.0
    unfolding outcome_as_read
    each_held n among =
        let x = sound_now (held_in f old.key old.state.reads n) (sound (outcome_as_read old.state n) (left_as_read old is n among)) in
        one_held f old.key old.state.reads old.state.counter n now_held.0 x.0 now_held.1 x.1 ∙ now_held.1

    -- after the sync whichever counter is told, this is held
    synced_holds : (mid : View) → mid.key ≡ old.key → Synced true old.state mid.state → IsHolding f mid.key now_held.0 mid.state
    synced_holds mid key synced = record {
      as_read = λ k. ap (λ (g : ℕ → List ℕ). g k) synced.reads ∙ sym (synced.durable refl k);
      pending = λ k. synced.settled refl k;
      each = λ n among.
          let among' : IsCounter old.state n = record {
            least = omega (arith, among.least, synced.counter);
            greatest = omega (arith, among.greatest, synced.counter, synced.slack);
            fits = among.fits;
          } in
          rw (key, synced.reads) (each_held n among');
    }

    among_now : (c : CrashImage) × IsLeft old.state c × (held_of f old.key c ≡ Some now_held.0)
    unfolding outcome_as_read
    among_now = (outcome_as_read old.state old.state.counter, left_as_read old is old.state.counter counter_now, now_held.1)

    -- a reopening whose sync failed
    pub again_failed : (mid : View) → (let failed : Result (Option Header) OpenAnswer = Err Failed in MountsAgain f failed old mid)
    again_failed mid = record {
      chosen = now_held.0;
      among = among_now;
      mounted = tt;
      failed = refl;
    }

    mounted_under : (key : List ℕ) (m : Moment) (result : Result (Option Header) OpenAnswer) (E : Option Header → Type 0) → key ≡ old.key →
        IfOk result (λ found. MountsTo f key now_held.0 m found × E found)
        → IfOk result (λ found. MountsTo f old.key now_held.0 m found)
    mounted_under key m (Ok found) E same mounted = subst (λ (k : List ℕ). MountsTo f k now_held.0 m found) same mounted.0
    mounted_under key m (Err answer) E same mounted = tt

    -- one whose search came to its end
    pub again_found : (mid new : View) (result : Result (Option Header) OpenAnswer) → mid.key ≡ old.key → Synced true old.state mid.state
        → ((h : Held) → IsHolding f mid.key h mid.state → Mounts f h result mid new) → MountsAgain f result old new
    again_found mid new result key synced search =
        let found = search now_held.0 (synced_holds mid key synced) in
        record {
          chosen = now_held.0;
          among = among_now;
          mounted = mounted_under mid.key new.state result (λ header. after_found f header now_held.0 ≡ after_opening f mid now_held.0) key found.mounted;
          failed = found.failed;
        }

-- two lists of orders that are equal have the same last order
last_order : {one other : Order} {earlier : List Order} → one ∷ earlier ≡ other ∷ earlier → one ≡ other
last_order {one} {other} {earlier} same = cc

-- after a loss of power: what a crash leaves holds what was chosen
module _ (f : Form) (old mid : View) (key : mid.key ≡ old.key) (time : Passes old mid) (powered : Powered old.state mid.state) where
  power_left : (c : CrashImage) → IsLeft mid.state c → held_of f mid.key c ≡ held_of f old.key powered.left
  power_left c left =
      let counter : c.counter ≡ powered.left.counter = omega (arith, left.counter.least, left.counter.greatest, powered.counter, powered.slack) in
      let image : c.image ≡ powered.left.image = λ i k. (left.kept k (powered.pending k) ∙ powered.durable k) i in
      rw (key, counter, image) refl

  might_be : (c : CrashImage) → MightBe f mid.key mid.state c → MightBe f old.key old.state c
  might_be c might = (powered.left, powered.may, ap (λ (k : List ℕ). held_of f k c) (sym key) ∙ might.2 ∙ power_left might.0 might.1)

  pub power_sound : AreSound f old → AreSound f mid
  power_sound sound c left = subst IsLeftSound (sym (power_left c left)) (sound powered.left powered.may)

  mounted_back : (h : Held) (m : Moment) (result : Result (Option Header) OpenAnswer) → IfOk result (λ found. MountsTo f mid.key h m found) → IfOk result (λ found. MountsTo f old.key h m found)
  mounted_back h m (Ok found) mounted = subst (λ (k : List ℕ). MountsTo f k h m found) key mounted
  mounted_back h m (Err answer) mounted = tt

  pub leaves_powered : (new : View) → LeavesOnly moment left_since mid new (MightBe f mid.key mid.state) → LeavesOnly moment left_since old new (MightBe f old.key old.state)
  leaves_powered new run =
      joined moment left_since old mid new (MightBe f old.key old.state)
      (goes_on old old mid (MightBe f old.key old.state) (starts old (MightBe f old.key old.state) (λ c left. (c, left, refl))) time
      (λ c left. (powered.left, powered.may, ap (λ (k : List ℕ). held_of f k c) (sym key) ∙ power_left c left)))
      (weaker moment left_since mid new (MightBe f mid.key mid.state) (MightBe f old.key old.state) might_be run)

  pub after_power : (pick : ℕ) (new : View) (result : Result (Option Header) OpenAnswer)
      → new.ordered ≡ record { number = pick; before = old.state; after = mid.state } ∷ old.ordered → MountsAgain f result mid new
      → LeavesOnly moment left_since mid new (MightBe f mid.key mid.state) → MountsAfterPower f result old new
  after_power pick new result ordered again run =
      let chosen : held_of f old.key powered.left ≡ Some again.chosen = sym (power_left again.among.0 again.among.1) ∙ again.among.2 in
      record {
        again = record {
          chosen = again.chosen;
          among = (powered.left, powered.may, chosen);
          mounted = mounted_back again.chosen new.state result again.mounted;
          failed = again.failed;
        };
        ordered = λ order last c left.
            let same : order.after ≡ mid.state = ap (λ (o : Order). o.after) (last_order (sym last ∙ ordered)) in
            ap (λ (k : List ℕ). held_of f k c) (sym key) ∙ power_left c (subst (λ (m : Moment). IsLeft m c) same left) ∙ chosen;
        rests = λ c left.
            let might = run.each c (inl left) in
            ap (λ (k : List ℕ). held_of f k c) (sym key) ∙ might.2 ∙ power_left might.0 might.1 ∙ chosen;
      }

-- a board that is mounted at a sequence is refused at every greater counter
pub mounted_refuses : (f : Form) (key : List ℕ) (root : Root) (h : Held) (m : Moment) → IsMounted f key root h m → 0 < h.sequence → (c : ℕ) → h.sequence < c
    → opening_of f.known key m.reads c ≡ Err (Rollback h.sequence c)
mounted_refuses f key root h m mounted some c above = refuses_by (opening_of f.known key m.reads h.sequence) refl mounted.opens where
  refuses_by : (o : Result (Option Found) OpenAnswer) → opening_of f.known key m.reads h.sequence ≡ o → OpensTo f h.sequence root o
      → opening_of f.known key m.reads c ≡ Err (Rollback h.sequence c)
  refuses_by (Ok None) e opens = absurd (omega (arith, some, opens.0))
  refuses_by (Ok (Some found)) e opens =
      refuses_rollback f.known key m.reads h.sequence c found e (omega (arith, above, opens.0))
      ∙ ap (λ (n : ℕ). let r : Result (Option Found) OpenAnswer = Err (Rollback n c) in r) opens.0
  refuses_by (Err answer) e opens = absurd opens

-- what fails is no Ok
pub failed_ok : {A : Type 0} (r : Result A OpenAnswer) (P : A → Type 0) → r ≡ Err Failed → IfOk r P
failed_ok r P is = subst (λ (x : Result _ OpenAnswer). IfOk x P) (sym is) tt

-- a reopening that ends before its sync is done
pub stopped : {f : Form} {result failed : Result (Option Header) OpenAnswer} {old new : View} → result ≡ failed → MountsAgain f failed old new → MountsAgain f result old new
stopped {f} {result} {failed} {old} {new} same again = subst (λ (r : Result (Option Header) OpenAnswer). MountsAgain f r old new) (sym same) again

-- a board that is mounted with this leaves it
pub mounted_left : (f : Form) (framed : IsFramed f) (root : Root) (h : Held) (view : View) → IsMounted f view.key root h view.state → (c : CrashImage) → IsLeft view.state c
    → held_of f view.key c ≡ Some h
mounted_left f framed root h view mounted c left =
    let rests = mounted.rests in
    let image : (k : ℕ) → c.image k ≡ view.state.reads k = λ k. left.kept k (rests.pending k) ∙ sym (rests.as_read k) in
    let whole : c.image ≡ view.state.reads = λ i k. image k i in
    let counter : c.counter ≡ h.sequence = omega (arith, left.counter.least, left.counter.greatest, rests.counter, rests.slack) in
    held_before f framed view.key root h view.state c.image c.counter mounted
    (ap (opening_of f.known view.key c.image) counter ∙ ap (λ (g : ℕ → List ℕ). opening_of f.known view.key g h.sequence) whole)
    (λ k used. image k)

-- a board at rest holds what it reads
pub rests_holding : (f : Form) (key : List ℕ) (h : Held) (n : ℕ) (m : Moment) → Rests n m → held_in f key m.reads n ≡ Some h → IsHolding f key h m
rests_holding f key h n m rests is = record {
  as_read = rests.as_read;
  pending = rests.pending;
  each = λ k among.
      let same : k ≡ n = omega (arith, among.least, among.greatest, rests.counter, rests.slack) in
      ap (held_in f key m.reads) same ∙ is;
}

-- an order that changes nothing
pub after_order : (f : Form) (old new : View) → Passes old new → Unchanged old.state new.state → LeavesOnly moment left_since old new (MightBe f old.key old.state)
after_order f old new time same =
    goes_on old old new (MightBe f old.key old.state) (starts old (MightBe f old.key old.state) (λ c left. (c, left, refl))) time
    (λ c left.
    let pending : (k : ℕ) → new.state.pending k ≡ old.state.pending k = λ k. ap (λ (g : ℕ → Bool). g k) same.pending in (
      record { image = c.image; counter = c.counter; faults = old.state.faults; orders = old.state.orders },
      record {
        kept = λ k shut. left.kept k (pending k ∙ shut) ∙ ap (λ (g : ℕ → List ℕ). g k) same.durable;
        any = λ k shut. left.any k (pending k ∙ shut);
        counter = record {
          least = omega (arith, left.counter.least, same.counter);
          greatest = omega (arith, left.counter.greatest, same.counter, same.slack);
          fits = left.counter.fits;
        };
        faults = refl;
        orders = refl;
      },
      refl,
    ))

-- up to a volume that stands on the board
module _ (f : Form) {V : Type 0} (view : V → View) (old new : V) (key : (view new).key ≡ (view old).key) where
  pub before_above : LeavesOnly moment left_since (view old) (view new) (MightBe f (view old).key (view old).state)
      → LeavesOnly (λ v. moment (view v)) (λ v. read_as (held_of f (view v).key) (left_since (view v))) old new
      (λ o. read_as (held_of f (view old).key) (left_since (view old)) (moment (view old)) o)
  before_above run =
      mapped moment left_since view (λ v. held_of f (view v).key) old new
      (λ o. read_as (held_of f (view old).key) (left_since (view old)) (moment (view old)) o)
      (λ c. ap (λ (k : List ℕ). held_of f k c) key)
      (weaker moment left_since (view old) (view new) (MightBe f (view old).key (view old).state)
      (λ c. read_as (held_of f (view old).key) (left_since (view old)) (moment (view old)) (held_of f (view new).key c))
      (λ c might. (might.0, inl might.1, ap (λ (k : List ℕ). held_of f k c) key ∙ might.2)) run)

pub past_above : (f : Form) (old new : View) → new.key ≡ old.key → KeepsPast old new → (t : ℕ) (o : Option Held) → t ≤ moment old
    → read_as (held_of f old.key) (left_since old) t o → read_as (held_of f new.key) (left_since new) t o
past_above f old new key kept t o le left = (left.0, kept.past t left.0 le left.1, left.2 ∙ ap (λ (k : List ℕ). held_of f k left.0) (sym key))

-- what a volume's crash may leave now, on its board
pub board_sound : (f : Form) (view : View) → ((o : Option Held) → read_as (held_of f view.key) (left_since view) (moment view) o → IsLeftSound o) → AreSound f view
board_sound f view sound c left = sound (held_of f view.key c) (c, inl left, refl)

-- no crash before now was at this moment or later
none_now : (past : List Moment) (t : ℕ) (c : CrashImage) → length past ≤ t → WasLeft past t c → ⊥
none_now [] t c late was = was
none_now (m ∷ past) t c late was =
    ⊎_elim (λ (h : (t ≤ length past) × IsLeft m c). absurd (let x = h.0 in omega arith)) (λ (w : WasLeft past t c). none_now past t c (omega arith) w) was

-- what is known of all that a crash may leave now, one layer up
pub rests_above : (f : Form) (key : List ℕ) (view : View) (h : Held) → view.key ≡ key → ((c : CrashImage) → IsLeft view.state c → held_of f key c ≡ Some h)
    → (o : Option Held) → read_as (held_of f view.key) (left_since view) (moment view) o → o ≡ Some h
rests_above f key view h same each o left =
    let now : IsLeft view.state left.0 = ⊎_elim (λ (x : IsLeft view.state left.0). x) (λ (was : WasLeft view.past (moment view) left.0). absurd
    (none_now view.past (moment view) left.0 (omega arith) was)) left.1 in
    left.2 ∙ ap (λ (k : List ℕ). held_of f k left.0) same ∙ each left.0 now

-- what an opening makes of what is held
module _ (f : Form) where
  made_by : (b : Bool) (h : Held) → MakesBy f b h (after_version f b h)
  made_by true h = refl
  made_by false h = record { leaves = refl; sequence = refl; version = refl }

  makes_of : (r : Result (Option Found) OpenAnswer) (h : Held) → MakesOf f r h (opened_by f r h)
  makes_of (Ok None) h = record { leaves = refl; sequence = refl; version = refl }
  makes_of (Ok (Some w)) h = made_by (w.header.version == f.version) h
  makes_of (Err answer) h = refl

  pub opened_to : (view : View) (h : Held) → IsOpenedTo f view h (after_opening f view h)
  opened_to view h = makes_of (opening_of f.known view.key view.state.reads view.state.counter) h

  -- and what a reopening makes of it, by the header that was found
  pub remakes_found : (o : Result (Option Found) OpenAnswer) (found : Option Header) (h : Held) → header_answer o ≡ Ok found → RemakesOf f o h (after_again f found h)
  remakes_found (Ok None) found h is =
      let none : found ≡ None = cc in
      ap (λ (x : Option Header). after_again f x h) none
  remakes_found (Ok (Some w)) found h is =
      let some : found ≡ Some w.header = cc in
      subst (λ (x : Option Header). MakesBy f (w.header.version == f.version) h (after_again f x h)) (sym some) (made_by (w.header.version == f.version) h)
  remakes_found (Err answer) found h is = absurd (cc)

-- a crash that leaves what was held, or what an opening makes of it
pub leaves_opening : (f : Form) (old new : View) (h after : Held) → IsOpenedTo f old h after
    → LeavesOnly moment left_since old new (λ c. (held_of f old.key c ≡ Some h) ⊎ (held_of f old.key c ≡ Some after)) → LeavesOpening f h old new
leaves_opening f old new h after makes run =
    weaker moment left_since old new (λ c. (held_of f old.key c ≡ Some h) ⊎ (held_of f old.key c ≡ Some after)) (LeftByOpening f h old)
    (λ c is. ⊎_elim (λ (e : held_of f old.key c ≡ Some h). inl e) (λ (e : held_of f old.key c ≡ Some after). inr (after, e, makes)) is) run

-- whatever an opening makes of what is held has the same leaves
pub opening_keeps : (f : Form) (r : Result (Option Found) OpenAnswer) (before after : Held) → MakesOf f r before after → after.leaves ≡ before.leaves
opening_keeps f (Ok None) before after makes = makes.leaves
opening_keeps f (Ok (Some found)) before after makes = by_version (found.header.version == f.version) makes where
  by_version : (b : Bool) → MakesBy f b before after → after.leaves ≡ before.leaves
  by_version true same = ap (λ (h : Held). h.leaves) same
  by_version false makes = makes.leaves
opening_keeps f (Err answer) before after same = ap (λ (h : Held). h.leaves) same
