-- What an image holds within a commit, over the form of the leaves.
use Rattle.std.proofs.Common.{◌≡◌, ◌≢◌, ◌≤◌, ◌<◌, ◌+◌, ◌^◌, ◌%◌, ◌==◌, ◌&&◌, ◌∙◌, if◌then◌else◌, ℕ, zero, suc, Bool, true, false, List, [], Option, Some}
use Rattle.std.proofs.Common.{None, Result, Ok, Err, OnErr, nat_lt, is_none, replicate, refl, sym, ap, subst, inl, inr, ⊎_elim, arith}
use Rattle.std.specs.Prelude.{IfOk, IsErr}
use Rattle.std.proofs.lemmas.Bool.{cases_lt, false≢true}
use Rattle.std.proofs.lemmas.Bool.Decides.{nat_tests}
use Rattle.tee_base.specs.Crash.{LeavesOnly}
use Rattle.tee_base.specs.declared.limits.TheConstants.{BLOCK_BYTES, MAX_HOSTS}
use Rattle.tee_base.proofs.Crash.{joined, weaker}
use Rattle.store_api.specs.Volumes.{Held}
use Rattle.board.specs.Moment.{CrashImage, Moment, View, IsLeft, moment, left_since}
use Rattle.board.specs.Runs.{LeavesBase, RunsOver, Rests}
use Rattle.epoch.specs.Commits.{BeforeOrAfter, IsMounted, IsSteady, IsWritten, OpensTo, next_held, spare}
use Rattle.epoch.specs.Forms.{Form, IsBlankRoot, IsFramed, Root, SameUsed, all_below, blank_leaves, held_in, held_by, held_of, is_leaf, is_sealed, leaves_of, root_of}
use Rattle.epoch.specs.Gates.{gate_at, header_at, gate_open}
use Rattle.epoch.specs.Opening.{opening_of}
use Rattle.epoch.specs.Slots.{header_slot, slot_of}
use Rattle.epoch.specs.Steps.{CountsElsewhere, IsCurrent, IsFlipped, IsLaid, LeavesFlip, SyncedBut, shut_writes}
use Rattle.epoch.specs.declared.answer.OpenAnswer.{OpenAnswer}
use Rattle.epoch.specs.declared.header.Header.{Header}
use Rattle.epoch.specs.declared.rule.Found.{Found}
use Rattle.epoch.specs.declared.slots.Slot.TheVariants.{Good}
use Rattle.epoch.proofs.RunLemmas.{is_itself, rest_starts}
use Rattle.epoch.proofs.StageLemmas.{shut_opens, lay_opens, flip_opens}

-- each half of what is both
pub first_true : (a b : Bool) → (a && b) ≡ true → a ≡ true
first_true true b e = refl
first_true false b e = absurd (let f : false ≡ true = e in cc)

pub second_true : (a b : Bool) → (a && b) ≡ true → b ≡ true
second_true true b e = e
second_true false b e = absurd (let f : false ≡ true = e in cc)

-- tests that agree below a number
all_below_same : (n : ℕ) (p q : ℕ → Bool) → ((k : ℕ) → k < n → p k ≡ q k) → all_below n p ≡ all_below n q
unfolding all_below
all_below_same zero p q same = refl
all_below_same (suc n) p q same =
    let rest : all_below n p ≡ all_below n q = all_below_same n p q (λ k below. same k (omega arith)) in
    let last : p n ≡ q n = same n (omega arith) in
    rw (rest, last) refl

-- what holds of all below a number holds of each
pub all_below_each : (n : ℕ) (p : ℕ → Bool) → all_below n p ≡ true → (k : ℕ) → k < n → p k ≡ true
unfolding all_below
all_below_each zero p e k below = absurd (omega arith)
all_below_each (suc n) p e k below =
    ⊎_elim
    (λ (h : k < n). all_below_each n p (first_true (all_below n p) (p n) e) k h)
    (λ (h : n ≤ k). let same : n ≡ k = omega arith in subst (λ (j : ℕ). p j ≡ true) same (second_true (all_below n p) (p n) e))
    (cases_lt k n)

pub all_below_all : (n : ℕ) (p : ℕ → Bool) → ((k : ℕ) → k < n → p k ≡ true) → all_below n p ≡ true
unfolding all_below
all_below_all zero p each = refl
all_below_all (suc n) p each =
    let rest : all_below n p ≡ true = all_below_all n p (λ k below. each k (omega arith)) in
    let last : p n ≡ true = each n (omega arith) in
    rw (rest, last) refl

-- a leaf's numbers are within their ranges
pub region_below : (n r l : ℕ) → is_leaf n r l ≡ true → r < MAX_HOSTS
region_below n r l e = let t : nat_lt r MAX_HOSTS ≡ true = first_true (nat_lt r MAX_HOSTS) (nat_lt l n) e in grind (arith, nat_tests)

pub leaf_below : (n r l : ℕ) → is_leaf n r l ≡ true → l < n
leaf_below n r l e = let t : nat_lt l n ≡ true = second_true (nat_lt r MAX_HOSTS) (nat_lt l n) e in grind (arith, nat_tests)

-- leaves with a sequence, part by part
some_held : (leaves : ℕ → ℕ → List ℕ) (n version : ℕ) (h : Held) → leaves ≡ h.leaves → n ≡ h.sequence → version ≡ h.version
    → Some (record { leaves = leaves; sequence = n; version = version }) ≡ Some h
some_held leaves n version h same number kind = λ i. Some (record { leaves = same i; sequence = number i; version = kind i })

-- the first four blocks are all that an opening looks at
pub opening_low : (knows : ℕ → Bool) (key : List ℕ) (base image : ℕ → List ℕ) (n : ℕ) → ((k : ℕ) → k < 4 → image k ≡ base k) → opening_of knows key image n ≡ opening_of knows key base n
unfolding opening_of slot_of
opening_low knows key base image n same =
    let e0 : image 0 ≡ base 0 = same 0 (omega arith) in
    let e1 : image 1 ≡ base 1 = same 1 (omega arith) in
    let e2 : image 2 ≡ base 2 = same 2 (omega arith) in
    let e3 : image 3 ≡ base 3 = same 3 (omega arith) in
    rw (e0, e1, e2, e3) refl

-- what counts is in the other slot, and of this sequence
counts_elsewhere : (f : Form) (n slot : ℕ) (root : Root) (o : Result (Option Found) OpenAnswer) → slot ≡ (n + 1) % 2 → OpensTo f n root o → CountsElsewhere slot o
counts_elsewhere f n slot root (Ok None) is opens = tt
counts_elsewhere f n slot root (Ok (Some found)) is opens = λ e. absurd (let at : found.slot ≡ n % 2 = opens.1 in omega arith)
counts_elsewhere f n slot root (Err answer) is opens = absurd opens

is_current : (f : Form) (n : ℕ) (root : Root) (o : Result (Option Found) OpenAnswer) → OpensTo f n root o → IsCurrent n o
is_current f n root (Ok None) opens = tt
is_current f n root (Ok (Some found)) opens = opens.0
is_current f n root (Err answer) opens = absurd opens

-- what a crash of a board at rest leaves
rest_outcome : Moment → ℕ → CrashImage
rest_outcome m n = record { image = m.reads; counter = n; faults = m.faults; orders = m.orders }

rest_left : (m : Moment) (n : ℕ) → Rests n m → n < 2 ^ 64 → IsLeft m (rest_outcome m n)
unfolding rest_outcome
rest_left m n rests fits = record {
  kept = λ k shut. rests.as_read k;
  any = λ k pending. absurd (false≢true (sym (rests.pending k) ∙ pending));
  counter = record { least = omega (arith, rests.counter); greatest = omega (arith, rests.counter); fits = fits };
  faults = refl;
  orders = refl;
}

module _ (f : Form) (framed : IsFramed f) (key : List ℕ) where
  -- a block that a root uses lies behind the slots
  pub used_behind : (root : Root) (image : ℕ → List ℕ) (k : ℕ) → f.uses key image root k ≡ true → 4 ≤ k
  used_behind root image k used =
      ⊎_elim (λ (h : k < 4). absurd (false≢true (sym (framed.behind key root image k h) ∙ used))) (λ (h : 4 ≤ k). h) (cases_lt k 4)

  pub sealed_same : (root : Root) (base image : ℕ → List ℕ) → SameUsed f key root base image → is_sealed f key image root ≡ is_sealed f key base root
  unfolding is_sealed
  sealed_same root base image same =
      let tags = all_below_same MAX_HOSTS (λ r. all_below f.leaves (λ l. is_none (f.damage key image root r l))) (λ r. all_below f.leaves (λ l. is_none (f.damage key base root r l)))
      (λ r hr. all_below_same f.leaves _ _ (λ l hl. ap is_none (framed.same_damage key root base image r l same hr hl))) in
      let rest = framed.same_sound key root base image same in
      λ i. tags i && rest i

  leaf_same : (root : Root) (base image : ℕ → List ℕ) → SameUsed f key root base image → (r l : ℕ) → leaves_of f key image root r l ≡ leaves_of f key base root r l
  unfolding leaves_of
  leaf_same root base image same r l =
      elim (is_leaf f.leaves r l) as (λ b. is_leaf f.leaves r l ≡ b → (if b then f.leaf key image root r l else []) ≡ (if b then f.leaf key base root r l else [])) [
        | true ↦ λ e. framed.same_leaf key root base image r l same (region_below f.leaves r l e) (leaf_below f.leaves r l e)
        | false ↦ λ e. refl
      ] refl

  pub leaves_same : (root : Root) (base image : ℕ → List ℕ) → SameUsed f key root base image → leaves_of f key image root ≡ leaves_of f key base root
  leaves_same root base image same = λ i r l. leaf_same root base image same r l i

  zero_leaf : (root : Root) (image : ℕ → List ℕ) → IsBlankRoot f root → (r l : ℕ) → leaves_of f key image root r l ≡ blank_leaves f.leaves r l
  unfolding leaves_of blank_leaves
  zero_leaf root image none r l =
      elim (is_leaf f.leaves r l) as (λ b. is_leaf f.leaves r l ≡ b → (if b then f.leaf key image root r l else []) ≡ (if b then replicate BLOCK_BYTES 0 else [])) [
        | true ↦ λ e. framed.zeros key root image r l none (region_below f.leaves r l e) (leaf_below f.leaves r l e)
        | false ↦ λ e. refl
      ] refl

  -- a root of sequence 0 stands for a blank board's leaves, and seals them
  pub zero_leaves : (root : Root) (image : ℕ → List ℕ) → IsBlankRoot f root → leaves_of f key image root ≡ blank_leaves f.leaves
  zero_leaves root image none = λ i r l. zero_leaf root image none r l i

  pub zero_sealed : (root : Root) (image : ℕ → List ℕ) → IsBlankRoot f root → is_sealed f key image root ≡ true
  unfolding is_sealed
  zero_sealed root image none =
      let tags = all_below_all MAX_HOSTS (λ r. all_below f.leaves (λ l. is_none (f.damage key image root r l)))
      (λ r hr. all_below_all f.leaves _ (λ l hl. ap is_none (framed.no_damage key root image r l none hr hl))) in
      let rest = framed.blank_sound key root image none in
      λ i. tags i && rest i

  -- an image that opens so, and has the blocks of the root, holds this
  pub holds_by : (o : Result (Option Found) OpenAnswer) (root : Root) (h : Held) (base image : ℕ → List ℕ) → OpensTo f h.sequence root o
      → is_sealed f key base root ≡ true → h.leaves ≡ leaves_of f key base root → h.version ≡ root.version → SameUsed f key root base image
      → held_by f key image o ≡ Some h
  holds_by (Ok None) root h base image opens sealed leaves version same =
      some_held (blank_leaves f.leaves) 0 f.version h (sym (leaves ∙ zero_leaves root base opens.1)) (sym opens.0) (sym (version ∙ opens.1.version))
  holds_by (Ok (Some found)) root h base image opens sealed leaves version same =
      let place : found.slot ≡ found.header.sequence % 2 = opens.1 ∙ ap (λ (s : ℕ). s % 2) (sym opens.0) in
      let one : (found.slot == found.header.sequence % 2) ≡ true = rw place (is_itself (found.header.sequence % 2)) in
      let two : is_sealed f key image (root_of found.header) ≡ true = ap (is_sealed f key image) opens.2 ∙ sealed_same root base image same ∙ sealed in
      rw (one, two) (some_held (leaves_of f key image (root_of found.header)) found.header.sequence found.header.version h
      (ap (leaves_of f key image) opens.2 ∙ leaves_same root base image same ∙ sym leaves) opens.0 (ap (λ (r : Root). r.version) opens.2 ∙ sym version))
  holds_by (Err answer) root h base image opens sealed leaves version same = absurd opens

  pub held_before : (root : Root) (h : Held) (m : Moment) (image : ℕ → List ℕ) (counter : ℕ) → IsMounted f key root h m
      → opening_of f.known key image counter ≡ opening_of f.known key m.reads h.sequence → SameUsed f key root m.reads image
      → held_in f key image counter ≡ Some h
  unfolding held_in
  held_before root h m image counter mounted e same =
      ap (held_by f key image) e ∙ holds_by (opening_of f.known key m.reads h.sequence) root h m.reads image mounted.opens mounted.sealed mounted.leaves mounted.version same

  pub held_after : (root : Root) (leaves : ℕ → ℕ → List ℕ) (n : ℕ) (base image : ℕ → List ℕ) (counter : ℕ) (found : Found) → opening_of f.known key image counter ≡ Ok (Some found)
      → OpensTo f (n + 1) root (Ok (Some found)) → root.version ≡ f.version → IsWritten f key root leaves base → SameUsed f key root base image
      → held_in f key image counter ≡ Some (next_held f leaves n)
  unfolding held_in
  held_after root leaves n base image counter found e opens kind written same =
      ap (held_by f key image) e ∙ holds_by (Ok (Some found)) root (next_held f leaves n) base image opens written.sealed (sym written.leaves_are) (sym kind) same

  -- a board that opens as before and has the blocks in use is mounted as before
  pub mounted_same : (root : Root) (h : Held) (old new : Moment) → IsMounted f key root h old → Rests h.sequence new
      → opening_of f.known key new.reads h.sequence ≡ opening_of f.known key old.reads h.sequence → SameUsed f key root old.reads new.reads
      → IsMounted f key root h new
  mounted_same root h old new mounted rests e same = record {
    rests = rests;
    opens = subst (OpensTo f h.sequence root) (sym e) mounted.opens;
    sealed = sealed_same root old.reads new.reads same ∙ mounted.sealed;
    leaves = mounted.leaves ∙ sym (leaves_same root old.reads new.reads same);
    version = mounted.version;
  }

  -- what is held by a board that is mounted
  pub mounted_holds : (root : Root) (h : Held) (m : Moment) → IsMounted f key root h m → held_in f key m.reads h.sequence ≡ Some h
  mounted_holds root h m mounted = held_before root h m m.reads h.sequence mounted refl (λ k used. refl)

  module _ (root : Root) (h : Held) (slot : ℕ) (is_slot : slot ≡ (h.sequence + 1) % 2) where
    below_two : slot < 2
    below_two = omega arith

    no_gate : (base image : ℕ → List ℕ) (k : ℕ) → f.uses key image root k ≡ true → shut_writes slot base k ≡ false
    no_gate base image k used =
        let far : 4 ≤ k = used_behind root image k used in
        let other : (k == gate_at slot) ≡ false = (let b : slot < 2 = below_two in grind arith) in
        rw other refl

    not_spare : (base : ℕ → List ℕ) (k : ℕ) → f.uses key base root k ≡ true → spare f key base root slot k ≡ false
    not_spare base k used =
        let far : 4 ≤ k = used_behind root base k used in
        let other : (k == header_at slot) ≡ false = (let b : slot < 2 = below_two in grind arith) in
        let behind : nat_lt 3 k ≡ true = grind arith in
        rw (other, behind, used) refl

    low_spare : (base : ℕ → List ℕ) (k : ℕ) → k < 4 → k ≢ header_at slot → spare f key base root slot k ≡ false
    low_spare base k low ne =
        let other : (k == header_at slot) ≡ false = grind arith in
        let behind : nat_lt 3 k ≡ false = grind arith in
        rw (other, behind) refl

    -- within a shutting
    shut_same : (base : ℕ → List ℕ) (image : ℕ → List ℕ) → ((k : ℕ) → shut_writes slot base k ≡ false → image k ≡ base k) → SameUsed f key root base image
    shut_same base image same k used = same k (no_gate base base k used)

    pub shut_holds : (m : Moment) (c : CrashImage) → IsMounted f key root h m → LeavesBase (shut_writes slot m.reads) m.reads h.sequence h.sequence c → held_of f key c ≡ Some h
    shut_holds m c mounted leaves =
        let counter : c.counter ≡ h.sequence = omega (arith, leaves.least, leaves.greatest) in
        held_before root h m c.image c.counter mounted
        (ap (opening_of f.known key c.image) counter
        ∙ shut_opens f.known key m.reads c.image h.sequence slot below_two leaves.image (counts_elsewhere f h.sequence slot root _ is_slot mounted.opens))
        (shut_same m.reads c.image leaves.image)

    -- within the writing of copies and header, behind a gate that isn't open
    spare_opens : (base image : ℕ → List ℕ) → gate_open (base (gate_at slot)) ≡ false → ((k : ℕ) → spare f key base root slot k ≡ false → image k ≡ base k)
        → opening_of f.known key image h.sequence ≡ opening_of f.known key base h.sequence
    spare_opens base image shut same =
        let low : ℕ → List ℕ = λ k. if nat_lt k 4 then image k else base k in
        opening_low f.known key low image h.sequence (λ k below. let t : nat_lt k 4 ≡ true = grind arith in rw t refl)
        ∙ lay_opens f.known key base low h.sequence slot below_two
        (λ k ne. elim (nat_lt k 4) as (λ b. nat_lt k 4 ≡ b → (if b then image k else base k) ≡ base k) [
          | true ↦ λ t. same k (low_spare base k (grind (arith, nat_tests)) ne)
          | false ↦ λ t. refl
        ] refl) shut

    spare_same : (base image : ℕ → List ℕ) → ((k : ℕ) → spare f key base root slot k ≡ false → image k ≡ base k) → SameUsed f key root base image
    spare_same base image same k used = same k (not_spare base k used)

    pub spare_holds : (m : Moment) (c : CrashImage) → IsMounted f key root h m → gate_open (m.reads (gate_at slot)) ≡ false
        → LeavesBase (spare f key m.reads root slot) m.reads h.sequence h.sequence c → held_of f key c ≡ Some h
    spare_holds m c mounted shut leaves =
        let counter : c.counter ≡ h.sequence = omega (arith, leaves.least, leaves.greatest) in
        held_before root h m c.image c.counter mounted
        (ap (opening_of f.known key c.image) counter ∙ spare_opens m.reads c.image shut leaves.image)
        (spare_same m.reads c.image leaves.image)

    -- once the gate is shut
    pub mounted_shut : (old new : View) → h.sequence < 2 ^ 64 → IsMounted f key root h old.state → RunsOver (shut_writes slot old.state.reads) old.state.reads h.sequence h.sequence old new
        → SyncedBut (gate_at slot) old.state new.state → IsMounted f key root h new.state
    unfolding rest_outcome
    mounted_shut old new fits mounted run synced =
        let rests : Rests h.sequence new.state = record {
          as_read = synced.as_read;
          pending = synced.pending;
          counter = synced.counter ∙ mounted.rests.counter;
          slack = synced.slack ∙ mounted.rests.slack;
        } in
        let left : LeavesBase (shut_writes slot old.state.reads) old.state.reads h.sequence h.sequence (rest_outcome new.state h.sequence)
        = run.leaves.each (rest_outcome new.state h.sequence) (inl (rest_left new.state h.sequence rests fits)) in
        mounted_same root h old.state new.state mounted rests
        (shut_opens f.known key old.state.reads new.state.reads h.sequence slot below_two left.image (counts_elsewhere f h.sequence slot root _ is_slot mounted.opens))
        (shut_same old.state.reads new.state.reads left.image)

    -- once the header is laid
    pub mounted_laid : (mid wrote laid : View) → IsMounted f key root h mid.state → gate_open (mid.state.reads (gate_at slot)) ≡ false
        → RunsOver (spare f key mid.state.reads root slot) mid.state.reads h.sequence h.sequence mid wrote
        → RunsOver (spare f key mid.state.reads root slot) mid.state.reads h.sequence h.sequence mid laid
        → SyncedBut (header_at slot) wrote.state laid.state → IsMounted f key root h laid.state
    mounted_laid mid wrote laid mounted shut run run' synced =
        let rests : Rests h.sequence laid.state = record {
          as_read = synced.as_read;
          pending = synced.pending;
          counter = omega (arith, synced.counter, run.now.least, run.now.greatest);
          slack = omega (arith, synced.slack, run.now.least, run.now.greatest);
        } in
        mounted_same root h mid.state laid.state mounted rests
        (spare_opens mid.state.reads laid.state.reads shut run'.now.reads)
        (spare_same mid.state.reads laid.state.reads run'.now.reads)

    pub is_laid : (mid laid : View) (header : Header) → IsMounted f key root h laid.state → gate_open (mid.state.reads (gate_at slot)) ≡ false
        → RunsOver (spare f key mid.state.reads root slot) mid.state.reads h.sequence h.sequence mid laid
        → header_slot key slot (laid.state.reads (header_at slot)) ≡ Good header → header.version ≡ f.version → header.sequence ≡ h.sequence + 1
        → IsLaid f.known key slot h.sequence header laid.state
    is_laid mid laid header mounted shut run good known next =
        let low : gate_at slot < 4 = (let b : slot < 2 = below_two in omega arith) in
        let gate : laid.state.reads (gate_at slot) ≡ mid.state.reads (gate_at slot)
        = run.now.reads (gate_at slot) (low_spare mid.state.reads (gate_at slot) low (λ e. absurd (omega arith))) in
        record {
          rests = mounted.rests;
          current = is_current f h.sequence root _ mounted.opens;
          gate = ap gate_open gate ∙ shut;
          good = good;
          accepted = ap f.known known ∙ framed.accepted;
          next = next;
        }

    -- a block that a root uses is no gate and no header
    pub used_other : (root' : Root) (base image : ℕ → List ℕ) (at : ℕ) → at < 4 → ((k : ℕ) → k ≢ at → image k ≡ base k) → SameUsed f key root' base image
    used_other root' base image at low same k used = same k (λ e. absurd (let far : 4 ≤ k = used_behind root' base k used in omega arith))

    -- within the opening of the gate
    pub flip_holds : (m : Moment) (c : CrashImage) (header : Header) (leaves : ℕ → ℕ → List ℕ) → header.version ≡ f.version → IsMounted f key root h m
        → IsLaid f.known key slot h.sequence header m → IsWritten f key (root_of header) leaves m.reads → LeavesFlip slot m.reads h.sequence c
        → BeforeOrAfter f key h (next_held f leaves h.sequence) c
    flip_holds m c header leaves kind mounted laid written left =
        let low : gate_at slot < 4 = (let b : slot < 2 = below_two in omega arith) in
        ⊎_elim
        (λ (e : opening_of f.known key c.image c.counter ≡ opening_of f.known key m.reads h.sequence).
        inl (held_before root h m c.image c.counter mounted e (used_other root m.reads c.image (gate_at slot) low left.elsewhere)))
        (λ (e : opening_of f.known key c.image c.counter ≡ Ok (Some (record { header = header; slot = slot }))).
        inr (held_after (root_of header) leaves h.sequence m.reads c.image c.counter (record { header = header; slot = slot }) e (laid.next, is_slot, refl) kind written
        (used_other (root_of header) m.reads c.image (gate_at slot) low left.elsewhere)))
        (flip_opens f.known key slot h.sequence header m c below_two laid left)

    -- copies that were written stay so while a gate or a header is written
    pub written_same : (root' : Root) (leaves : ℕ → ℕ → List ℕ) (base image : ℕ → List ℕ) → IsWritten f key root' leaves base → SameUsed f key root' base image
        → IsWritten f key root' leaves image
    written_same root' leaves base image written same = record {
      sealed = sealed_same root' base image same ∙ written.sealed;
      leaves_are = leaves_same root' base image same ∙ written.leaves_are;
    }

    -- once the counter is advanced
    pub mounted_flipped : (m : ℕ) (old new : Moment) (header : Header) (leaves : ℕ → ℕ → List ℕ) → header.version ≡ f.version → IsLaid f.known key slot h.sequence header old
        → IsWritten f key (root_of header) leaves old.reads → IsFlipped slot m old new
        → opening_of f.known key new.reads m ≡ Ok (Some (record { header = header; slot = slot }))
        → IsMounted f key (root_of header) (next_held f leaves h.sequence) new
    mounted_flipped m old new header leaves kind laid written flipped e =
        let next : m ≡ h.sequence + 1 = omega (arith, flipped.positive, flipped.among.least, flipped.among.greatest, laid.rests.counter, laid.rests.slack) in
        let low : gate_at slot < 4 = (let b : slot < 2 = below_two in omega arith) in
        let now : IsWritten f key (root_of header) leaves new.reads
        = written_same (root_of header) leaves old.reads new.reads written (used_other (root_of header) old.reads new.reads (gate_at slot) low flipped.elsewhere) in
        let at : opening_of f.known key new.reads (h.sequence + 1) ≡ Ok (Some (record { header = header; slot = slot }))
        = ap (opening_of f.known key new.reads) (sym next) ∙ e in
        record {
          rests = subst (λ (n : ℕ). Rests n new) next flipped.rests;
          opens = subst (OpensTo f (h.sequence + 1) (root_of header)) (sym at) (laid.next, is_slot, refl);
          sealed = now.sealed;
          leaves = sym now.leaves_are;
          version = sym kind;
        }

    module _ (after : Held) where
      pub crash_shut : (old new : View) → IsMounted f key root h old.state → RunsOver (shut_writes slot old.state.reads) old.state.reads h.sequence h.sequence old new
          → LeavesOnly moment left_since old new (BeforeOrAfter f key h after)
      crash_shut old new mounted run =
          weaker moment left_since old new (LeavesBase (shut_writes slot old.state.reads) old.state.reads h.sequence h.sequence) (BeforeOrAfter f key h after)
          (λ c left. inl (shut_holds old.state c mounted left)) run.leaves

      pub crash_spare : (old mid new : View) → LeavesOnly moment left_since old mid (BeforeOrAfter f key h after) → IsMounted f key root h mid.state
          → gate_open (mid.state.reads (gate_at slot)) ≡ false
          → RunsOver (spare f key mid.state.reads root slot) mid.state.reads h.sequence h.sequence mid new
          → LeavesOnly moment left_since old new (BeforeOrAfter f key h after)
      crash_spare old mid new first mounted shut run =
          joined moment left_since old mid new (BeforeOrAfter f key h after) first
          (weaker moment left_since mid new (LeavesBase (spare f key mid.state.reads root slot) mid.state.reads h.sequence h.sequence) (BeforeOrAfter f key h after)
          (λ c left. inl (spare_holds mid.state c mounted shut left)) run.leaves)

    pub crash_flip : (leaves : ℕ → ℕ → List ℕ) (old laid new : View) (header : Header) → header.version ≡ f.version
        → LeavesOnly moment left_since old laid (BeforeOrAfter f key h (next_held f leaves h.sequence))
        → IsMounted f key root h laid.state → IsLaid f.known key slot h.sequence header laid.state → IsWritten f key (root_of header) leaves laid.state.reads
        → LeavesOnly moment left_since laid new (LeavesFlip slot laid.state.reads h.sequence)
        → LeavesOnly moment left_since old new (BeforeOrAfter f key h (next_held f leaves h.sequence))
    crash_flip leaves old laid new header kind first mounted is written run =
        joined moment left_since old laid new (BeforeOrAfter f key h (next_held f leaves h.sequence)) first
        (weaker moment left_since laid new (LeavesFlip slot laid.state.reads h.sequence) (BeforeOrAfter f key h (next_held f leaves h.sequence))
        (λ c left. flip_holds laid.state c header leaves kind mounted is written left) run)

    -- the run of the writing, where the board's key is spelled otherwise
    pub spare_run : (key' : List ℕ) (mid new : View) → key' ≡ key → IsMounted f key root h mid.state
        → (RunsOver (spare f key' mid.state.reads root slot) mid.state.reads h.sequence h.sequence mid mid
        → RunsOver (spare f key' mid.state.reads root slot) mid.state.reads h.sequence h.sequence mid new)
        → RunsOver (spare f key mid.state.reads root slot) mid.state.reads h.sequence h.sequence mid new
    spare_run key' mid new same mounted run =
        subst (λ (k : List ℕ). RunsOver (spare f k mid.state.reads root slot) mid.state.reads h.sequence h.sequence mid new) same
        (run (rest_starts h.sequence mid mounted.rests (spare f key' mid.state.reads root slot)))

    -- the header's block is spare
    pub header_spare : (base : ℕ → List ℕ) (at : ℕ) → at ≡ header_at slot → spare f key base root slot at ≡ true
    header_spare base at is = rw (is, is_itself (header_at slot)) refl

    -- the leaves under the root in use, while what it doesn't use changes
    pub kept_shut : (old new : Moment) → IsMounted f key root h old → ((k : ℕ) → k ≢ gate_at slot → new.reads k ≡ old.reads k) → leaves_of f key new.reads root ≡ h.leaves
    kept_shut old new mounted same =
        let low : gate_at slot < 4 = (let b : slot < 2 = below_two in omega arith) in
        leaves_same root old.reads new.reads (used_other root old.reads new.reads (gate_at slot) low same) ∙ sym mounted.leaves

    pub kept_spare : (mid new : View) → IsMounted f key root h mid.state → RunsOver (spare f key mid.state.reads root slot) mid.state.reads h.sequence h.sequence mid new
        → leaves_of f key new.state.reads root ≡ h.leaves
    kept_spare mid new mounted run =
        leaves_same root mid.state.reads new.state.reads (spare_same mid.state.reads new.state.reads run.now.reads) ∙ sym mounted.leaves

    -- the blocks in use once the gate is shut
    pub used_shut : (old new : Moment) → SyncedBut (gate_at slot) old new → SameUsed f key root old.reads new.reads
    used_shut old new synced =
        let low : gate_at slot < 4 = (let b : slot < 2 = below_two in omega arith) in
        used_other root old.reads new.reads (gate_at slot) low synced.elsewhere

    -- what was written stays while the header is laid and the gate opened
    pub written_laid : (leaves : ℕ → ℕ → List ℕ) (root' : Root) (wrote laid : Moment) → IsWritten f key root' leaves wrote.reads
        → SyncedBut (header_at slot) wrote laid → IsWritten f key root' leaves laid.reads
    written_laid leaves root' wrote laid written synced =
        let low : header_at slot < 4 = (let b : slot < 2 = below_two in omega arith) in
        written_same root' leaves wrote.reads laid.reads written (used_other root' wrote.reads laid.reads (header_at slot) low synced.elsewhere)

    pub used_laid : (root' : Root) (wrote laid : Moment) → SyncedBut (header_at slot) wrote laid → SameUsed f key root' wrote.reads laid.reads
    used_laid root' wrote laid synced =
        let low : header_at slot < 4 = (let b : slot < 2 = below_two in omega arith) in
        used_other root' wrote.reads laid.reads (header_at slot) low synced.elsewhere

    pub used_flipped : (m : ℕ) (root' : Root) (old new : Moment) → IsFlipped slot m old new → SameUsed f key root' old.reads new.reads
    used_flipped m root' old new flipped =
        let low : gate_at slot < 4 = (let b : slot < 2 = below_two in omega arith) in
        used_other root' old.reads new.reads (gate_at slot) low flipped.elsewhere

    pub kept_flip : (laid new : Moment) → IsMounted f key root h laid → ((k : ℕ) → k ≢ gate_at slot → new.reads k ≡ laid.reads k) → leaves_of f key new.reads root ≡ h.leaves
    kept_flip laid new mounted same = kept_shut laid new mounted same

    -- the blocks of the root in use, while what it doesn't use changes
    pub steady_shut : (old new : View) → RunsOver (shut_writes slot old.state.reads) old.state.reads h.sequence h.sequence old new → IsSteady f key root new.state
    steady_shut old new run = record {
      base = old.state.reads;
      same = λ k used. run.now.reads k (no_gate old.state.reads old.state.reads k used);
      pending = λ k used. run.now.pending k (no_gate old.state.reads old.state.reads k used);
    }

    pub steady_spare : (mid new : View) → RunsOver (spare f key mid.state.reads root slot) mid.state.reads h.sequence h.sequence mid new → IsSteady f key root new.state
    steady_spare mid new run = record {
      base = mid.state.reads;
      same = λ k used. run.now.reads k (not_spare mid.state.reads k used);
      pending = λ k used. run.now.pending k (not_spare mid.state.reads k used);
    }

    pub steady_flip : (laid new : Moment) → IsMounted f key root h laid → ((k : ℕ) → k ≢ gate_at slot → new.reads k ≡ laid.reads k)
        → ((k : ℕ) → k ≢ gate_at slot → laid.pending k ≡ false → new.pending k ≡ false) → IsSteady f key root new
    steady_flip laid new mounted same settled =
        let low : gate_at slot < 4 = (let b : slot < 2 = below_two in omega arith) in
        record {
          base = laid.reads;
          same = used_other root laid.reads new.reads (gate_at slot) low same;
          pending = λ k used. settled k (λ e. absurd (let far : 4 ≤ k = used_behind root laid.reads k used in omega arith)) (mounted.rests.pending k);
        }

    -- the run of the laying
    pub lay_run : (mid wrote laid : View) (at : ℕ) → RunsOver (spare f key mid.state.reads root slot) mid.state.reads h.sequence h.sequence mid wrote → at ≡ header_at slot
        → ((open_at : ℕ → Bool) (base : ℕ → List ℕ) (low high : ℕ) (first : View) → open_at at ≡ true → RunsOver open_at base low high first wrote → RunsOver open_at base low high first laid)
        → RunsOver (spare f key mid.state.reads root slot) mid.state.reads h.sequence h.sequence mid laid
    lay_run mid wrote laid at run is goes =
        goes (spare f key mid.state.reads root slot) mid.state.reads h.sequence h.sequence mid (header_spare mid.state.reads at is) run

    pub synced_at : (s : ℕ) (old new : Moment) → s ≡ slot → SyncedBut (header_at s) old new → SyncedBut (header_at slot) old new
    synced_at s old new is synced = subst (λ (t : ℕ). SyncedBut (header_at t) old new) is synced

    pub good_at : (s : ℕ) (key' : List ℕ) (reads : ℕ → List ℕ) (header : Header) → s ≡ slot → key' ≡ key → header_slot key' s (reads (header_at s)) ≡ Good header
        → header_slot key slot (reads (header_at slot)) ≡ Good header
    good_at s key' reads header is same good =
        subst (λ (k : List ℕ). header_slot k slot (reads (header_at slot)) ≡ Good header) same
        (subst (λ (t : ℕ). header_slot key' t (reads (header_at t)) ≡ Good header) is good)

    -- what the writing leaves, where the board's key is spelled otherwise
    pub written_mid : (After : (ℕ → ℕ → List ℕ) → ℕ → ℕ → List ℕ) (key' : List ℕ) (mid wrote : Moment) (root' : Root) → key' ≡ key → IsMounted f key root h mid
        → (is_sealed f key' mid.reads root ≡ true → IsWritten f key' root' (After (leaves_of f key' mid.reads root)) wrote.reads)
        → IsWritten f key root' (After h.leaves) wrote.reads
    written_mid After key' mid wrote root' same mounted written =
        let at : is_sealed f key mid.reads root ≡ true → IsWritten f key root' (After (leaves_of f key mid.reads root)) wrote.reads
        = subst (λ (k : List ℕ). is_sealed f k mid.reads root ≡ true → IsWritten f k root' (After (leaves_of f k mid.reads root)) wrote.reads) same written in
        subst (λ (leaves : ℕ → ℕ → List ℕ). IsWritten f key root' (After leaves) wrote.reads) (sym mounted.leaves) (at mounted.sealed)

    pub opened_under : (key' : List ℕ) (m : ℕ) (laid new : Moment) (header : Header) → key' ≡ key → IsLaid f.known key slot h.sequence header laid
        → ((knows : ℕ → Bool) (n : ℕ) (header : Header) → IsLaid knows key' slot n header laid → opening_of knows key' new.reads m ≡ Ok (Some (record { header = header; slot = slot })))
        → opening_of f.known key new.reads m ≡ Ok (Some (record { header = header; slot = slot }))
    opened_under key' m laid new header same is opens =
        subst (λ (k : List ℕ). IsLaid f.known k slot h.sequence header laid → opening_of f.known k new.reads m ≡ Ok (Some (record { header = header; slot = slot }))) same
        (opens f.known h.sequence header) is

    pub used_done : (m : ℕ) (root' : Root) (wrote laid new : Moment) → SyncedBut (header_at slot) wrote laid → IsFlipped slot m laid new → SameUsed f key root' wrote.reads new.reads
    used_done m root' wrote laid new synced flipped k used =
        let far : 4 ≤ k = used_behind root' wrote.reads k used in
        let b : slot < 2 = below_two in
        flipped.elsewhere k (λ e. absurd (omega arith)) ∙ synced.elsewhere k (λ e. absurd (omega arith))

-- a fact of a key and reads, under another spelling of the key
pub under_key : (Fits : List ℕ → (ℕ → List ℕ) → Type 0) (key key' : List ℕ) (reads : ℕ → List ℕ) → key' ≡ key → Fits key reads → Fits key' reads
under_key Fits key key' reads same fits = subst (λ (k : List ℕ). Fits k reads) (sym same) fits

-- what has no damage is none
pub none_is : {A : Type 0} (o : Option A) → is_none o ≡ true → o ≡ None
none_is None e = refl
none_is (Some a) e = absurd (let f : false ≡ true = e in cc)

-- each leaf under a root that seals it has no damage
pub sealed_each : (f : Form) (key : List ℕ) (root : Root) (image : ℕ → List ℕ) → is_sealed f key image root ≡ true
    → (r l : ℕ) → r < MAX_HOSTS → l < f.leaves → f.damage key image root r l ≡ None
unfolding is_sealed
sealed_each f key root image sealed r l hr hl =
    let tags = first_true (all_below MAX_HOSTS (λ r. all_below f.leaves (λ l. is_none (f.damage key image root r l)))) (f.sound key image root) sealed in
    none_is (f.damage key image root r l)
    (all_below_each f.leaves (λ l. is_none (f.damage key image root r l)) (all_below_each MAX_HOSTS (λ r. all_below f.leaves (λ l. is_none (f.damage key image root r l))) tags r hr) l hl)

-- a fact that holds whatever is answered
pub on_err : {A E : Type 0} (r : Result A E) (P : Type 0) → P → OnErr r P
on_err (Ok a) P p = tt
on_err (Err e) P p = p

-- what is no Ok has no value
pub never_ok : {A E : Type 0} (r : Result A E) (P : A → Type 0) → IsErr r → IfOk r P
never_ok (Ok a) P fails = absurd (false≢true fails)
never_ok (Err e) P fails = tt
