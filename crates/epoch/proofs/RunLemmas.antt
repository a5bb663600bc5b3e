-- How a run is carried on over the calls of a step, and what a crash within it leaves.
use Rattle.std.proofs.Common.{◌≡◌, ◌≢◌, ◌≤◌, ◌<◌, ◌+◌, ◌⊎◌, ◌==◌, ◌∙◌, ℕ, Bool, true, false, List, Some, Result, Ok, Err, IfOk, OnOk, is_ok, replicate, refl, sym, ap, subst, inl, inr, ⊎_elim, arith}
use Rattle.std.proofs.lemmas.Bool.{cases_lt}
use Rattle.tee_base.specs.Crash.{LeavesOnly}
use Rattle.tee_base.proofs.Crash.{weaker}
use Rattle.board.specs.declared.BoardFailed.{BoardFailed}
use Rattle.board.specs.declared.TheConstants.{BLOCK}
use Rattle.board.specs.Moment.{CrashImage, Moment, View, IsLeft, moment, left_since}
use Rattle.board.specs.Steps.{Answered, Unchanged, Wrote, Synced, Counted, Advanced}
use Rattle.board.specs.Runs.{LeavesBase, RunsOver, Rests}
use Rattle.board.proofs.Runs.{goes_on, run_starts, run_goes_on, base-unchanged, base-wrote, base-synced, base-counted, rests_base}
use Rattle.epoch.specs.Gates.{gate_at, header_at, gate_open, shut_gate}
use Rattle.epoch.specs.Opening.{opening_of}
use Rattle.epoch.specs.Steps.{SyncedBut, IsFlipped, LeavesFlip, CountsElsewhere, IsLaid, shut_writes, outcome_opening}
use Rattle.epoch.specs.declared.gates.TheConstants.{OPEN_GATE, SHUT_GATE}
use Rattle.epoch.specs.declared.header.Header.{Header}
use Rattle.epoch.proofs.StageLemmas.{shut_opens, lay_opens, flip_opens, flip_open}

module _ (open_at : ℕ → Bool) (base : ℕ → List ℕ) (low high : ℕ) (first old new : View) (run : RunsOver open_at base low high first old) (answered : Answered old new) where
  pub over_read : Unchanged old.state new.state → RunsOver open_at base low high first new
  over_read same = run_goes_on open_at base low high first old new run answered.time (base-unchanged open_at base low high old.state new.state run.now same)

  pub over_write : (block : ℕ) (bytes : List ℕ) (ok : Bool) → open_at block ≡ true → Wrote block bytes ok old.state new.state → RunsOver open_at base low high first new
  over_write block bytes ok opened wrote = run_goes_on open_at base low high first old new run answered.time (base-wrote open_at base low high old.state new.state run.now block bytes ok opened wrote)

  pub over_sync : (ok : Bool) → Synced ok old.state new.state → RunsOver open_at base low high first new
  over_sync ok synced = run_goes_on open_at base low high first old new run answered.time (base-synced open_at base low high old.state new.state run.now ok synced)

  pub over_counter : (result : Result ℕ BoardFailed) → Counted result old.state new.state → RunsOver open_at base low high first new
  over_counter result counted = run_goes_on open_at base low high first old new run answered.time (base-counted open_at base low high old.state new.state run.now result counted)

-- a board at rest begins a run over what it reads
pub rest_starts : (n : ℕ) (v : View) → Rests n v.state → (open_at : ℕ → Bool) → RunsOver open_at v.state.reads n n v v
rest_starts n v rests open_at = run_starts open_at v.state.reads n n v (rests_base n v.state rests open_at)

-- a number that is another isn't told apart from it
differs : (k at : ℕ) → k ≢ at → (k == at) ≡ false
differs k at ne = grind arith

pub is_itself : (k : ℕ) → (k == k) ≡ true
is_itself k = grind arith

module _ (knows : ℕ → Bool) (n slot : ℕ) (old new : View) (below : slot < 2) where
  pub shut_crash : CountsElsewhere slot (opening_of knows old.key old.state.reads n)
      → RunsOver (shut_writes slot old.state.reads) old.state.reads n n old new
      → LeavesOnly moment left_since old new (λ c. outcome_opening knows old.key c ≡ opening_of knows old.key old.state.reads n)
  shut_crash other run =
      weaker moment left_since old new (LeavesBase (shut_writes slot old.state.reads) old.state.reads n n) (λ c. outcome_opening knows old.key c ≡ opening_of knows old.key old.state.reads n)
      (λ c leaves. let same : c.counter ≡ n = omega (arith, leaves.least, leaves.greatest) in
      ap (λ (k : ℕ). opening_of knows old.key c.image k) same ∙ shut_opens knows old.key old.state.reads c.image n slot below leaves.image other)
      run.leaves

  pub lay_crash : gate_open (old.state.reads (gate_at slot)) ≡ false → RunsOver (λ k. k == header_at slot) old.state.reads n n old new
      → LeavesOnly moment left_since old new (λ c. outcome_opening knows old.key c ≡ opening_of knows old.key old.state.reads n)
  lay_crash shut run =
      weaker moment left_since old new (LeavesBase (λ k. k == header_at slot) old.state.reads n n) (λ c. outcome_opening knows old.key c ≡ opening_of knows old.key old.state.reads n)
      (λ c leaves. let same : c.counter ≡ n = omega (arith, leaves.least, leaves.greatest) in
      ap (λ (k : ℕ). opening_of knows old.key c.image k) same ∙ lay_opens knows old.key old.state.reads c.image n slot below (λ k ne. leaves.image k (differs k (header_at slot) ne)) shut)
      run.leaves

  pub flip_crash : (header : Header) → IsLaid knows old.key slot n header old.state
      → LeavesOnly moment left_since old new (LeavesFlip slot old.state.reads n)
      → LeavesOnly moment left_since old new (λ c. (outcome_opening knows old.key c ≡ opening_of knows old.key old.state.reads n) ⊎
      (outcome_opening knows old.key c ≡ Ok (Some (record { header = header; slot = slot }))))
  flip_crash header laid run =
      weaker moment left_since old new (LeavesFlip slot old.state.reads n)
      (λ c. (outcome_opening knows old.key c ≡ opening_of knows old.key old.state.reads n) ⊎ (outcome_opening knows old.key c ≡ Ok (Some (record { header = header; slot = slot }))))
      (λ c leaves. flip_opens knows old.key slot n header old.state c below laid leaves)
      run

-- before the counter is advanced a flip changes the gate alone
pub flip_before : (slot n : ℕ) (old new : View) → RunsOver (λ k. k == gate_at slot) old.state.reads n n old new → LeavesOnly moment left_since old new (LeavesFlip slot old.state.reads n)
flip_before slot n old new run =
    weaker moment left_since old new (LeavesBase (λ k. k == gate_at slot) old.state.reads n n) (LeavesFlip slot old.state.reads n)
    (λ c leaves. record { elsewhere = λ k ne. leaves.image k (differs k (gate_at slot) ne); counter = inl (omega (arith, leaves.least, leaves.greatest)) })
    run.leaves

-- what a flip has written is durable, and the counter is n
pub record IsReady (slot n : ℕ) (base : ℕ → List ℕ) (m : Moment) : Type 0 where
  pub elsewhere : (k : ℕ) → k ≢ gate_at slot → m.reads k ≡ base k
  pub gate : gate_open (m.reads (gate_at slot)) ≡ true
  pub as_read : (k : ℕ) → m.reads k ≡ m.durable k
  pub pending : (k : ℕ) → m.pending k ≡ false
  pub counter : m.counter ≡ n
  pub slack : m.slack ≡ 0

-- after a write of the gate and a sync
pub ready : (slot n : ℕ) (gate : List ℕ) (old mid new : Moment) → Rests n old → Wrote (gate_at slot) gate true old mid → Synced true mid new → gate_open gate ≡ true → IsReady slot n old.reads new
ready slot n gate old mid new rests wrote synced opened = record {
  elsewhere = λ k ne. ap (λ (f : ℕ → List ℕ). f k) synced.reads ∙ wrote.elsewhere k ne;
  gate = ap gate_open (ap (λ (f : ℕ → List ℕ). f (gate_at slot)) synced.reads ∙ wrote.here refl) ∙ opened;
  as_read = λ k. ap (λ (f : ℕ → List ℕ). f k) synced.reads ∙ sym (synced.durable refl k);
  pending = λ k. synced.settled refl k;
  counter = synced.counter ∙ wrote.counter ∙ rests.counter;
  slack = synced.slack ∙ wrote.slack ∙ rests.slack;
}

-- what a crash leaves after the advance
leaves_after : (slot n : ℕ) (base : ℕ → List ℕ) (old new : Moment) (result : Result ℕ BoardFailed) (c : CrashImage) → IsReady slot n base old
    → Advanced result old new → IsLeft new c → (n ≤ c.counter) → (c.counter ≤ n + 1) → LeavesFlip slot base n c
leaves_after slot n base old new result c is advanced left low high =
    let image : (k : ℕ) → c.image k ≡ old.reads k
    = λ k. left.kept k (ap (λ (f : ℕ → Bool). f k) advanced.blocks.pending ∙ is.pending k) ∙ ap (λ (f : ℕ → List ℕ). f k) advanced.blocks.durable ∙ sym (is.as_read k) in
    record {
      elsewhere = λ k ne. image k ∙ is.elsewhere k ne;
      counter = ⊎_elim
          (λ (h : c.counter < n + 1). inl (omega (arith, h, low)))
          (λ (h : n + 1 ≤ c.counter). inr (omega (arith, h, high), ap gate_open (image (gate_at slot)) ∙ is.gate))
          (cases_lt c.counter (n + 1));
    }

-- the advance that ends a flip
pub flip_after : (slot n : ℕ) (base : ℕ → List ℕ) (first old new : View) (result : Result ℕ BoardFailed) → IsReady slot n base old.state
    → LeavesOnly moment left_since first old (LeavesFlip slot base n) → Answered old new → Advanced result old.state new.state
    → LeavesOnly moment left_since first new (LeavesFlip slot base n)
flip_after slot n base first old new (Ok m) is run answered advanced =
    goes_on first old new (LeavesFlip slot base n) run answered.time
    (λ c left. let raised = advanced.counter in
    leaves_after slot n base old.state new.state (Ok m) c is advanced left
    (omega (arith, left.counter.least, raised.counter, raised.positive, raised.among.least, is.counter))
    (omega (arith, left.counter.greatest, raised.counter, raised.slack, raised.positive, raised.among.greatest, is.counter, is.slack)))
flip_after slot n base first old new (Err e) is run answered advanced =
    goes_on first old new (LeavesFlip slot base n) run answered.time
    (λ c left. let failed = advanced.counter in
    leaves_after slot n base old.state new.state (Err e) c is advanced left
    (omega (arith, left.counter.least, failed.0, is.counter))
    (omega (arith, left.counter.greatest, failed.0, failed.1, is.counter, is.slack)))

-- a flip that is done opens to the header that was laid
pub flip_opened : (knows : ℕ → Bool) (key : List ℕ) (slot n m : ℕ) (header : Header) (old new : Moment) → slot < 2 → IsLaid knows key slot n header old
    → IsFlipped slot m old new → opening_of knows key new.reads m ≡ Ok (Some (record { header = header; slot = slot }))
flip_opened knows key slot n m header old new below laid flipped =
    let next : m ≡ n + 1 = omega (arith, flipped.positive, flipped.among.least, flipped.among.greatest, laid.rests.counter, laid.rests.slack) in
    flip_open knows key n header old new.reads m (omega (arith, next)) (omega (arith, next)) slot below laid flipped.elsewhere flipped.gate

-- after a write to a block and a sync
pub synced_write : (block : ℕ) (bytes : List ℕ) (old mid new : Moment) → Wrote block bytes true old mid → Synced true mid new → SyncedBut block old new
synced_write block bytes old mid new wrote synced = record {
  elsewhere = λ k ne. ap (λ (f : ℕ → List ℕ). f k) synced.reads ∙ wrote.elsewhere k ne;
  as_read = λ k. ap (λ (f : ℕ → List ℕ). f k) synced.reads ∙ sym (synced.durable refl k);
  pending = λ k. synced.settled refl k;
  counter = synced.counter ∙ wrote.counter;
  slack = synced.slack ∙ wrote.slack;
}

-- after a sync alone
pub synced_alone : (block : ℕ) (old mid new : Moment) → Unchanged old mid → Synced true mid new → SyncedBut block old new
synced_alone block old mid new same synced = record {
  elsewhere = λ k ne. ap (λ (f : ℕ → List ℕ). f k) synced.reads ∙ ap (λ (f : ℕ → List ℕ). f k) same.reads;
  as_read = λ k. ap (λ (f : ℕ → List ℕ). f k) synced.reads ∙ sym (synced.durable refl k);
  pending = λ k. synced.settled refl k;
  counter = synced.counter ∙ same.counter;
  slack = synced.slack ∙ same.slack;
}

-- an open gate is open
open_gate : gate_open OPEN_GATE ≡ true
unfolding gate_open
open_gate = refl

-- after the write of an open gate, a sync and an advance
flip_done : (slot m : ℕ) (start mid old new : Moment) → Wrote (gate_at slot) OPEN_GATE true start mid → Synced true mid old → Advanced (Ok m) old new → IsFlipped slot m start new
flip_done slot m start mid old new wrote synced advanced =
    let raised = advanced.counter in
    let but = synced_write (gate_at slot) OPEN_GATE start mid old wrote synced in
    record {
      positive = raised.positive;
      among = record {
        least = omega (arith, raised.among.least, but.counter);
        greatest = omega (arith, raised.among.greatest, but.counter, but.slack);
        fits = raised.among.fits;
      };
      rests = record {
        as_read = λ k. ap (λ (f : ℕ → List ℕ). f k) advanced.blocks.reads ∙ but.as_read k ∙ sym (ap (λ (f : ℕ → List ℕ). f k) advanced.blocks.durable);
        pending = λ k. ap (λ (f : ℕ → Bool). f k) advanced.blocks.pending ∙ but.pending k;
        counter = raised.counter;
        slack = raised.slack;
      };
      elsewhere = λ k ne. ap (λ (f : ℕ → List ℕ). f k) advanced.blocks.reads ∙ but.elsewhere k ne;
      gate = ap gate_open (ap (λ (f : ℕ → List ℕ). f (gate_at slot)) advanced.blocks.reads ∙ ap (λ (f : ℕ → List ℕ). f (gate_at slot)) synced.reads ∙ wrote.here refl) ∙ open_gate;
    }

-- what a flip answers
pub flip_answers : (slot block : ℕ) (start mid old new : Moment) (result : Result ℕ BoardFailed) → block ≡ gate_at slot
    → Wrote block OPEN_GATE true start mid → Synced true mid old → Advanced result old new → IfOk result (λ m. IsFlipped slot m start new)
flip_answers slot block start mid old new (Ok m) at wrote synced advanced =
    flip_done slot m start mid old new (subst (λ (b : ℕ). Wrote b OPEN_GATE true start mid) at wrote) synced advanced
flip_answers slot block start mid old new (Err e) at wrote synced advanced = tt

-- and what the board then opens to
pub opened_answers : (key : List ℕ) (slot : ℕ) (start new : Moment) (result : Result ℕ BoardFailed) → slot < 2
    → IfOk result (λ m. IsFlipped slot m start new)
    → IfOk result (λ m. (knows : ℕ → Bool) (n : ℕ) (header : Header) → IsLaid knows key slot n header start → opening_of knows key new.reads m ≡ Ok (Some (record { header = header; slot = slot })))
opened_answers key slot start new (Ok m) below flipped = λ knows n header laid. flip_opened knows key slot n m header start new below laid flipped
opened_answers key slot start new (Err e) below flipped = tt

-- the write of a flip
pub flip_wrote : (slot n block : ℕ) (ok : Bool) (old new : View) → Rests n old.state → block ≡ gate_at slot → Answered old new
    → Wrote block OPEN_GATE ok old.state new.state → RunsOver (λ k. k == gate_at slot) old.state.reads n n old new
flip_wrote slot n block ok old new rests at answered wrote =
    over_write (λ k. k == gate_at slot) old.state.reads n n old old new (rest_starts n old rests (λ k. k == gate_at slot)) answered block OPEN_GATE ok (rw at (is_itself (gate_at slot))) wrote

-- and its advance, which tells the whole run
pub flip_advanced : (slot n block : ℕ) (start mid old new : View) (result : Result ℕ BoardFailed) → Rests n start.state → block ≡ gate_at slot
    → Answered start mid → Wrote block OPEN_GATE true start.state mid.state → Answered mid old → Synced true mid.state old.state → Answered old new
    → Advanced result old.state new.state → LeavesOnly moment left_since start new (LeavesFlip slot start.state.reads n)
flip_advanced slot n block start mid old new result rests at one wrote two synced three advanced =
    let written = flip_wrote slot n block true start mid rests at one wrote in
    let at_rest = over_sync (λ k. k == gate_at slot) start.state.reads n n start mid old written two true synced in
    flip_after slot n start.state.reads start old new result (ready slot n OPEN_GATE start.state mid.state old.state rests
    (subst (λ (b : ℕ). Wrote b OPEN_GATE true start.state mid.state) at wrote) synced open_gate) (flip_before slot n start old at_rest) three advanced

-- a gate that was shut isn't open, and is zeros
not_open : gate_open SHUT_GATE ≡ false
unfolding gate_open
not_open = refl

all_zeros : SHUT_GATE ≡ replicate BLOCK 0
all_zeros = refl

-- what the code reads of a gate
pub gate_was : (block at : ℕ) (reads : ℕ → List ℕ) (gate : List ℕ) (result told : Bool) → block ≡ at → gate ≡ reads block → result ≡ gate_open gate → result ≡ told → gate_open (reads at) ≡ told
gate_was block at reads gate result told same read tested is = ap gate_open (ap reads (sym same) ∙ sym read) ∙ sym tested ∙ is

pub shut_itself : (slot : ℕ) (base : ℕ → List ℕ) → gate_open (base (gate_at slot)) ≡ true → shut_writes slot base (gate_at slot) ≡ true
shut_itself slot base opened = rw (is_itself (gate_at slot), opened) refl

-- what shutting an open gate answers
pub shut_answers : {A : Type 0} (slot block : ℕ) (start mid old new : Moment) (result : Result A BoardFailed) → block ≡ gate_at slot
    → Unchanged start mid → Wrote block SHUT_GATE true mid old → Synced (is_ok result) old new
    → OnOk result (SyncedBut (gate_at slot) start new × gate_open (new.reads (gate_at slot)) ≡ false)
shut_answers slot block start mid old new (Ok done) at same wrote synced =
    let here : Wrote (gate_at slot) SHUT_GATE true mid old = subst (λ (b : ℕ). Wrote b SHUT_GATE true mid old) at wrote in
    let but : SyncedBut (gate_at slot) mid new = synced_write (gate_at slot) SHUT_GATE mid old new here synced in (
      record {
        elsewhere = λ k ne. but.elsewhere k ne ∙ ap (λ (f : ℕ → List ℕ). f k) same.reads;
        as_read = but.as_read;
        pending = but.pending;
        counter = but.counter ∙ same.counter;
        slack = but.slack ∙ same.slack;
      },
      ap gate_open (ap (λ (f : ℕ → List ℕ). f (gate_at slot)) synced.reads ∙ here.here refl) ∙ not_open,
    )
shut_answers slot block start mid old new (Err e) at same wrote synced = tt

-- and what then stands in its block
pub zeros_answers : {A : Type 0} (slot block : ℕ) (start mid old new : Moment) (result : Result A BoardFailed) → block ≡ gate_at slot
    → gate_open (start.reads (gate_at slot)) ≡ true → Wrote block SHUT_GATE true mid old → Synced (is_ok result) old new
    → OnOk result (new.reads (gate_at slot) ≡ shut_gate (start.reads (gate_at slot)))
zeros_answers slot block start mid old new (Ok done) at opened wrote synced =
    let here : Wrote (gate_at slot) SHUT_GATE true mid old = subst (λ (b : ℕ). Wrote b SHUT_GATE true mid old) at wrote in
    let zeros : new.reads (gate_at slot) ≡ replicate BLOCK 0 = ap (λ (f : ℕ → List ℕ). f (gate_at slot)) synced.reads ∙ here.here refl ∙ all_zeros in
    rw opened zeros
zeros_answers slot block start mid old new (Err e) at opened wrote synced = tt

-- a gate that wasn't open stays as it was
pub still_answers : {A : Type 0} (slot : ℕ) (start mid new : Moment) (result : Result A BoardFailed) → gate_open (start.reads (gate_at slot)) ≡ false
    → Unchanged start mid → Synced (is_ok result) mid new → OnOk result (new.reads (gate_at slot) ≡ shut_gate (start.reads (gate_at slot)))
still_answers slot start mid new (Ok done) shut same synced =
    let still : new.reads (gate_at slot) ≡ start.reads (gate_at slot)
    = ap (λ (f : ℕ → List ℕ). f (gate_at slot)) synced.reads ∙ ap (λ (f : ℕ → List ℕ). f (gate_at slot)) same.reads in
    rw shut still
still_answers slot start mid new (Err e) shut same synced = tt

-- what laying a header answers: what is said of its block, P, holds of what reads give
pub lay_answers : {A : Type 0} (slot block : ℕ) (bytes : List ℕ) (start mid new : Moment) (result : Result A BoardFailed) (P : List ℕ → Type 0)
    → block ≡ header_at slot → Wrote block bytes true start mid → Synced (is_ok result) mid new → P bytes
    → OnOk result (SyncedBut (header_at slot) start new × P (new.reads (header_at slot)))
lay_answers slot block bytes start mid new (Ok done) P at wrote synced is =
    let here : Wrote (header_at slot) bytes true start mid = subst (λ (b : ℕ). Wrote b bytes true start mid) at wrote in
    (synced_write (header_at slot) bytes start mid new here synced, subst P (sym (ap (λ (f : ℕ → List ℕ). f (header_at slot)) synced.reads ∙ here.here refl)) is)
lay_answers slot block bytes start mid new (Err e) P at wrote synced is = tt

pub lay_holds : {A : Type 0} (slot block : ℕ) (bytes : List ℕ) (start mid new : Moment) (result : Result A BoardFailed) (P : List ℕ → Type 0)
    → block ≡ header_at slot → Wrote block bytes true start mid → Synced (is_ok result) mid new → P bytes → OnOk result (P (new.reads (header_at slot)))
lay_holds slot block bytes start mid new (Ok done) P at wrote synced is = (lay_answers slot block bytes start mid new (Ok done) P at wrote synced is).1
lay_holds slot block bytes start mid new (Err e) P at wrote synced is = tt
