-- What a commit has come to after each of its calls, and what it leaves where one fails, from the promises of those calls.
use Rattle.std.proofs.Common.{◌≡◌, ◌≢◌, ◌<◌, ◌+◌, ◌^◌, ◌%◌, ◌∙◌, ℕ, Bool, true, false, List, Some, Ok, sym, ap, subst, arith}
use Rattle.tee_base.specs.Crash.{LeavesOnly}
use Rattle.store_api.specs.Volumes.{Held}
use Rattle.board.specs.Moment.{View, moment, left_since}
use Rattle.board.specs.Runs.{RunsOver, Rests}
use Rattle.epoch.specs.Commits.{BeforeOrAfter, IsMounted, IsSteady, IsWritten, next_held, spare}
use Rattle.epoch.specs.Forms.{Form, IsFramed, Root, SameUsed, is_sealed, leaves_of, root_of, root_written}
use Rattle.epoch.specs.Gates.{gate_at, header_at, gate_open}
use Rattle.epoch.specs.Opening.{opening_of}
use Rattle.epoch.specs.Slots.{header_slot}
use Rattle.epoch.specs.Steps.{IsFlipped, IsLaid, LeavesFlip, SyncedBut, shut_writes}
use Rattle.epoch.specs.declared.header.Header.{Header}
use Rattle.epoch.specs.declared.slots.Slot.TheVariants.{Good}
use Rattle.epoch.proofs.RunLemmas.{rest_starts, shut_itself}
use Rattle.epoch.proofs.CommitLemmas as stage

-- a step carries on each run that has these blocks open
abbrev pub Carries : ((ℕ → Bool) → Type 0) → View → View → Type 0
Carries Opens old new =
    (open_at : ℕ → Bool) (base : ℕ → List ℕ) (low high : ℕ) (first : View) → Opens open_at → RunsOver open_at base low high first old → RunsOver open_at base low high first new

-- it needs this gate open, if it is
abbrev pub OpensGate : ℕ → View → (ℕ → Bool) → Type 0
OpensGate slot v open_at = gate_open (v.state.reads (gate_at slot)) ≡ true → open_at (gate_at slot) ≡ true

-- it needs this header's block open
abbrev pub OpensHeader : ℕ → (ℕ → Bool) → Type 0
OpensHeader slot open_at = open_at (header_at slot) ≡ true

-- the run of what is written behind a shut gate
abbrev pub SpareRun : Form → List ℕ → Root → ℕ → ℕ → View → View → Type 0
SpareRun f key root slot n mid new = RunsOver (spare f key mid.state.reads root slot) mid.state.reads n n mid new

-- the root of a header that is written
root_is : (f : Form) (header : Header) → header.version ≡ f.version → root_of header ≡ root_written f header.root
root_is f header kind = λ i. record { version = kind i; entry = header.root }

-- where a commit begins: a board that is mounted, a change that fits it, and the slot of the next sequence
pub record Begins (f : Form) (Fits : List ℕ → (ℕ → List ℕ) → Type 0) (v : View) (root : Root) (before : Held) (slot : ℕ) : Type 0 where
  pub framed : IsFramed f
  pub still : (base image : ℕ → List ℕ) → SameUsed f v.key root base image → Fits v.key base → Fits v.key image
  pub fits : Fits v.key v.state.reads
  pub mounted : IsMounted f v.key root before v.state
  pub small : before.sequence < 2 ^ 64
  pub slot_is : slot ≡ (before.sequence + 1) % 2

pub begins : (f : Form) (Fits : List ℕ → (ℕ → List ℕ) → Type 0) (v : View) (root : Root) (before : Held) (slot sequence : ℕ) → IsFramed f
    → ((key : List ℕ) (base image : ℕ → List ℕ) → SameUsed f key root base image → Fits key base → Fits key image)
    → slot ≡ (sequence + 1) % 2 → sequence + 1 < 2 ^ 64 → before.sequence ≡ sequence → IsMounted f v.key root before v.state → Fits v.key v.state.reads
    → Begins f Fits v root before slot
begins f Fits v root before slot sequence framed still is small e mounted fits = record {
  framed = framed;
  still = still v.key;
  fits = fits;
  mounted = mounted;
  small = omega (arith, e, small);
  slot_is = is ∙ ap (λ (s : ℕ). (s + 1) % 2) (sym e);
}

-- the gate is shut
pub record IsShut (f : Form) (Fits : List ℕ → (ℕ → List ℕ) → Type 0) (v : View) (root : Root) (before : Held) (slot : ℕ) (mid : View) : Type 0 where
  pub begun : Begins f Fits v root before slot
  pub key : mid.key ≡ v.key
  pub run : RunsOver (shut_writes slot v.state.reads) v.state.reads before.sequence before.sequence v mid
  pub gate : gate_open (mid.state.reads (gate_at slot)) ≡ false
  pub mounted : IsMounted f v.key root before mid.state
  pub fits : Fits mid.key mid.state.reads

-- the copies and the header are written, and durable
pub record HasLaid (f : Form) (v : View) (root : Root) (before : Held) (slot : ℕ) (leaves : ℕ → ℕ → List ℕ) (wrote laid : View) (header : Header) : Type 0 where
  pub framed : IsFramed f
  pub slot_is : slot ≡ (before.sequence + 1) % 2
  pub crash : LeavesOnly moment left_since v laid (BeforeOrAfter f v.key before (next_held f leaves before.sequence))
  pub synced : SyncedBut (header_at slot) wrote.state laid.state
  pub mounted : IsMounted f v.key root before laid.state
  pub is : IsLaid f.known v.key slot before.sequence header laid.state
  pub kind : header.version ≡ f.version
  pub written : IsWritten f v.key (root_of header) leaves laid.state.reads

module _ {f : Form} {Fits : List ℕ → (ℕ → List ℕ) → Type 0} {v : View} {root : Root} {before : Held} {slot : ℕ} (begun : Begins f Fits v root before slot) where
  -- the run of a shutting
  pub shut_run : (new : View) → Carries (OpensGate slot v) v new
      → RunsOver (shut_writes slot v.state.reads) v.state.reads before.sequence before.sequence v new
  shut_run new goes =
      let writes = shut_writes slot v.state.reads in
      goes writes v.state.reads before.sequence before.sequence v (shut_itself slot v.state.reads) (rest_starts before.sequence v begun.mounted.rests writes)

  pub is_shut : (mid : View) → mid.key ≡ v.key → Carries (OpensGate slot v) v mid
      → SyncedBut (gate_at slot) v.state mid.state × (gate_open (mid.state.reads (gate_at slot)) ≡ false) → IsShut f Fits v root before slot mid
  is_shut mid key goes shut = record {
    begun = begun;
    key = key;
    run = shut_run mid goes;
    gate = shut.1;
    mounted = stage.mounted_shut f begun.framed v.key root before slot begun.slot_is v mid begun.small begun.mounted (shut_run mid goes) shut.0;
    fits = stage.under_key Fits v.key mid.key mid.state.reads key
        (begun.still v.state.reads mid.state.reads (stage.used_shut f begun.framed v.key root before slot begun.slot_is v.state mid.state shut.0) begun.fits);
  }

  -- what a shutting that fails leaves
  pub crash_shut : (after : Held) (new : View) → Carries (OpensGate slot v) v new → LeavesOnly moment left_since v new (BeforeOrAfter f v.key before after)
  crash_shut after new goes = stage.crash_shut f begun.framed v.key root before slot begun.slot_is after v new begun.mounted (shut_run new goes)

  pub kept_shut : (new : View) → ((k : ℕ) → k ≢ gate_at slot → new.state.reads k ≡ v.state.reads k) → leaves_of f v.key new.state.reads root ≡ before.leaves
  kept_shut new same = stage.kept_shut f begun.framed v.key root before slot begun.slot_is v.state new.state begun.mounted same

  pub steady_shut : (new : View) → Carries (OpensGate slot v) v new → IsSteady f v.key root new.state
  steady_shut new goes = stage.steady_shut f begun.framed v.key root before slot begun.slot_is v new (shut_run new goes)

module _ {f : Form} {Fits : List ℕ → (ℕ → List ℕ) → Type 0} {v : View} {root : Root} {before : Held} {slot : ℕ} {mid : View} (shut : IsShut f Fits v root before slot mid) where
  -- the run of the copies
  pub write_run : (new : View)
      → ((s low high : ℕ) (first : View) → Fits mid.key mid.state.reads → RunsOver (spare f mid.key mid.state.reads root s) mid.state.reads low high first mid
      → RunsOver (spare f mid.key mid.state.reads root s) mid.state.reads low high first new)
      → SpareRun f v.key root slot before.sequence mid new
  write_run new goes =
      let begun = shut.begun in
      stage.spare_run f begun.framed v.key root before slot begun.slot_is mid.key mid new shut.key shut.mounted (goes slot before.sequence before.sequence mid shut.fits)

  -- and of the header
  pub lay_run : (wrote new : View) (s : ℕ) → s ≡ slot → SpareRun f v.key root slot before.sequence mid wrote → Carries (OpensHeader s) wrote new
      → SpareRun f v.key root slot before.sequence mid new
  lay_run wrote new s is run goes =
      stage.lay_run f shut.begun.framed v.key root before slot shut.begun.slot_is mid wrote new (header_at s) run (ap header_at is) goes

  -- what is left where a write behind the gate fails
  pub crash_spare : (after : Held) (new : View) → SpareRun f v.key root slot before.sequence mid new → LeavesOnly moment left_since v new (BeforeOrAfter f v.key before after)
  crash_spare after new run =
      let begun = shut.begun in
      stage.crash_spare f begun.framed v.key root before slot begun.slot_is after v mid new
      (stage.crash_shut f begun.framed v.key root before slot begun.slot_is after v mid begun.mounted shut.run) shut.mounted shut.gate run

  pub kept_spare : (new : View) → SpareRun f v.key root slot before.sequence mid new → leaves_of f v.key new.state.reads root ≡ before.leaves
  kept_spare new run = stage.kept_spare f shut.begun.framed v.key root before slot shut.begun.slot_is mid new shut.mounted run

  pub steady_spare : (new : View) → SpareRun f v.key root slot before.sequence mid new → IsSteady f v.key root new.state
  steady_spare new run = stage.steady_spare f shut.begun.framed v.key root before slot shut.begun.slot_is mid new run

  pub has_laid : (After : (ℕ → ℕ → List ℕ) → ℕ → ℕ → List ℕ) (wrote laid : View) (header : Header) (s : ℕ) → s ≡ slot → wrote.key ≡ mid.key
      → SpareRun f v.key root slot before.sequence mid wrote → Carries (OpensHeader s) wrote laid
      → SyncedBut (header_at s) wrote.state laid.state → header_slot wrote.key s (laid.state.reads (header_at s)) ≡ Good header
      → header.version ≡ f.version → header.sequence ≡ before.sequence + 1
      → (Fits mid.key mid.state.reads → is_sealed f mid.key mid.state.reads root ≡ true
      → IsWritten f mid.key (root_written f header.root) (After (leaves_of f mid.key mid.state.reads root)) wrote.state.reads)
      → HasLaid f v root before slot (After before.leaves) wrote laid header
  has_laid After wrote laid header s is key run goes synced good known next written =
      let framed = shut.begun.framed in
      let slot_is = shut.begun.slot_is in
      let run' = lay_run wrote laid s is run goes in
      let here = stage.synced_at f framed v.key root before slot slot_is s wrote.state laid.state is synced in
      let mounted = stage.mounted_laid f framed v.key root before slot slot_is mid wrote laid shut.mounted shut.gate run run' here in
      let good_here = stage.good_at f framed v.key root before slot slot_is s wrote.key laid.state.reads header is (key ∙ shut.key) good in
      record {
        framed = framed;
        slot_is = slot_is;
        crash = crash_spare (next_held f (After before.leaves) before.sequence) laid run';
        synced = here;
        mounted = mounted;
        is = stage.is_laid f framed v.key root before slot slot_is mid laid header mounted shut.gate run' good_here known next;
        kind = known;
        written = subst (λ (r : Root). IsWritten f v.key r (After before.leaves) laid.state.reads) (sym (root_is f header known))
            (stage.written_laid f framed v.key root before slot slot_is (After before.leaves) (root_written f header.root) wrote.state laid.state
            (stage.written_mid f framed v.key root before slot slot_is After mid.key mid.state wrote.state (root_written f header.root) shut.key shut.mounted (written shut.fits)) here);
      }

module _ {f : Form} {v : View} {root : Root} {before : Held} {slot : ℕ} {leaves : ℕ → ℕ → List ℕ} {wrote laid : View} {header : Header}
    (has : HasLaid f v root before slot leaves wrote laid header) where
  -- what a flip leaves, whether it fails or not
  pub crash_flip : (new : View) → ((n : ℕ) → Rests n laid.state → LeavesOnly moment left_since laid new (LeavesFlip slot laid.state.reads n))
      → LeavesOnly moment left_since v new (BeforeOrAfter f v.key before (next_held f leaves before.sequence))
  crash_flip new run =
      stage.crash_flip f has.framed v.key root before slot has.slot_is leaves v laid new header has.kind has.crash has.mounted has.is has.written (run before.sequence has.mounted.rests)

  pub kept_flip : (new : View) → ((k : ℕ) → k ≢ gate_at slot → new.state.reads k ≡ laid.state.reads k) → leaves_of f v.key new.state.reads root ≡ before.leaves
  kept_flip new same = stage.kept_flip f has.framed v.key root before slot has.slot_is laid.state new.state has.mounted same

  pub steady_flip : (new : View) → ((k : ℕ) → k ≢ gate_at slot → new.state.reads k ≡ laid.state.reads k)
      → ((k : ℕ) → k ≢ gate_at slot → laid.state.pending k ≡ false → new.state.pending k ≡ false) → IsSteady f v.key root new.state
  steady_flip new same settled = stage.steady_flip f has.framed v.key root before slot has.slot_is laid.state new.state has.mounted same settled

  -- the board that is mounted once the counter is advanced
  pub mounted_flipped : (m : ℕ) (new : View) → laid.key ≡ v.key → IsFlipped slot m laid.state new.state
      → ((knows : ℕ → Bool) (n : ℕ) (laid_header : Header) → IsLaid knows laid.key slot n laid_header laid.state
      → opening_of knows laid.key new.state.reads m ≡ Ok (Some (record { header = laid_header; slot = slot })))
      → IsMounted f v.key (root_written f header.root) (next_held f leaves before.sequence) new.state
  mounted_flipped m new key flipped opens =
      subst (λ (r : Root). IsMounted f v.key r (next_held f leaves before.sequence) new.state) (root_is f header has.kind)
      (stage.mounted_flipped f has.framed v.key root before slot has.slot_is m laid.state new.state header leaves has.kind has.is has.written flipped
      (stage.opened_under f has.framed v.key root before slot has.slot_is laid.key m laid.state new.state header key has.is opens))

  -- and the change fits it
  pub fits_flipped : (Fits : List ℕ → (ℕ → List ℕ) → Type 0) (root' : Root) (m : ℕ) (mid new : View) → mid.key ≡ v.key → IsFlipped slot m laid.state new.state
      → ((key : List ℕ) (base image : ℕ → List ℕ) → SameUsed f key root' base image → Fits key base → Fits key image)
      → Fits mid.key wrote.state.reads → Fits v.key new.state.reads
  fits_flipped Fits root' m mid new key flipped still fits =
      still v.key wrote.state.reads new.state.reads
      (stage.used_done f has.framed v.key root before slot has.slot_is m root' wrote.state laid.state new.state has.synced flipped)
      (stage.under_key Fits mid.key v.key wrote.state.reads (sym key) fits)
