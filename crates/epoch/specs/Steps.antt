-- What the three steps of a commit do to a board, and what a crash within them leaves.
use Rattle.std.specs.Prelude.{◌≡◌, ◌≢◌, ◌<◌, ◌⊎◌, ℕ, ◌+◌, ◌-◌, ◌==◌, ◌&&◌, Bool, true, false, Option, Some, None, Result, Ok, Err}
use Rattle.board.specs.Moment.{CrashImage, Moment, IsCounter}
use Rattle.board.specs.Runs.{Rests}
use Rattle.epoch.specs.Gates.{gate_at, header_at, gate_open}
use Rattle.epoch.specs.Opening.{opening_of}
use Rattle.epoch.specs.Slots.{header_slot}
use Rattle.epoch.specs.declared.answer.OpenAnswer.{OpenAnswer}
use Rattle.epoch.specs.declared.header.Header.{Header}
use Rattle.epoch.specs.declared.rule.Found.{Found}
use Rattle.epoch.specs.declared.slots.Slot.TheVariants.{Good}
use Rattle.tee_base.specs.Words.{Image, Key}

-- all is durable, and but for this block all reads as before
pub record SyncedBut (block : ℕ) (old new : Moment) : Type 0 where
  pub elsewhere : (k : ℕ) → k ≢ block → new.reads k ≡ old.reads k
  pub as_read : (k : ℕ) → new.reads k ≡ new.durable k
  pub pending : (k : ℕ) → new.pending k ≡ false
  pub counter : new.counter ≡ old.counter
  pub slack : new.slack ≡ old.slack

-- all is durable, the gate open, and the counter m: one above one that a crash might have left
pub record IsFlipped (slot m : ℕ) (old new : Moment) : Type 0 where
  pub positive : 0 < m
  pub among : IsCounter old (m - 1)
  pub rests : Rests m new
  pub elsewhere : (k : ℕ) → k ≢ gate_at slot → new.reads k ≡ old.reads k
  pub gate : gate_open (new.reads (gate_at slot)) ≡ true

-- what a crash within a flip leaves: the counter is raised only where the gate is open
pub record LeavesFlip (slot : ℕ) (base : Image) (n : ℕ) (c : CrashImage) : Type 0 where
  pub elsewhere : (k : ℕ) → k ≢ gate_at slot → c.image k ≡ base k
  pub counter : (c.counter ≡ n)
      ⊎ ((c.counter ≡ n + 1) × (gate_open (c.image (gate_at slot)) ≡ true))

-- the one block that shutting a slot writes: its gate, where that is open
abbrev pub shut_writes : ℕ → Image → ℕ → Bool
shut_writes slot base k = (k == gate_at slot) && gate_open (base k)

-- what an image and a counter that a crash left open to
abbrev pub outcome_opening : (ℕ → Bool) → Key → CrashImage → Result (Option Found) OpenAnswer
outcome_opening knows key c = opening_of knows key c.image c.counter

-- the board is blank, or the header that counts is in another slot than this
abbrev pub CountsElsewhere : ℕ → Result (Option Found) OpenAnswer → Type 0
CountsElsewhere slot (Ok None) = Unit {0}
CountsElsewhere slot (Ok (Some found)) = found.slot ≢ slot
CountsElsewhere slot (Err _) = ⊥

-- the board is blank, or the header that counts has this sequence
abbrev pub IsCurrent : ℕ → Result (Option Found) OpenAnswer → Type 0
IsCurrent n (Ok None) = Unit {0}
IsCurrent n (Ok (Some found)) = found.header.sequence ≡ n
IsCurrent n (Err _) = ⊥

-- a slot whose gate isn't open holds the header that is to count next
pub record IsLaid (knows : ℕ → Bool) (key : Key) (slot n : ℕ) (header : Header)
    (m : Moment) : Type 0 where
  pub rests : Rests n m
  pub current : IsCurrent n (opening_of knows key m.reads n)
  pub gate : gate_open (m.reads (gate_at slot)) ≡ false
  pub good : header_slot key slot (m.reads (header_at slot)) ≡ Good header
  pub accepted : knows header.version ≡ true
  pub next : header.sequence ≡ n + 1
