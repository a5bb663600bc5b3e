-- What is found by a search for the header that counts, over the form of the leaves: on a board that holds this, after a
-- sync, and after a loss of power.
use Rattle.std.specs.Prelude.{◌≡◌, ◌≢◌, ◌==◌, ℕ, Bool, true, false, Option, Some, None, Result, Ok, Err, IfErr, IfOk}
use Rattle.tee_base.specs.Crash.{LeavesOnly}
use Rattle.tee_base.specs.Faults.{Rose}
use Rattle.store_api.specs.Volumes.{Held}
use Rattle.board.specs.Moment.{IsCounter, IsLeft, Moment, CrashImage, View, left_since, moment}
use Rattle.board.specs.Runs.{Rests}
use Rattle.board.specs.Steps.{CallRun, SameBlocks}
use Rattle.epoch.specs.Alone.{LeavesAlone}
use Rattle.epoch.specs.Commits.{IsMounted, next_held}
use Rattle.epoch.specs.Finding.{IsSettledAt, sequence_of}
use Rattle.epoch.specs.Formats.{IsAccepted, IsFormatOf}
use Rattle.epoch.specs.Forms.{Form, IsBlankRoot, Root, held_in, held_of, root_of}
use Rattle.epoch.specs.Mounts.{IsLeftSound, IsRuledBy, LeftByOrder, MightBe, PowerFirst}
use Rattle.epoch.specs.Opening.{found_header, no_failure, opening_of}
use Rattle.epoch.specs.Past.{KeepsPast}
use Rattle.epoch.specs.declared.format.Format.{Format}
use Rattle.epoch.specs.declared.answer.OpenAnswer.{OpenAnswer}
use Rattle.epoch.specs.declared.answer.OpenAnswer.TheVariants as answers
use Rattle.epoch.specs.declared.header.Header.{Header}
use Rattle.epoch.specs.declared.rule.Found.{Found}
use Rattle.tee_base.specs.Words.{Key}

-- nothing is pending, and whichever counter is told, the board holds this
pub record IsHolding (f : Form) (key : Key) (h : Held) (m : Moment) : Type 0 where
  pub as_read : (k : ℕ) → m.reads k ≡ m.durable k
  pub pending : (k : ℕ) → m.pending k ≡ false
  pub each : (n : ℕ) → IsCounter m n → held_in f key m.reads n ≡ Some h

-- what is held once a header was taken up: where it isn't of the version that is written, one that is was written for the same
-- leaves
abbrev pub after_version : Form → Bool → Held → Held
after_version f true h = h
after_version f false h = next_held f h.leaves h.sequence

-- what is held once a header was found and taken up, or where none was, the board was formatted
abbrev pub after_found : Form → Option Header → Held → Held
after_found f None h = next_held f h.leaves h.sequence
after_found f (Some header) h = after_version f (header.version == f.version) h

-- the same at a reopening, which formats nothing
abbrev pub after_again : Form → Option Header → Held → Held
after_again f None h = h
after_again f (Some header) h = after_version f (header.version == f.version) h

-- what an opening makes of what is held, by how the board opens
abbrev pub opened_by : Form → Result (Option Found) OpenAnswer → Held → Held
opened_by f (Ok found) held = after_found f (found_header found) held
opened_by f (Err answer) held = held

-- the same of a board that holds this
abbrev pub after_opening : Form → View → Held → Held
after_opening f view held =
    opened_by f (opening_of f.known view.key view.state.reads view.state.counter) held

-- the board is mounted with this under the root of the header, and where there is none, under each root of a blank board
abbrev pub MountsTo : Form → Key → Held → Moment → Option Header → Type 0
MountsTo f key h m None =
    (h.sequence ≡ 0) × ((root : Root) → IsBlankRoot f root → IsMounted f key root h m)
MountsTo f key h m (Some header) =
    (h.sequence ≡ header.sequence) × IsMounted f key (root_of header) h m

-- a board that holds this was searched: it is mounted, or a call failed, and a crash leaves nothing else
pub record Mounts (f : Form) (h : Held) (result : Result (Option Header) OpenAnswer)
    (old new : View) : Type 0 where
  pub mounted : IfOk result (λ found. MountsTo f old.key h new.state found
      × (after_found f found h ≡ after_opening f old h))
  pub failed : IfErr result (λ why. why ≡ answers.Failed)
  pub leaves : LeavesOnly moment left_since old new (λ c. held_of f old.key c ≡ Some h)

-- all that a crash may leave now is sound
abbrev pub AreSound : Form → View → Type 0
AreSound f view = (c : CrashImage) → IsLeft view.state c → IsLeftSound (held_of f view.key c)

-- a board was opened again: it is mounted with what a crash might have left, or a call failed
pub record MountsAgain (f : Form) (result : Result (Option Header) OpenAnswer)
    (old new : View) : Type 0 where
  pub chosen : Held
  pub among : (c : CrashImage) × IsLeft old.state c × (held_of f old.key c ≡ Some chosen)
  pub mounted : IfOk result (λ found. MountsTo f old.key chosen new.state found)
  pub failed : IfErr result (λ why. why ≡ answers.Failed)

-- the same after a loss of power: right behind the order a crash leaves what was chosen alone, and so it does now
pub record MountsAfterPower (f : Form) (result : Result (Option Header) OpenAnswer)
    (old new : View) : Type 0 where
  pub again : MountsAgain f result old new
  pub ordered : LeftByOrder f old new again.chosen
  pub rests : (c : CrashImage) → IsLeft new.state c
      → held_of f old.key c ≡ Some again.chosen

-- a search for the header that counts, of a volume of this format, whatever the board: a call failed only where that is answered, there
-- is never want of memory, a header that is found is accepted, and no block is written
pub record Searches (format : Format) (result : Result (Option Header) OpenAnswer) (old new : View) : Type 0 where
  pub calls : CallRun (no_failure result) old new
  pub cause : result ≡ Err answers.Failed → Rose old.state.faults new.state.faults
  pub memory : result ≢ Err answers.NoMemory
  pub accepted : IfOk result (λ header. IsAccepted format header)
  pub writes : new.writes ≡ old.writes

-- the same of an honest board: nothing of the past is forgotten, the blocks stay, at every moment too, and at Ok the counter is settled
-- at the sequence, and at 0 where the board is blank
pub record SearchesHonestly (result : Result (Option Header) OpenAnswer) (old new : View) : Type 0 where
  pub past : KeepsPast old new
  pub blocks : SameBlocks old.state new.state
  pub alone : LeavesAlone (λ k. Unit {0}) old new
  pub counter : IfOk result (λ header. IsSettledAt (sequence_of header) new.state)

-- a search behind a loss of power, of an honest board: the power goes before any other call, and nothing of the past is forgotten; the
-- answer is the rule's over what the power left, which reads give still; at Ok the board rests at the sequence that was found; a crash
-- leaves nothing that it might not have left before
pub record SearchesPowered (format : Format) (pick : ℕ) (result : Result (Option Header) OpenAnswer) (old new : View) : Type 0 where
  pub begins : PowerFirst pick true (λ k. Unit {0}) old new
  pub past : KeepsPast old new
  pub reads : new.state.reads ≡ begins.powered.left.image
  pub ruled : (f : Form) → IsFormatOf f format
      → IsRuledBy f old begins.powered.left.image begins.powered.left.counter result
  pub rests : IfOk result (λ header. Rests (sequence_of header) new.state)
  pub leaves : (f : Form) → IsFormatOf f format → LeavesOnly moment left_since old new (MightBe f old.key old.state)
