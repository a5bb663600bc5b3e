-- What a commit finds and leaves, over the form of the leaves.
use Rattle.std.specs.Prelude.{◌≡◌, ◌⊎◌, ℕ, ◌+◌, ◌%◌, ◌==◌, ◌&&◌, ◌||◌, not, nat_lt, Bool, true, false, List, Option, Some, None, Result, Ok, Err, IfOk, OnErr}
use Rattle.tee_base.specs.Crash.{LeavesOnly}
use Rattle.store_api.specs.Volumes.{Held}
use Rattle.board.specs.Moment.{CrashImage, Moment, View, left_since, moment}
use Rattle.board.specs.declared.BoardFailed.{BoardFailed}
use Rattle.board.specs.Runs.{Rests}
use Rattle.epoch.specs.Forms.{Form, SameUsed, IsBlankRoot, Root, held_of, is_sealed, leaves_of, root_of, root_written}
use Rattle.epoch.specs.Gates.{header_at}
use Rattle.epoch.specs.Opening.{opening_of}
use Rattle.epoch.specs.declared.answer.OpenAnswer.{OpenAnswer}
use Rattle.epoch.specs.declared.header.TreeEntry.{TreeEntry}
use Rattle.epoch.specs.declared.rule.Found.{Found}
use Rattle.tee_base.specs.Words.{Image, Key, Leaves, Sequence}

-- a header of this sequence counts, in its slot, with this root; or the board is blank, as is the root
abbrev pub OpensTo : Form → Sequence → Root → Result (Option Found) OpenAnswer → Type 0
OpensTo f sequence root (Ok None) = (sequence ≡ 0) × IsBlankRoot f root
OpensTo f sequence root (Ok (Some found)) =
    (found.header.sequence ≡ sequence) × (found.slot ≡ sequence % 2) × (root_of found.header ≡ root)
OpensTo f sequence root (Err answer) = ⊥

-- a board at rest with a sound image: under this root it holds this, and the counter is the sequence
pub record IsMounted (f : Form) (key : Key) (root : Root) (held : Held) (m : Moment)
    : Type 0 where
  pub rests : Rests held.sequence m
  pub opens : OpensTo f held.sequence root (opening_of f.known key m.reads held.sequence)
  pub sealed : is_sealed f key m.reads root ≡ true
  pub leaves : held.leaves ≡ leaves_of f key m.reads root
  pub version : held.version ≡ root.version

-- a commit to the sequence after this one begins over a board that is mounted with this under a root, with a change that fits it
pub record IsBegun (f : Form) (Fits : List ℕ → (ℕ → List ℕ) → Type 0) (view : View) (root : Root)
    (sequence : Sequence) (before : Held) : Type 0 where
  pub last : before.sequence ≡ sequence
  pub mounted : IsMounted f view.key root before view.state
  pub fits : Fits view.key view.state.reads

-- the blocks that a commit to this slot may write: the slot's header, and behind the slots those that the root in use
-- doesn't
abbrev pub spare : Form → Key → Image → Root → ℕ → ℕ → Bool
spare f key base root slot k = (k == header_at slot) || (nat_lt 3 k && not (f.uses key base root k))

-- what a commit's copies hold once they are written: under the new root these leaves, sealed
pub record IsWritten (f : Form) (key : Key) (root : Root) (leaves : Leaves)
    (reads : ℕ → List ℕ) : Type 0 where
  pub sealed : is_sealed f key reads root ≡ true
  pub leaves_are : leaves_of f key reads root ≡ leaves

-- these leaves with the next sequence
abbrev pub next_held : Form → Leaves → Sequence → Held
next_held f leaves sequence = record { leaves = leaves; sequence = sequence + 1; version = f.version }

-- a crash left what was held before, or after
abbrev pub BeforeOrAfter : Form → Key → Held → Held → CrashImage → Type 0
BeforeOrAfter f key before after c =
    (held_of f key c ≡ Some before) ⊎ (held_of f key c ≡ Some after)

-- the blocks on the ways to the leaves of a root read as in a base, and no crash may change them
pub record IsSteady (f : Form) (key : Key) (root : Root) (m : Moment) : Type 0 where
  pub base : Image
  pub same : SameUsed f key root base m.reads
  pub pending : (k : ℕ) → f.uses key base root k ≡ true → m.pending k ≡ false

-- what no crash could change reads as before, and no crash may change it
abbrev pub StaysSettled : Moment → Moment → Type 0
StaysSettled old new = (k : ℕ) → old.pending k ≡ false
    → (new.reads k ≡ old.reads k) × (new.pending k ≡ false)

-- the root is that of this entry, for the version that is written, and the entry is of this sequence
pub record IsRootFor (f : Form) (sequence : Sequence) (root : Root) (entry : TreeEntry) : Type 0 where
  pub written : root ≡ root_written f entry
  pub sealed_for : entry.sequence ≡ sequence

-- a commit over a board that is mounted with what was held before, under this root: at every moment since its start all that a crash
-- leaves holds that, or what is held after. At Ok it is the latter, and the counter is its sequence; after an error the leaves under
-- the root read as before, and no crash may change a block that it uses
pub record CommitsOver (f : Form) (Keeps : List ℕ → (ℕ → List ℕ) → Type 0) (root : Root) (before after : Held) (result : Result TreeEntry BoardFailed) (old new : View) : Type 0 where
  pub crash : LeavesOnly moment left_since old new (BeforeOrAfter f old.key before after)
  pub done : IfOk result (λ entry. IsMounted f old.key (root_written f entry) after new.state × Keeps old.key new.state.reads)
  pub kept : OnErr result (leaves_of f old.key new.state.reads root ≡ before.leaves)
  pub steady : OnErr result (IsSteady f old.key root new.state)
