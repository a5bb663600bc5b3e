-- What the opening of a volume on a board promises, and its reopening, a loss of power and a fuse, over the form of the
-- leaves.
use Rattle.std.specs.Prelude.{◌≡◌, ◌≢◌, ◌≤◌, ◌<◌, ◌⊎◌, ◌+◌, ◌%◌, ◌^◌, ◌==◌, ℕ, Bool, ◌∷◌, false, true, Option, Some, None, Result, Ok, Err, IfErr, IfOk, OnErr}
use Rattle.tee_base.specs.Crash.{LeavesOnly, read_as}
use Rattle.tee_base.specs.declared.limits.TheConstants.{MAX_HOSTS}
use Rattle.store_api.specs.Volumes.{Held, RestsAt, VolumeKeeper}
use Rattle.board.specs.Moment.{IsBehind, IsCounter, IsLeft, CrashImage, Moment, Order, View, left_since, moment}
use Rattle.board.specs.Steps.{CallRun, Passes, Powered, SameBlocks}
use Rattle.tee_base.specs.Faults.{Rose}
use Rattle.board.specs.declared.fuse.Fuse.TheVariants.{Unset}
use Rattle.epoch.specs.Finding.{IsSettledAt}
use Rattle.epoch.specs.Forms.{Form, Root, held_in, held_of, root_of}
use Rattle.epoch.specs.Alone.{LeavesAlone}
use Rattle.epoch.specs.Opening.{found_header, header_answer, is_no_failure, opening_of, opens_as}
use Rattle.epoch.specs.Past.{KeepsPast}
use Rattle.epoch.specs.Reopening.{reopened_of, sequence_after, shows_kept}
use Rattle.epoch.specs.declared.answer.OpenAnswer.{OpenAnswer}
use Rattle.epoch.specs.declared.mounts.TheConstants.{BLANK}
use Rattle.epoch.specs.declared.answer.OpenAnswer.TheVariants as answers
use Rattle.epoch.specs.declared.header.Header.{Header}
use Rattle.epoch.specs.declared.rule.Found.{Found}
use Rattle.epoch.specs.declared.taking.Reopened.{Reopened}
use Rattle.tee_base.specs.Words.{Counter, Image, Key, Sequence}

-- an opening that writes a header keeps the leaves, so that each region stands for the same store; the sequence is the next
-- one, and the version the one that is written
pub record IsRewritten (f : Form) (before after : Held) : Type 0 where
  pub leaves : after.leaves ≡ before.leaves
  pub sequence : after.sequence ≡ before.sequence + 1
  pub version : after.version ≡ f.version

-- a header is written unless the one that counts is of the version that is written
abbrev pub MakesBy : Form → Bool → Held → Held → Type 0
MakesBy f true before after = after ≡ before
MakesBy f false before after = IsRewritten f before after

-- what an opening makes of what is held by a board that opens so: where no header counts, it is formatted
abbrev pub MakesOf : Form → Result (Option Found) OpenAnswer → Held → Held → Type 0
MakesOf f (Ok None) before after = MakesBy f false before after
MakesOf f (Ok (Some found)) before after =
    MakesBy f (found.header.version == f.version) before after
MakesOf f (Err answer) before after = after ≡ before

-- the same of a board that holds this
abbrev pub IsOpenedTo : Form → View → Held → Held → Type 0
IsOpenedTo f view before after =
    MakesOf f (opening_of f.known view.key view.state.reads view.state.counter) before after

-- what a reopening makes of what is held by a board that opens so: it formats nothing
abbrev pub RemakesOf : Form → Result (Option Found) OpenAnswer → Held → Held → Type 0
RemakesOf f (Ok None) before after = after ≡ before
RemakesOf f (Ok (Some found)) before after =
    MakesBy f (found.header.version == f.version) before after
RemakesOf f (Err answer) before after = after ≡ before

-- the same of what an image holds beside a counter
abbrev pub IsReopenedTo : Form → Key → Image → Counter → Held → Held → Type 0
IsReopenedTo f key image counter before after =
    RemakesOf f (opening_of f.known key image counter) before after

-- a crash left what holds the same as something that it might have left then
abbrev pub MightBe : Form → Key → Moment → CrashImage → Type 0
MightBe f key m c = (d : CrashImage) × IsLeft m d × (held_of f key c ≡ held_of f key d)

-- a crash left a sound volume
abbrev pub IsLeftSound : Option Held → Type 0
IsLeftSound (Some held) = Unit {0}
IsLeftSound None = ⊥

-- why an image is refused although this header counts
abbrev pub refusal_of : Form → Key → Image → Option Header → Option OpenAnswer
refusal_of f key image None = None
refusal_of f key image (Some header) = f.refuses key image (root_of header)

-- what was found, unless the image is refused
abbrev pub unless_refused : Option OpenAnswer → Option Found → Result (Option Found) OpenAnswer
unless_refused None found = Ok found
unless_refused (Some why) found = Err why

-- what is made of what the rule of the header answers, for what the form refuses of an image
abbrev pub admitted_of : Form → Key → Image → Result (Option Found) OpenAnswer
    → Result (Option Found) OpenAnswer
admitted_of f key image (Ok found) = unless_refused (refusal_of f key image (found_header found)) found
admitted_of f key image (Err why) = Err why

-- the whole opening rule over two images: which header counts is by the first, and whether the image is refused besides by the one
-- that was walked then
abbrev pub admission_over : Form → View → Image → Image → Counter → Result (Option Found) OpenAnswer
admission_over f view image walked counter =
    admitted_of f view.key walked (opens_as f.known f.blocks view.size view.key image counter)

-- the whole opening rule
abbrev pub admission : Form → View → Image → Counter → Result (Option Found) OpenAnswer
admission f view image counter = admission_over f view image image counter

-- an answer is the refusal of a rule; a failure and want of memory are no such refusals
abbrev pub RefusesBy : Result (Option Found) OpenAnswer → OpenAnswer → Type 0
RefusesBy rule answers.Failed = Unit {0}
RefusesBy rule answers.NoMemory = Unit {0}
RefusesBy rule why = rule ≡ Err why

-- a refusal is the opening rule's, of a board over this image and this counter
abbrev pub IsRefusal : Form → View → Image → Counter → OpenAnswer → Type 0
IsRefusal f view image counter why = RefusesBy (admission f view image counter) why

-- the same of a board that reads so, and of an image that it read as once the header was found
abbrev pub IsRefusalOver : Form → View → Image → Counter → OpenAnswer → Type 0
IsRefusalOver f view walked counter why =
    RefusesBy (admission_over f view view.state.reads walked counter) why

-- a refusal is that of the board as it reads now, at a counter that it may tell
abbrev pub IsRefusedNow : Form → View → OpenAnswer → Type 0
IsRefusedNow f view answers.Failed = Unit {0}
IsRefusedNow f view answers.NoMemory = Unit {0}
IsRefusedNow f view why = (counter : Counter) × IsCounter view.state counter
    × (admission f view view.state.reads counter ≡ Err why)

-- a header is taken up: one of the version that is written as it is, with its sequence and its root; of another one its leaves, with
-- the next sequence, and a root of the version that is written, whose entry is sealed for that sequence
abbrev pub TakesHeader : Form → Bool → Header → Sequence → Root → Type 0
TakesHeader f true header sequence root = (header.sequence ≡ sequence) × (root_of header ≡ root)
TakesHeader f false header sequence root =
    (sequence ≡ header.sequence + 1) × (root.version ≡ f.version) × (root.entry.sequence ≡ sequence)

-- what is taken up is the header that counts; where none does, the board has this sequence, and a root of the same and of the version
-- that is written
abbrev pub TakesUp : Form → Option Header → ℕ → Sequence → Root → Type 0
TakesUp f None blank sequence root =
    (sequence ≡ blank) × (root.version ≡ f.version) × (root.entry.sequence ≡ blank)
TakesUp f (Some header) blank sequence root =
    TakesHeader f (header.version == f.version) header sequence root

-- the rule of the header opens a board over this image and this counter, and what counts there is taken up
abbrev pub IsFound : Form → View → Image → Counter → ℕ → Sequence → Root → Type 0
IsFound f view image counter blank sequence root = (found : Option Found)
    × (opens_as f.known f.blocks view.size view.key image counter ≡ Ok found)
    × TakesUp f (found_header found) blank sequence root

-- the opening rule opens a board over this image and this counter, and this is so of the header that counts there
abbrev pub IsAdmittedTo : Form → View → Image → Counter → (Option Header → Type 0) → Type 0
IsAdmittedTo f view image counter Takes = (found : Option Found)
    × (admission f view image counter ≡ Ok found) × Takes (found_header found)

-- what counts there is taken up
abbrev pub IsAdmitted : Form → View → Image → Counter → ℕ → Sequence → Root → Type 0
IsAdmitted f view image counter blank sequence root =
    IsAdmittedTo f view image counter (λ header. TakesUp f header blank sequence root)

-- what is told of a volume that was opened again is of the header that was found, which is taken up; a board on which none counts has
-- the sequence 0
abbrev pub IsReopened : Form → Reopened → Root → Option Header → Type 0
IsReopened f told root header = (told ≡ reopened_of f.version header)
    × TakesUp f header BLANK (sequence_after told) root

-- what a search for the header answers is the rule's of the header, over this image and this counter
abbrev pub IsRuledBy : Form → View → Image → Counter → Result (Option Header) OpenAnswer
    → Type 0
IsRuledBy f view image counter result =
    IfErr result (λ why. RefusesBy (opens_as f.known f.blocks view.size view.key image counter) why)
    × IfOk result (λ found. header_answer
    (opens_as f.known f.blocks view.size view.key image counter) ≡ Ok found)

-- a call of the board failed, or there was no memory
abbrev pub IsKeptFromOpening : OpenAnswer → Type 0
IsKeptFromOpening why = (why ≡ answers.Failed) ⊎ (why ≡ answers.NoMemory)

-- a run of calls with one order among them, of this number, which goes before any other call of the run
pub record OrderRun (number : ℕ) (old new : View) : Type 0 where
  pub size : new.size ≡ old.size
  pub key : new.key ≡ old.key
  pub orders : new.state.orders ≡ (old.state.orders + 1) % 2 ^ 64
  -- what the board was right behind the order, by which no call failed
  pub after : Moment
  pub ordered : new.ordered ≡ record { number = number; before = old.state; after = after } ∷ old.ordered
  pub counted : after.orders ≡ (old.state.orders + 1) % 2 ^ 64
  pub steady : after.faults ≡ old.state.faults
  pub later : after.faults ≤ new.state.faults

-- a loss of power of an honest board, by this number, before any other call; of these blocks the calls behind it change none at any
-- moment, and where nothing is said to be taken over, what they leave reads as it left it
pub record PowerFirst (pick : ℕ) (kept : Bool) (Stays : ℕ → Type 0) (old new : View) : Type 0 where
  pub between : View
  pub ordered : new.ordered ≡ record { number = pick; before = old.state; after = between.state } ∷ old.ordered
  pub time : Passes old between
  pub powered : Powered old.state between.state
  pub alone : LeavesAlone Stays between new
  pub reads : kept ≡ true → new.state.reads ≡ between.state.reads
  pub behind : IsBehind between new

-- whatever the board: a loss of power and the calls that opened the board again, of which one failed where this is false. No fuse is
-- set afterwards
pub record LosesPower (pick : ℕ) (ok : Bool) (old new : View) : Type 0 where
  pub order : OrderRun pick old new
  pub cause : ok ≡ false → Rose old.state.faults new.state.faults
  pub steady : ok ≡ true → new.state.faults ≡ old.state.faults
  pub fuse : new.fuse ≡ Unset

-- within a reopening that found an image and a counter which held this, a crash leaves what it might have left before, or what is made
-- of this
abbrev pub LeftByReopening : Form → View → Image → Counter → Held → CrashImage → Type 0
LeftByReopening f old image counter held c = MightBe f old.key old.state c
    ⊎ ((after : Held) × (held_of f old.key c ≡ Some after) × IsReopenedTo f old.key image counter held after)

-- an image and a counter that were found held this: at Ok the volume now holds what a reopening makes of it, and a crash leaves
-- nothing else; at every moment of the call a crash leaves what it might have left before, or that
pub record KeepsFound {A : Type 0} (f : Form) (image : Image) (counter : Counter) (result : Result A OpenAnswer) (now : Held) (old new : View)
    (held : Held) : Type 0 where
  pub made : IfOk result (λ x. IsReopenedTo f old.key image counter held now)
  pub rests : IfOk result (λ x. (c : CrashImage) → IsLeft new.state c → held_of f old.key c ≡ Some now)
  pub leaves : LeavesOnly moment left_since old new (LeftByReopening f old image counter held)

-- the same of an honest board: nothing of the past is forgotten; by the rule over what the loss left it was opened, and what is told
-- takes up what counts there so, or refused; whatever sound volume is held there is kept, in the version that is written; the counter is
-- then the sequence of what the volume now holds, and a refusal is of the board as it is now
pub record LosesPowerByRule {A : Type 0} (f : Form) (Stays : ℕ → Type 0) (pick : ℕ) (kept : Bool) (result : Result A OpenAnswer)
    (Takes : A → Option Header → Type 0) (now : Held) (old new : View) : Type 0 where
  pub begins : PowerFirst pick kept Stays old new
  pub past : KeepsPast old new
  pub exact : let left = begins.powered.left in IfErr result (λ why. IsRefusal f old left.image left.counter why)
      × IfOk result (λ x. IsAdmittedTo f old left.image left.counter (Takes x))
  pub holds : let left = begins.powered.left in (held : Held) → held_of f old.key left ≡ Some held
      → KeepsFound f left.image left.counter result now old new held
  pub counter : IfOk result (λ x. IsSettledAt now.sequence new.state)
  pub refusal : IfErr result (λ why. IsRefusedNow f new why)

-- right behind the last order that was made to the board a crash leaves this, and nothing else
abbrev pub LeftByOrder : Form → View → View → Held → Type 0
LeftByOrder f old new held = (order : Order) → new.ordered ≡ order ∷ old.ordered
    → (c : CrashImage) → IsLeft order.after c → held_of f old.key c ≡ Some held

-- whatever the board: it wasn't opened, and is handed back as the calls left it. A call failed only where that is answered, and where
-- none did, no block was written
pub record HandsBack (why : OpenAnswer) (old new : View) : Type 0 where
  pub calls : CallRun (is_no_failure why) old new
  pub cause : why ≡ answers.Failed → Rose old.state.faults new.state.faults
  pub unwritten : why ≢ answers.Failed → new.writes ≡ old.writes

-- the same of an honest board: nothing of the past is forgotten, and of these blocks none changes at any moment; where no call failed,
-- none at all did; and a refusal is the rule's, of the board that is handed back
pub record HandsBackByRule (f : Form) (Stays : ℕ → Type 0) (why : OpenAnswer) (old new : View) : Type 0 where
  pub past : KeepsPast old new
  pub alone : LeavesAlone Stays old new
  pub unchanged : why ≢ answers.Failed → SameBlocks old.state new.state
  pub refusal : IsRefusedNow f new why

-- an honest board that was opened: nothing of the past is forgotten, of these blocks none changes at any moment, and the counter is the
-- sequence, whatever the image, and no crash may leave another
pub record OpensHonestly (Stays : ℕ → Type 0) (sequence : Sequence) (old new : View) : Type 0 where
  pub past : KeepsPast old new
  pub alone : LeavesAlone Stays old new
  pub counter : IsSettledAt sequence new.state

-- an honest board that was opened again: it reads as before where the answer shows that nothing was taken over, of these blocks none
-- changes at any moment, and nothing of the past is forgotten; by the rule over what it read as, at a counter that it may have told, it
-- was opened or refused; whatever sound volume is held there is kept, in the version that is written; the counter is then the sequence
-- of what the volume now holds, and a refusal is of the board as it is now
pub record ReopensByRule (f : Form) (Stays : ℕ → Type 0) (result : Result Reopened OpenAnswer) (root : Root) (now : Held) (old new : View)
    : Type 0 where
  pub reads : shows_kept result ≡ true → new.state.reads ≡ old.state.reads
  pub past : KeepsPast old new
  pub alone : LeavesAlone Stays old new
  -- the counter that was told
  pub found : Counter
  pub among : IsCounter old.state found
  pub exact : IfErr result (λ why. IsRefusal f old old.state.reads found why)
      × IfOk result (λ told. IsAdmittedTo f old old.state.reads found (IsReopened f told root))
  pub holds : (held : Held) → held_in f old.key old.state.reads found ≡ Some held
      → KeepsFound f old.state.reads found result now old new held
  pub counter : IfOk result (λ told. IsSettledAt now.sequence new.state)
  pub refusal : IfErr result (λ why. IsRefusedNow f new why)

-- within an opening a crash leaves what the board held, or what the opening makes of that
abbrev pub LeftByOpening : Form → Held → View → CrashImage → Type 0
LeftByOpening f held old c = (held_of f old.key c ≡ Some held)
    ⊎ ((after : Held) × (held_of f old.key c ≡ Some after) × IsOpenedTo f old held after)

-- so at every moment of a call
abbrev pub LeavesOpening : Form → Held → View → View → Type 0
LeavesOpening f held old new = LeavesOnly moment left_since old new (LeftByOpening f held old)

module _ {V : Type 0} (K : VolumeKeeper V) where
  -- how a volume is seen on its board
  pub record IsSeenOn (f : Form) (volume : V) (view : View) : Type 0 where
    pub faults : (K.condition volume).faults ≡ view.state.faults
    pub foundation : (K.condition volume).foundation
        ≡ record { place = view.size ∷ view.key; orders = view.state.orders; ordered = view.ordered }
    pub moment : K.moment volume ≡ moment view
    pub left : (t : ℕ) (o : Option Held) → K.left_since volume t o
        → read_as (held_of f view.key) (left_since view) t o
    pub left_back : (t : ℕ) (c : CrashImage) → left_since view t c
        → K.left_since volume t (held_of f view.key c)

  -- the damage of each leaf, and what is found of it, is the form's over what reads give
  pub record IsFormed (f : Form) (volume : V) (root : Root) (view : View) : Type 0 where
    pub damage : (region leaf : ℕ) → region < MAX_HOSTS → leaf < K.leaves
        → K.damage volume region leaf ≡ f.damage view.key view.state.reads root region leaf
    pub text : (region leaf : ℕ) → region < MAX_HOSTS → leaf < K.leaves
        → K.text volume region leaf ≡ f.leaf view.key view.state.reads root region leaf

  -- each sound thing that a crash may leave now is of the version that is written
  abbrev pub IsWrittenAnew : Form → V → Type 0
  IsWrittenAnew f volume =
      (held : Held) → K.left_since volume (K.moment volume) (Some held) → held.version ≡ f.version

  -- all that a crash may leave now is sound, and of the version that is written
  pub record IsAlwaysSound (f : Form) (volume : V) : Type 0 where
    pub sound : (o : Option Held) → K.left_since volume (K.moment volume) o → IsLeftSound o
    pub written : IsWrittenAnew f volume

  -- a crash leaves nothing that it might not have left before, and nothing of the past is forgotten
  pub record LeavesAsBefore (old new : V) : Type 0 where
    pub crash : LeavesOnly K.moment K.left_since old new
        (λ o. K.left_since old (K.moment old) o)
    pub past : (t : ℕ) (o : Option Held) → t ≤ K.moment old
        → K.left_since old t o → K.left_since new t o

  -- a volume was opened again: it holds what a crash might have left, or is lost, since a call of the board failed. Nothing was taken
  -- over, and no block was written
  pub record OpensAgain (result : Result Reopened OpenAnswer) (old new : V) : Type 0 where
    pub opened : IfOk result (λ told. K.left_since old (K.moment old) (Some (K.held new)))
    pub kept : IfOk result (λ told. told.rewritten ≡ false)
    pub writes : (K.condition new).writes ≡ (K.condition old).writes
    pub failed : IfErr result (λ why. why ≡ answers.Failed)
    -- one that is opened is honest, and what was honest stays so
    pub fresh : IfOk result (λ told. K.honest new)
    pub honest : K.honest old → K.honest new
    -- what isn't opened again keeps what it kept
    pub same : K.honest old → OnErr result (K.held new ≡ K.held old)
    pub leaves : LeavesAsBefore old new

  -- the same after a loss of power, which chose one of all that a crash might have left: the order itself left that alone, and so do
  -- the calls behind it
  pub record OpensAfterPower (f : Form) (before after : View) (result : Result Reopened OpenAnswer) (old new : V) : Type 0 where
    pub again : OpensAgain result old new
    pub chosen : Held
    pub among : K.left_since old (K.moment old) (Some chosen)
    pub ordered : LeftByOrder f before after chosen
    pub opened : IfOk result (λ told. K.held new ≡ chosen)
    pub rests : RestsAt K new chosen

  -- an order that leaves the volume as it is
  pub record IsOrdered (old new : V) : Type 0 where
    pub honest : K.honest new
    pub same : K.held new ≡ K.held old
    pub leaves : LeavesAsBefore old new

  -- a volume is in use again where the call went well, with the sequence that was told, or one more where it was taken over; and lost
  -- otherwise
  pub record IsBack (result : Result Reopened OpenAnswer) (new : V) : Type 0 where
    pub works : IfOk result (λ told. (K.condition new).lost ≡ false)
    pub lost : OnErr result ((K.condition new).lost ≡ true)
    pub sequence : IfOk result (λ told. (K.held new).sequence ≡ sequence_after told)
