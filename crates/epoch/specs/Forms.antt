-- What the leaves of a volume are, over a form that says how they lie on a board: what an image holds, and when it is
-- sound.
use Rattle.std.specs.Prelude.{◌≡◌, ◌≤◌, ◌<◌, ℕ, zero, suc, ◌%◌, ◌==◌, ◌&&◌, nat_lt, is_none, if◌then◌else◌, Bool, true, false, List, [], Option, None, Some, Result, Ok, Err, replicate}
use Rattle.tee_base.specs.declared.limits.TheConstants.{BLOCK_BYTES, MAX_HOSTS}
use Rattle.store_api.specs.declared.answer.Mismatch.{Mismatch}
use Rattle.store_api.specs.Volumes.{Held}
use Rattle.board.specs.Moment.{CrashImage}
use Rattle.epoch.specs.Opening.{opening_of}
use Rattle.epoch.specs.declared.answer.OpenAnswer.{OpenAnswer}
use Rattle.epoch.specs.declared.header.Header.{Header}
use Rattle.epoch.specs.declared.header.TreeEntry.{TreeEntry}
use Rattle.epoch.specs.declared.rule.Found.{Found}
use Rattle.tee_base.specs.Words.{Counter, Image, Key}

-- what the leaves of a volume hang on: the version of the header that counts, and its entry
pub record Root : Type 0 where
  pub version : ℕ
  pub entry : TreeEntry

-- the root of a header
abbrev pub root_of : Header → Root
root_of header = record { version = header.version; entry = header.root }

-- how the leaves of a volume lie on a board: each function is of the board's key, an image and the root
pub record Form : Type 0 where
  -- the version of a header that is written, and which versions are accepted
  pub version : ℕ
  pub known : ℕ → Bool
  -- how many leaves a region has, and how many blocks the volume
  pub leaves : ℕ
  pub blocks : ℕ
  -- the first two tags that differ on the way from the root to a leaf, by region and leaf number
  pub damage : List ℕ → (ℕ → List ℕ) → Root → ℕ → ℕ → Option Mismatch
  -- the bytes of a leaf, by region and leaf number
  pub leaf : List ℕ → (ℕ → List ℕ) → Root → ℕ → ℕ → List ℕ
  -- what is asked of an image besides, to be sound
  pub sound : List ℕ → (ℕ → List ℕ) → Root → Bool
  -- the blocks on the ways to all leaves
  pub uses : List ℕ → (ℕ → List ℕ) → Root → ℕ → Bool
  -- why an image is refused although its header counts
  pub refuses : List ℕ → (ℕ → List ℕ) → Root → Option OpenAnswer

-- the root of a header that is written with this entry
abbrev pub root_written : Form → TreeEntry → Root
root_written f entry = record { version = f.version; entry = entry }

-- a board on which no header counts has a root that stands for zeros: of the version that is written, and of sequence 0
pub record IsBlankRoot (f : Form) (root : Root) : Type 0 where
  pub version : root.version ≡ f.version
  pub sequence : root.entry.sequence ≡ 0

-- a test holds of every number below this
unfoldable pub all_below : ℕ → (ℕ → Bool) → Bool
all_below zero test = true
all_below (suc n) test = all_below n test && test n

-- there is a leaf of this number in a region of this number, where a region has so many
abbrev pub is_leaf : ℕ → ℕ → ℕ → Bool
is_leaf leaves region leaf = nat_lt region MAX_HOSTS && nat_lt leaf leaves

-- no two tags on the way to any leaf differ, and the image is sound besides: the root seals its leaves
unfoldable pub is_sealed : Form → Key → Image → Root → Bool
is_sealed f key image root =
    all_below MAX_HOSTS (λ region.
    all_below f.leaves (λ leaf. is_none (f.damage key image root region leaf)))
    && f.sound key image root

-- the leaves under a root; there is nothing where there is no leaf
unfoldable pub leaves_of : Form → Key → Image → Root → ℕ → ℕ → List ℕ
leaves_of f key image root region leaf =
    if is_leaf f.leaves region leaf then f.leaf key image root region leaf else []

-- the leaves of a blank board, where a region has so many: zeros
unfoldable pub blank_leaves : ℕ → ℕ → ℕ → List ℕ
blank_leaves leaves region leaf = if is_leaf leaves region leaf then replicate BLOCK_BYTES 0 else []

-- what an image holds that opens so; nothing where it isn't sound: a header stands in the slot of its sequence, and its
-- root seals the leaves
abbrev pub held_by : Form → Key → Image → Result (Option Found) OpenAnswer → Option Held
held_by f key image (Ok None) = Some (record { leaves = blank_leaves f.leaves; sequence = 0; version = f.version })
held_by f key image (Ok (Some found)) =
    if (found.slot == found.header.sequence % 2) && is_sealed f key image (root_of found.header)
    then Some (record {
      leaves = leaves_of f key image (root_of found.header);
      sequence = found.header.sequence;
      version = found.header.version;
    })
    else None
held_by f key image (Err answer) = None

-- what an image holds beside a counter, under a board's key
unfoldable pub held_in : Form → Key → Image → Counter → Option Held
held_in f key image counter = held_by f key image (opening_of f.known key image counter)

-- what a crash left
abbrev pub held_of : Form → Key → CrashImage → Option Held
held_of f key c = held_in f key c.image c.counter

-- all blocks on the ways to the leaves of a root are those of the base
abbrev pub SameUsed : Form → Key → Root → Image → Image → Type 0
SameUsed f key root base image = (k : ℕ) → f.uses key base root k ≡ true → image k ≡ base k

-- what each form keeps to
pub record IsFramed (f : Form) : Type 0 where
  -- the leaves and their damage rest on the blocks that the root uses, and on nothing else
  pub same_damage : (key : Key) (root : Root) (base image : Image) (region leaf : ℕ)
      → SameUsed f key root base image → region < MAX_HOSTS → leaf < f.leaves
      → f.damage key image root region leaf ≡ f.damage key base root region leaf
  pub same_leaf : (key : Key) (root : Root) (base image : Image) (region leaf : ℕ)
      → SameUsed f key root base image → region < MAX_HOSTS → leaf < f.leaves
      → f.leaf key image root region leaf ≡ f.leaf key base root region leaf
  pub same_sound : (key : Key) (root : Root) (base image : Image)
      → SameUsed f key root base image → f.sound key image root ≡ f.sound key base root
  -- these lie behind the slots
  pub behind : (key : Key) (root : Root) (image : Image) (k : ℕ) → k < 4
      → f.uses key image root k ≡ false
  -- both slots are among the blocks, and what is written is accepted
  pub slots : 4 ≤ f.blocks
  pub accepted : f.known f.version ≡ true
  -- the root of a blank board stands for zeros
  pub no_damage : (key : Key) (root : Root) (image : Image) (region leaf : ℕ)
      → IsBlankRoot f root → region < MAX_HOSTS → leaf < f.leaves
      → f.damage key image root region leaf ≡ None
  pub zeros : (key : Key) (root : Root) (image : Image) (region leaf : ℕ)
      → IsBlankRoot f root → region < MAX_HOSTS → leaf < f.leaves
      → f.leaf key image root region leaf ≡ replicate BLOCK_BYTES 0
  pub blank_sound : (key : Key) (root : Root) (image : Image)
      → IsBlankRoot f root → f.sound key image root ≡ true
  -- no image is refused whose leaves the root seals
  pub no_refusal : (key : Key) (root : Root) (image : Image)
      → is_sealed f key image root ≡ true → f.refuses key image root ≡ None
