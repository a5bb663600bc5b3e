-- What contracts see of a volume whose entries stand in a tree: what it holds, its damage, and when it is open on a sound
-- board.
use Rattle.std.specs.Prelude.{ℕ, List, Option, None, Result, Ok, Err, if◌then◌else◌, ◌≡◌, Some}
use Rattle.tee_base.specs.Crash.{LeavesOnly, read_as}
use Rattle.store_api.specs.declared.answer.Mismatch.{Mismatch}
use Rattle.store_api.specs.declared.leaves.Leaf.{Leaf}
use Rattle.store_api.specs.declared.leaves.LeafAnswer.{LeafAnswer}
use Rattle.store_api.specs.declared.leaves.LeafAnswer.TheVariants as answers
use Rattle.store_api.specs.Volumes.{Commits, Held, IsUndamaged, LeftByCommit, after_commit}
use Rattle.board.specs.Moment.{View, moment, left_since}
use Rattle.epoch.specs.Commits.{IsSteady}
use Rattle.epoch.specs.Forms.{held_of, is_leaf, leaves_of}
use Rattle.epoch.specs.Keeping.{IsInUse, held_now as held_under}
use Rattle.epoch.specs.declared.header.TreeEntry.{TreeEntry}
use Rattle.tree_paths.specs.declared.places.TheConstants.{REGION_LEAVES, TREE_VERSION}
use Rattle.tree_volume.specs.declared.volume.Opened.{Opened}
use Rattle.tree_paths.specs.Form.{form_root}
use Rattle.v1_volume.specs.Versions.{volume_form}
use Rattle.tree_paths.specs.Shape.{shape}
use Rattle.tree_paths.specs.Tree.{damage_of, on_image}
use Rattle.tee_base.specs.Words.{Sequence}

-- the damage of a leaf, by region and leaf number
unfoldable pub damage_now : View → TreeEntry → ℕ → ℕ → Option Mismatch
damage_now view root region leaf =
    if is_leaf REGION_LEAVES region leaf
    then damage_of shape (on_image shape view.key view.state.reads) root
    (shape.leaf_place region leaf)
    else None

-- a leaf as the way to it decrypts it, by region and leaf number
abbrev pub text_now : View → TreeEntry → ℕ → ℕ → List ℕ
text_now view root = leaves_of volume_form view.key view.state.reads (form_root root)

-- what is held under a root, with the sequence
abbrev pub held_now : View → TreeEntry → Sequence → Held
held_now view root sequence = held_under volume_form view (form_root root) sequence

-- the board is at rest with a sound image that holds this under the root
abbrev pub IsOpen : View → TreeEntry → Sequence → Type 0
IsOpen view root sequence = IsInUse volume_form view (form_root root) sequence

-- each sound thing that a crash may leave now is of the version that is written
abbrev pub IsAnew : View → Type 0
IsAnew view = (held : Held) → read_as (held_of volume_form view.key) (left_since view) (moment view) (Some held)
    → held.version ≡ TREE_VERSION

-- what a commit answers of what it leaves: the sequence
abbrev pub sequence_answer : Result Opened LeafAnswer → Result ℕ LeafAnswer
sequence_answer (Ok opened) = Ok opened.sequence
sequence_answer (Err answer) = Err answer

-- what is held after a commit, under its root, or else under the root before
abbrev pub held_after : Result Opened LeafAnswer → Opened → View → Held
held_after (Ok opened) before view = held_now view opened.root opened.sequence
held_after (Err answer) before view = held_now view before.root before.sequence

-- the root in use after it
abbrev pub root_after : Result Opened LeafAnswer → Opened → TreeEntry
root_after (Ok opened) before = opened.root
root_after (Err answer) before = before.root

-- a commit leaves the volume open, but where it failed
abbrev pub StaysOpen : Result Opened LeafAnswer → Opened → View → Type 0
StaysOpen (Ok opened) before view = IsOpen view opened.root opened.sequence
StaysOpen (Err answers.Failed) before view = Unit {0}
StaysOpen (Err answer) before view = IsOpen view before.root before.sequence

-- a commit of these leaves over what was open
pub record Replaces (region : ℕ) (named : List Leaf) (result : Result Opened LeafAnswer)
    (before : Opened) (old new : View) : Type 0 where
  pub undamaged : IsUndamaged result
  pub stays : StaysOpen result before new
  pub steady : IsSteady volume_form new.key (form_root (root_after result before)) new.state
  pub commits : Commits (sequence_answer result) region named
      (held_now old before.root before.sequence) (held_after result before new)
  pub crash : LeavesOnly moment left_since old new (λ c. LeftByCommit (sequence_answer result)
      (held_now old before.root before.sequence)
      (after_commit region named (held_now old before.root before.sequence))
      (held_of volume_form old.key c))
