-- What a volume that is open holds, over the form of its leaves, and what a commit at the last sequence leaves.
use Rattle.std.specs.Prelude.{◌≡◌, ◌-◌, ◌^◌, Some}
use Rattle.tee_base.specs.Crash.{LeavesOnly}
use Rattle.store_api.specs.declared.leaves.LeafAnswer.{LeafAnswer}
use Rattle.store_api.specs.declared.leaves.LeafAnswer.TheVariants as answers
use Rattle.store_api.specs.Volumes.{Held}
use Rattle.board.specs.Moment.{View, left_since, moment}
use Rattle.epoch.specs.Commits.{IsMounted, IsSteady}
use Rattle.epoch.specs.Forms.{Form, Root, held_of, leaves_of}
use Rattle.tee_base.specs.Words.{Sequence}

-- what is held under a root, with the sequence
abbrev pub held_now : Form → View → Root → Sequence → Held
held_now f view root sequence = record {
  leaves = leaves_of f view.key view.state.reads root;
  sequence = sequence;
  version = root.version;
}

-- the board is at rest with a sound image that holds this under the root
abbrev pub IsInUse : Form → View → Root → Sequence → Type 0
IsInUse f view root sequence =
    IsMounted f view.key root (held_now f view root sequence) view.state

-- a commit at the last sequence: it fails, and a crash leaves what was held
pub record Exhausts (f : Form) (root : Root) (answer : LeafAnswer) (old new : View) : Type 0 where
  pub failed : answer ≡ answers.Failed
  pub held : held_now f new root (2 ^ 64 - 1) ≡ held_now f old root (2 ^ 64 - 1)
  pub steady : IsSteady f new.key root new.state
  pub crash : LeavesOnly moment left_since old new
      (λ c. held_of f old.key c ≡ Some (held_now f old root (2 ^ 64 - 1)))
