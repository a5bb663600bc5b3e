-- Laws of the rule by which a board is opened.
use Rattle.std.specs.Prelude.{◌≡◌, ◌<◌, ◌≤◌, ℕ, ◌+◌, Bool, Some, Ok, Err}
use Rattle.store_api.specs.Volumes.{Held}
use Rattle.board.specs.Moment.{View}
use Rattle.epoch.specs.Forms.{Form}
use Rattle.epoch.specs.Mounts.{IsOpenedTo}
use Rattle.epoch.specs.Opening.{opening_of}
use Rattle.epoch.specs.declared.answer.OpenAnswer.TheVariants.{Rollback}
use Rattle.epoch.specs.declared.rule.Found.{Found}
use Rattle.tee_base.specs.Words.{Image, Key}

-- an image that opens at some counter is refused as a rollback at every counter above its sequence
abbrev pub RefusesRollback : Type 0
RefusesRollback =
    (knows : ℕ → Bool) (key : Key) (image : Image) (n c : ℕ) (found : Found)
    → opening_of knows key image n ≡ Ok (Some found) → found.header.sequence < c
    → opening_of knows key image c ≡ Err (Rollback found.header.sequence c)

-- an image opens at the two counters up to its sequence, and at no other
abbrev pub OpensAtTwo : Type 0
OpensAtTwo =
    (knows : ℕ → Bool) (key : Key) (image : Image) (n : ℕ) (found : Found)
    → opening_of knows key image n ≡ Ok (Some found)
    → (n ≤ found.header.sequence) × (found.header.sequence ≤ n + 1)
    × ((m : ℕ) → m ≤ found.header.sequence → found.header.sequence ≤ m + 1
    → opening_of knows key image m ≡ Ok (Some found))

-- whatever an opening makes of what is held, each region has the same leaves, and so stands for the same store
abbrev pub OpeningKeepsLeaves : Type 0
OpeningKeepsLeaves =
    (f : Form) (view : View) (before after : Held) → IsOpenedTo f view before after
    → (region : ℕ) → after.leaves region ≡ before.leaves region
