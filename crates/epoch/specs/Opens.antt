-- What the opening of a volume takes up, and what it leaves, whatever the volume keeps beside its root.
use Rattle.std.specs.Prelude.{◌≡◌, ◌⊎◌, Some, Result, IfErr, IfOk}
use Rattle.tee_base.specs.Crash.{LeavesOnly}
use Rattle.store_api.specs.Volumes.{Held}
use Rattle.board.specs.Moment.{View, left_since, moment}
use Rattle.epoch.specs.Forms.{Form, held_of}
use Rattle.epoch.specs.Mounts.{IsKeptFromOpening}
use Rattle.epoch.specs.declared.answer.OpenAnswer.{OpenAnswer}

module _ (f : Form) {A : Type 0} (IsOpenAs : A → View → Type 0) (holding : A → View → Held) where
  -- a board that held this is open with that, or a call failed, or there was no memory; a crash leaves one of the two
  pub record Opens (held after : Held) (result : Result A OpenAnswer) (old new : View) : Type 0 where
    pub opened : IfOk result (λ o. IsOpenAs o new × (holding o new ≡ after))
    pub failed : IfErr result (λ why. IsKeptFromOpening why)
    pub leaves : LeavesOnly moment left_since old new
        (λ c. (held_of f old.key c ≡ Some held) ⊎ (held_of f old.key c ≡ Some after))
