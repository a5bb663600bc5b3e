-- What is made of the header that was found, and what that leaves.
use Rattle.std.specs.Prelude.{◌≡◌, ◌≢◌, ◌⊎◌, ◌<◌, None, Some, Option, Err, Result, IfErr, IfOk}
use Rattle.tee_base.specs.Faults.{Rose}
use Rattle.board.specs.Moment.{View}
use Rattle.board.specs.Steps.{CallRun, SameBlocks}
use Rattle.epoch.specs.Alone.{LeavesAlone}
use Rattle.epoch.specs.Finding.{IsSettledAt, sequence_of}
use Rattle.epoch.specs.Mounts.{IsKeptFromOpening, refusal_of}
use Rattle.epoch.specs.Opening.{no_failure}
use Rattle.epoch.specs.Past.{KeepsPast}
use Rattle.epoch.specs.declared.answer.OpenAnswer.{OpenAnswer}
use Rattle.epoch.specs.declared.answer.OpenAnswer.TheVariants as answers
use Rattle.epoch.specs.declared.header.Header.{Header}
use Rattle.v1_volume.specs.Versions.{volume_form}
use Rattle.tree_paths.specs.declared.places.TheConstants.{FIRST_BLOCK}
use Rattle.tree_volume.specs.declared.volume.Opened.{Opened}

-- whatever the board: a call failed only where that is answered, and what isn't taken up for another cause is as it was
pub record Takes (found : Option Header) (result : Result Opened OpenAnswer) (old new : View) : Type 0 where
  pub calls : CallRun (no_failure result) old new
  pub cause : result ≡ Err answers.Failed → Rose old.state.faults new.state.faults
  pub unwritten : IfErr result (λ why. why ≢ answers.Failed → new.writes ≡ old.writes)

-- over what a board tells: what the form refuses of the image is what isn't taken up, unless a call failed or there was no memory;
-- such a refusal leaves what reads give
pub record TakesByForm (found : Option Header) (result : Result Opened OpenAnswer) (old new : View) : Type 0 where
  pub refused : IfErr result (λ why. IsKeptFromOpening why
      ⊎ ((refusal_of volume_form old.key old.state.reads found ≡ Some why) × (new.state.reads ≡ old.state.reads)))
  pub taken : IfOk result (λ o. refusal_of volume_form old.key old.state.reads found ≡ None)

-- an honest board: nothing of the past is forgotten, the blocks of the first version stay, and what isn't taken up leaves all blocks
-- where no call failed; the counter is then the sequence, and a refusal of the image leaves it
pub record TakesHonestly (found : Option Header) (result : Result Opened OpenAnswer) (old new : View) : Type 0 where
  pub past : KeepsPast old new
  pub alone : LeavesAlone (λ k. (3 < k) × (k < FIRST_BLOCK)) old new
  pub unchanged : IfErr result (λ why. why ≢ answers.Failed → SameBlocks old.state new.state)
  pub counter : IsSettledAt (sequence_of found) old.state → IfOk result (λ o. IsSettledAt o.sequence new.state)
  pub still : IsSettledAt (sequence_of found) old.state
      → IfErr result (λ why. IsKeptFromOpening why ⊎ IsSettledAt (sequence_of found) new.state)
