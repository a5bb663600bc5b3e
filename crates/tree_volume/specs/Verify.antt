-- What a verification of a volume leaves.
use Rattle.std.specs.Prelude.{◌≡◌, ◌||◌, ℕ, false, Some, Result, IsTrue}
use Rattle.tee_base.specs.Crash.{LeavesOnly}
use Rattle.board.specs.declared.Board.{Ghosts}
use Rattle.tree_paths.specs.WalkAnswers.{has_failed}
use Rattle.tree_paths.specs.declared.walk.VerifyAnswer.{VerifyAnswer}
use Rattle.tree_volume.specs.Keepers.{tree_keeper}
use Rattle.tree_volume.specs.declared.volume.TreeVolume.{TreeVolume}

-- a volume that was verified: it is lost where a call of its board failed, and else it is as it was
pub record LeavesVolume {B : Type 0} {G : Ghosts B} (result : Result ℕ VerifyAnswer) (old new : TreeVolume B G) : Type 0 where
  pub lost : new.lost ≡ (old.lost || has_failed result)
  pub root : new.root ≡ old.root
  pub sequence : new.sequence ≡ old.sequence
  pub nodes : new.nodes ≡ old.nodes
  pub writes : (G.view new.board).writes ≡ (G.view old.board).writes
  pub reads : IsTrue G.tells_reads → (G.view new.board).state.reads ≡ (G.view old.board).state.reads
  pub below : G.honest old.board → G.honest new.board
  pub honest : tree_keeper.honest old → tree_keeper.honest new
  pub held : tree_keeper.honest old → tree_keeper.held new ≡ tree_keeper.held old
  -- a crash leaves what is held
  pub crash : tree_keeper.honest old → old.lost ≡ false
      → LeavesOnly tree_keeper.moment tree_keeper.left_since old new (λ o. o ≡ Some (tree_keeper.held old))
