-- What the opening of a tree leaves.
use Rattle.std.specs.Prelude.{◌≡◌, List, [], ◌∷◌, replicate, Result}
use Rattle.tee_base.specs.declared.limits.TheConstants.{BLOCK_BYTES}
use Rattle.store_api.specs.Volumes.{Held}
use Rattle.board.specs.Moment.{View}
use Rattle.epoch.specs.Opens.{Opens as OpensAs}
use Rattle.epoch.specs.declared.answer.OpenAnswer.{OpenAnswer}
use Rattle.epoch.specs.declared.taking.TheConstants.{NO_ROOT}
use Rattle.v1_volume.specs.Versions.{volume_form}
use Rattle.tree_volume.specs.Keeping.{IsOpen, held_now}
use Rattle.tree_commits.specs.declared.touched.Node.{Node}
use Rattle.tree_volume.specs.declared.volume.Opened.{Opened}

-- the node of the root of a blank board: zeros
abbrev pub IsBlankNode : List Node → Type 0
IsBlankNode nodes =
    nodes ≡ record { place = 0; copy = NO_ROOT.copy; bytes = replicate BLOCK_BYTES 0 } ∷ []

-- what was opened is open on a board
abbrev pub IsOpenAs : Opened → View → Type 0
IsOpenAs o view = IsOpen view o.root o.sequence

-- and what is held then
abbrev pub held_after : Opened → View → Held
held_after o view = held_now view o.root o.sequence

-- a board that held this is open with that, or a call failed, or there was no memory; a crash leaves one of the two
abbrev pub Opens : Held → Held → Result Opened OpenAnswer → View → View → Type 0
Opens = OpensAs volume_form IsOpenAs held_after
