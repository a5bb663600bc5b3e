-- What a crash may leave of a board on which values stand for a world: its stores.
use Rattle.std.proofs.Common.{ℕ, List, Option, None, Some, inl, inr}
use Rattle.app_side.specs.declared.side.AppSide.{AppSide}
use Rattle.board.specs.Moment.{View}
use Rattle.epoch.specs.Forms.{Form, held_of}
use Rattle.epoch.specs.Mounts.{IsSeenOn}
use Rattle.store_api.specs.Volumes.{Held, VolumeKeeper}
use Rattle.region_plan.specs.declared.directory.Directory.{Directory}
use Rattle.tee_core.specs.Represents.{HasStoresOf, IsLeftOf, StandWith}
use Rattle.tee_core.specs.World.{World}
use Rattle.run_board.specs.Boards.{LeavesStores}

-- whatever the sequence
left_stores : {A : Type 0} (world : World A) (sequence : ℕ) (o : Option Held) → IsLeftOf world sequence o → HasStoresOf world o
left_stores world sequence None h = h
left_stores world sequence (Some held) (inl h) = inl h.1
left_stores world sequence (Some held) (inr h) = inr (h.0, h.1, h.3)

pub stands_leaves : {A V : Type 0} {kept : List (Option Directory)} (K : VolumeKeeper V) (form : Form) (sides : List (AppSide A)) (volume : V) (view : View) (world : World A)
    → IsSeenOn K form volume view → StandWith K sides kept volume world → LeavesStores form view world
stands_leaves K form sides volume view world seen stands = λ c left.
    left_stores world (K.held volume).sequence (held_of form view.key c) (stands.stand.left (held_of form view.key c) (seen.left_back (K.moment volume) c (inl left)))
