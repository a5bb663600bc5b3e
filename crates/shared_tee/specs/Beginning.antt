-- What a runtime takes before its volume is opened.
use Rattle.std.specs.Prelude.{ℕ, ◌≡◌, ◌≤◌, ◌*◌, List, [], length, vec_capacity}
use Rattle.app_api.specs.declared.host.Host.{Host}
use Rattle.shared_tee.specs.Making.{AreFresh}
use Rattle.shared_tee.specs.declared.beginning.Room.{Room}

module _ {V A : Type 0} where
  -- the hosts' applications, and room for a cell, eight passes and a log of each of them
  pub record IsRoomFor (hosts : List (Host A)) (seed : List ℕ) (room : Room V A) : Type 0 where
    pub sides : AreFresh seed 0 hosts room.sides.items
    pub begun : (room.begun.items ≡ []) × (length hosts ≤ vec_capacity room.begun)
    pub cells : (room.cells.items ≡ []) × (length hosts ≤ vec_capacity room.cells)
    pub passes : (room.passes.items ≡ []) × (8 * length hosts ≤ vec_capacity room.passes)
    pub logs : (room.logs.items ≡ []) × (length hosts ≤ vec_capacity room.logs)
