-- Room for the bytes of an ask, which is taken before the machine runs.
use Rattle.std.specs.Prelude.{◌≡◌, ℕ, ◌≤◌, List, [], vec_capacity, vec_len}
use Rattle.std.specs.Global.{Vec}
use Rattle.c_app.specs.declared.room.Room.{Room}

-- an empty vector with room for so many bytes
pub record IsFree (capacity : ℕ) (v : Vec ℕ) : Type 0 where
  pub empty : v.items ≡ []
  pub none : vec_len v ≡ 0
  pub room : capacity ≤ vec_capacity v

-- six of them
pub record IsRoom (capacity : ℕ) (room : Room) : Type 0 where
  pub first : IsFree capacity room.first
  pub second : IsFree capacity room.second
  pub p0 : IsFree capacity room.p0
  pub p1 : IsFree capacity room.p1
  pub p2 : IsFree capacity room.p2
  pub p3 : IsFree capacity room.p3
