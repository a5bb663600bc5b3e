-- The board on which the volume stands: its counts, and what a crash may leave of it.
use Rattle.app_api.specs.Behaviours.{Behaviour}
use Rattle.std.proofs.Common.{◌≡◌, ◌↔◌, ◌+◌, ℕ, zero, suc, Bool, List, [], ◌∷◌, Option, Some, None, Ok, is_some, map, refl, sym, subst, ◌∙◌, ap, inl, inr, arith}
use Rattle.std.specs.Prelude.{slice_get}
use Rattle.tee_base.specs.Faults.{Rose}
use Rattle.board.specs.Moment.{View}
use Rattle.epoch.specs.Forms.{Form, held_of}
use Rattle.epoch.specs.Mounts.{IsSeenOn}
use Rattle.store_api.specs.Foundations.{Foundation}
use Rattle.store_api.specs.Stores.{Store}
use Rattle.store_api.specs.Volumes.{Held, VolumeKeeper}
use Rattle.alone.specs.Logs.{KeptLog}
use Rattle.alone.specs.Machine.{Machine}
use Rattle.alone.specs.Step.{store_found}
use Rattle.tee_core.specs.Moments.{LeavesStoresAt}
use Rattle.tee_core.specs.Represents.{HasDoubt, HasStoresOf, IsLeftOf, StoresFrom, kept_of, none_kept}
use Rattle.tee_core.specs.World.{World}
use Rattle.shared_parts.specs.InStep.{StoragePart, part_of}
use Rattle.shared_parts.specs.StorageParts.{IsMarked, Opened}
use Rattle.shared_tee.specs.Ending.{Ends, EndsOn, machines_ended}
use Rattle.shared_tee.specs.Passes.{PassView}

-- ---- machines with the same parts

module _ {A : Type 0} where
  abbrev pub parts_in : World A → List StoragePart
  parts_in world = map (λ (m : Machine A). part_of m) world

  stores_alike : (kept : ℕ → Bool) (region : ℕ) (world others : World A) (held : Held) → parts_in world ≡ parts_in others → StoresFrom kept region world held → StoresFrom kept region others held
  stores_alike kept region [] [] held same h = tt
  stores_alike kept region [] (n ∷ others) held same h = absurd (cc (same))
  stores_alike kept region (m ∷ world) [] held same h = absurd (cc (same))
  stores_alike kept region (m ∷ world) (n ∷ others) held same h =
      let part : part_of m ≡ part_of n = cc (same) in
      let rest : parts_in world ≡ parts_in others = cc (same) in
      let store : m.store ≡ n.store = ap (λ (p : StoragePart). p.store) part in
      let doubt : m.in_doubt ≡ n.in_doubt = ap (λ (p : StoragePart). p.in_doubt) part in (
        h.0 ∙ ap (λ (s : Store). Ok (store_found (kept region) s m.in_doubt)) store ∙ ap (λ (d : Option Store). Ok (store_found (kept region) n.store d)) doubt,
        stores_alike kept (region + 1) world others held rest h.1,
      )

  doubt_there : (owner : ℕ) (world others : World A) (m : Machine A) → parts_in world ≡ parts_in others → slice_get world owner ≡ Some m
      → (n : Machine A) × (slice_get others owner ≡ Some n) × (m.in_doubt ≡ n.in_doubt)
  doubt_there owner [] others m same there = absurd (let e : None ≡ Some m = there in cc (e))
  doubt_there owner (x ∷ world) [] m same there = absurd (cc (same))
  doubt_there zero (x ∷ world) (n ∷ others) m same there =
      let part : part_of x ≡ part_of n = cc (same) in
      let is : x ≡ m = let e : Some x ≡ Some m = there in cc (e) in
      (n, refl, ap (λ (y : Machine A). y.in_doubt) (sym is) ∙ ap (λ (p : StoragePart). p.in_doubt) part)
  doubt_there (suc owner) (x ∷ world) (n ∷ others) m same there = doubt_there owner world others m (let rest : parts_in world ≡ parts_in others = cc (same) in rest) there

  doubt_alike : (owner : ℕ) (world others : World A) → parts_in world ≡ parts_in others → HasDoubt owner world → HasDoubt owner others
  doubt_alike owner world others same has =
      let t = doubt_there owner world others has.machine same has.there in
      record { machine = t.0; there = t.1; doubt = ap (λ (d : Option Store). is_some d) (sym t.2) ∙ has.doubt }

  -- what a crash left has the stores of machines with the same parts
  pub left_alike : (world others : World A) (sequence : ℕ) (o : Option Held) → parts_in world ≡ parts_in others → IsLeftOf world sequence o → HasStoresOf others o
  left_alike world others sequence None same h = h
  left_alike world others sequence (Some held) same (inl h) = inl (stores_alike none_kept 0 world others held same h.1)
  left_alike world others sequence (Some held) same (inr h) = inr (h.0, doubt_alike h.0 world others same h.1, stores_alike (kept_of h.0) 0 world others held same h.3)

-- ---- the board

-- what a volume on a board stands on
abbrev stands_on : View → Foundation
stands_on view = record { place = view.size ∷ view.key; orders = view.state.orders; ordered = view.ordered }

module _ {B V A : Type 0} (K : VolumeKeeper V) (behaviour : Behaviour A) (form : Form) (Honest : B → Type 0) (view : B → View) (board_of : V → B)
    (seen : (v : V) → IsSeenOn K form v (view (board_of v))) (under : (v : V) → K.honest_below v ↔ Honest (board_of v))
    (apps : ℕ) (passes : List (PassView V A)) (logs : List KeptLog) (volume : V) (over : Ends K behaviour apps passes logs volume) where
  foundation_is : stands_on (view (board_of volume)) ≡ stands_on (view (board_of over.began))
  foundation_is = sym (seen volume).foundation ∙ over.since.foundation ∙ (seen over.began).foundation

  left_then : IsMarked K (Opened apps over.began) → LeavesStoresAt form (view (board_of volume)).key (view (board_of volume)).state (machines_ended behaviour over.ends)
  left_then marked = λ c left.
      let stored = over.stored marked in
      left_alike stored.world (machines_ended behaviour over.ends) (K.held volume).sequence (held_of form (view (board_of volume)).key c) stored.are
      (stored.stands.left (held_of form (view (board_of volume)).key c) ((seen volume).left_back (K.moment volume) c (inl left)))

  board_ended : EndsOn K behaviour form Honest view board_of apps passes logs (board_of volume)
  board_ended = record {
    volume = volume;
    board_is = refl;
    over = over;
    honest = λ honest. (under volume).0 (over.below ((under over.began).1 honest));
    faults =
        let first = (seen over.began).faults in
        let last = (seen volume).faults in
        let since = over.since.faults in
        omega (arith, first, last, since);
    rose = λ app h there tells.
        subst (λ (n : ℕ). Rose (view (board_of over.began)).state.faults n) (seen volume).faults
        (subst (λ (n : ℕ). Rose n (K.condition volume).faults) (seen over.began).faults (over.rose app h there tells));
    size = cc (ap (λ (f : Foundation). f.place) foundation_is);
    key = cc (ap (λ (f : Foundation). f.place) foundation_is);
    orders = ap (λ (f : Foundation). f.orders) foundation_is;
    ordered = ap (λ (f : Foundation). f.ordered) foundation_is;
    left = left_then;
  }

  pub ends_on : (board : B) → board ≡ board_of volume → EndsOn K behaviour form Honest view board_of apps passes logs board
  ends_on board is = subst (λ (b : B). EndsOn K behaviour form Honest view board_of apps passes logs b) (sym is) board_ended
